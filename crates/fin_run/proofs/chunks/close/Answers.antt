use Rattle.fin_ir.specs.Declares.{declares}
use Rattle.fin_run.proofs.Forgetting.{close_is}
use Rattle.fin_run.proofs.chunks.close.Goals as goal

pub returns-clause-did : goal.returns-clause-did
returns-clause-did c = λ inputs n. close_is inputs c.args.state.now n (declares c.args.body.now) c.args.locals c.forget.new.tensors.items c.forget.ensures
