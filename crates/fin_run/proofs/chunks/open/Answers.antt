use Rattle.std.proofs.Common.{ap, ◌∙◌, List, ℤ}
use Rattle.fin_ir.specs.Declares.{declares}
use Rattle.fin_ir.specs.Meaning.{opened}
use Rattle.fin_run.specs.States.{machine}
use Rattle.fin_run.proofs.Forgetting.{locals_are}
use Rattle.fin_run.proofs.chunks.open.Goals as goal

pub returns-clause-did : goal.returns-clause-did
returns-clause-did c = λ inputs n.
    c.close.ensures.did inputs n ∙ ap (λ (ls : List ℤ). opened (declares c.args.body.now) ls (machine inputs c.args.state.now n))
    (locals_are c.args.from c.args.to c.args.entry.now c.in_ok-locals.locals c.set_local.new.locals c.set_local-2.new.locals c.begin.result c.begin-2.result _ _
    c.in_ok-locals.ensures c.begin.ensures.small c.begin-2.ensures.small c.begin.ensures.begin c.begin-2.ensures.begin c.set_local.ensures c.set_local-2.ensures)
