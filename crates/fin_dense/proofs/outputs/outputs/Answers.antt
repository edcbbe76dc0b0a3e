use Rattle.std.proofs.Common.{arith}
use Rattle.fin_dense.specs.Fitting.{function_in}
use Rattle.fin_dense.specs.Runs.{setting_in}
use Rattle.fin_dense.proofs.Storing.{goes_on, ends}
use Rattle.fin_dense.proofs.outputs.outputs.Goals as goal

pub loop-k-preserved : goal.loop-k-preserved
loop-k-preserved c = goes_on (function_in (setting_in c.args.setting.now) c.args.made.now) c.args.setting.now.checked.now.program.headers c.loop-k.k c.get-header.result.now c.loop-k.tensors c.add_output.new.into c.get-header.ensures c.loop-k.invariant c.in_ok-add_output.ensures.added

pub returns-clause-stored : goal.returns-clause-stored
returns-clause-stored c = ends (function_in (setting_in c.args.setting.now) c.args.made.now) c.args.setting.now.checked.now.program.headers c.loop-k.k c.loop-k.tensors c.loop-k.invariant (omega (arith, c.len-k-end.ensures))
