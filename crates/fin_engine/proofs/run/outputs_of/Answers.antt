use Rattle.std.proofs.Common.{arith}
use Rattle.fin_engine.proofs.Taking.{front_ends}
use Rattle.fin_engine.proofs.run.outputs_of.Goals as goal

pub returns : goal.returns
returns c = record { stored = front_ends c.args.job.now.checked c.args.job.now.inputs c.loop-k.k c.loop-k.outputs (omega (arith, c.len-k-end.ensures)) c.loop-k.invariant.1 }
