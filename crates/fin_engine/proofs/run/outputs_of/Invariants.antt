use Rattle.fin_engine.specs.Run.{HoldsOutputs, IsFront}
use Rattle.fin_engine.proofs.run.outputs_of.Given as goal

abbrev pub invariant-loop-k : goal.invariant-loop-k
invariant-loop-k l = HoldsOutputs l.job.checked l.job.inputs l.tensors.items l.k × IsFront l.job.checked l.job.inputs l.k l.outputs
