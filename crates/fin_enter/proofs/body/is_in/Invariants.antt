-- What is left of the list is told as the whole.
use Rattle.std.proofs.Common.{◌≡◌, drop}
use Rattle.fin_simp.specs.Work.{is_in}
use Rattle.fin_enter.proofs.body.is_in.Given as goal

abbrev pub invariant-loop-one : goal.invariant-loop-one
invariant-loop-one l = is_in (drop l.one-index l.tensors) l.tensor ≡ is_in l.tensors l.tensor
