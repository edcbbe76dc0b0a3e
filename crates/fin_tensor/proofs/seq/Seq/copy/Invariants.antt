use Rattle.std.proofs.Common.{◌≡◌, take}
use Rattle.fin_tensor.proofs.seq.Seq.copy.Given as goal

abbrev pub invariant-loop-item : goal.invariant-loop-item
invariant-loop-item g l = (l.copies ≡ take l.item-index l.item-items) × (l.item-items ≡ l.self)
