use Rattle.std.proofs.Common.{◌+◌, ◌<◌, ◌≤◌, ℕ}
use Rattle.std.specs.Prelude.{slice_index}
use Rattle.fin_tensor.proofs.lines.is_idx.Given as goal

abbrev pub invariant-loop-i : goal.invariant-loop-i
invariant-loop-i l = (k : ℕ) → k < l.i-index → slice_index l.idx k < l.extent

abbrev pub invariant-loop-p : goal.invariant-loop-p
invariant-loop-p l = (q k : ℕ) → q < l.p → slice_index l.ptr q ≤ k → k + 1 < slice_index l.ptr (q + 1) → slice_index l.idx k < slice_index l.idx (k + 1)
