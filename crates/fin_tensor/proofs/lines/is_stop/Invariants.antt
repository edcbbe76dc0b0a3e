use Rattle.std.proofs.Common.{◌≡◌, ◌+◌, ◌-◌, ◌<◌, ◌≤◌, ◌^◌, ℕ}
use Rattle.std.specs.Prelude.{slice_index}
use Rattle.fin_tensor.proofs.lines.is_stop.Given as goal

abbrev pub invariant-loop-s : goal.invariant-loop-s
invariant-loop-s l = (k : ℕ) → k < l.s-index → (0 < slice_index l.stop k) × (slice_index l.stop k ≤ 2 ^ 40)

abbrev pub invariant-loop-p : goal.invariant-loop-p
invariant-loop-p l = record {
  rises : (q k : ℕ) → q < l.p → slice_index l.ptr q ≤ k → k + 1 < slice_index l.ptr (q + 1) → slice_index l.stop k < slice_index l.stop (k + 1);
  last : (q : ℕ) → q < l.p → 0 < l.extent → (slice_index l.ptr q < slice_index l.ptr (q + 1)) × (slice_index l.stop (slice_index l.ptr (q + 1) - 1) ≡ l.extent);
}
