use Rattle.std.proofs.Common.{◌≡◌, ◌+◌, ◌<◌, ℕ, IsTrue, length}
use Rattle.std.specs.Cmp.Lexicographic.{slice_cmp}
use Rattle.std.specs.Ordering.{nat_cmp}
use Rattle.std.specs.declared.cmp.Ordering.TheVariants.{Less}
use Rattle.fin_tensor.specs.TensorFunction.{is_in_box}
use Rattle.fin_canon.specs.Entries.{coords}
use Rattle.fin_parts_test.proofs.canonical.are_entries.Given as goal

abbrev pub invariant-loop-k : goal.invariant-loop-k
invariant-loop-k l = record {
  inside : (j : ℕ) → j < l.k → IsTrue (is_in_box l.shape (coords l.entries j));
  rise : (j : ℕ) → j < l.k → j + 1 < length l.entries → slice_cmp nat_cmp (coords l.entries j) (coords l.entries (j + 1)) ≡ Less;
}
