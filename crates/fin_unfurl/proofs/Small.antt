-- Numbers below 2^63 as words, and tests on them.
use Rattle.std.proofs.Common.{◌≡◌, ℕ, ◌-◌, ◌<◌, ◌≤◌, ◌^◌, refl, sym, ℤ, pos, negsuc, neg_ℤ, ◌-ℤ◌, ◌≤ℤ◌, true, false, w64, arith}
use Rattle.std.specs.Prelude.{int_lt, int_le}
use Rattle.std.specs.Int.{int_wrap}
use Rattle.std.proofs.lemmas.Int.{int_wrap_fits}
use borrow.Author.Differences.{same_in, sum_is_lem, neg_is, le_out, true_is_lt, false_is_lt, true_is_le, false_is_le}

pub wrap_small : (m : ℕ) → m < 2 ^ 63 → int_wrap w64 (pos m) ≡ pos m
wrap_small m h = int_wrap_fits w64 (pos m) (record { sfits = h })

pub lt_yes : (a b : ℕ) → a < b → int_lt (pos a) (pos b) ≡ true
lt_yes a b h = sym (true_is_lt (pos a) (pos b) (omega arith))

pub lt_no : (a b : ℕ) → b ≤ a → int_lt (pos a) (pos b) ≡ false
lt_no a b h = sym (false_is_lt (pos a) (pos b) (omega arith))

pub le_yes : (a b : ℕ) → a ≤ b → int_le (pos a) (pos b) ≡ true
le_yes a b h = sym (true_is_le (pos a) (pos b) (omega arith))

pub le_no : (a b : ℕ) → b < a → int_le (pos a) (pos b) ≡ false
le_no a b h = sym (false_is_le (pos a) (pos b) (omega arith))

pub sub_is : (a b : ℕ) → b ≤ a → pos a -ℤ pos b ≡ pos (a - b)
sub_is a b h = same_in (pos a -ℤ pos b) (pos (a - b)) (omega (arith, sum_is_lem (pos a) (neg_ℤ (pos b)), neg_is (pos b)))

pub natural : (i : ℤ) → pos 0 ≤ℤ i → (m : ℕ) × (i ≡ pos m)
natural (pos m) h = (m, refl)
natural (negsuc m) h = absurd (omega (arith, le_out (pos 0) (negsuc m) h))
