-- Words of numbers with a sign.
use Rattle.std.proofs.Common.{◌≡◌, ◌<◌, ◌^◌, ◌%◌, ℕ, ℤ, pos, neg_ℤ, ◌-ℤ◌, w64, to_z, ap, ◌∙◌, sym, arith}
use Rattle.std.specs.Int.{int_wrap}
use Rattle.std.proofs.lemmas.Int.{ints, int_wrap-sub_right}

small : (n : ℕ) → n < 2 ^ 64 → n % 2 ^ 64 ≡ n
small n h = omega arith

pub word_of_count : (n : ℕ) → n < 2 ^ 64 → to_z w64 n ≡ int_wrap w64 (pos n)
unfolding int_wrap
word_of_count n h = ap (to_z w64) (sym (small n h))

negation : (z : ℤ) → neg_ℤ z ≡ pos 0 -ℤ z
negation z = omega (arith, ints)

pub word_of_negation : (n : ℕ) → n < 2 ^ 64 → int_wrap w64 (neg_ℤ (to_z w64 n)) ≡ int_wrap w64 (neg_ℤ (pos n))
word_of_negation n h =
    ap (λ (z : ℤ). int_wrap w64 (neg_ℤ z)) (word_of_count n h)
    ∙ ap (int_wrap w64) (negation (int_wrap w64 (pos n)))
    ∙ int_wrap-sub_right w64 (pos 0) (pos n)
    ∙ ap (int_wrap w64) (sym (negation (pos n)))
