-- A value that is joined so many times is joined once by what it comes to.
use Rattle.std.proofs.Common.{◌≡◌, ℕ, zero, suc, true, refl, sym, ap, ◌∙◌, arith, ℤ, pos, negsuc, ◌+ℤ◌, ◌*ℤ◌, replicate}
use Rattle.std.proofs.lemmas.Int.{ints, clamps, int_wrap-add_left, int_wrap-add_right, int_wrap-mul_left, int_wrap-mul_right}
use Rattle.std.proofs.lemmas.Bool.Decides.{nat_tests}
use Rattle.std.proofs.Math.IntN.{*ℤ_comm}
use Rattle.std.specs.Int.{int_min, int_max, w64}
use Rattle.fin_base.specs.declared.reduce.Reduce.{Reduce}
use Rattle.fin_base.specs.declared.reduce.Reduce.TheVariants.{Add, Mul, Min, Max, And, Or, Xor, Put}
use Rattle.fin_base.specs.Words.{IsWord, wrap, apply, reduced, power, once, repeat}
use Rattle.fin_base.proofs.Integers.{mul_more, mul_none, *ℤ_assoc}
use Rattle.fin_base.proofs.Reductions.{repeats_at_once}
use Rattle.fin_style_point.specs.Changes.{is_bitwise}

-- what one step more comes to, of integers of any size
module _ (by : Reduce) (v : ℤ) (one : (a : ℤ) → apply by a (repeat by v 1) ≡ apply by a v)
    (more : (a : ℤ) (n : ℕ) → apply by (apply by a v) (repeat by v (suc n)) ≡ apply by a (repeat by v (suc (suc n)))) where
  stepwise : (a : ℤ) (n : ℕ) → apply by a (repeat by v (suc n)) ≡ reduced by a (replicate (suc n) v)
  stepwise a zero = one a
  stepwise a (suc n) = sym (more a n) ∙ stepwise (apply by a v) n

once_some : (n : ℕ) (v e : ℤ) → once (suc n) v e ≡ v
once_some n v e = grind (arith, nat_tests)

one_add : (v a : ℤ) → apply Add a (repeat Add v 1) ≡ apply Add a v
one_add v a = int_wrap-add_right w64 a (v *ℤ pos 1) ∙ ap wrap (omega (arith, ints, mul_more v 0, mul_none v))

more_add : (v a : ℤ) (n : ℕ) → apply Add (apply Add a v) (repeat Add v (suc n)) ≡ apply Add a (repeat Add v (suc (suc n)))
more_add v a n =
    int_wrap-add_left w64 (a +ℤ v) (repeat Add v (suc n)) ∙ int_wrap-add_right w64 (a +ℤ v) (v *ℤ pos (suc n))
    ∙ ap wrap (omega (arith, ints, mul_more v (suc n))) ∙ sym (int_wrap-add_right w64 a (v *ℤ pos (suc (suc n))))

one_mul : (v a : ℤ) → apply Mul a (repeat Mul v 1) ≡ apply Mul a v
unfolding power
one_mul v a = int_wrap-mul_right w64 a (pos 1 *ℤ v) ∙ ap (λ (z : ℤ). wrap (a *ℤ z)) (*ℤ_comm (pos 1) v ∙ omega (arith, ints))

more_mul : (v a : ℤ) (n : ℕ) → apply Mul (apply Mul a v) (repeat Mul v (suc n)) ≡ apply Mul a (repeat Mul v (suc (suc n)))
unfolding power
more_mul v a n =
    int_wrap-mul_left w64 (a *ℤ v) (repeat Mul v (suc n)) ∙ int_wrap-mul_right w64 (a *ℤ v) (power v (suc n))
    ∙ ap wrap (*ℤ_assoc a v (power v (suc n)) ∙ ap (λ (z : ℤ). a *ℤ z) (*ℤ_comm v (power v (suc n)))) ∙ sym (int_wrap-mul_right w64 a (power v (suc n) *ℤ v))

min_again : (a v : ℤ) → int_min (int_min a v) v ≡ int_min a v
min_again a v = omega (arith, ints, clamps)

max_again : (a v : ℤ) → int_max (int_max a v) v ≡ int_max a v
max_again a v = omega (arith, ints, clamps)

-- of what joins bit by bit, the integers are words
pub repeated_value_is : (by : Reduce) (a v : ℤ) (n : ℕ) → (is_bitwise by ≡ true → IsWord a × IsWord v) → apply by a (repeat by v (suc n)) ≡ reduced by a (replicate (suc n) v)
repeated_value_is Add a v n h = stepwise Add v (one_add v) (more_add v) a n
repeated_value_is Mul a v n h = stepwise Mul v (one_mul v) (more_mul v) a n
repeated_value_is Min a v n h =
    stepwise Min v (λ x. ap (int_min x) (once_some 0 v (pos 9223372036854775807)))
    (λ x k. ap (int_min (int_min x v)) (once_some k v (pos 9223372036854775807)) ∙ min_again x v ∙ ap (int_min x) (sym (once_some (suc k) v (pos 9223372036854775807)))) a n
repeated_value_is Max a v n h =
    stepwise Max v (λ x. ap (int_max x) (once_some 0 v (negsuc 9223372036854775807)))
    (λ x k. ap (int_max (int_max x v)) (once_some k v (negsuc 9223372036854775807)) ∙ max_again x v ∙ ap (int_max x) (sym (once_some (suc k) v (negsuc 9223372036854775807)))) a n
repeated_value_is And a v n h = repeats_at_once And a v (suc n) (h refl).0 (h refl).1 (λ e. cc)
repeated_value_is Or a v n h = repeats_at_once Or a v (suc n) (h refl).0 (h refl).1 (λ e. cc)
repeated_value_is Xor a v n h = repeats_at_once Xor a v (suc n) (h refl).0 (h refl).1 (λ e. cc)
repeated_value_is Put a v n h = stepwise Put v (λ x. refl) (λ x k. refl) a n
