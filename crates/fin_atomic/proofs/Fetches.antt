-- A fetch makes the stored word of the reduced one.
use Rattle.std.proofs.Common.{◌≡◌, ℕ, ◌+◌, ◌%◌, ◌^◌, ℤ, pos, negsuc, ◌+ℤ◌, bit_and, bit_or, bit_xor, sym, ap, ◌∙◌, arith}
use Rattle.std.specs.Prelude.{min, max}
use Rattle.std.proofs.lemmas.Bool.{lt-ltb, le-ltb}
use Rattle.std.proofs.lemmas.Int.{of_z-to_z, wrapping_add_is}
use Rattle.std.proofs.lemmas.Nat.{or_lt, xor_lt}
use Rattle.std.specs.Int.Bits.{and_lt}
use Rattle.std.specs.Int.{int_wrap, cast_signed, cast_unsigned, w64}
use mathlib.Core.Logic.{dite}
use native.Mathlib.Decide.{dec_lt}
use Rattle.fin_base.specs.declared.reduce.Reduce.{Reduce}
use Rattle.fin_base.specs.declared.reduce.Reduce.TheVariants.{Add, Mul, Min, Max, And, Or, Xor, Put}
use Rattle.fin_base.specs.Words.{IsWord, apply}
use Rattle.fin_base.proofs.Reductions.{below}
use Rattle.fin_seats.specs.Codes.{code}

-- what one fetch with the operand k makes of the stored word n
abbrev pub fetched : Reduce → ℕ → ℕ → ℕ
fetched Add k n = (n + k) % 2 ^ 64
fetched Mul k n = n
fetched Min k n = min n k
fetched Max k n = max n k
fetched And k n = bit_and n k
fetched Or k n = bit_or n k
fetched Xor k n = bit_xor n k
fetched Put k n = n

abbrev pub Fetches : Reduce → Type 0
Fetches by = (a v : ℤ) → IsWord a → IsWord v → fetched by (code by v) (code by a) ≡ code by (apply by a v)

pub fetches-add : Fetches Add
fetches-add a v f g =
    let sum : ℕ = (cast_unsigned w64 a + cast_unsigned w64 v) % 2 ^ 64 in
    let is : cast_signed w64 sum ≡ int_wrap w64 (a +ℤ v) = wrapping_add_is w64 a v f g in
    sym (of_z-to_z w64 sum (omega arith)) ∙ ap (cast_unsigned w64) is

pub fetches-min : Fetches Min
fetches-min (pos a) (pos v) f g = let p = f.sfits in let q = g.sfits in dite (dec_lt v a) (λ h. rw (lt-ltb v a h) (omega arith)) (λ h. rw (le-ltb v a (omega arith)) (omega arith))
fetches-min (pos a) (negsuc v) f g = let p = f.sfits in let q = g.sfits in omega arith
fetches-min (negsuc a) (pos v) f g = let p = f.sfits in let q = g.sfits in omega arith
fetches-min (negsuc a) (negsuc v) f g = let p = f.sfits in let q = g.sfits in dite (dec_lt a v) (λ h. rw (lt-ltb a v h) (omega arith)) (λ h. rw (le-ltb a v (omega arith)) (omega arith))

pub fetches-max : Fetches Max
fetches-max (pos a) (pos v) f g = let p = f.sfits in let q = g.sfits in dite (dec_lt v a) (λ h. rw (lt-ltb v a h) (omega arith)) (λ h. rw (le-ltb v a (omega arith)) (omega arith))
fetches-max (pos a) (negsuc v) f g = let p = f.sfits in let q = g.sfits in omega arith
fetches-max (negsuc a) (pos v) f g = let p = f.sfits in let q = g.sfits in omega arith
fetches-max (negsuc a) (negsuc v) f g = let p = f.sfits in let q = g.sfits in dite (dec_lt a v) (λ h. rw (lt-ltb a v h) (omega arith)) (λ h. rw (le-ltb a v (omega arith)) (omega arith))

pub fetches-and : Fetches And
fetches-and a v f g = sym (of_z-to_z w64 _ (and_lt 64 _ _ (below a f) (below v g)))

pub fetches-or : Fetches Or
fetches-or a v f g = sym (of_z-to_z w64 _ (or_lt 64 _ _ (below a f) (below v g)))

pub fetches-xor : Fetches Xor
fetches-xor a v f g = sym (of_z-to_z w64 _ (xor_lt 64 _ _ (below a f) (below v g)))
