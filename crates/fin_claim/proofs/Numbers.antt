-- How often a number stands in a list, and how many are late.
use Rattle.std.proofs.Common.{◌≡◌, ℕ, zero, suc, ◌+◌, ◌<◌, ◌≤◌, List, [], ◌∷◌, length, get_or, refl, arith}
use Rattle.std.proofs.lemmas.Bool.{lt-ltb, le-ltb, eq-eqb, ne_eqb}
use mathlib.Core.Logic.{dite}
use native.Mathlib.Decide.{ℕ_discrete, dec_lt}
use Rattle.fin_claim.specs.Claims.{times, once_below, late, is_it, is_late}

-- a number that was drawn is counted
pub times-some : (xs : List ℕ) (k d : ℕ) → k < length xs → 0 < times (get_or xs k d) xs
times-some [] k d h = absurd (omega arith)
times-some (x ∷ xs) zero d h = rw (eq-eqb x x refl) (omega arith)
times-some (x ∷ xs) (suc k) d h = let r = times-some xs k d (omega arith) in omega arith

pub once-below : (x n : ℕ) → 0 < once_below x n → x < n
once-below x n p = dite (dec_lt x n) (λ h. h) (λ h. absurd (let z : once_below x n ≡ 0 = rw (le-ltb x n (omega arith)) refl in omega arith))

pub once-more : (x n : ℕ) → once_below x n + is_it x n ≡ once_below x (n + 1)
once-more x n = dite (dec_lt x n)
    (λ h. rw (lt-ltb x n h, lt-ltb x (n + 1) (omega arith), ne_eqb n x (λ e. omega arith)) refl)
    (λ h. dite (ℕ_discrete n x)
    (λ e. rw (le-ltb x n (omega arith), lt-ltb x (n + 1) (omega arith), eq-eqb n x e) refl)
    (λ e. rw (le-ltb x n (omega arith), le-ltb x (n + 1) (omega arith), ne_eqb n x e) refl))

pub late-some : (m : ℕ) (xs : List ℕ) → 0 < late m xs → (y : ℕ) × (m ≤ y) × (0 < times y xs)
late-some m [] p = absurd (omega arith)
late-some m (x ∷ xs) p = dite (dec_lt x m)
    (λ h. let z : is_late m x ≡ 0 = rw (lt-ltb x m h) refl in let r = late-some m xs (omega arith) in (r.0, r.1, (let q = r.2 in omega arith)))
    (λ h. (x, omega arith, rw (eq-eqb x x refl) (omega arith)))

pub late-le : (n m : ℕ) → is_late m n ≤ 1
late-le n m = dite (dec_lt n m) (λ h. rw (lt-ltb n m h) (omega arith)) (λ h. rw (le-ltb n m (omega arith)) (omega arith))
