-- Whether a number is found, by the first place that may hold it.
use Rattle.std.proofs.Common.{◌≡◌, ◌≢◌, ℕ, ◌-◌, ◌<◌, ◌≤◌, List, refl, ap, ◌∙◌, ◌⊎◌, ⊎_elim, Some, None, true, false, arith}
use Rattle.std.specs.Prelude.{slice_index, nat_lt, nat_eq, ◌&&◌, is_some, if◌then◌else◌}
use Rattle.std.proofs.lemmas.Bool.Decides.{nat_tests}
use Rattle.fin_tensor.specs.Levels.{key_in, first_from}
use Rattle.fin_tensor.specs.Pieces.{holds_number}

pub key_some : (xs : List ℕ) (from to x r : ℕ) → first_from xs x from (to - from) ≡ r → r < to → slice_index xs r ≡ x → key_in xs from to x ≡ Some r
key_some xs from to x r is lt eq =
    let a : nat_lt r to ≡ true = grind (arith, nat_tests) in
    let b : nat_eq (slice_index xs r) x ≡ true = grind (arith, nat_tests) in
    ap (λ (q : ℕ). if nat_lt q to && nat_eq (slice_index xs q) x then Some q else None) is ∙ rw (a, b) refl

pub key_none : (xs : List ℕ) (from to x r : ℕ) → first_from xs x from (to - from) ≡ r → (to ≤ r) ⊎ (slice_index xs r ≢ x) → key_in xs from to x ≡ None
key_none xs from to x r is out =
    ap (λ (q : ℕ). if nat_lt q to && nat_eq (slice_index xs q) x then Some q else None) is
    ∙ ⊎_elim
    (λ (h : to ≤ r). let a : nat_lt r to ≡ false = grind (arith, nat_tests) in rw a refl)
    (λ (h : slice_index xs r ≢ x).
    let b : nat_eq (slice_index xs r) x ≡ false = grind (arith, nat_tests) in
    elim (nat_lt r to) as (λ c. (if c && nat_eq (slice_index xs r) x then Some r else None) ≡ None) [ true ↦ rw b refl | false ↦ refl ])
    out

pub held_yes : (xs : List ℕ) (from to x r : ℕ) → key_in xs from to x ≡ Some r → holds_number xs from to x ≡ true
held_yes xs from to x r h = ap is_some h

pub held_no : (xs : List ℕ) (from to x : ℕ) → key_in xs from to x ≡ None → holds_number xs from to x ≡ false
held_no xs from to x h = ap is_some h
