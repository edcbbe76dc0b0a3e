-- The test whether slices are allowed by their sizes.
use Rattle.std.proofs.Common.{◌≡◌, ℕ, ◌≤◌, ◌^◌, true, List, [], ◌∷◌, length, ap, ◌∙◌, ℤ, arith}
use Rattle.std.specs.Prelude.{nat_le, ◌&&◌}
use Rattle.std.proofs.lemmas.Bool.{and_parts}
use Rattle.std.proofs.lemmas.Bool.Decides.{nat_tests}
use Rattle.fin_tensor.specs.declared.format.Level.{Level}
use Rattle.fin_tensor.specs.Canon.{Slice, kept, next, IsAllowed, is_allowed}

pub allowed_by : (ls : List Level) (fill : ℤ) (ns : List ℕ) (fs : List Slice) → is_allowed ls fill ns fs ≡ true → IsAllowed ls fill ns fs
allowed_by [] fill ns fs e = grind (arith, nat_tests)
allowed_by (l ∷ ls) fill [] fs e = cc
allowed_by (l ∷ ls) fill (n ∷ ns) fs e =
    let p = and_parts (nat_le (length fs) (2 ^ 40)) (is_allowed ls fill ns (next (kept l fill n ns) fs)) e in
    let small : length fs ≤ 2 ^ 40 = (let q = p.0 in grind (arith, nat_tests)) in
    (small, allowed_by ls fill ns (next (kept l fill n ns) fs) p.1)

pub by_allowed : (ls : List Level) (fill : ℤ) (ns : List ℕ) (fs : List Slice) → IsAllowed ls fill ns fs → is_allowed ls fill ns fs ≡ true
by_allowed [] fill ns fs h = grind (arith, nat_tests)
by_allowed (l ∷ ls) fill [] fs h = absurd h
by_allowed (l ∷ ls) fill (n ∷ ns) fs h =
    let small = h.0 in
    let e : nat_le (length fs) (2 ^ 40) ≡ true = grind (arith, nat_tests) in
    ap (λ b. b && is_allowed ls fill ns (next (kept l fill n ns) fs)) e ∙ by_allowed ls fill ns (next (kept l fill n ns) fs) h.1
