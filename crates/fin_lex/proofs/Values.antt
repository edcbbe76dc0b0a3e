-- The number of some digits grows with each further one.
use Rattle.std.proofs.Common.{◌≡◌, ℕ, zero, suc, ◌+◌, ◌-◌, ◌*◌, ◌^◌, ◌<◌, ◌≤◌, List, [], ◌∷◌, Some, None, length, length-drop, take, drop, refl, sym, ap, arith, cond}
use Rattle.std.proofs.lemmas.Bool.{lt-leb}
use Rattle.std.specs.List.{fold}
use Rattle.fin_lex.specs.Piece.{value_of, small}

abbrev further : ℕ → ℕ → ℕ
further value digit = 10 * value + (digit - 48)

grows : (ds : List ℕ) (a : ℕ) → a ≤ fold further a ds
grows [] a = omega arith
grows (d ∷ ds) a = omega (arith, grows ds (further a d))

split : (ds : List ℕ) (i a : ℕ) → fold further a ds ≡ fold further (fold further a (take i ds)) (drop i ds)
split ds zero a = refl
split [] (suc i) a = refl
split (d ∷ ds) (suc i) a = split ds i (further a d)

more : (ds : List ℕ) (a : ℕ) → 0 < length ds → 10 * a ≤ fold further a ds
more [] a h = absurd (omega arith)
more (d ∷ ds) a h = omega (arith, grows ds (further a d))

pub too_big : (ds : List ℕ) (i : ℕ) → i < length ds → 922337203685477580 < value_of (take i ds) → 2 ^ 63 < value_of ds
too_big ds i h big =
    let m : 10 * value_of (take i ds) ≤ fold further (value_of (take i ds)) (drop i ds) = more (drop i ds) (value_of (take i ds)) (simp length-drop (omega arith)) in
    let s : value_of ds ≡ fold further (value_of (take i ds)) (drop i ds) = split ds i 0 in
    omega arith

pub not_small : (n : ℕ) → 2 ^ 63 < n → None ≡ small n
not_small n h = sym (ap (λ b. cond b (Some n) None) (lt-leb n (2 ^ 63) h))
