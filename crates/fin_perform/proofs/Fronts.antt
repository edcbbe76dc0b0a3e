-- The dense extents of levels without their first.
use Rattle.std.proofs.Common.{◌≡◌, ℕ, zero, suc, ◌*◌, ◌-◌, ◌≤◌, Bool, true, false, List, [], ◌∷◌, length, take, drop, refl, ap, ◌∙◌, arith, if◌then◌else◌}
use Rattle.std.specs.Prelude.{max}
use Rattle.fin_tensor.specs.declared.format.Level.{Level}
use Rattle.fin_tensor.specs.Placement.{is_dense}
use Rattle.fin_tensor.specs.Extents.{dense_size}
use Rattle.fin_stage.specs.Stages.{dense_front}
use Rattle.fin_read.proofs.Fronts.{take_rest}

more : (k m : ℕ) → 1 ≤ k → m ≤ k * m
more zero m h = absurd (omega (arith, h))
more (suc k) m h = omega arith

most_one : (b : Bool) (n m : ℕ) → m ≤ (if b then max n 1 else 1) * m
most_one true n m = more (max n 1) m (omega arith)
most_one false n m = more 1 m (omega arith)

size_rest : (ls : List Level) (ns : List ℕ) → dense_size (drop 1 ls) (drop 1 ns) ≤ dense_size ls ns
size_rest [] ns = omega arith
size_rest (l ∷ []) [] = omega arith
size_rest (l ∷ k ∷ ls) [] = omega arith
size_rest (l ∷ ls) (n ∷ ns) = most_one (is_dense l) n (dense_size ls ns)

pub size_part : (ls : List Level) (ns : List ℕ) (m : ℕ) → dense_size ls ns ≤ m → dense_size (take (length ls - 1) (drop 1 ls)) (take (length ns - 1) (drop 1 ns)) ≤ m
size_part ls ns m h =
    let same : dense_size (take (length ls - 1) (drop 1 ls)) (take (length ns - 1) (drop 1 ns)) ≡ dense_size (drop 1 ls) (drop 1 ns) = ap (λ (x : List Level). dense_size x (take (length ns - 1) (drop 1 ns))) (take_rest ls) ∙ ap (λ (x : List ℕ). dense_size (drop 1 ls) x) (take_rest ns) in
    let below : dense_size (drop 1 ls) (drop 1 ns) ≤ dense_size ls ns = size_rest ls ns in
    omega (arith, same, below, h)

pub front_ends : (ls : List Level) (ns : List ℕ) → length ns ≡ 0 → dense_front ls ns ≡ 1
front_ends [] ns h = refl
front_ends (l ∷ ls) [] h = refl
front_ends (l ∷ ls) (n ∷ ns) h = absurd (omega (arith, h))

pub front_stops : (ls : List Level) (ns : List ℕ) → length ls ≡ 0 → dense_front ls ns ≡ 1
front_stops [] ns h = refl
front_stops (l ∷ ls) ns h = absurd (omega (arith, h))

pub size_ends : (ls : List Level) (ns : List ℕ) → 1 ≤ dense_size ls ns
size_ends [] ns = omega arith
size_ends (l ∷ ls) [] = omega arith
size_ends (l ∷ ls) (n ∷ ns) = let more : dense_size ls ns ≤ (if is_dense l then max n 1 else 1) * dense_size ls ns = most_one (is_dense l) n (dense_size ls ns) in let rest : 1 ≤ dense_size ls ns = size_ends ls ns in omega (arith, more, rest)

-- what a front of dense levels is where a list is used up, and its bounds
pub ruleset fronts = (size_part, front_ends, front_stops, size_ends)
