-- The test of what can be built, against its definition.
use Rattle.std.proofs.Common.{◌≡◌, ◌≢◌, ℕ, zero, suc, ◌≤◌, ◌^◌, Bool, true, List, [], ◌∷◌, length, refl, ap, ◌∙◌, arith, rules}
use Rattle.std.specs.Prelude.{nat_le, nat_eq, not, ◌&&◌}
use Rattle.std.specs.List.{list_all}
use Rattle.std.proofs.lemmas.Bool.{and_parts}
use Rattle.std.proofs.lemmas.Bool.Decides.{nat_tests}
use Rattle.fin_tensor.specs.declared.format.Format.{Format}
use Rattle.fin_tensor.specs.declared.format.Level.{Level}
use Rattle.fin_tensor.specs.declared.format.Level.TheVariants.{Dense, List as SortedList, Runs, Band, Dict}
use Rattle.fin_tensor.specs.declared.format.Wrap.{Wrap}
use Rattle.fin_tensor.specs.declared.format.Wrap.TheVariants.{Bare, Atomic, Mutex, Shard}
use Rattle.fin_tensor.specs.Placement.{RunsStandLast, Fits, IsPlaced, is_dense}
use Rattle.fin_tensor.specs.Extents.{dense_size}
use Rattle.fin_tensor.specs.Levels.{AreSmall}
use Rattle.fin_tensor.specs.Lines.{IsShape}
use Rattle.fin_tensor.specs.Building.{CanBuild}
use Rattle.fin_ir.specs.CanBuild.{is_runs, runs_stand_last, wrap_fits, is_placed, has_shape, can_build}

both : (x y : Bool) → x ≡ true → y ≡ true → (x && y) ≡ true
both x y e f = ap (λ b. b && y) e ∙ f

le_of : (a b : ℕ) → nat_le a b ≡ true → a ≤ b
le_of a b e = grind (arith, nat_tests)

of_le : (a b : ℕ) → a ≤ b → nat_le a b ≡ true
of_le a b e = grind (arith, nat_tests)

no_runs : (l : Level) → not (is_runs l) ≡ true → l ≢ Runs
no_runs Dense e = λ h. cc
no_runs SortedList e = λ h. cc
no_runs Runs e = cc
no_runs Band e = λ h. cc
no_runs Dict e = λ h. cc

other_runs : (l : Level) → l ≢ Runs → not (is_runs l) ≡ true
other_runs Dense e = refl
other_runs SortedList e = refl
other_runs Runs e = absurd (e refl)
other_runs Band e = refl
other_runs Dict e = refl

runs_last : (ls : List Level) → runs_stand_last ls ≡ true → RunsStandLast ls
runs_last [] e k h = absurd (omega arith)
runs_last (l ∷ []) e k h = absurd (omega arith)
runs_last (l ∷ x ∷ ls) e zero h = no_runs l (and_parts (not (is_runs l)) (runs_stand_last (x ∷ ls)) e).0
runs_last (l ∷ x ∷ ls) e (suc k) h = runs_last (x ∷ ls) (and_parts (not (is_runs l)) (runs_stand_last (x ∷ ls)) e).1 k (omega arith)

last_runs : (ls : List Level) → RunsStandLast ls → runs_stand_last ls ≡ true
last_runs [] h = refl
last_runs (l ∷ []) h = refl
last_runs (l ∷ x ∷ ls) h = both (not (is_runs l)) (runs_stand_last (x ∷ ls)) (other_runs l (h 0 (omega arith))) (last_runs (x ∷ ls) (λ k b. h (suc k) (omega arith)))

fits_of : (wrap : Wrap) (ls : List Level) → wrap_fits wrap ls ≡ true → Fits wrap ls
fits_of Bare ls e = tt
fits_of Atomic ls e = search rules
fits_of (Mutex before) ls e = let p = and_parts (nat_le before (length ls)) (list_all is_dense ls) e in (le_of before (length ls) p.0, search rules)
fits_of Shard ls e = search rules

of_fits : (wrap : Wrap) (ls : List Level) → Fits wrap ls → wrap_fits wrap ls ≡ true
of_fits Bare ls h = refl
of_fits Atomic ls h = search rules
of_fits (Mutex before) ls h = both (nat_le before (length ls)) (list_all is_dense ls) (of_le before (length ls) h.0) (search rules)
of_fits Shard ls h = search rules

all_small : (xs : List ℕ) → list_all (λ n. nat_le n (2 ^ 40)) xs ≡ true → AreSmall xs
all_small [] e k h = absurd (omega arith)
all_small (x ∷ xs) e zero h = le_of x (2 ^ 40) (and_parts (nat_le x (2 ^ 40)) (list_all (λ n. nat_le n (2 ^ 40)) xs) e).0
all_small (x ∷ xs) e (suc k) h = all_small xs (and_parts (nat_le x (2 ^ 40)) (list_all (λ n. nat_le n (2 ^ 40)) xs) e).1 k (omega arith)

small_all : (xs : List ℕ) → AreSmall xs → list_all (λ n. nat_le n (2 ^ 40)) xs ≡ true
small_all [] h = refl
small_all (x ∷ xs) h = both (nat_le x (2 ^ 40)) (list_all (λ n. nat_le n (2 ^ 40)) xs) (of_le x (2 ^ 40) (h 0 (omega arith))) (small_all xs (λ k b. h (suc k) (omega arith)))

pub placed_of : (ls : List Level) (wrap : Wrap) → is_placed ls wrap ≡ true → IsPlaced ls wrap
placed_of ls wrap e =
    let p = and_parts (nat_le (length ls) 8 && runs_stand_last ls) (wrap_fits wrap ls) e in
    let q = and_parts (nat_le (length ls) 8) (runs_stand_last ls) p.0 in
    record { few = le_of (length ls) 8 q.0; runs = runs_last ls q.1; fits = fits_of wrap ls p.1 }

pub of_placed : (ls : List Level) (wrap : Wrap) → IsPlaced ls wrap → is_placed ls wrap ≡ true
of_placed ls wrap h =
    both (nat_le (length ls) 8 && runs_stand_last ls) (wrap_fits wrap ls)
    (both (nat_le (length ls) 8) (runs_stand_last ls) (of_le (length ls) 8 h.few) (last_runs ls h.runs)) (of_fits wrap ls h.fits)

shape_of : (ls : List Level) (shape : List ℕ) → has_shape ls shape ≡ true → IsShape ls shape
shape_of ls shape e =
    let p = and_parts (nat_eq (length shape) (length ls)) (list_all (λ n. nat_le n (2 ^ 40)) shape) e in
    record { long = grind (arith, nat_tests); small = all_small shape p.1 }

of_shape : (ls : List Level) (shape : List ℕ) → IsShape ls shape → has_shape ls shape ≡ true
of_shape ls shape h = both (nat_eq (length shape) (length ls)) (list_all (λ n. nat_le n (2 ^ 40)) shape) (let e = h.long in grind (arith, nat_tests)) (small_all shape h.small)

pub builds : (format : Format) (shape : List ℕ) → can_build format shape ≡ true → CanBuild format shape
builds format shape e =
    let p = and_parts (is_placed format.levels format.wrap && has_shape format.levels shape) (nat_le (dense_size format.levels shape) (2 ^ 24)) e in
    let q = and_parts (is_placed format.levels format.wrap) (has_shape format.levels shape) p.0 in
    record { placed = placed_of format.levels format.wrap q.0; shape_is = shape_of format.levels shape q.1; small = le_of (dense_size format.levels shape) (2 ^ 24) p.1 }

pub of_builds : (format : Format) (shape : List ℕ) → CanBuild format shape → can_build format shape ≡ true
of_builds format shape h =
    both (is_placed format.levels format.wrap && has_shape format.levels shape) (nat_le (dense_size format.levels shape) (2 ^ 24))
    (both (is_placed format.levels format.wrap) (has_shape format.levels shape) (of_placed format.levels format.wrap h.placed) (of_shape format.levels shape h.shape_is))
    (of_le (dense_size format.levels shape) (2 ^ 24) h.small)
