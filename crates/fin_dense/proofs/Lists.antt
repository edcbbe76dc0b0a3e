-- Reads of lists, and the tensors that stay after a body.
use Rattle.std.proofs.Common.{◌≡◌, ℕ, zero, suc, ◌+◌, ◌<◌, ◌≤◌, refl, sym, ap, ◌∙◌, arith, List, [], ◌∷◌, length, get_or, take, map, ◌++◌, set, None, Bool, true, false, if◌then◌else◌, add-one, ℤ, pos, to_z, w64, ◌^◌}
use Rattle.std.proofs.lemmas.Int.{ints}
use Rattle.std.proofs.lemmas.List.{set-get_or}
use Rattle.fin_ast.specs.Dense.{Made, kept}

-- one flag more
pub kept_more : (bs : List Bool) (ts : Made) (i : ℕ) → i < length bs → kept (take (suc i) bs) ts ≡ (if get_or bs i false then kept (take i bs) ts else set (kept (take i bs) ts) i None)
kept_more [] ts i h = absurd (omega arith)
kept_more (true ∷ bs) [] zero h = refl
kept_more (false ∷ bs) [] zero h = refl
kept_more (true ∷ bs) (t ∷ ts) zero h = refl
kept_more (false ∷ bs) (t ∷ ts) zero h = refl
kept_more (b ∷ bs) [] (suc i) h = elim (get_or bs i false) as (λ (c : Bool). ◌≡◌ {A = Made} [] (if c then [] else [])) [ true ↦ refl | false ↦ refl ]
kept_more (b ∷ bs) (t ∷ ts) (suc i) h =
    ap (λ (rest : Made). (if b then t else None) ∷ rest) (kept_more bs ts i (omega arith))
    ∙ elim (get_or bs i false) as (λ (c : Bool). ◌≡◌ {A = Made} ((if b then t else None) ∷ (if c then kept (take i bs) ts else set (kept (take i bs) ts) i None)) (if c then (if b then t else None) ∷ kept (take i bs) ts else (if b then t else None) ∷ set (kept (take i bs) ts) i None)) [ true ↦ refl | false ↦ refl ]

module _ (bs : List Bool) (ts : Made) (i : ℕ) (h : i < length bs) where
  pub kept_stays : get_or bs i false ≡ true → kept (take i bs) ts ≡ kept (take (i + 1) bs) ts
  kept_stays e = sym (rw add-one (kept_more bs ts i h ∙ ap (λ (c : Bool). if c then kept (take i bs) ts else set (kept (take i bs) ts) i None) e))

  pub kept_loses : get_or bs i false ≡ false → set (kept (take i bs) ts) i None ≡ kept (take (i + 1) bs) ts
  kept_loses e = sym (rw add-one (kept_more bs ts i h ∙ ap (λ (c : Bool). if c then kept (take i bs) ts else set (kept (take i bs) ts) i None) e))

-- a value that is put back
set_twice : {X : Type 0} (xs : List X) (k : ℕ) (a b : X) → set (set xs k a) k b ≡ set xs k b
set_twice [] k a b = refl
set_twice (x ∷ xs) zero a b = refl
set_twice (x ∷ xs) (suc k) a b = ap (λ rest. x ∷ rest) (set_twice xs k a b)

pub put_back : {X : Type 0} (xs ys : List X) (k : ℕ) (a b : X) → ys ≡ set xs k a → b ≡ get_or xs k b → set ys k b ≡ xs
put_back {X} xs ys k a b e h =
    ap (λ (zs : List X). set zs k b) e ∙ set_twice xs k a b ∙ ap (λ (c : X). set xs k c) h ∙ set-get_or xs k b

-- the bound numbers at a turn, as the code hands them on
pub at_turn : (vs vs0 : List ℤ) (var i hi : ℕ) → vs ≡ vs0 → i < hi → hi ≤ 2 ^ 40 → set vs var (to_z w64 i) ≡ set vs0 var (pos i)
at_turn vs vs0 var i hi e h small =
    let z : to_z w64 i ≡ pos i = omega (arith, ints) in
    ap (λ (xs : List ℤ). set xs var (to_z w64 i)) e ∙ ap (set vs0 var) z

-- one item more, where each has the same value
constant_more : {X Y : Type 0} (y : Y) (xs : List X) (i : ℕ) → i < length xs → map (λ x. y) (take i xs) ++ y ∷ [] ≡ map (λ x. y) (take (suc i) xs)
constant_more y [] i h = absurd (omega arith)
constant_more y (x ∷ xs) zero h = refl
constant_more y (x ∷ xs) (suc i) h = ap (λ ys. y ∷ ys) (constant_more y xs i (omega arith))

pub same_more : {X Y : Type 0} (y : Y) (xs : List X) (i : ℕ) → i < length xs → map (λ x. y) (take i xs) ++ y ∷ [] ≡ map (λ x. y) (take (i + 1) xs)
same_more y xs i h = rw add-one (constant_more y xs i h)
