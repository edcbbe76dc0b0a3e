-- Lists of levels and extents without their first.
use Rattle.std.proofs.Common.{◌≡◌, ℕ, suc, ◌-◌, List, [], ◌∷◌, ◌++◌, map, append-nil, length, take, drop, refl, sym, ap, ◌∙◌, subst, arith}
use Rattle.std.proofs.lemmas.List.{take_all}
use Rattle.fin_tensor.specs.declared.format.Level.{Level}
use Rattle.fin_tensor.specs.Levels.{AreSmall}
use Rattle.fin_ir.specs.declared.expression.IExpr.{IExpr}
use Rattle.fin_ir.specs.declared.code.Code.{Code}
use Rattle.fin_read.specs.Steps.{Step, assign_of}
use Rattle.fin_read.specs.Reads.{levels_steps}
use Rattle.fin_read.specs.Counts.{count_from}
use Rattle.fin_read.specs.declared.parts.Place.{Place}

-- all behind the first
pub take_rest : {A : Type 0} (xs : List A) → take (length xs - 1) (drop 1 xs) ≡ drop 1 xs
take_rest [] = refl
take_rest (x ∷ xs) = take_all (length (x ∷ xs) - 1) xs (omega arith)

small_rest : (ns : List ℕ) → AreSmall ns → AreSmall (drop 1 ns)
small_rest [] h k lt = absurd (omega (arith, lt))
small_rest (n ∷ ns) h k lt = h (suc k) (omega (arith, lt))

pub small_part : (ns : List ℕ) → AreSmall ns → AreSmall (take (length ns - 1) (drop 1 ns))
small_part ns h = subst AreSmall (sym (take_rest ns)) (small_rest ns h)

pub count_ends : (tensor k : ℕ) (ls : List Level) (ns : List ℕ) (count : IExpr) → length ns ≡ 0 → count_from tensor k ls ns count ≡ count
count_ends tensor k [] ns count h = refl
count_ends tensor k (l ∷ ls) [] count h = refl
count_ends tensor k (l ∷ ls) (n ∷ ns) count h = absurd (omega (arith, h))

pub count_stops : (tensor k : ℕ) (ls : List Level) (ns : List ℕ) (count : IExpr) → length ls ≡ 0 → count_from tensor k ls ns count ≡ count
count_stops tensor k [] ns count h = refl
count_stops tensor k (l ∷ ls) ns count h = absurd (omega (arith, h))

-- where no level, no extent or no index is left, no step is
left_alone : (into : List Code) (ss : List Step) → ss ≡ [] → into ≡ into ++ map assign_of ss
left_alone into ss e = sym (append-nil into) ∙ ap (λ (s : List Step). into ++ map assign_of s) (sym e)

module _ (into : List Code) (p : Place) (ls : List Level) (ns : List ℕ) (xs : List IExpr) where
  pub no_level : length ls ≡ 0 → into ≡ into ++ map assign_of (levels_steps p ls ns xs)
  no_level h = left_alone into (levels_steps p ls ns xs) (none ls h) where
    none : (ls' : List Level) → length ls' ≡ 0 → levels_steps p ls' ns xs ≡ []
    none [] h' = refl
    none (l ∷ ls') h' = absurd (omega (arith, h'))

  pub no_extent : length ns ≡ 0 → into ≡ into ++ map assign_of (levels_steps p ls ns xs)
  no_extent h = left_alone into (levels_steps p ls ns xs) (none ls ns h) where
    none : (ls' : List Level) (ns' : List ℕ) → length ns' ≡ 0 → levels_steps p ls' ns' xs ≡ []
    none [] ns' h' = refl
    none (l ∷ ls') [] h' = refl
    none (l ∷ ls') (n ∷ ns') h' = absurd (omega (arith, h'))

  pub no_index : length xs ≡ 0 → into ≡ into ++ map assign_of (levels_steps p ls ns xs)
  no_index h = left_alone into (levels_steps p ls ns xs) (none ls ns xs h) where
    none : (ls' : List Level) (ns' : List ℕ) (xs' : List IExpr) → length xs' ≡ 0 → levels_steps p ls' ns' xs' ≡ []
    none [] ns' xs' h' = refl
    none (l ∷ ls') [] xs' h' = refl
    none (l ∷ ls') (n ∷ ns') [] h' = refl
    none (l ∷ ls') (n ∷ ns') (x ∷ xs') h' = absurd (omega (arith, h'))

-- what stops where a list is used up
pub ruleset counts_end = (count_ends, count_stops)

pub ruleset levels_end = (no_level, no_extent, no_index)
