-- The level at which a read stands, as it is in a storage.
use Rattle.std.proofs.Common.{◌≡◌, ℕ, zero, suc, ◌<◌, ◌+◌, true, false, IfSome, List, [], ◌∷◌, length, refl, sym, ◌∙◌, subst, ℤ, pos, negsuc, arith, Option, Some, None}
use Rattle.std.specs.Prelude.{slice_index_or, nat_lt, if◌then◌else◌}
use Rattle.std.proofs.lemmas.Bool.Decides.{nat_tests}
use Rattle.fin_tensor.specs.declared.format.Level.{Level}
use Rattle.fin_tensor.specs.declared.format.Level.TheVariants as level
use Rattle.fin_tensor.specs.declared.part.Part.{Part}
use Rattle.fin_tensor.specs.Levels.{IsLevel, positions}
use Rattle.fin_tensor.proofs.Walk.{child_within}
use Rattle.fin_ast.specs.declared.tree.Index.{Index}
use Rattle.fin_ast.specs.Value.{Numbers, place}
use Rattle.fin_ir.specs.Machine.{Tensor}
use Rattle.fin_read.proofs.Descending.{LevelIs}
use Rattle.fin_read.proofs.Remaining.{LevelsAre, level_of, levels_below}
use Rattle.fin_simp.specs.Sights.{Nowhere, At, inside, child_at, stand_at}
use Rattle.fin_enter.proofs.Positions.{below_nothing}

-- a level with that part, which has the position
pub record AtLevel (ts : ℕ → Tensor) (tensor k : ℕ) (l : Level) (p : Part) (q : ℕ) : Type 0 where
  pub extent : ℕ
  pub count : ℕ
  pub is : LevelIs ts tensor k l extent count p
  pub within : q < count

child_small : (l : Level) (n count : ℕ) (p : Part) (q : ℕ) → IsLevel l n count p → q < count → (z : ℤ) → IfSome (child_at n p q (inside n z)) (λ r. r < positions n count p)
child_small l n count p q level lt (negsuc c) = tt
child_small l n count p q level lt (pos c) = elim (nat_lt c n) as (λ b. nat_lt c n ≡ b → IfSome (child_at n p q (if b then Some c else None)) (λ r. r < positions n count p)) [
  | true ↦ λ t. child_within l n count p q c level lt (grind (arith, nat_tests))
  | false ↦ λ t. tt
] refl

module _ (ts : ℕ → Tensor) (tensor : ℕ) (vars : Numbers) where
  pub stands_at : (k j count : ℕ) (l : List Level) (ns : List ℕ) (ps : List Part) (val : List ℤ) (o : Option ℕ) (is : List Index) (p' : Part) (q' : ℕ) → LevelsAre ts tensor j l ns ps val count
      → IfSome o (λ q. q < count) → k < length l → stand_at vars ns ps is k o ≡ At p' q' → AtLevel ts tensor (j + k) (slice_index_or l k level.Dense) p' q'
  stands_at k j count l ns ps val None is p' q' h lt a s = let x : Nowhere ≡ At p' q' = sym (below_nothing vars ns ps is k) ∙ s in cc
  stands_at zero j count (l ∷ rest) (n ∷ ns) (p ∷ ps) val (Some q) (i ∷ is) p' q' h lt a s =
      let x : At p q ≡ At p' q' = s in
      let first : p ≡ p' = cc in
      let second : q ≡ q' = cc in
      let here : j ≡ j + 0 = omega arith in
      subst (λ y. AtLevel ts tensor y l p' q') here (subst (λ y. AtLevel ts tensor j l y q') first (subst (λ y. AtLevel ts tensor j l p y) second
      (record { extent = n; count = count; is = level_of ts tensor j l rest n ns p ps val count h; within = lt })))
  stands_at (suc k) j count (l ∷ rest) (n ∷ ns) (p ∷ ps) val (Some q) (i ∷ is) p' q' h lt a s =
      let here = level_of ts tensor j l rest n ns p ps val count h in
      let next : j + 1 + k ≡ j + suc k = omega arith in
      subst (λ y. AtLevel ts tensor y (slice_index_or rest k level.Dense) p' q') next
      (stands_at k (j + 1) (positions n count p) rest ns ps val (child_at n p q (inside n (place vars i))) is p' q' (levels_below ts tensor j l rest n ns p ps val count h)
      (child_small l n count p q here.level lt (place vars i)) (omega (arith, a)) s)
  stands_at k j count [] ns ps val (Some q) is p' q' h lt a s = absurd (omega (arith, a))
  stands_at k j count (l ∷ rest) [] ps val (Some q) is p' q' h lt a s = absurd h.valid
  stands_at k j count (l ∷ rest) (n ∷ ns) [] val (Some q) is p' q' h lt a s = absurd h.valid
  stands_at k j count (l ∷ rest) (n ∷ ns) (p ∷ ps) val (Some q) [] p' q' h lt a s = let x : Nowhere ≡ At p' q' = s in cc
