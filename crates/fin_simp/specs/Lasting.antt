-- What is known lasts to the end of a piece: where none ends after a coordinate, the same is known at the next one.
use Rattle.std.specs.Prelude.{◌≡◌, ◌⊎◌, ℕ, ◌+◌, ◌<◌, true, false, ℤ, pos, ◌+ℤ◌, List, [], ◌∷◌, slice_set}
use Rattle.std.specs.List.{list_all}
use Rattle.fin_ast.specs.declared.tree.Index.{Index}
use Rattle.fin_ast.specs.Value.{Numbers, place}
use Rattle.fin_simp.specs.Left.{Marks}
use Rattle.fin_simp.specs.Sights.{Stand, Sight, sight_at}
use Rattle.fin_simp.specs.Work.{Driven, Mask, is_comparison, Entered, sight_of, marks_at, ends_after}

-- inside the extent, or at an index that may leave it
abbrev pub IsInside : Index → ℕ → ℤ → Type 0
IsInside i n z = (i.loose ≡ true) ⊎ ((c : ℕ) × (z ≡ pos c) × (c < n))

-- the same, but for where a piece ends
pub record SeenSame (a b : Sight) : Type 0 where
  pub gap : a.gap ≡ b.gap
  pub varies : a.varies ≡ b.varies

abbrev pub SightsLast : Type 0
SightsLast = (i : Index) (n : ℕ) (stand : Stand) (z : ℤ) → IsInside i n z
    → IsInside i n (z +ℤ pos 1) → (sight_at i n stand z).ends ≡ false → SeenSame (sight_at i n stand z) (sight_at i n stand (z +ℤ pos 1))

-- a driven read moves by one with the variable, and stands inside at both coordinates
pub record MovesInside (vars : Numbers) (var c : ℕ) (d : Driven) : Type 0 where
  pub step : place (slice_set vars var (pos (c + 1))) d.index ≡ place (slice_set vars var (pos c)) d.index +ℤ pos 1
  pub here : IsInside d.index d.extent (place (slice_set vars var (pos c)) d.index)
  pub next : IsInside d.index d.extent (place (slice_set vars var (pos c)) d.index +ℤ pos 1)

abbrev pub AllMove : Numbers → ℕ → ℕ → List Driven → Type 0
AllMove vars var c [] = Unit {0}
AllMove vars var c (d ∷ ds) = MovesInside vars var c d × AllMove vars var c ds

pub record KnownSame (a b : Marks) : Type 0 where
  pub reads : (k : ℕ) → a.reads k ≡ b.reads k
  pub tests : (k : ℕ) → a.tests k ≡ b.tests k
  pub vars : (x : ℕ) → a.vars x ≡ b.vars x

-- the same is known, and the same driven reads vary
pub record LastsTo (e : Entered) (vars : Numbers) (m : Marks) (c : ℕ) : Type 0 where
  pub known : KnownSame (marks_at e vars m c) (marks_at e vars m (c + 1))
  pub varies : (d : Driven) → MovesInside vars e.var c d
      → (sight_of vars e.var c d).ends ≡ false → (sight_of vars e.var c d).varies ≡ (sight_of vars e.var (c + 1) d).varies

abbrev pub KnownLasts : Type 0
KnownLasts = (e : Entered) (vars : Numbers) (m : Marks) (c : ℕ)
    → AllMove vars e.var c e.driven → list_all (λ (k : Mask). is_comparison k.op) e.masks ≡ true → ends_after e vars c ≡ false → LastsTo e vars m c
