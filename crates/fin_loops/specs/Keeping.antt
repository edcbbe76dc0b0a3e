-- A nest that is made for a loop keeps apart, told where its code is made: it is separate wherever the loop may stand.
use Rattle.std.specs.Prelude.{◌≡◌, ℕ, ◌<◌, ◌≤◌, Bool, true, false, not, Option}
use Rattle.fin_ast.specs.Scope.{is_among}
use Rattle.fin_looplet.specs.Lists.{AnyFree}
use Rattle.fin_looplet.specs.Names.{Names, Loads}
use Rattle.fin_drive.specs.Separation.{KeepApart}
use Rattle.fin_style_point.specs.declared.nest.Nest.{Nest}
use Rattle.fin_style_point.specs.Parts.{all_looplets}
use Rattle.fin_loops.specs.Loops.{Loop, bound_in, changed_in}
use Rattle.fin_loops.specs.Entering.{stmt_of, AreSeparate}

-- a local before the first free one, of no variable that the loop or its body binds, and owned by no looplet
abbrev pub IsOuter : Loop → Nest → (ℕ → Bool) → ℕ → Type 0
IsOuter l top own y = (y < top.next) × (is_among (bound_in l) y ≡ false) × (own y ≡ false)

-- The looplets own these locals, from the first one that is free around the loop on, and load from tensors that what is left
-- of the body doesn't change; the nest depends on outer locals alone, and its ends load nothing.
pub record KeepsOut (l : Loop) (next : ℕ) (top : Nest) (own : ℕ → Bool) : Type 0 where
  pub var : top.var ≡ l.var
  pub low : next ≤ top.next
  pub looplets : KeepApart (record { own = own; steady = λ t. not (changed_in l t) }) (all_looplets top)
  pub owned : (y : ℕ) → own y ≡ true → (next ≤ y) × (y < top.next)
  pub lo : (y : ℕ) → Names y top.lo → IsOuter l top own y
  pub hi : (y : ℕ) → Names y top.hi → IsOuter l top own y
  pub free : (y : ℕ) → AnyFree y (all_looplets top) → IsOuter l top own y
  pub lo_loads : (t : ℕ) → Loads t top.lo → ⊥
  pub hi_loads : (t : ℕ) → Loads t top.hi → ⊥

abbrev pub NestsAreSeparate : Type 0
NestsAreSeparate = (l : Loop) (range : Option (ℕ × ℕ)) (par : Bool) (line last next : ℕ) (top : Nest) (own : ℕ → Bool)
    → KeepsOut l next top own → AreSeparate l (stmt_of l range par line last) next top
