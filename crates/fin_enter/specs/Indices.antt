-- The indices of a driven read: those before its level name variables that are bound as the loop is entered, whose codes
-- have their values.
use Rattle.std.specs.Prelude.{◌≡◌, ℕ, ◌<◌, ◌≤◌, Bool, true, List, map, ℤ, Some}
use Rattle.std.specs.List.{list_all}
use Rattle.fin_ast.specs.declared.tree.Index.{Index}
use Rattle.fin_ast.specs.Scope.{Scope, is_among, is_index}
use Rattle.fin_ast.specs.Value.{Numbers}
use Rattle.fin_stage.specs.Staged.{is_small}
use Rattle.fin_looplet.specs.View.{Store}
use Rattle.fin_read.specs.Values.{index_code}
use Rattle.fin_simp.specs.Sights.{driven_index}
use Rattle.fin_drive.specs.Looplets.{other_of}
use Rattle.fin_enter.specs.Positions.{ArePlaces}
use Rattle.fin_enter.specs.Sites.{IsCoordinate}

-- loops around the one over a variable have their coordinates in locals
abbrev pub AreAround : Scope → ℕ → Numbers → List ℤ → Type 0
AreAround sc var vars ls = (x : ℕ) → is_among sc.loops x ≡ true → x < var → IsCoordinate vars ls x

abbrev pub small_offsets : List Index → Bool
small_offsets is = list_all (λ (i : Index). is_small i.offset) is

pub record AreBound (ts : Store) (vars : Numbers) (var : ℕ) (is : List Index) (d : ℕ × Index) (at : ℕ) (ls : List ℤ) : Type 0 where
  pub places : ArePlaces ts at ls vars d.0 (map index_code is) is
  pub others : (x : ℕ) → other_of var d.1.first d.1.second ≡ Some x → IsCoordinate vars ls x

-- of an access that is named in a scope
abbrev pub IndicesAreBound : Type 0
IndicesAreBound = (ts : Store) (sc : Scope) (vars : Numbers) (var : ℕ) (is : List Index) (d : ℕ × Index) (at : ℕ) (ls : List ℤ)
    → AreAround sc var vars ls → list_all (is_index sc) is ≡ true → small_offsets is ≡ true → driven_index var is ≡ Some d → var ≤ at
    → AreBound ts vars var is d at ls
