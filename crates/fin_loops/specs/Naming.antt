-- The codes of a loop's entry and its nest as the entry makes it are named in the program's layout, where the names of
-- the loop are good.
use Rattle.std.specs.Prelude.{◌≡◌, ℕ, ◌≤◌, Bool, true}
use Rattle.fin_ast.specs.Scope.{Scope, are_named, within_loop}
use Rattle.fin_ir.specs.declared.layout.Layout.{Layout}
use Rattle.fin_ir.specs.Named.{has_local, is_named_in}
use Rattle.fin_style_point.specs.declared.nest.Nest.{Nest}
use Rattle.fin_style_point.specs.Parts.{all_looplets}
use Rattle.fin_enter.specs.NamedLooplets.{AllNamedLooplets}
use Rattle.fin_perform.specs.Layouts.{variables_in, layout_with}
use Rattle.fin_perform.specs.Naming.{IsScope, AllBelow, AreIn}
use Rattle.fin_loops.specs.Loops.{Loop, bound_in}
use Rattle.fin_loops.specs.Sourced.{entry_code_of}
use Rattle.fin_loops.specs.Tops.{own_end, looplets_from, IsTop}

-- the names of the loop are good in the scope around it, and it binds variables of the program
pub record IsNamedLoop (l : Loop) (sc : Scope) (next : ℕ) : Type 0 where
  pub scope : IsScope l.checked sc next
  pub bound : AllBelow (variables_in l.checked) (bound_in l)
  pub named : are_named l.body (within_loop sc l.var) ≡ true

-- each local and tensor that the nest names is in the layout
pub record IsNamedTop (layout : Layout) (top : Nest) : Type 0 where
  pub var : has_local layout top.var ≡ true
  pub lo : is_named_in layout top.lo ≡ true
  pub hi : is_named_in layout top.hi ≡ true
  pub looplets : AllNamedLooplets layout (all_looplets top)

-- with so many locals
pub record NamesEntry (l : Loop) (next room : ℕ) : Type 0 where
  pub codes : (par : Bool) → AreIn l.checked room (entry_code_of l par next)
  pub looplets : AllNamedLooplets (layout_with l.checked room) (looplets_from l next)
  pub nest : (top : Nest) → IsTop l next top → top.next ≤ room → IsNamedTop (layout_with l.checked room) top

-- where there is room for the entry
abbrev pub TopsAreNamed : Type 0
TopsAreNamed = (l : Loop) (sc : Scope) (next room : ℕ) → IsNamedLoop l sc next → own_end l next ≤ room
    → NamesEntry l next room
