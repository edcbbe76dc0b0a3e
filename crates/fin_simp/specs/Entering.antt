-- A loop of a program is entered in a regular run only where each tensor that what is left of its body reads, and doesn't
-- change, can be read, and, where it is parallel, none that its body declares is there.
use Rattle.std.specs.Prelude.{◌≡◌, ℕ, Bool, true, List, Option, None}
use Rattle.fin_ast.specs.declared.tree.Stmt.{Stmt}
use Rattle.fin_ast.specs.declared.tree.Stmt.TheOpen.{Stmt-F}
use Rattle.fin_ast.specs.Value.{Numbers}
use Rattle.fin_stage.specs.Staged.{Run, regular}
use Rattle.fin_simp.specs.Numbered.{Here}
use Rattle.fin_simp.specs.Work.{World, Context, all_fresh, rests_in, can_be_entered, inside, done}
use Rattle.fin_simp.specs.Moving.{worked_all}

abbrev pub LoopsAreEnterable : Type 0
LoopsAreEnterable = (w : World) (h : Here) (ctx : Context) (var : ℕ) (range : Option (ℕ × ℕ)) (par : Bool) (body : List Stmt) (line last : ℕ) (vars : Numbers) (r : Run)
    → regular (done w h (Stmt-F.Loop var range par (worked_all w body h) line last) ctx vars r) ≡ true
    → can_be_entered w par (all_fresh (worked_all w body h)) (rests_in (inside ctx var None) (worked_all w body h)) r ≡ true
