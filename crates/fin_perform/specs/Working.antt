-- What a statement does to a run, by pieces: outside all loops, or where something is known.
use Rattle.std.specs.Prelude.{Bool, false, List, map, Option, Some, None, ℤ}
use Rattle.fin_ast.specs.declared.tree.Expr.{Expr}
use Rattle.fin_ast.specs.declared.tree.Stmt.{Stmt}
use Rattle.fin_ast.specs.Actions.{in_turn}
use Rattle.fin_ast.specs.Value.{Numbers}
use Rattle.fin_stage.specs.Staged.{Run}
use Rattle.fin_simp.specs.Numbered.{Here, numbered}
use Rattle.fin_simp.specs.Remaining.{is_nothing}
use Rattle.fin_simp.specs.Rest.{expr_rest, test_rest}
use Rattle.fin_simp.specs.Work.{World, Worked, Context, work_step, all_of, literal_in}
use Rattle.fin_simp.specs.Moving.{worked_all}

abbrev pub worked_at : World → Stmt → Here → Worked
worked_at w = numbered Worked (work_step w)

-- of the statement whose first read and test have these numbers
abbrev pub run_of : World → Stmt → Here → Context → Numbers → Run → Run
run_of w x h ctx vars r = (worked_at w x h).run ctx vars r

-- of the statements of a body, one after another
abbrev pub turns_of : World → List Stmt → Here → Context → Numbers → Run → Run
turns_of w xs h ctx vars r = in_turn (map (λ (z : Worked). z.run ctx) (worked_all w xs h)) vars r

-- and of the body, at whose end is gone what was declared in it
abbrev pub body_of : World → List Stmt → Here → Context → Numbers → Run → Run
body_of w xs h ctx vars r = all_of (worked_all w xs h) ctx vars r

-- ---- what is decided by what is known; outside all loops nothing is

-- nothing is left of the statement
abbrev pub nothing_in : Stmt → Here → Context → Bool
nothing_in x h None = false
nothing_in x h (Some m) = is_nothing x h m

-- the literal that is left of an expression, and of a test, which may be known itself
abbrev pub literal_at : Expr → Here → Context → Option ℤ
literal_at e h ctx = literal_in ctx (λ m. (expr_rest e h.read m).literal)

abbrev pub test_at : Expr → Here → Context → Option ℤ
test_at e h ctx = literal_in ctx (test_rest e h)
