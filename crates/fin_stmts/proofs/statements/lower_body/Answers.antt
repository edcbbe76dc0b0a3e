-- The codes of a program's body, which has what is asked of it.
use Rattle.std.proofs.Common.{◌≡◌, ℕ, List, None, subst}
use Rattle.std.proofs.lemmas.Result.{IfOk-weaker}
use Rattle.fin_ast.specs.declared.checked.Checked.{Checked}
use Rattle.fin_ast.specs.declared.tree.Stmt.{Stmt}
use Rattle.fin_simp.specs.Numbered.{outset}
use Rattle.fin_perform.specs.Layouts.{variables_in}
use Rattle.fin_perform.specs.Meanings.{turns_deed}
use Rattle.fin_perform.proofs.NamingPrograms.{programs_are_named}
use Rattle.fin_loops.specs.Sources.{ProgramsAreSources}
use Rattle.fin_stmts.specs.declared.place.Codes.{Codes}
use Rattle.fin_stmts.specs.Lowering.{HasSource, Lowers}
use Rattle.fin_stmts.specs.Programs.{LowersBody}
use Rattle.fin_stmts.proofs.statements.lower_body.Goals as goal

body_lowers : ProgramsAreSources → (c : Checked) (next : ℕ) (xs : List Stmt) (m : Codes) (own : List ℕ) → next ≡ variables_in c → xs ≡ c.program.body
    → Lowers (HasSource c xs outset) c next m (turns_deed xs outset None) own → LowersBody c m
body_lowers sources c next xs m own first same low =
    let body = c.program.body in
    let behind : Lowers (HasSource c xs outset) c (variables_in c) m (turns_deed xs outset None) own =
    subst (λ (n : ℕ). Lowers (HasSource c xs outset) c n m (turns_deed xs outset None) own) first low in
    let whole : Lowers (HasSource c body outset) c (variables_in c) m (turns_deed body outset None) own =
    subst (λ (ys : List Stmt). Lowers (HasSource c ys outset) c (variables_in c) m (turns_deed ys outset None) own) same behind in
    record { means = λ accepted. whole.means (0, sources c accepted); named = λ accepted. programs_are_named c m.room m.codes accepted whole.names; room = whole.room }

pub returns : goal.returns
returns c = IfOk-weaker c.lower_all.result _ _ (λ m low. body_lowers c.programs_are_sources.ensures c.args.checked.now _ _ m _ c.len-variables.ensures c.as_slice.ensures low) c.lower_all.ensures
