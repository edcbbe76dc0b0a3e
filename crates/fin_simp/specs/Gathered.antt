-- What is left of a statement, as it is gathered: the same as in Rest.antt, over the records of the code.
use Rattle.std.specs.Prelude.{ℕ, ℤ, pos, Bool, if◌then◌else◌, List, [], ◌∷◌, ◌++◌, map, Option, Some, None}
use Rattle.std.specs.Ordering.{int_eq}
use Rattle.fin_base.specs.declared.terms.Op.{Op}
use Rattle.fin_ast.specs.declared.tree.Index.{Index}
use Rattle.fin_ast.specs.declared.tree.Expr.{Expr}
use Rattle.fin_ast.specs.declared.tree.Stmt.{Stmt}
use Rattle.fin_simp.specs.declared.expr_rest.Access.{Access}
use Rattle.fin_simp.specs.declared.rest.Test.{Test}
use Rattle.fin_simp.specs.declared.rest.Kind.{Kind}
use Rattle.fin_simp.specs.declared.rest.Kind.TheVariants.{Nothing, OneUpdate, Other}
use Rattle.fin_simp.specs.declared.expr_rest.ExprRest.{ExprRest}
use Rattle.fin_simp.specs.declared.rest.Rest.{Rest}
use Rattle.fin_simp.specs.Numbered.{Here, behind, behind_test, numbered_all}
use Rattle.fin_simp.specs.Left.{Marks, binding, as_expr, left_of}
use Rattle.fin_simp.specs.Remaining.{joined_literal}
use Rattle.fin_simp.specs.Rest as told

-- ---- what the records say

abbrev pub as_access : Access → told.Access
as_access a = record { read = a.read; tensor = a.tensor; at = a.at }

abbrev pub as_test : Test → told.Test
as_test t = record { test = t.test; expr = t.expr }

abbrev pub as_kind : Kind → told.Kind
as_kind Nothing = told.Nothing
as_kind OneUpdate = told.OneUpdate
as_kind Other = told.Other

abbrev pub as_expr_rest : ExprRest → told.ExprRest
as_expr_rest e = record { literal = e.literal; reads = map as_access e.reads; vars = e.vars }

abbrev pub as_rest : Rest → told.Rest
as_rest r = record { kind = as_kind r.kind; reads = map as_access r.reads; vars = r.vars; tests = map as_test r.tests; changed = r.changed; targets = r.targets }

-- what is left of a body
abbrev pub rest_of_all : List Stmt → Here → Marks → told.Rest
rest_of_all body h m = told.all_rest (numbered_all (Marks → told.Rest) told.rest_step body h) m

-- what is left of a loop, an `if` and a `let` around a body
abbrev pub loop_told : ℕ → List Stmt → Here → Marks → told.Rest
loop_told var body h m = told.within told.no_expr [] (rest_of_all body h (binding m var None))

abbrev pub test_told : Expr → Here → Marks → told.Test
test_told test h m = record { test = h.test; expr = as_expr (left_of test h.read m) }

abbrev pub cond_told : Expr → List Stmt → Here → Marks → told.Rest
cond_told test body h m = told.chosen_rest (told.test_rest test h m) (told.expr_rest test h.read m) (test_told test h m) (rest_of_all body (behind_test test h) m)

abbrev pub let_told : ℕ → List Stmt → Here → Marks → told.ExprRest → told.Rest
let_told var body h m value = told.let_rest value.literal value (rest_of_all body h (binding m var value.literal))

abbrev pub bind_told : ℕ → Expr → List Stmt → Here → Marks → told.Rest
bind_told var value body h m = let_told var body (behind value h) m (told.expr_rest value h.read m)

-- ---- expressions

abbrev pub known_rest : ℤ → ExprRest
known_rest n = record { literal = Some n; reads = []; vars = [] }

abbrev pub open_rest : List Access → List ℕ → ExprRest
open_rest reads vars = record { literal = None; reads = reads; vars = vars }

abbrev pub access_with : ℕ → ℕ → List Index → Access
access_with read tensor at = record { read = read; tensor = tensor; at = at }

abbrev pub rest_or : Option ℤ → ExprRest → ExprRest
rest_or None r = r
rest_or (Some n) r = known_rest n

abbrev pub both : Op → ExprRest → ExprRest → ExprRest
both o a b = rest_or (joined_literal o a.literal b.literal) (open_rest (a.reads ++ b.reads) (a.vars ++ b.vars))

-- ---- statements

abbrev pub nothing : Rest
nothing = record { kind = Nothing; reads = []; vars = []; tests = []; changed = []; targets = [] }

abbrev pub kinds : Kind → Kind → Kind
kinds Nothing k = k
kinds OneUpdate Nothing = OneUpdate
kinds OneUpdate OneUpdate = Other
kinds OneUpdate Other = Other
kinds Other k = Other

abbrev pub beside : Rest → Rest → Rest
beside a b = record { kind = kinds a.kind b.kind; reads = a.reads ++ b.reads; vars = a.vars ++ b.vars; tests = a.tests ++ b.tests; changed = a.changed ++ b.changed; targets = a.targets ++ b.targets }

abbrev pub changing : ℕ → Rest
changing tensor = record { kind = Other; reads = []; vars = []; tests = []; changed = tensor ∷ []; targets = [] }

abbrev pub joined_rest : ExprRest → List Test → Rest → Rest
joined_rest e tests body = record { kind = Other; reads = e.reads ++ body.reads; vars = e.vars ++ body.vars; tests = tests ++ body.tests; changed = body.changed; targets = body.targets }

abbrev pub within_kind : Kind → ExprRest → List Test → Rest → Rest
within_kind Nothing e tests body = nothing
within_kind OneUpdate e tests body = joined_rest e tests body
within_kind Other e tests body = joined_rest e tests body

abbrev pub within : ExprRest → List Test → Rest → Rest
within e tests body = within_kind body.kind e tests body

abbrev pub no_expr : ExprRest
no_expr = open_rest [] []

abbrev pub updating_rest : ℕ → List Index → Bool → ExprRest → Rest
updating_rest tensor at is_identity e = if is_identity then nothing else record { kind = OneUpdate; reads = e.reads; vars = e.vars; tests = []; changed = tensor ∷ []; targets = at }

abbrev pub chosen_rest : Option ℤ → ExprRest → Test → Rest → Rest
chosen_rest (Some n) e test body = if int_eq n (pos 0) then nothing else body
chosen_rest None e test body = within e (test ∷ []) body

abbrev pub let_rest : Option ℤ → ExprRest → Rest → Rest
let_rest (Some n) e body = body
let_rest None e body = within e [] body

-- ---- statements as they are written

abbrev pub test_with : ℕ → Expr → Test
test_with number e = record { test = number; expr = e }

abbrev pub written_with : List Access → List Test → List ℕ → Rest
written_with reads tests changed = record { kind = Other; reads = reads; vars = []; tests = tests; changed = changed; targets = [] }

abbrev pub written_of_all : List Stmt → Here → told.Rest
written_of_all body h = told.all_written (numbered_all told.Rest told.written_step body h)

-- an `if` and a `let` around a body
abbrev pub cond_written : Expr → List Stmt → Here → told.Rest
cond_written test body h = told.beside (told.written_with (told.reads_of test h.read) (record { test = h.test; expr = test } ∷ []) []) (written_of_all body (behind_test test h))

abbrev pub bind_written : Expr → List Stmt → Here → told.Rest
bind_written value body h = told.beside (told.written_with (told.reads_of value h.read) [] []) (written_of_all body (behind value h))
