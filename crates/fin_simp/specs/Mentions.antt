-- The reads in a text, in its order: each by its tensor and its indices.
use Rattle.std.specs.Prelude.{ℕ, List, [], ◌∷◌, ◌++◌, map}
use Rattle.fin_ast.specs.declared.tree.Index.{Index}
use Rattle.fin_ast.specs.declared.tree.Expr.{Expr, fold-Expr}
use Rattle.fin_ast.specs.declared.tree.Expr.TheOpen.{Expr-F}
use Rattle.fin_ast.specs.declared.tree.Stmt.{Stmt, fold-Stmt}
use Rattle.fin_ast.specs.declared.tree.Stmt.TheOpen.{Stmt-F}

abbrev pub Mention : Type 0
Mention = ℕ × List Index

abbrev pub in_expr_step : Expr-F (List Mention) → List Mention
in_expr_step (Expr-F.Num n) = []
in_expr_step (Expr-F.Var var line) = []
in_expr_step (Expr-F.Read tensor at line) = (tensor, at) ∷ []
in_expr_step (Expr-F.Neg inner) = inner
in_expr_step (Expr-F.Two o left right) = left ++ right

abbrev pub in_expr : Expr → List Mention
in_expr = fold-Expr (List Mention) in_expr_step

abbrev pub one_by_one : List (List Mention) → List Mention
one_by_one [] = []
one_by_one (ms ∷ rest) = ms ++ one_by_one rest

abbrev pub in_stmt_step : Stmt-F (List Mention) → List Mention
in_stmt_step (Stmt-F.Block body line last) = one_by_one body
in_stmt_step (Stmt-F.Loop var range par body line last) = one_by_one body
in_stmt_step (Stmt-F.Cond test body line last) = in_expr test ++ one_by_one body
in_stmt_step (Stmt-F.Bind var value body line last) = in_expr value ++ one_by_one body
in_stmt_step (Stmt-F.Declare tensor value line) = []
in_stmt_step (Stmt-F.Freeze tensor line) = []
in_stmt_step (Stmt-F.Thaw tensor line) = []
in_stmt_step (Stmt-F.Update tensor at by value line) = in_expr value

abbrev pub in_stmt : Stmt → List Mention
in_stmt = fold-Stmt (List Mention) in_stmt_step

abbrev pub in_body : List Stmt → List Mention
in_body body = one_by_one (map in_stmt body)
