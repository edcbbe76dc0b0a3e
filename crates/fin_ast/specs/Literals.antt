-- Literals that are words.
use Rattle.std.specs.Prelude.{ℤ, pos, negsuc, int_le, Bool, true, ◌&&◌, List, map}
use Rattle.std.specs.List.{list_all}
use Rattle.fin_ast.specs.declared.tree.Expr.{Expr, fold-Expr}
use Rattle.fin_ast.specs.declared.tree.Expr.TheOpen.{Expr-F}
use Rattle.fin_ast.specs.declared.tree.Stmt.{Stmt, fold-Stmt}
use Rattle.fin_ast.specs.declared.tree.Stmt.TheOpen.{Stmt-F}

abbrev pub is_word : ℤ → Bool
is_word n = int_le (negsuc 9223372036854775807) n && int_le n (pos 9223372036854775807)

abbrev pub worded_step : Expr-F Bool → Bool
worded_step (Expr-F.Num n) = is_word n
worded_step (Expr-F.Var var line) = true
worded_step (Expr-F.Read tensor at line) = true
worded_step (Expr-F.Neg inner) = inner
worded_step (Expr-F.Two op left right) = left && right

-- the literals of an expression are words
abbrev pub is_worded : Expr → Bool
is_worded = fold-Expr Bool worded_step

abbrev pub all_hold : List Bool → Bool
all_hold bs = list_all (λ b. b) bs

abbrev pub worded_stmt_step : Stmt-F Bool → Bool
worded_stmt_step (Stmt-F.Block body line last) = all_hold body
worded_stmt_step (Stmt-F.Loop var range par body line last) = all_hold body
worded_stmt_step (Stmt-F.Cond test body line last) = is_worded test && all_hold body
worded_stmt_step (Stmt-F.Bind var value body line last) = is_worded value && all_hold body
worded_stmt_step (Stmt-F.Declare tensor value line) = true
worded_stmt_step (Stmt-F.Freeze tensor line) = true
worded_stmt_step (Stmt-F.Thaw tensor line) = true
worded_stmt_step (Stmt-F.Update tensor at by value line) = is_worded value

-- the literals in the expressions of a statement are words
abbrev pub is_worded_stmt : Stmt → Bool
is_worded_stmt = fold-Stmt Bool worded_stmt_step

abbrev pub are_worded : List Stmt → Bool
are_worded body = all_hold (map is_worded_stmt body)
