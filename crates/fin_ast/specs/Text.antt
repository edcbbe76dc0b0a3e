-- The text of a program: what the rules on modes and order look at, in its order.
use Rattle.std.specs.Prelude.{ℕ, List, [], ◌∷◌, map, Option, Some, None}
use Rattle.fin_ast.specs.declared.tree.Index.{Index}
use Rattle.fin_ast.specs.declared.tree.Expr.{Expr, fold-Expr}
use Rattle.fin_ast.specs.declared.tree.Expr.TheOpen.{Expr-F}
use Rattle.fin_ast.specs.declared.tree.Stmt.{Stmt, fold-Stmt}
use Rattle.fin_ast.specs.declared.tree.Stmt.TheOpen.{Stmt-F}

-- a mark of the text: the beginning of a body, with the variable of its loop where it is a loop's, and its end; or what
-- is done with a tensor. Last comes the line
pub data Mark : Type 0 where
  Opens : Option ℕ → Mark
  Closes : ℕ → Mark
  Reads : ℕ → ℕ → Mark
  Updates : ℕ → List Index → ℕ → Mark
  Declares : ℕ → ℕ → Mark
  Freezes : ℕ → ℕ → Mark
  Thaws : ℕ → ℕ → Mark

-- the text before a place, read backwards: the nearest mark comes first
abbrev pub Text : Type 0
Text = List Mark

-- the text up to the end of a part, from that before it
abbrev pub Writing : Type 0
Writing = Text → Text

abbrev pub expr_text : Expr-F Writing → Writing
expr_text (Expr-F.Num n) before = before
expr_text (Expr-F.Var var line) before = before
expr_text (Expr-F.Read tensor at line) before = Reads tensor line ∷ before
expr_text (Expr-F.Neg inner) before = inner before
expr_text (Expr-F.Two op left right) before = right (left before)

abbrev pub text_of_expr : Expr → Writing
text_of_expr = fold-Expr Writing expr_text

abbrev pub in_a_row : List Writing → Writing
in_a_row [] before = before
in_a_row (part ∷ rest) before = in_a_row rest (part before)

abbrev pub body_text : Option ℕ → List Writing → ℕ → Writing
body_text var body last before = Closes last ∷ in_a_row body (Opens var ∷ before)

-- an update looks at its target before its reads
abbrev pub stmt_text : Stmt-F Writing → Writing
stmt_text (Stmt-F.Block body line last) before = body_text None body last before
stmt_text (Stmt-F.Loop var range par body line last) before = body_text (Some var) body last before
stmt_text (Stmt-F.Cond test body line last) before = body_text None body last (text_of_expr test before)
stmt_text (Stmt-F.Bind var value body line last) before = body_text None body last (text_of_expr value before)
stmt_text (Stmt-F.Declare tensor value line) before = Declares tensor line ∷ before
stmt_text (Stmt-F.Freeze tensor line) before = Freezes tensor line ∷ before
stmt_text (Stmt-F.Thaw tensor line) before = Thaws tensor line ∷ before
stmt_text (Stmt-F.Update tensor at by value line) before = text_of_expr value (Updates tensor at line ∷ before)

abbrev pub text_of : Stmt → Writing
text_of = fold-Stmt Writing stmt_text

-- the text of statements, one after another
abbrev pub text_of_all : List Stmt → Writing
text_of_all ss = in_a_row (map text_of ss)
