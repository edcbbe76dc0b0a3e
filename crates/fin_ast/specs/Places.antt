-- The loops, the lets and the indices of a program, in the order of its text.
use Rattle.std.specs.Prelude.{ℕ, ◌+◌, ◌*◌, List, [], ◌∷◌, ◌++◌, map}
use Rattle.fin_ast.specs.declared.place.Place.{Place}
use Rattle.fin_ast.specs.declared.place.Place.TheVariants.{Loop, Let, Use}
use Rattle.fin_ast.specs.declared.tree.Index.{Index}
use Rattle.fin_ast.specs.declared.tree.Expr.{Expr, fold-Expr}
use Rattle.fin_ast.specs.declared.tree.Expr.TheOpen.{Expr-F}
use Rattle.fin_ast.specs.declared.tree.Stmt.{Stmt, fold-Stmt}
use Rattle.fin_ast.specs.declared.tree.Stmt.TheOpen.{Stmt-F}

-- the places up to the end of a part, from those before it
abbrev pub Gathering : Type 0
Gathering = List Place → List Place

abbrev pub in_turn : List Gathering → Gathering
in_turn [] before = before
in_turn (part ∷ rest) before = in_turn rest (part before)

-- the indices of an access, from a dimension on
abbrev pub uses_of : ℕ → ℕ → List Index → Gathering
uses_of line dimension [] before = before
uses_of line dimension (i ∷ is) before = uses_of line (dimension + 1) is (before ++ Use dimension i line ∷ [])

abbrev pub expr_places : Expr-F Gathering → Gathering
expr_places (Expr-F.Num n) before = before
expr_places (Expr-F.Var var line) before = before
expr_places (Expr-F.Read tensor at line) before = uses_of line (8 * tensor) at before
expr_places (Expr-F.Neg inner) before = inner before
expr_places (Expr-F.Two op left right) before = right (left before)

abbrev pub places_of_expr : Expr → Gathering
places_of_expr = fold-Expr Gathering expr_places

abbrev pub stmt_places : Stmt-F Gathering → Gathering
stmt_places (Stmt-F.Block body line last) before = in_turn body before
stmt_places (Stmt-F.Loop var range par body line last) before = in_turn body (before ++ Loop var range line ∷ [])
stmt_places (Stmt-F.Cond test body line last) before = in_turn body (places_of_expr test before)
stmt_places (Stmt-F.Bind var value body line last) before = in_turn body (places_of_expr value (before ++ Let ∷ []))
stmt_places (Stmt-F.Declare tensor value line) before = before
stmt_places (Stmt-F.Freeze tensor line) before = before
stmt_places (Stmt-F.Thaw tensor line) before = before
stmt_places (Stmt-F.Update tensor at by value line) before = places_of_expr value (uses_of line (8 * tensor) at before)

abbrev pub places_of : Stmt → Gathering
places_of = fold-Stmt Gathering stmt_places

-- the places of statements
abbrev pub places_of_all : List Stmt → Gathering
places_of_all ss = in_turn (map places_of ss)
