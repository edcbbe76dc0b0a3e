-- The variables that loops and lets bind, in the order of the text.
use Rattle.std.specs.Prelude.{ℕ, ◌+◌, Bool, true, ◌&&◌, ◌==◌, List, [], ◌∷◌, map}
use Rattle.std.specs.List.{concat}
use Rattle.fin_ast.specs.declared.tree.Stmt.{Stmt, fold-Stmt}
use Rattle.fin_ast.specs.declared.tree.Stmt.TheOpen.{Stmt-F}

abbrev pub bindings_step : Stmt-F (List ℕ) → List ℕ
bindings_step (Stmt-F.Block body line last) = concat body
bindings_step (Stmt-F.Loop var range par body line last) = var ∷ concat body
bindings_step (Stmt-F.Cond test body line last) = concat body
bindings_step (Stmt-F.Bind var value body line last) = var ∷ concat body
bindings_step _ = []

abbrev pub bindings_of : Stmt → List ℕ
bindings_of = fold-Stmt (List ℕ) bindings_step

abbrev pub bindings_of_all : List Stmt → List ℕ
bindings_of_all ss = concat (map bindings_of ss)

-- the numbers are n, n + 1, and so on
abbrev pub counts_from : ℕ → List ℕ → Bool
counts_from n [] = true
counts_from n (v ∷ vs) = v == n && counts_from (n + 1) vs
