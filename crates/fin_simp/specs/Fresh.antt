-- The tensors that statements declare, anywhere in them as they are written.
use Rattle.std.specs.Prelude.{ℕ, List, [], ◌∷◌, map}
use Rattle.std.specs.List.{concat}
use Rattle.fin_ast.specs.declared.tree.Stmt.{Stmt, fold-Stmt}
use Rattle.fin_ast.specs.declared.tree.Stmt.TheOpen.{Stmt-F}

abbrev pub fresh_step : Stmt-F (List ℕ) → List ℕ
fresh_step (Stmt-F.Block body line last) = concat body
fresh_step (Stmt-F.Loop var range par body line last) = concat body
fresh_step (Stmt-F.Cond test body line last) = concat body
fresh_step (Stmt-F.Bind var value body line last) = concat body
fresh_step (Stmt-F.Declare tensor value line) = tensor ∷ []
fresh_step (Stmt-F.Freeze tensor line) = []
fresh_step (Stmt-F.Thaw tensor line) = []
fresh_step (Stmt-F.Update tensor at by value line) = []

abbrev pub fresh_of : Stmt → List ℕ
fresh_of = fold-Stmt (List ℕ) fresh_step

abbrev pub fresh_in : List Stmt → List ℕ
fresh_in body = concat (map fresh_of body)
