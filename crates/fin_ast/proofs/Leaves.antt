-- The parts of a statement: whether one of them is of a kind.
use Rattle.std.proofs.Common.{Bool, false, ◌||◌, List, [], ◌∷◌, map}
use Rattle.fin_ast.specs.declared.tree.Expr.{Expr}
use Rattle.fin_ast.specs.declared.tree.Stmt.{Stmt, fold-Stmt}
use Rattle.fin_ast.specs.declared.tree.Stmt.TheOpen.{Stmt-F}
use Rattle.fin_ast.specs.Actions.{Leaf, Declare, Freeze, Thaw, Update}

abbrev pub any_of : List Bool → Bool
any_of [] = false
any_of (b ∷ bs) = b || any_of bs

-- of tests, lets and leaves
abbrev pub part_step : (Expr → Bool) → (Leaf → Bool) → Stmt-F Bool → Bool
part_step odd is (Stmt-F.Block body line last) = any_of body
part_step odd is (Stmt-F.Loop var range par body line last) = any_of body
part_step odd is (Stmt-F.Cond test body line last) = odd test || any_of body
part_step odd is (Stmt-F.Bind var value body line last) = odd value || any_of body
part_step odd is (Stmt-F.Declare tensor value line) = is (Declare tensor)
part_step odd is (Stmt-F.Freeze tensor line) = is (Freeze tensor)
part_step odd is (Stmt-F.Thaw tensor line) = is (Thaw tensor)
part_step odd is (Stmt-F.Update tensor at by value line) = is (Update tensor at by value)

abbrev pub has_part : (Expr → Bool) → (Leaf → Bool) → Stmt → Bool
has_part odd is = fold-Stmt Bool (part_step odd is)

abbrev pub have_part : (Expr → Bool) → (Leaf → Bool) → List Stmt → Bool
have_part odd is body = any_of (map (has_part odd is) body)

-- no test and no let
abbrev pub neither : Expr → Bool
neither e = false

abbrev pub leaf_step : (Leaf → Bool) → Stmt-F Bool → Bool
leaf_step = part_step neither

-- the statement is such a leaf, or one stands in its bodies
abbrev pub has_leaf : (Leaf → Bool) → Stmt → Bool
has_leaf = has_part neither

abbrev pub have_leaf : (Leaf → Bool) → List Stmt → Bool
have_leaf = have_part neither
