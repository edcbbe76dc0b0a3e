-- The update statement of a program, as the update that a body is at each coordinate.
use Rattle.std.specs.Prelude.{◌≡◌, ◌+◌, List, [], map, Bool, true, false, if◌then◌else◌, ℕ, ℤ}
use Rattle.fin_ast.specs.declared.tree.Expr.{Expr}
use Rattle.fin_ast.specs.declared.tree.Index.{Index}
use Rattle.fin_ast.specs.Value.{Numbers, place, value_of}
use Rattle.fin_ast.specs.Actions.{Update}
use Rattle.fin_ast.specs.Dense.{shape_at}
use Rattle.fin_ir.specs.declared.layout.Layout.{Layout}
use Rattle.fin_ir.specs.Machine.{Machine}
use Rattle.fin_ir.specs.Value.{value_in}
use Rattle.fin_stage.specs.Staged.{Run, regular, tensors_of, can_read, has_small_indices, are_small, leaf}
use Rattle.fin_looplet.specs.View.{Store}
use Rattle.fin_looplet.specs.Lists.{seens}
use Rattle.fin_nest.specs.Related.{Start, Live}
use Rattle.fin_nest.specs.Nests.{Nest, views_of, Fits}
use Rattle.fin_style_point.specs.declared.changing.Change.{Change}
use Rattle.fin_style_point.specs.Changes.{is_bitwise, Worded, behind, Prepared, IsUpdate}

-- what a statement leaves, with the work of a piece, which its first coordinate bears, in place of its own
abbrev pub shared : Bool → Run → Run → Run
shared begins before r = record r { work = before.work + (if begins then 2 else 0) }

-- The body is the statement, whose coordinates and value the change's expressions have in a machine that does what the
-- run does, behind the codes before the update, where no number in an index is too large.
pub record IsStatement (layout : Layout) (s : Start) (n : Nest Run) (shape : List ℕ) (c : Change) (at : List Index)
    (e : Expr) (vars : Numbers) : Type 0 where
  pub shape_is : shape ≡ shape_at s.setting c.tensor
  pub loose : n.steady c.tensor ≡ false
  pub body : (ts : Store) (m : Machine) → Fits layout ts m n → (begins : Bool) (i : ℤ) (r : Run)
      → n.body (seens (views_of ts m.locals n i)) begins i r
      ≡ shared begins r (leaf s.setting (Update c.tensor at c.by e) vars r)
  pub prepared : (ts : Store) (m : Machine) → Fits layout ts m n → Prepared layout n c.before m
  pub places : (ts : Store) (m : Machine) (fits : Fits layout ts m n) (r : Run) → Live s [] r m
      → are_small vars at ≡ true
      → map (value_in (behind m (prepared ts m fits).locals)) c.at ≡ map (place vars) at
  pub sees : (ts : Store) (m : Machine) (fits : Fits layout ts m n) (r : Run) → Live s [] r m
      → can_read e (tensors_of s.setting r) ≡ true → has_small_indices e vars ≡ true
      → value_in (behind m (prepared ts m fits).locals) c.value ≡ value_of e vars (tensors_of s.setting r)
  pub words : is_bitwise c.by ≡ true → (ts : Store) (m : Machine) (fits : Fits layout ts m n) (r : Run) → Live s [] r m
      → regular (leaf s.setting (Update c.tensor at c.by e) vars r) ≡ true
      → Worded r (behind m (prepared ts m fits).locals) c

-- such a body is that update
abbrev pub StatementsAreUpdates : Type 0
StatementsAreUpdates = (layout : Layout) (s : Start) (n : Nest Run) (shape : List ℕ) (c : Change) (at : List Index)
    (e : Expr) (vars : Numbers) → IsStatement layout s n shape c at e vars → IsUpdate layout s n shape c
