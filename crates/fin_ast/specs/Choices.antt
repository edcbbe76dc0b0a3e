-- B3: a loop that stands in no other loop holds at most 8 choices.
use Rattle.std.specs.Prelude.{ℕ, ◌+◌, not, ◌&&◌, nat_lt, List, [], ◌∷◌, map, Option, Some, None, slice_get, if◌then◌else◌}
use Rattle.std.specs.Option.{option_or}
use Rattle.fin_base.specs.declared.refusal.Rule.TheVariants.{B3}
use Rattle.fin_base.specs.declared.refusal.Refusal.{Refusal}
use Rattle.fin_tensor.specs.declared.format.Level.{Level}
use Rattle.fin_tensor.specs.Placement.{is_dense}
use Rattle.fin_ast.specs.declared.header.Header.{Header}
use Rattle.fin_ast.specs.declared.tree.Index.{Index}
use Rattle.fin_ast.specs.declared.tree.Expr.{Expr, fold-Expr}
use Rattle.fin_ast.specs.declared.tree.Expr.TheOpen.{Expr-F}
use Rattle.fin_ast.specs.declared.tree.Stmt.{Stmt, fold-Stmt}
use Rattle.fin_ast.specs.declared.tree.Stmt.TheOpen.{Stmt-F}
use Rattle.fin_ast.specs.Sizes.{broken}

-- the choices up to the end of a part, from those before it; they are counted up to 9
abbrev pub Counting : Type 0
Counting = ℕ → ℕ

abbrev pub one_more : Counting
one_more n = if nat_lt n 9 then n + 1 else n

-- an index is a choice where its level isn't dense or it may leave the extent
abbrev pub choice_at : Level → Index → Counting
choice_at l i n = if is_dense l && not i.loose then n else one_more n

abbrev pub choices_at : List Level → List Index → Counting
choices_at (l ∷ ls) (i ∷ is) n = choices_at ls is (choice_at l i n)
choices_at _ _ n = n

abbrev pub levels_of : Option Header → List Level
levels_of None = []
levels_of (Some h) = h.format.levels

abbrev pub expr_choices : List Header → Expr-F Counting → Counting
expr_choices headers (Expr-F.Num value) n = n
expr_choices headers (Expr-F.Var var line) n = n
expr_choices headers (Expr-F.Read tensor at line) n = choices_at (levels_of (slice_get headers tensor)) at n
expr_choices headers (Expr-F.Neg inner) n = inner n
expr_choices headers (Expr-F.Two op left right) n = right (left n)

abbrev pub choices_of_expr : List Header → Expr → Counting
choices_of_expr headers = fold-Expr Counting (expr_choices headers)

-- the choices of a statement, and the first loop in it that stands in no other loop of it and holds too many
pub record Crowd : Type 0 where
  pub choices : Counting
  pub first : Option Refusal

abbrev pub choices_in : List Crowd → Counting
choices_in [] n = n
choices_in (c ∷ cs) n = choices_in cs (c.choices n)

abbrev pub first_in : List Crowd → Option Refusal
first_in [] = None
first_in (c ∷ cs) = option_or c.first (first_in cs)

abbrev pub stmt_crowd : List Header → Stmt-F Crowd → Crowd
stmt_crowd headers (Stmt-F.Block body line last) = record { choices = choices_in body; first = first_in body }
stmt_crowd headers (Stmt-F.Loop var range par body line last) = record { choices = choices_in body; first = broken (nat_lt 8 (choices_in body 0)) B3 line }
stmt_crowd headers (Stmt-F.Cond test body line last) = record { choices = λ n. choices_in body (choices_of_expr headers test (one_more n)); first = first_in body }
stmt_crowd headers (Stmt-F.Bind var value body line last) = record { choices = λ n. choices_in body (choices_of_expr headers value n); first = first_in body }
stmt_crowd headers (Stmt-F.Declare tensor value line) = record { choices = λ n. n; first = None }
stmt_crowd headers (Stmt-F.Freeze tensor line) = record { choices = λ n. n; first = None }
stmt_crowd headers (Stmt-F.Thaw tensor line) = record { choices = λ n. n; first = None }
stmt_crowd headers (Stmt-F.Update tensor at by value line) = record { choices = choices_of_expr headers value; first = None }

abbrev pub crowd_of : List Header → Stmt → Crowd
crowd_of headers = fold-Stmt Crowd (stmt_crowd headers)

abbrev pub crowds_of : List Header → List Stmt → List Crowd
crowds_of headers ss = map (crowd_of headers) ss
