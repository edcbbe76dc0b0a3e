-- The code of expressions: first each access leaves its value in a local of its own, then there is an expression of loop
-- code over these and the variables, each of which has the local of its number. A long chain of operators goes over
-- locals, so that no expression of loop code is deep.
use Rattle.std.specs.Prelude.{ℕ, ◌+◌, pos, List, [], ◌∷◌, ◌++◌, map, Bool, nat_lt, if◌then◌else◌, Option, Some, None, unwrap_or, option_map, slice_get, slice_index_or, ℤ}
use Rattle.std.specs.Ordering.{int_eq}
use Rattle.fin_base.specs.declared.terms.Op.{Op}
use Rattle.fin_base.specs.declared.terms.Op.TheVariants as op
use Rattle.fin_tensor.specs.declared.format.Format.{Format}
use Rattle.fin_tensor.specs.Levels.{AreSmall}
use Rattle.fin_ast.specs.declared.header.Header.{Header}
use Rattle.fin_ast.specs.declared.tree.Index.{Index}
use Rattle.fin_ast.specs.declared.tree.Expr.{Expr, fold-Expr}
use Rattle.fin_ast.specs.declared.tree.Expr.TheOpen.{Expr-F}
use Rattle.fin_ir.specs.declared.code.Code.{Code}
use Rattle.fin_ir.specs.declared.expression.IExpr.{IExpr}
use Rattle.fin_ir.specs.declared.expression.IExpr.TheVariants.{Num, Local, Neg, Two}
use Rattle.fin_tensor.specs.Building.{no_format}
use Rattle.fin_read.specs.Steps.{Step, assign_of}
use Rattle.fin_read.specs.Reads.{step_to, read_steps}

-- the headers of a program, and the shape of each tensor
pub record Heads : Type 0 where
  pub headers : List Header
  pub shapes : List (List ℕ)

abbrev pub heads_of : List Header → List (List ℕ) → Heads
heads_of headers shapes = record { headers = headers; shapes = shapes }

abbrev pub format_of : Heads → ℕ → Format
format_of h tensor = unwrap_or (option_map (λ (x : Header). x.format) (slice_get h.headers tensor)) no_format

abbrev pub shape_of : Heads → ℕ → List ℕ
shape_of h tensor = slice_index_or h.shapes tensor []

-- no extent is over 2^40
abbrev pub AreShapes : List (List ℕ) → Type 0
AreShapes shapes = (tensor : ℕ) → AreSmall (slice_index_or shapes tensor [])

-- the steps of the accesses, the expression over what they leave, how many of its nodes stand one in another along its
-- left side, and the first local that is free after them
pub record Lowered : Type 0 where
  pub steps : List Step
  pub value : IExpr
  pub depth : ℕ
  pub next : ℕ

-- the sum of an index, without what isn't there: most have one variable alone
abbrev pub vars_code : Option ℕ → Option ℕ → IExpr
vars_code None None = Num (pos 0)
vars_code None (Some var) = Local var
vars_code (Some var) None = Local var
vars_code (Some first) (Some second) = Two op.Add (Local first) (Local second)

abbrev pub moved_code : IExpr → ℤ → IExpr
moved_code sum offset = if int_eq offset (pos 0) then sum else Two op.Add sum (Num offset)

abbrev pub index_code : Index → IExpr
index_code i = moved_code (vars_code i.first i.second) i.offset

-- an access, whose value is left in a local
abbrev pub access_steps : Heads → ℕ → List Index → ℕ → List Step
access_steps h tensor at local = let f = format_of h tensor in read_steps tensor f.levels (shape_of h tensor) f.fill (map index_code at) local

-- how deep an expression may go along its left side
abbrev pub most_deep : ℕ
most_deep = 64

abbrev pub is_shallow : ℕ → Bool
is_shallow depth = nat_lt depth most_deep

-- a deep expression is set down in a local of its own, which stands in its place
abbrev pub rest_steps : Bool → IExpr → ℕ → List Step
rest_steps shallow value next = if shallow then [] else step_to next value ∷ []

abbrev pub rest_value : Bool → IExpr → ℕ → IExpr
rest_value shallow value next = if shallow then value else Local next

abbrev pub rest_depth : Bool → ℕ → ℕ
rest_depth shallow depth = if shallow then depth else 0

abbrev pub rest_next : Bool → ℕ → ℕ
rest_next shallow next = if shallow then next else next + 1

abbrev pub rested_where : Bool → Lowered → Lowered
rested_where shallow v = record {
  steps = v.steps ++ rest_steps shallow v.value v.next;
  value = rest_value shallow v.value v.next;
  depth = rest_depth shallow v.depth;
  next = rest_next shallow v.next;
}

abbrev pub rested : Lowered → Lowered
rested v = rested_where (is_shallow v.depth) v

abbrev pub opposite : Lowered → Lowered
opposite v = record { steps = v.steps; value = Neg v.value; depth = v.depth + 1; next = v.next }

abbrev pub two_after : Op → Lowered → Lowered → Lowered
two_after o a b = record { steps = a.steps ++ b.steps; value = Two o a.value b.value; depth = a.depth + 1; next = b.next }

-- one node, with the code of each part in its place, from the first free local on
abbrev pub lower_expr_step : Heads → Expr-F (ℕ → Lowered) → ℕ → Lowered
lower_expr_step h (Expr-F.Num n) next = record { steps = []; value = Num n; depth = 0; next = next }
lower_expr_step h (Expr-F.Var var line) next = record { steps = []; value = Local var; depth = 0; next = next }
lower_expr_step h (Expr-F.Read tensor at line) next = record { steps = access_steps h tensor at next; value = Local next; depth = 0; next = next + 1 }
lower_expr_step h (Expr-F.Neg inner) next = opposite (rested (inner next))
lower_expr_step h (Expr-F.Two o left right) next = let a = rested (left next) in two_after o a (right a.next)

abbrev pub value_code : Heads → Expr → ℕ → Lowered
value_code h = fold-Expr (ℕ → Lowered) (lower_expr_step h)

-- the code before the expression
abbrev pub prelude : Lowered → List Code
prelude v = map assign_of v.steps
