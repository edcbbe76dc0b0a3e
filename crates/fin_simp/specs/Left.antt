-- What simplification leaves of an expression, where some of its reads, some tests, and some variables are known.
use Rattle.std.specs.Prelude.{ℕ, ℤ, pos, negsuc, Bool, false, if◌then◌else◌, nat_eq, Option, Some, None}
use Rattle.std.specs.Ordering.{int_eq}
use Rattle.fin_base.specs.Words.{operate, negated}
use Rattle.fin_base.specs.declared.terms.Op.{Op}
use Rattle.fin_base.specs.declared.terms.Op.TheVariants as op
use Rattle.fin_ast.specs.declared.tree.Expr.{Expr}
use Rattle.fin_ast.specs.declared.tree.Expr.TheOpen.{Expr-F}
use Rattle.fin_ast.specs.declared.tree.Expr.TheVariants.{Num, Var, Read, Neg, Two}
use Rattle.fin_simp.specs.declared.remainder.Left.{Left}
use Rattle.fin_simp.specs.declared.remainder.Left.TheVariants.{Literal, Open}
use Rattle.fin_simp.specs.Numbered.{numbered_expr}

-- what is known: reads and tests by their numbers, variables by theirs
pub record Marks : Type 0 where
  pub reads : ℕ → Option ℤ
  pub tests : ℕ → Option ℤ
  pub vars : ℕ → Option ℤ

abbrev pub nothing_known : Marks
nothing_known = record { reads = λ k. None; tests = λ k. None; vars = λ k. None }

-- inside a loop or `let`, with what is known of the variable that it binds
abbrev pub binding : Marks → ℕ → Option ℤ → Marks
binding m var known = record m { vars = λ x. if nat_eq x var then known else m.vars x }

abbrev pub as_expr : Left → Expr
as_expr (Literal n) = Num n
as_expr (Open e) = e

abbrev pub literal_in : Left → Option ℤ
literal_in (Literal n) = Some n
literal_in (Open e) = None

-- a test that is known to fail
abbrev pub fails : Option ℤ → Bool
fails None = false
fails (Some n) = int_eq n (pos 0)

abbrev pub least : ℤ
least = negsuc 9223372036854775807

abbrev pub greatest : ℤ
greatest = pos 9223372036854775807

-- e op n is e
abbrev pub is_neutral : Op → ℤ → Bool
is_neutral op.Add n = int_eq n (pos 0)
is_neutral op.Sub n = int_eq n (pos 0)
is_neutral op.Mul n = int_eq n (pos 1)
is_neutral op.Min n = int_eq n greatest
is_neutral op.Max n = int_eq n least
is_neutral op.And n = int_eq n (negsuc 0)
is_neutral op.Or n = int_eq n (pos 0)
is_neutral op.Xor n = int_eq n (pos 0)
is_neutral _ n = false

-- n op e is e
abbrev pub is_neutral_before : Op → ℤ → Bool
is_neutral_before op.Sub n = false
is_neutral_before o n = is_neutral o n

-- e op n and n op e are n
abbrev pub absorbs : Op → ℤ → Bool
absorbs op.Mul n = int_eq n (pos 0)
absorbs op.Min n = int_eq n least
absorbs op.Max n = int_eq n greatest
absorbs op.And n = int_eq n (pos 0)
absorbs op.Or n = int_eq n (negsuc 0)
absorbs _ n = false

-- a literal before an expression, and behind one
abbrev pub after_literal : Op → ℤ → Expr → Left
after_literal o n e = if is_neutral_before o n then Open e else if absorbs o n then Literal n else Open (Two o (Num n) e)

abbrev pub before_literal : Op → Expr → ℤ → Left
before_literal o e n = if is_neutral o n then Open e else if absorbs o n then Literal n else Open (Two o e (Num n))

-- the first row that fits, between simplified sides
abbrev pub joined : Op → Left → Left → Left
joined o (Literal n) (Literal m) = Literal (operate o n m)
joined o (Literal n) (Open e) = after_literal o n e
joined o (Open e) (Literal n) = before_literal o e n
joined o (Open l) (Open r) = Open (Two o l r)

abbrev pub turned : Left → Left
turned (Literal n) = Literal (negated n)
turned (Open e) = Open (Neg e)

abbrev pub known_or : Option ℤ → Expr → Left
known_or None e = Open e
known_or (Some n) e = Literal n

-- one node, with the number of its first read and what is left of each part
abbrev pub left_step : ℕ → Expr-F (Marks → Left) → Marks → Left
left_step k (Expr-F.Num n) m = Literal n
left_step k (Expr-F.Var var line) m = known_or (m.vars var) (Var var line)
left_step k (Expr-F.Read tensor at line) m = known_or (m.reads k) (Read tensor at line)
left_step k (Expr-F.Neg inner) m = turned (inner m)
left_step k (Expr-F.Two o left right) m = joined o (left m) (right m)

-- what is left of an expression whose first read has that number
abbrev pub left_of : Expr → ℕ → Marks → Left
left_of = numbered_expr (Marks → Left) left_step
