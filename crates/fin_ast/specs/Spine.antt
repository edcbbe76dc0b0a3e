-- An expression along its left side: a sum groups to the left, and may have millions of terms.
use Rattle.std.specs.Prelude.{ℕ, ◌+◌, ◌<◌, List, [], ◌∷◌, map}
use Rattle.std.specs.Borrow.{Bor}
use Rattle.fin_base.specs.declared.terms.Op.{Op}
use Rattle.fin_ast.specs.declared.tree.Expr.{Expr, fold-Expr}
use Rattle.fin_ast.specs.declared.tree.Expr.TheOpen.{Expr-F}
use Rattle.fin_ast.specs.declared.tree.Expr.TheVariants.{Num, Var, Read, Neg, Two}
use Rattle.fin_ast.specs.declared.spine.Head.{Head}
use Rattle.fin_ast.specs.declared.spine.Head.TheVariants as head

-- what a head stands for
abbrev pub expr_of : Head → Expr
expr_of (head.Num n) = Num n
expr_of (head.Var var line) = Var var line
expr_of (head.Read tensor at line) = Read tensor at.now line
expr_of (head.Neg inner) = Neg inner.now

-- the operators and their right sides as they are held
abbrev pub sides_of : List (Op × Bor Expr) → List (Op × Expr)
sides_of ss = map (λ s. (s.0, s.1.now)) ss

-- an expression with operators and right sides behind it, the last one first
abbrev pub wound : List (Op × Expr) → Expr → Expr
wound [] x = x
wound (s ∷ ss) x = Two s.0 (wound ss x) s.1

-- how many nodes an expression has
abbrev pub nodes_step : Expr-F ℕ → ℕ
nodes_step (Expr-F.Num n) = 1
nodes_step (Expr-F.Var var line) = 1
nodes_step (Expr-F.Read tensor at line) = 1
nodes_step (Expr-F.Neg inner) = inner + 1
nodes_step (Expr-F.Two op left right) = left + right + 1

abbrev pub nodes_of : Expr → ℕ
nodes_of = fold-Expr ℕ nodes_step

-- each right side has less nodes
abbrev pub AreSmaller : ℕ → List (Op × Expr) → Type 0
AreSmaller n [] = Unit {0}
AreSmaller n (s ∷ ss) = (nodes_of s.1 < n) × AreSmaller n ss
