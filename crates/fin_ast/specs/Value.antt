-- The value of an expression, for given numbers of its variables and given tensor functions.
use Rattle.std.specs.Prelude.{ℕ, ℤ, pos, negsuc, ◌+ℤ◌, nat_lt, if◌then◌else◌, List, [], ◌∷◌, map, Option, Some, None, slice_index_or}
use Rattle.fin_base.specs.Words.{operate, negated}
use Rattle.fin_tensor.specs.TensorFunction.{TensorFunction, value_at}
use Rattle.fin_ast.specs.declared.tree.Index.{Index}
use Rattle.fin_ast.specs.declared.tree.Expr.{Expr, fold-Expr}
use Rattle.fin_ast.specs.declared.tree.Expr.TheOpen.{Expr-F}

-- the numbers that are bound, by variable
abbrev pub Numbers : Type 0
Numbers = List ℤ

abbrev pub number : Numbers → ℕ → ℤ
number vars var = slice_index_or vars var (pos 0)

-- the tensor functions, by header; none before its declaration
abbrev pub Tensors : Type 0
Tensors = ℕ → Option TensorFunction

abbrev pub number_if : Numbers → Option ℕ → ℤ
number_if vars None = pos 0
number_if vars (Some var) = number vars var

-- where an index points: a sum of whole numbers, which doesn't wrap
abbrev pub place : Numbers → Index → ℤ
place vars i = (number_if vars i.first +ℤ number_if vars i.second) +ℤ i.offset

abbrev pub with_first : ℕ → Option (List ℕ) → Option (List ℕ)
with_first c None = None
with_first c (Some cs) = Some (c ∷ cs)

-- the coordinates, where they lie in the box
abbrev pub coordinates : List ℕ → List ℤ → Option (List ℕ)
coordinates [] [] = Some []
coordinates [] (z ∷ zs) = None
coordinates (n ∷ ns) [] = None
coordinates (n ∷ ns) (pos c ∷ zs) = if nat_lt c n then with_first c (coordinates ns zs) else None
coordinates (n ∷ ns) (negsuc c ∷ zs) = None

-- the value there, and outside the box the fill
abbrev pub value_in : TensorFunction → Option (List ℕ) → ℤ
value_in f None = f.fill
value_in f (Some cs) = value_at f cs

-- what an access gives; there is no value before a declaration, and 0 stands for it
abbrev pub read : Option TensorFunction → List ℤ → ℤ
read None at = pos 0
read (Some f) at = value_in f (coordinates f.shape at)

abbrev pub Reading : Type 0
Reading = Numbers → Tensors → ℤ

-- one node, with the value of each part in its place
abbrev pub value_step : Expr-F Reading → Reading
value_step (Expr-F.Num n) vars ts = n
value_step (Expr-F.Var var line) vars ts = number vars var
value_step (Expr-F.Read tensor at line) vars ts = read (ts tensor) (map (place vars) at)
value_step (Expr-F.Neg inner) vars ts = negated (inner vars ts)
value_step (Expr-F.Two op left right) vars ts = operate op (left vars ts) (right vars ts)

abbrev pub value_of : Expr → Reading
value_of = fold-Expr Reading value_step
