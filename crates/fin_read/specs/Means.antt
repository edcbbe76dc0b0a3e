-- What the code of accesses, counts and expressions gives: what the language means by them.
use Rattle.std.specs.Prelude.{◌≡◌, ℕ, ◌<◌, ◌≤◌, ◌+◌, true, List, map, length, slice_index_or, ℤ, pos}
use Rattle.std.specs.List.{list_all}
use Rattle.fin_tensor.specs.declared.format.Level.{Level}
use Rattle.fin_tensor.specs.TensorFunction.{TensorFunction}
use Rattle.fin_tensor.specs.Levels.{IsStored}
use Rattle.fin_ast.specs.declared.tree.Expr.{Expr}
use Rattle.fin_ast.specs.Scope.{Scope, is_bound, is_named_expr}
use Rattle.fin_ast.specs.Value.{Numbers, Tensors, value_in, coordinates}
use Rattle.fin_ast.specs.Value as language
use Rattle.fin_ir.specs.declared.expression.IExpr.{IExpr}
use Rattle.fin_ir.specs.declared.layout.Layout.{Layout}
use Rattle.fin_ir.specs.Frozen.{Frozen}
use Rattle.fin_ir.specs.Machine.{Tensor, stored}
use Rattle.fin_ir.specs.Value.{value_of}
use Rattle.fin_ir.specs.Named.{is_named}
use Rattle.fin_ir.specs.Named as named
use Rattle.fin_stage.specs.Staged.{can_read, has_small_indices}
use Rattle.fin_read.specs.Steps.{Step, stepped, Agree}
use Rattle.fin_read.specs.Reads.{read_steps}
use Rattle.fin_read.specs.Counts.{count_code}
use Rattle.fin_read.specs.Values.{Heads, Lowered, value_code, prelude}
use Rattle.fin_read.specs.Sees.{Sees, SeesAll}

-- ---- accesses

-- the indices have these values, whatever the locals from `at` on hold
abbrev pub AreAt : (ℕ → Tensor) → ℕ → List ℤ → List IExpr → List ℤ → Type 0
AreAt ts at ls xs zs = (ks : List ℤ) → Agree at ks ls → map (λ (x : IExpr). value_of x ts ks) xs ≡ zs

-- the local `at` has the value, and the locals before it are as they were
pub record IsRead (ts : ℕ → Tensor) (steps : List Step) (at : ℕ) (ls : List ℤ) (z : ℤ) : Type 0 where
  pub long : length (stepped ts steps ls) ≡ length ls
  pub kept : Agree at (stepped ts steps ls) ls
  pub value : slice_index_or (stepped ts steps ls) at (pos 0) ≡ z

abbrev pub ReadsMean : Type 0
ReadsMean = (ts : ℕ → Tensor) (tensor : ℕ) (levels : List Level) (shape : List ℕ) (fill : ℤ) (f : TensorFunction) (xs : List IExpr) (zs : List ℤ) (at : ℕ) (ls : List ℤ)
    → Sees ts tensor levels shape fill f → AreAt ts at ls xs zs → at + 1 < length ls
    → IsRead ts (read_steps tensor levels shape fill xs at) at ls (value_in f (coordinates shape zs))

-- ---- counts

abbrev pub CountsMean : Type 0
CountsMean = (ts : ℕ → Tensor) (tensor : ℕ) (levels : List Level) (s : Frozen) (ls : List ℤ) → ts tensor ≡ stored s → IsStored 1 levels s.shape s.parts s.val
    → value_of (count_code tensor levels s.shape) ts ls ≡ pos (length s.val)

-- ---- expressions

-- each variable that is bound is below a number
abbrev pub IsWithin : Scope → ℕ → Type 0
IsWithin s count = (var : ℕ) → is_bound s var ≡ true → var < count

-- the expression has the value, whatever the locals from its next free one on hold; those before the first free one are
-- as they were
pub record IsValued (ts : ℕ → Tensor) (v : Lowered) (next : ℕ) (ls : List ℤ) (z : ℤ) : Type 0 where
  pub long : length (stepped ts v.steps ls) ≡ length ls
  pub kept : Agree next (stepped ts v.steps ls) ls
  pub grows : next ≤ v.next
  pub value : (ks : List ℤ) → Agree v.next ks (stepped ts v.steps ls) → value_of v.value ts ks ≡ z

abbrev pub ValuesMean : Type 0
ValuesMean = (h : Heads) (ts : ℕ → Tensor) (fs : Tensors) (s : Scope) (vars : Numbers) (e : Expr) (next : ℕ) (ls : List ℤ)
    → SeesAll h ts fs → IsWithin s (length vars) → is_named_expr e s ≡ true → can_read e fs ≡ true → has_small_indices e vars ≡ true
    → length vars ≤ next → Agree (length vars) ls vars → (value_code h e next).next + 1 ≤ length ls
    → IsValued ts (value_code h e next) next ls (language.value_of e vars fs)

-- ---- names

-- the layout has the locals and tensors that the code of an expression names
abbrev pub ValuesAreNamed : Type 0
ValuesAreNamed = (layout : Layout) (h : Heads) (s : Scope) (count : ℕ) (e : Expr) (next : ℕ)
    → s.headers ≡ h.headers → length h.headers ≤ length layout.formats → IsWithin s count → is_named_expr e s ≡ true → count ≤ next → (value_code h e next).next + 1 ≤ layout.locals
    → (list_all (is_named layout) (prelude (value_code h e next)) ≡ true) × (named.is_named_in layout (value_code h e next).value ≡ true)
