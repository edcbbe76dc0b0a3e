-- Dense evaluation: what a program does to tensor functions. It visits every coordinate of every extent.
use Rattle.std.specs.Prelude.{ℕ, ◌+◌, Bool, ℤ, pos, if◌then◌else◌, List, [], ◌∷◌, map, Option, Some, None, is_some, option_map, unwrap_or, slice_get, slice_index_or, slice_set}
use Rattle.std.specs.Option.{option_or}
use Rattle.fin_base.specs.Words.{apply}
use Rattle.fin_base.specs.declared.reduce.Reduce.{Reduce}
use Rattle.fin_tensor.specs.TensorFunction.{TensorFunction, filled, changed}
use Rattle.fin_tensor.specs.Stands.{stands}
use Rattle.fin_tensor.specs.declared.storage.Storage.{Storage}
use Rattle.fin_ast.specs.declared.header.Header.{Header}
use Rattle.fin_ast.specs.declared.checked.Dims.{Dims}
use Rattle.fin_ast.specs.declared.checked.Checked.{Checked}
use Rattle.fin_ast.specs.declared.tree.Stmt.{Stmt}
use Rattle.fin_ast.specs.Kinds.{is_input}
use Rattle.fin_ast.specs.Value.{Numbers, Tensors, place, coordinates, value_of}
use Rattle.fin_ast.specs.Actions as acts
use Rattle.fin_ast.specs.Actions.{Leaf, Declare, Freeze, Thaw, Update, Turn, Parts, act, act_all}

-- ---- what a program is run over

-- tensor functions by header, none where nothing stands
abbrev pub Made : Type 0
Made = List (Option TensorFunction)

abbrev pub made_at : Made → ℕ → Option TensorFunction
made_at ts tensor = slice_index_or ts tensor None

-- the inputs, in the order of headers
abbrev pub inputs_by_header : List Header → List Storage → Made
inputs_by_header [] inputs = []
inputs_by_header (h ∷ hs) [] = None ∷ inputs_by_header hs []
inputs_by_header (h ∷ hs) (s ∷ inputs) = if is_input h.kind then Some (stands s) ∷ inputs_by_header hs inputs else None ∷ inputs_by_header hs (s ∷ inputs)

-- the headers, their extents, and the inputs, which never change
pub record Setting : Type 0 where
  pub headers : List Header
  pub dims : Dims
  pub given : Made

abbrev pub fill_of : Setting → ℕ → ℤ
fill_of w tensor = unwrap_or (option_map (λ (h : Header). h.format.fill) (slice_get w.headers tensor)) (pos 0)

abbrev pub shape_at : Setting → ℕ → List ℕ
shape_at w tensor = slice_index_or w.dims.shapes tensor []

abbrev pub range_of : Setting → ℕ → ℕ × ℕ
range_of w var = slice_index_or w.dims.ranges var (0, 0)

-- what was made so far, and how often a loop's body was run
pub record State : Type 0 where
  pub made : Made
  pub turns : ℕ

-- the tensors that can be read: the inputs, and what was made
abbrev pub tensors_in : Setting → State → Tensors
tensors_in w s tensor = option_or (made_at w.given tensor) (made_at s.made tensor)

-- ---- statements

abbrev pub Action : Type 0
Action = acts.Action State

-- the tensors that were there before stay, and the others are gone
abbrev pub kept : List Bool → Made → Made
kept [] ts = ts
kept (b ∷ bs) [] = []
kept (b ∷ bs) (t ∷ ts) = (if b then t else None) ∷ kept bs ts

-- what a body declares first is gone at its end
abbrev pub closed : Made → State → State
closed before s = record { made = kept (map is_some before) s.made; turns = s.turns }

abbrev pub close : State → State → State
close before s = closed before.made s

abbrev pub braced : Action → Action
braced = acts.braced close

abbrev pub ticked : State → State
ticked s = record { made = s.made; turns = s.turns + 1 }

abbrev pub turn : Turn State
turn var vars n body s = body (ticked s)

abbrev pub repeated : ℕ → ℕ → ℕ → Action → Action
repeated = acts.repeated turn

abbrev pub looped : ℕ × ℕ → ℕ → Action → Action
looped = acts.looped turn

abbrev pub with_tensor : State → ℕ → Option TensorFunction → State
with_tensor s tensor f = record { made = slice_set s.made tensor f; turns = s.turns }

-- the fill everywhere
abbrev pub declared : Setting → ℕ → State → State
declared w tensor s = with_tensor s tensor (Some (filled (shape_at w tensor) (fill_of w tensor)))

-- one coordinate's value is reduced; there is none outside the box
abbrev pub updated_at : TensorFunction → Option (List ℕ) → Reduce → ℤ → TensorFunction
updated_at f None by v = f
updated_at f (Some cs) by v = changed f cs (λ old. apply by old v)

abbrev pub updated_if : Option TensorFunction → List ℤ → Reduce → ℤ → Option TensorFunction
updated_if None at by v = None
updated_if (Some f) at by v = Some (updated_at f (coordinates f.shape at) by v)

abbrev pub updated : ℕ → List ℤ → Reduce → ℤ → State → State
updated tensor at by v s = with_tensor s tensor (updated_if (made_at s.made tensor) at by v)

abbrev pub leaf : Setting → Leaf → Action
leaf w (Declare tensor) vars s = declared w tensor s
leaf w (Freeze tensor) vars s = s
leaf w (Thaw tensor) vars s = s
leaf w (Update tensor at by value) vars s = updated tensor (map (place vars) at) by (value_of value vars (tensors_in w s)) s

abbrev pub evaluating : Setting → Parts State
evaluating w = record {
  range = range_of w;
  value = λ e vars after s. after (value_of e vars (tensors_in w s)) s;
  entry = λ var vars s. s;
  turn = turn;
  brace = close;
  leaf = leaf w;
}

abbrev pub run_of : Setting → Stmt → Action
run_of w = act (evaluating w)

abbrev pub run_all : Setting → List Stmt → Action
run_all w = act_all (evaluating w)

-- ---- whole programs

abbrev pub setting_of : Checked → List Storage → Setting
setting_of c inputs = record { headers = c.program.headers; dims = c.dims; given = inputs_by_header c.program.headers inputs }

-- no tensor is made, and no body was run
abbrev pub started : List Header → State
started headers = record { made = map (λ h. None) headers; turns = 0 }

-- no variable is bound
abbrev pub unbound : Dims → Numbers
unbound dims = map (λ r. pos 0) dims.ranges

-- what a program makes of its inputs
abbrev pub evaluated : Checked → List Storage → State
evaluated c inputs = run_all (setting_of c inputs) c.program.body (unbound c.dims) (started c.program.headers)

-- the function of a tensor at the end; before any declaration it is the fill everywhere
abbrev pub function_of : Checked → List Storage → ℕ → TensorFunction
function_of c inputs tensor = unwrap_or (made_at (evaluated c inputs).made tensor) (filled (shape_at (setting_of c inputs) tensor) (fill_of (setting_of c inputs) tensor))
