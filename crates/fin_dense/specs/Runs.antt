-- What a run of the evaluator stands for, and what statements do to one.
use Rattle.std.specs.Prelude.{◌≡◌, ℕ, ◌<◌, ◌^◌, List, ℤ}
use Rattle.fin_tensor.specs.TensorFunction.{TensorFunction}
use Rattle.fin_ast.specs.declared.header.Header.{Header}
use Rattle.fin_ast.specs.Value.{Tensors}
use Rattle.fin_ast.specs.Dense as dense
use Rattle.fin_dense.specs.declared.setting.Setting.{Setting}
use Rattle.fin_dense.specs.declared.run.Run.{Run}
use Rattle.fin_dense.specs.Fitting.{whole, function_in}
use Rattle.fin_dense.specs.Inputs.{setting_by}

abbrev pub setting_in : Setting → dense.Setting
setting_in s = setting_by s.checked.now s.inputs.now s.numbers.items

abbrev pub state_of : Run → dense.State
state_of r = record { made = r.made.items; turns = r.turns }

abbrev pub headers_in : Setting → List Header
headers_in s = s.checked.now.program.headers

-- what the whole program makes
abbrev pub whole_in : Setting → dense.State
whole_in s = whole (setting_in s) s.checked.now

-- the function of each tensor at the end
abbrev pub functions_in : Setting → dense.Made → ℕ → TensorFunction
functions_in s made = function_in (setting_in s) made

-- what an expression can read
abbrev pub seen_in : Setting → Run → Tensors
seen_in s r = dense.tensors_in (setting_in s) (state_of r)

-- a run has done what changes states so, under the numbers that are bound
abbrev pub HasDone : (List ℤ → dense.State → dense.State) → Run → Run → Type 0
HasDone act old new = state_of new ≡ act old.vars.items (state_of old)

-- to do it takes more loop turns than are allowed
abbrev pub TakesLong : (List ℤ → dense.State → dense.State) → Run → Type 0
TakesLong act old = 2 ^ 24 < (act old.vars.items (state_of old)).turns
