-- The tensors of a machine that does what a run does, beside what the definition of work has of them.
use Rattle.std.specs.Prelude.{◌≡◌, ℕ, ◌<◌, ◌≤◌, List, length, ℤ, Some}
use Rattle.fin_tensor.specs.declared.format.Format.{Format}
use Rattle.fin_tensor.specs.declared.storage.Storage.{Storage}
use Rattle.fin_tensor.specs.Levels.{AreSmall, IsStored}
use Rattle.fin_tensor.specs.TensorFunction.{TensorFunction}
use Rattle.fin_ast.specs.declared.checked.Checked.{Checked}
use Rattle.fin_ast.specs.Accepted.{FitProgram}
use Rattle.fin_ast.specs.Dense.{Setting, fill_of, shape_at, setting_of}
use Rattle.fin_ast.specs.Shaped.{FitHeaders}
use Rattle.fin_ir.specs.Frozen.{Frozen}
use Rattle.fin_ir.specs.Machine.{Machine, stored, seen}
use Rattle.fin_stage.specs.Staged.{Run, tensors_of}
use Rattle.fin_looplet.specs.View.{Store}
use Rattle.fin_read.specs.Values.{format_of}
use Rattle.fin_nest.specs.Related.{Live}
use Rattle.fin_simp.specs.Work.{World, world_of, parts_at}
use Rattle.fin_perform.specs.Layouts.{heads_in, start_with}

-- a tensor of the program has this format
pub record HasFormat (w : Setting) (format : Format) (tensor : ℕ) : Type 0 where
  pub fill : fill_of w tensor ≡ format.fill
  pub few : length format.levels ≤ 8
  pub long : length (shape_at w tensor) ≡ length format.levels
  pub small : AreSmall (shape_at w tensor)

abbrev pub TensorsHaveFormats : Type 0
TensorsHaveFormats = (c : Checked) (inputs : List Storage) (tensor : ℕ) → FitHeaders c.program.headers c.dims → tensor < length c.program.headers
    → HasFormat (setting_of c inputs) (format_of (heads_in c) tensor) tensor

-- it is frozen on the machine, as the run has it
pub record IsStoredAs (w : World) (r : Run) (ts : Store) (format : Format) (tensor : ℕ) : Type 0 where
  pub frozen : Frozen
  pub is : ts tensor ≡ stored frozen
  pub shape : shape_at w.setting tensor ≡ frozen.shape
  pub parts : parts_at w r tensor ≡ frozen.parts
  pub valid : IsStored 1 format.levels frozen.shape frozen.parts frozen.val

-- where the run can read it
abbrev pub TensorsAreStored : Type 0
TensorsAreStored = (c : Checked) (room : ℕ) (inputs : List Storage) (pins : List ℤ) (r : Run) (m : Machine) (tensor : ℕ) (f : TensorFunction)
    → FitHeaders c.program.headers c.dims → FitProgram c inputs → Live (start_with c room inputs) pins r m
    → tensors_of (setting_of c inputs) r tensor ≡ Some f
    → IsStoredAs (world_of c inputs) r (seen m) (format_of (heads_in c) tensor) tensor
