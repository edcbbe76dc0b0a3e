-- Where a run begins.
use Rattle.std.specs.Prelude.{ℕ, List}
use Rattle.fin_tensor.specs.declared.storage.Storage.{Storage}
use Rattle.fin_ast.specs.declared.checked.Checked.{Checked}
use Rattle.fin_ast.specs.Accepted.{FitProgram}
use Rattle.fin_ast.specs.Dense.{unbound}
use Rattle.fin_ast.specs.Shaped.{FitHeaders}
use Rattle.fin_ir.specs.Regular.{InputsFit}
use Rattle.fin_stage.specs.Staged.{before_all}
use Rattle.fin_nest.specs.Related.{Live}
use Rattle.fin_perform.specs.Layouts.{layout_with, begun_with, start_with}

-- the inputs fit the layout, and the first machine does what the run does, with no variable bound
pub record IsBegun (c : Checked) (room : ℕ) (inputs : List Storage) : Type 0 where
  pub fit : InputsFit (layout_with c room) inputs
  pub live : Live (start_with c room inputs) (unbound c.dims) (before_all c.program.headers) (begun_with c room inputs)

abbrev pub BegunMachinesStand : Type 0
BegunMachinesStand = (c : Checked) (room : ℕ) (inputs : List Storage)
    → FitHeaders c.program.headers c.dims → FitProgram c inputs → IsBegun c room inputs
