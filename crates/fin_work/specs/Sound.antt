-- The run by pieces of an accepted program makes what dense evaluation makes.
use Rattle.std.specs.Prelude.{◌≡◌, ℕ, true, List}
use Rattle.fin_tensor.specs.declared.storage.Storage.{Storage}
use Rattle.fin_ast.specs.declared.checked.Checked.{Checked}
use Rattle.fin_ast.specs.Accepted.{IsAccepted, FitProgram}
use Rattle.fin_ast.specs.Dense.{setting_of, evaluated, made_at}
use Rattle.fin_stage.specs.Stages.{function_in, stage_at}
use Rattle.fin_stage.specs.Staged.{regular, staged}
use Rattle.fin_stage.specs.Wordy.{IsWordy}
use Rattle.fin_simp.specs.Work.{pieced}
use Rattle.fin_work.specs.Following.{Follows}

-- it follows the run by stages, is asked at each statement for what it can do, and has the functions of dense evaluation
pub record PiecesAreSound (c : Checked) (inputs : List Storage) : Type 0 where
  pub follows : Follows (staged c inputs) (pieced c inputs)
  pub regular : regular (pieced c inputs) ≡ true
  pub functions : (tensor : ℕ) → function_in (stage_at (pieced c inputs).stages tensor) ≡ made_at (evaluated c inputs).made tensor

-- where the inputs and the fills are words
abbrev pub PiecedIsSound : Type 0
PiecedIsSound = (c : Checked) (inputs : List Storage) → IsAccepted c → FitProgram c inputs → IsWordy (setting_of c inputs) → PiecesAreSound c inputs
