-- An accepted program over inputs that fit it is asked at each statement for what it can do, and does what dense evaluation does.
use Rattle.std.specs.Prelude.{◌≡◌, ℕ, true, List, Some, slice_get}
use Rattle.fin_tensor.specs.declared.storage.Storage.{Storage}
use Rattle.fin_tensor.specs.Canon.{undecorated}
use Rattle.fin_ast.specs.declared.header.Header.{Header}
use Rattle.fin_ast.specs.declared.checked.Checked.{Checked}
use Rattle.fin_ast.specs.Accepted.{IsAccepted, FitProgram}
use Rattle.fin_ast.specs.Kinds.{is_output}
use Rattle.fin_ast.specs.Dense.{evaluated, function_of, made_at}
use Rattle.fin_stage.specs.Stages.{Frozen, function_in, stage_at}
use Rattle.fin_stage.specs.Staged.{staged, regular}

pub record IsSound (c : Checked) (inputs : List Storage) : Type 0 where
  pub regular : regular (staged c inputs) ≡ true
  pub functions : (tensor : ℕ) → function_in (stage_at (staged c inputs).stages tensor) ≡ made_at (evaluated c inputs).made tensor
  pub outputs : (tensor : ℕ) (h : Header) → slice_get c.program.headers tensor ≡ Some h → is_output h.kind ≡ true
      → stage_at (staged c inputs).stages tensor ≡ Frozen (undecorated h.format) (function_of c inputs tensor)

abbrev pub AcceptedIsSound : Type 0
AcceptedIsSound = (c : Checked) (inputs : List Storage) → IsAccepted c → FitProgram c inputs → IsSound c inputs
