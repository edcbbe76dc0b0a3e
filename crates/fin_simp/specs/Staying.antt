-- That the indices of an accepted program stay inside their extents.
use Rattle.std.specs.Prelude.{List}
use Rattle.fin_tensor.specs.declared.storage.Storage.{Storage}
use Rattle.fin_ast.specs.declared.checked.Checked.{Checked}
use Rattle.fin_ast.specs.Accepted.{IsAccepted}
use Rattle.fin_ast.specs.Dense.{setting_of}
use Rattle.fin_simp.specs.Numbered.{outset}
use Rattle.fin_simp.specs.Moving.{ReadsStay}

abbrev pub AcceptedStay : Type 0
AcceptedStay = (c : Checked) (inputs : List Storage) → IsAccepted c → ReadsStay (setting_of c inputs) c.program.body outset
