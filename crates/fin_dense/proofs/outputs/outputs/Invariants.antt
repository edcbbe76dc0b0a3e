use Rattle.std.proofs.Common.{ℕ, List, ◌++◌, drop}
use Rattle.fin_tensor.specs.declared.storage.Storage.{Storage}
use Rattle.fin_dense.specs.Fitting.{function_in}
use Rattle.fin_dense.specs.Plain.{AreStored, outputs_from}
use Rattle.fin_dense.specs.Runs.{setting_in}
use Rattle.fin_dense.proofs.outputs.outputs.Given as goal

-- what is stored of the headers that are left goes behind what is stored so far
abbrev pub invariant-loop-k : goal.invariant-loop-k
invariant-loop-k l =
    (os : List (ℕ × Storage)) → AreStored (function_in (setting_in l.setting) l.made) (outputs_from l.k (drop l.k l.setting.checked.now.program.headers)) os
    → AreStored (function_in (setting_in l.setting) l.made) (outputs_from 0 l.setting.checked.now.program.headers) (l.tensors ++ os)
