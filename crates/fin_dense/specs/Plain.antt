-- What dense evaluation gives: the outputs in canonical storage, or that it is over its limits.
use Rattle.std.specs.Prelude.{◌≡◌, ℕ, ◌+◌, ◌<◌, ◌≤◌, ◌^◌, if◌then◌else◌, List, [], ◌∷◌, Contains, Result, Ok, Err}
use Rattle.fin_base.specs.declared.refusal.Fail.{Fail}
use Rattle.fin_base.specs.declared.refusal.Fail.TheVariants.{Refused, Memory}
use Rattle.fin_base.specs.declared.refusal.Rule.TheVariants.{B2}
use Rattle.fin_tensor.specs.TensorFunction.{TensorFunction}
use Rattle.fin_tensor.specs.Canon.{IsCanon, IsAllowedIn}
use Rattle.fin_tensor.specs.declared.storage.Storage.{Storage}
use Rattle.fin_tensor.specs.declared.outputs.Outputs.{Outputs}
use Rattle.fin_canon.specs.Entries.{undecorated}
use Rattle.fin_ast.specs.declared.header.Header.{Header}
use Rattle.fin_ast.specs.Kinds.{is_output}
use Rattle.fin_ast.specs.declared.checked.Checked.{Checked}
use Rattle.fin_ast.specs.Dense.{evaluated, function_of}

-- the outputs among headers from a number on
abbrev pub outputs_from : ℕ → List Header → List (ℕ × Header)
outputs_from tensor [] = []
outputs_from tensor (h ∷ hs) = if is_output h.kind then (tensor, h) ∷ outputs_from (tensor + 1) hs else outputs_from (tensor + 1) hs

-- these are the canonical storages of their functions, in order
abbrev pub AreStored : (ℕ → TensorFunction) → List (ℕ × Header) → List (ℕ × Storage) → Type 0
AreStored f [] [] = Unit {0}
AreStored f (e ∷ es) (o ∷ os) = (o.0 ≡ e.0) × IsCanon (undecorated e.1.format) (f e.0) o.1 × AreStored f es os
AreStored f es os = ⊥

-- at most 2^24 loop turns are made, and these are the outputs
pub record IsPlain (c : Checked) (inputs : List Storage) (outputs : Outputs) : Type 0 where
  pub turns : (evaluated c inputs).turns ≤ 2 ^ 24
  pub stored : AreStored (function_of c inputs) (outputs_from 0 c.program.headers) outputs.tensors

-- B2: more than 2^24 loop turns are made, or the canonical storage of an output isn't valid by its size
pub data IsOver (c : Checked) (inputs : List Storage) : Type 0 where
  turns : 2 ^ 24 < (evaluated c inputs).turns → IsOver c inputs
  large : (e : ℕ × Header) → Contains (outputs_from 0 c.program.headers) e → (IsAllowedIn (undecorated e.1.format) (function_of c inputs e.0) → ⊥) → IsOver c inputs

-- what `plain` answers: the outputs, or B2 without a line; want of memory is free
abbrev pub Plains : Checked → List Storage → Result Outputs Fail → Type 0
Plains c inputs (Ok outputs) = IsPlain c inputs outputs
Plains c inputs (Err (Refused r)) = (r ≡ record { rule = B2; line = 0 }) × IsOver c inputs
Plains c inputs (Err (Memory e)) = Unit {0}
