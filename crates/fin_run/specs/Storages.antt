-- The storages among what a run holds.
use Rattle.std.specs.Prelude.{ℕ, List, Option, Some, None, slice_get}
use Rattle.fin_tensor.specs.declared.storage.Storage.{Storage}
use Rattle.fin_ir.specs.Machine.{Tensor, nothing, stored}
use Rattle.fin_ir.specs.Frozen.{frozen_of}
use Rattle.fin_run.specs.declared.state.Held.{Held}
use Rattle.fin_run.specs.declared.state.Held.TheVariants.{Nothing, Lent, Building, Frozen}

abbrev pub storage_of : List Storage → Held → Option Storage
storage_of inputs Nothing = None
storage_of inputs (Lent k) = slice_get inputs k
storage_of inputs (Building b) = None
storage_of inputs (Frozen s) = Some s

abbrev pub storage_if : List Storage → Option Held → Option Storage
storage_if inputs None = None
storage_if inputs (Some h) = storage_of inputs h

abbrev pub storage_in : List Storage → List Held → ℕ → Option Storage
storage_in inputs hs t = storage_if inputs (slice_get hs t)

-- what a load reads of it
abbrev pub shown : Option Storage → Tensor
shown None = nothing
shown (Some s) = stored (frozen_of s)
