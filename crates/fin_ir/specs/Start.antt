-- Where a run begins.
use Rattle.std.specs.Prelude.{ℕ, ◌+◌, true, false, nat_eq, if◌then◌else◌, List, [], ◌∷◌, Option, Some, None, slice_get, replicate, pos}
use Rattle.fin_tensor.specs.declared.storage.Storage.{Storage}
use Rattle.fin_ir.specs.declared.layout.Layout.{Layout}
use Rattle.fin_ir.specs.Frozen.{frozen_of}
use Rattle.fin_ir.specs.Machine.{Tensor, nothing, stored, Machine}

abbrev pub given_if : Option Storage → Tensor
given_if None = nothing
given_if (Some s) = stored (frozen_of s)

-- the input of that number
abbrev pub given : List Storage → ℕ → Tensor
given inputs k = given_if (slice_get inputs k)

-- the inputs from number k on in their order, and nothing else
abbrev pub first_tensors : List Storage → ℕ → List ℕ → List Tensor
first_tensors inputs k [] = []
first_tensors inputs k (kind ∷ kinds) = if nat_eq kind 0 then given inputs k ∷ first_tensors inputs (k + 1) kinds else nothing ∷ first_tensors inputs k kinds

-- the locals are 0, and nothing was charged
abbrev pub started : Layout → List Storage → Machine
started layout inputs = record {
  locals = replicate layout.locals (pos 0);
  tensors = first_tensors inputs 0 layout.kinds;
  shared = [];
  effects = [];
  charges = 0;
  turns = 0;
  cut = false;
  regular = true;
}
