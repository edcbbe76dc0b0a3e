-- A state of a run, beside the input storages, as the machine of loop code.
use Rattle.std.specs.Prelude.{ℕ, ◌+◌, true, false, nat_eq, if◌then◌else◌, List, [], ◌∷◌, map, ℤ, pos, replicate}
use Rattle.fin_tensor.specs.declared.storage.Storage.{Storage}
use Rattle.fin_ir.specs.Machine.{Tensor, nothing, building, stored, held, over, Machine}
use Rattle.fin_ir.specs.Frozen.{frozen_of}
use Rattle.fin_ir.specs.Start.{given}
use Rattle.fin_run.specs.declared.state.Held.{Held}
use Rattle.fin_run.specs.declared.state.Held.TheVariants.{Nothing, Lent, Building, Frozen}
use Rattle.fin_run.specs.declared.state.State.{State}

abbrev pub tensor_of : List Storage → Held → Tensor
tensor_of inputs Nothing = nothing
tensor_of inputs (Lent k) = given inputs k
tensor_of inputs (Building b) = building b
tensor_of inputs (Frozen s) = stored (frozen_of s)

abbrev pub tensors_of : List Storage → List Held → List Tensor
tensors_of inputs hs = map (tensor_of inputs) hs

-- the state, with the turns that were counted so far; it shares nothing, and its run is whole and regular so far
abbrev pub machine : List Storage → State → ℕ → Machine
machine inputs s turns = record {
  locals = s.locals;
  tensors = tensors_of inputs s.tensors.items;
  shared = [];
  effects = [];
  charges = s.work;
  turns = turns;
  cut = false;
  regular = true;
}

-- what a load reads
abbrev pub reads : List Storage → List Held → ℕ → Tensor
reads inputs hs t = over (held (tensors_of inputs hs) t) (held [] t)

-- the inputs lent in their order from number k on, and nothing else
abbrev pub lent_from : ℕ → List ℕ → List Held
lent_from k [] = []
lent_from k (kind ∷ kinds) = if nat_eq kind 0 then Lent k ∷ lent_from (k + 1) kinds else Nothing ∷ lent_from k kinds

abbrev pub zeros : ℕ → List ℤ
zeros n = replicate n (pos 0)
