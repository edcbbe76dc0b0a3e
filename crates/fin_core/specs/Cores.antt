-- What a core holds, as tensor functions and as lists of effects that loop code lists.
use Rattle.std.specs.Prelude.{ℕ, ◌<◌, List, [], ◌∷◌, length, map, slice_index_or, slice_set, pos, IsTrue, Vec}
use Rattle.std.specs.Global.{Global}
use Rattle.std.specs.List.{list_all}
use Rattle.fin_tensor.specs.TensorFunction.{is_in_box, value_at, filled}
use Rattle.fin_tensor.specs.Placement.{is_dense_or_dict}
use Rattle.fin_tensor.specs.Building.{Building, unchanged, no_format}
use Rattle.fin_build.specs.Builders.{IsBuilding}
use Rattle.fin_ir.specs.Machine as machine
use Rattle.fin_core.specs.declared.effect.Effect.{Effect}
use Rattle.fin_core.specs.declared.queue.Queue.{Queue}
use Rattle.fin_core.specs.Effects.{State}
use Rattle.fin_core.specs.Interleaving.{queue, IsIn}

-- the effect as loop code lists it
abbrev pub meant : Effect → machine.Effect
meant e = record { tensor = e.tensor; at = e.at; by = e.by; value = e.value }

-- lists as they are handed in
abbrev pub listed : List (Vec Effect Global) → List (List machine.Effect)
listed qs = map (λ q. map meant q.items) qs

-- the lists of a core
abbrev pub lists : List Queue → List (List machine.Effect)
lists qs = map (λ (q : Queue). map meant q.waiting.items) qs

-- where there is no tensor
abbrev pub no_tensor : Building
no_tensor = unchanged no_format (filled [] (pos 0))

abbrev pub tensor_at : List Building → ℕ → Building
tensor_at ts t = slice_index_or ts t no_tensor

-- the functions of tensors
abbrev pub values : List Building → State
values ts = λ t cs. value_at (tensor_at ts t).function cs

-- the effect done to its tensor
abbrev pub put_in : machine.Effect → List Building → List Building
put_in e ts = slice_set ts e.tensor (machine.put e (tensor_at ts e.tensor))

abbrev pub tensors_after : List machine.Effect → List Building → List Building
tensors_after [] ts = ts
tensors_after (e ∷ es) ts = put_in e ts

-- an effect names a tensor and lies in its box
abbrev pub LiesIn : List Building → machine.Effect → Type 0
LiesIn ts e = (e.tensor < length ts) × IsTrue (is_in_box (tensor_at ts e.tensor).function.shape e.at)

abbrev pub AllLie : List Building → List (List machine.Effect) → Type 0
AllLie ts qs = (k : ℕ) (e : machine.Effect) → IsIn e (queue qs k) → LiesIn ts e

-- all levels are dense or dict
abbrev pub AreUnordered : List Building → Type 0
AreUnordered ts = (t : ℕ) → t < length ts → IsTrue (list_all is_dense_or_dict (tensor_at ts t).format.levels)

abbrev pub AllBuilt : List Building → Type 0
AllBuilt ts = (t : ℕ) → t < length ts → IsBuilding (tensor_at ts t)
