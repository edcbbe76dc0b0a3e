-- What an event of a chunk does to a core.
use Rattle.std.specs.Prelude.{◌≡◌, ℕ, List}
use Rattle.fin_ir.specs.Machine.{Effect}
use Rattle.fin_core.specs.declared.events.Core.{Core}
use Rattle.fin_core.specs.Interleaving.{serial, queue, rest_after, state_after}
use Rattle.fin_core.specs.Cores.{lists, values, tensors_after}

-- the effects of a chunk that are still to come
abbrev pub waiting : Core → ℕ → List Effect
waiting core k = queue (lists core.effects.items) k

-- the next effect of the chunk is taken off
abbrev pub IsTakenOff : ℕ → Core → Core → Type 0
IsTakenOff k old new = lists new.effects.items ≡ rest_after k (lists old.effects.items)

-- it is done to its tensor, as loop code does it
abbrev pub IsPut : ℕ → Core → Core → Type 0
IsPut k old new = new.tensors.items ≡ tensors_after (waiting old k) old.tensors.items

-- the functions of the tensors are the next state
abbrev pub IsNextState : ℕ → Core → Core → Type 0
IsNextState k old new = values new.tensors.items ≡ state_after k (lists old.effects.items) (values old.tensors.items)

-- what would be left by all effects chunk after chunk
abbrev pub HasSameSerial : Core → Core → Type 0
HasSameSerial old new = serial (lists new.effects.items) (values new.tensors.items) ≡ serial (lists old.effects.items) (values old.tensors.items)

abbrev pub IsAsBefore : Core → Core → Type 0
IsAsBefore old new = (new.tensors.items ≡ old.tensors.items) × (new.effects.items ≡ old.effects.items)
