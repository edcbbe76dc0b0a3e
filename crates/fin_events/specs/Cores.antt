-- What events leave of a core.
use Rattle.std.specs.Prelude.{◌≡◌, ℕ, List}
use Rattle.fin_core.specs.declared.events.Core.{Core}
use Rattle.fin_core.specs.Interleaving.{states}
use Rattle.fin_core.specs.Cores.{lists, values}

-- the functions of the tensors are what these events leave
abbrev pub IsStateAfter : List ℕ → Core → Core → Type 0
IsStateAfter ks old new = values new.tensors.items ≡ states ks (lists old.effects.items) (values old.tensors.items)
