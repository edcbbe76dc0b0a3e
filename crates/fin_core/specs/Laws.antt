-- What effects and events promise, as statements.
use Rattle.std.specs.Prelude.{◌≡◌, ℕ, List}
use Rattle.fin_base.specs.declared.reduce.Reduce.{Reduce}
use Rattle.fin_base.specs.Words.{reduced}
use Rattle.fin_ir.specs.Machine.{Effect}
use Rattle.fin_core.specs.Effects.{State, Words, acts, values_of}
use Rattle.fin_core.specs.Interleaving.{serial, rests, states, Complete, IsIn, AreWords, Settled}

-- any events that use all effects up leave the serial result
abbrev pub AnyOrderIsSerial : Type 0
AnyOrderIsSerial = (ks : List ℕ) (qs : List (List Effect)) (s : State) → AreWords qs → Settled qs → Words s → Complete (rests ks qs) → states ks qs s ≡ serial qs s

-- where all effects on a tensor have one reduction, each word is its start reduced by their values
abbrev pub EachWordIsReduced : Type 0
EachWordIsReduced = (by : Reduce) (t : ℕ) (cs : List ℕ) (es : List Effect) (s : State) → ((e : Effect) → IsIn e es → e.tensor ≡ t → e.by ≡ by) → acts es s t cs ≡ reduced by (s t cs) (values_of t cs es)
