-- Events of chunks in some order. Each event applies the next effect of its chunk, if there is one.
use Rattle.std.specs.Prelude.{◌≡◌, ◌≢◌, ℕ, ◌⊎◌, ◌++◌, List, [], ◌∷◌, slice_index_or, slice_set}
use Rattle.fin_base.specs.declared.reduce.Reduce.{Reduce}
use Rattle.fin_base.specs.declared.reduce.Reduce.TheVariants.{Put}
use Rattle.fin_base.specs.Words.{IsWord}
use Rattle.fin_ir.specs.Machine.{Effect}
use Rattle.fin_core.specs.Effects.{State, Words, act, acts}

-- all effects of chunk 0, then of chunk 1, and so on
abbrev pub in_order : List (List Effect) → List Effect
in_order [] = []
in_order (q ∷ qs) = q ++ in_order qs

-- the serial result
abbrev pub serial : List (List Effect) → State → State
serial qs s = acts (in_order qs) s

-- the effects of a chunk that are still to come
abbrev pub queue : List (List Effect) → ℕ → List Effect
queue qs k = slice_index_or qs k []

abbrev pub taken_off : List Effect → List Effect
taken_off [] = []
taken_off (e ∷ es) = es

abbrev pub first_of : List Effect → State → State
first_of [] s = s
first_of (e ∷ es) s = act e s

-- what one event of chunk k leaves to do, and of the state
abbrev pub rest_after : ℕ → List (List Effect) → List (List Effect)
rest_after k qs = slice_set qs k (taken_off (queue qs k))

abbrev pub state_after : ℕ → List (List Effect) → State → State
state_after k qs s = first_of (queue qs k) s

-- what a list of events leaves
abbrev pub rests : List ℕ → List (List Effect) → List (List Effect)
rests [] qs = qs
rests (k ∷ ks) qs = rests ks (rest_after k qs)

abbrev pub states : List ℕ → List (List Effect) → State → State
states [] qs s = s
states (k ∷ ks) qs s = states ks (rest_after k qs) (state_after k qs s)

-- all effects are used up
abbrev pub Complete : List (List Effect) → Type 0
Complete qs = (k : ℕ) → queue qs k ≡ []

abbrev pub IsIn : Effect → List Effect → Type 0
IsIn e [] = ⊥
IsIn e (x ∷ xs) = (x ≡ e) ⊎ IsIn e xs

abbrev pub AreWords : List (List Effect) → Type 0
AreWords qs = (k : ℕ) (e : Effect) → IsIn e (queue qs k) → IsWord e.value

-- all effects on tensor t have one reduction, whose order is free
abbrev pub OneReduction : List (List Effect) → ℕ → Type 0
OneReduction qs t = (by : Reduce) × (by ≢ Put) × ((k : ℕ) (e : Effect) → IsIn e (queue qs k) → e.tensor ≡ t → e.by ≡ by)

-- no first coordinate stands in the effects of two chunks on tensor t
abbrev pub OwnRows : List (List Effect) → ℕ → Type 0
OwnRows qs t = (k l : ℕ) → k ≢ l → (e f : Effect) → IsIn e (queue qs k) → IsIn f (queue qs l) → e.tensor ≡ t → f.tensor ≡ t → slice_index_or e.at 0 0 ≢ slice_index_or f.at 0 0

-- each tensor has the one or the other
abbrev pub Settled : List (List Effect) → Type 0
Settled qs = (t : ℕ) → OneReduction qs t ⊎ OwnRows qs t

-- two effects of which each order does the same to words
abbrev pub Commute : Effect → Effect → Type 0
Commute e f = (s : State) → Words s → act f (act e s) ≡ act e (act f s)

-- the values are words, and effects of two chunks commute
abbrev pub Free : List (List Effect) → Type 0
Free qs = AreWords qs × ((k l : ℕ) → k ≢ l → (e f : Effect) → IsIn e (queue qs k) → IsIn f (queue qs l) → Commute e f)
