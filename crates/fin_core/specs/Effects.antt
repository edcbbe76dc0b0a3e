-- Effects on tensors, each of which changes the word at one coordinate. They are those that loop code lists.
use Rattle.std.specs.Prelude.{ℕ, Bool, ◌&&◌, if◌then◌else◌, nat_eq, List, [], ◌∷◌, ℤ}
use Rattle.std.specs.Cmp.Lexicographic.{slice_cmp}
use Rattle.std.specs.Ordering.{nat_cmp, eq_by_cmp}
use Rattle.fin_base.specs.Words.{IsWord, apply}
use Rattle.fin_ir.specs.Machine.{Effect}

-- the tensor functions: for each tensor and coordinate list a word
abbrev pub State : Type 0
State = ℕ → List ℕ → ℤ

abbrev pub Words : State → Type 0
Words s = (t : ℕ) (cs : List ℕ) → IsWord (s t cs)

abbrev pub are_same : List ℕ → List ℕ → Bool
are_same = eq_by_cmp (slice_cmp nat_cmp)

-- it is an effect at these coordinates of that tensor
abbrev pub meets : Effect → ℕ → List ℕ → Bool
meets e t cs = nat_eq e.tensor t && are_same e.at cs

abbrev pub act : Effect → State → State
act e s = λ t cs. if meets e t cs then apply e.by (s t cs) e.value else s t cs

-- one after another
abbrev pub acts : List Effect → State → State
acts [] s = s
acts (e ∷ es) s = acts es (act e s)

-- the values of the effects at these coordinates of that tensor
abbrev pub values_of : ℕ → List ℕ → List Effect → List ℤ
values_of t cs [] = []
values_of t cs (e ∷ es) = if meets e t cs then e.value ∷ values_of t cs es else values_of t cs es
