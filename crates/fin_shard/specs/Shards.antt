-- What was appended to shards, and what merging them makes of a tensor.
use Rattle.std.specs.Prelude.{◌≡◌, ℕ, ◌++◌, if◌then◌else◌, ℤ, List, [], ◌∷◌, Some, All}
use Rattle.std.specs.Cmp.Lexicographic.{slice_cmp}
use Rattle.std.specs.Ordering.{nat_cmp, eq_by_cmp}
use Rattle.fin_base.specs.declared.reduce.Reduce.{Reduce}
use Rattle.fin_base.specs.Words.{IsWord, reduced, identity}
use Rattle.fin_tensor.specs.TensorFunction.{TensorFunction, value_at}
use Rattle.fin_build.specs.Entries.{Entry}

-- the values that were appended at these coordinates, in turn
abbrev pub values_at : List ℕ → List Entry → List ℤ
values_at cs [] = []
values_at cs (e ∷ es) = if eq_by_cmp (slice_cmp nat_cmp) e.0 cs then e.1 ∷ values_at cs es else values_at cs es

-- the function is the identity, reduced at each coordinate by the values that were appended there
pub record Took (by : Reduce) (f : TensorFunction) (es : List Entry) : Type 0 where
  pub starts : identity by ≡ Some f.fill
  pub words : All (λ e. IsWord e.1) es
  pub value_is : (cs : List ℕ) → value_at f cs ≡ reduced by f.fill (values_at cs es)

-- each function took one of the lists
abbrev pub AllTook : Reduce → List TensorFunction → List (List Entry) → Type 0
AllTook by [] [] = Unit {0}
AllTook by (f ∷ fs) (es ∷ ess) = Took by f es × AllTook by fs ess
AllTook by [] (es ∷ ess) = ⊥
AllTook by (f ∷ fs) [] = ⊥

abbrev pub all_of : List (List Entry) → List Entry
all_of [] = []
all_of (es ∷ ess) = es ++ all_of ess

-- all values that were appended to any of them are applied
pub record IsReduced (by : Reduce) (into : TensorFunction) (ess : List (List Entry)) (f : TensorFunction) : Type 0 where
  pub shape_is : f.shape ≡ into.shape
  pub fill_is : f.fill ≡ into.fill
  pub value_is : (cs : List ℕ) → value_at f cs ≡ reduced by (value_at into cs) (values_at cs (all_of ess))
