-- A builder that takes in the entries of another.
use Rattle.std.specs.Prelude.{◌≡◌, ℕ, ◌≤◌, List, [], ◌∷◌, length, take}
use Rattle.fin_base.specs.declared.reduce.Reduce.{Reduce}
use Rattle.fin_base.specs.Words.{apply}
use Rattle.fin_tensor.specs.TensorFunction.{TensorFunction, value_at}
use Rattle.fin_tensor.specs.Building.{Building, updated}
use Rattle.fin_build.specs.Entries.{Entry}

-- each entry's value is joined to that at its coordinates, in turn
abbrev pub joined : Reduce → List Entry → Building → Building
joined by [] b = b
joined by (e ∷ es) b = joined by es (updated b e.0 (λ old. apply by old e.1))

-- at each coordinate the values of both are joined
pub record IsMerged (by : Reduce) (mine theirs f : TensorFunction) : Type 0 where
  pub shape_is : f.shape ≡ mine.shape
  pub fill_is : f.fill ≡ mine.fill
  pub value_is : (cs : List ℕ) → value_at f cs ≡ apply by (value_at mine cs) (value_at theirs cs)

-- some first entries were joined
pub record IsPartlyJoined (by : Reduce) (es : List Entry) (old new : Building) : Type 0 where
  pub count : ℕ
  pub within : count ≤ length es
  pub is : new ≡ joined by (take count es) old
