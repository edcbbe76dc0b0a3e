-- The facts that structs keep: each has one proof.
use Rattle.std.specs.Prelude.{ℕ, List}
use Rattle.std.proofs.Props.{props}
use Rattle.fin_tensor.specs.Levels.{IsPtr}

pub IsPtr-prop : (count : ℕ) (ptr : List ℕ) → IsProp (IsPtr count ptr)
IsPtr-prop count ptr = hlevel props
