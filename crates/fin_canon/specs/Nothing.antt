-- Where a canonical storage stores nothing.
use Rattle.std.specs.Prelude.{ℕ, Bool, false, ◌&&◌, ◌||◌, nat_eq, List, ◌∷◌}
use Rattle.fin_tensor.specs.declared.format.Level.{Level}
use Rattle.fin_tensor.specs.Placement.{is_dense}

-- dense levels alone stand before an extent of 0, so that no coordinate is kept there, and none below
abbrev pub leads_to_nothing : List Level → List ℕ → Bool
leads_to_nothing (l ∷ ls) (n ∷ ns) = is_dense l && (nat_eq n 0 || leads_to_nothing ls ns)
leads_to_nothing ls ns = false
