-- The extents of dense levels.
use Rattle.std.specs.Prelude.{ℕ, ◌*◌, max, List, [], ◌∷◌, if◌then◌else◌}
use Rattle.fin_tensor.specs.declared.format.Level.{Level}
use Rattle.fin_tensor.specs.Placement.{is_dense}

-- the product of the dense extents that aren't 0
abbrev pub dense_size : List Level → List ℕ → ℕ
dense_size [] ns = 1
dense_size (l ∷ ls) [] = 1
dense_size (l ∷ ls) (n ∷ ns) = (if is_dense l then max n 1 else 1) * dense_size ls ns
