-- The code of an access. From the first position on it goes from level to level; the local `at` has the position in the
-- level, or -1 where none is left, and at last the value; the local behind it is free for a step of its own.
use Rattle.std.specs.Prelude.{ℕ, ◌+◌, List, [], ◌∷◌, ◌++◌, ℤ, pos, negsuc}
use Rattle.fin_base.specs.declared.terms.Op.TheVariants as op
use Rattle.fin_tensor.specs.declared.format.Level.{Level}
use Rattle.fin_tensor.specs.declared.format.Level.TheVariants as level
use Rattle.fin_ir.specs.declared.expression.Table.TheVariants as table
use Rattle.fin_ir.specs.declared.expression.IExpr.{IExpr}
use Rattle.fin_ir.specs.declared.expression.IExpr.TheVariants.{Num, Local, Two, Pick, Cell, Seek, Val}
use Rattle.fin_read.specs.Steps.{Step}
use Rattle.fin_read.specs.declared.parts.Place.{Place}

abbrev pub none : IExpr
none = Num (negsuc 0)

-- the value where the index lies in the extent, else 0
abbrev pub in_extent : ℕ → IExpr → IExpr → IExpr
in_extent n x value = Pick (Two op.Lt x (Num (pos 0))) (Num (pos 0)) (Pick (Two op.Lt x (Num (pos n))) value (Num (pos 0)))

-- 1 where the indices lie in the box, else 0
abbrev pub in_box : List ℕ → List IExpr → IExpr
in_box [] [] = Num (pos 1)
in_box [] (x ∷ xs) = Num (pos 0)
in_box (n ∷ ns) [] = Num (pos 0)
in_box (n ∷ ns) (x ∷ xs) = in_extent n x (in_box ns xs)

-- a level of a tensor, and the local that has the position in it
abbrev pub place_of : ℕ → ℕ → ℕ → Place
place_of tensor k at = record { tensor = tensor; level = k; at = at }

-- the place in the next level
abbrev pub below : Place → Place
below p = place_of p.tensor (p.level + 1) p.at

-- the local behind, for a step of its own
abbrev pub aside : Place → IExpr
aside p = Local (p.at + 1)

-- where the fibre at the position begins and ends
abbrev pub fibre_begin : Place → IExpr
fibre_begin p = Cell p.tensor p.level table.Ptr (Local p.at)

abbrev pub fibre_end : Place → IExpr
fibre_end p = Cell p.tensor p.level table.Ptr (Two op.Add (Local p.at) (Num (pos 1)))

-- the value where there is a position, else none
abbrev pub where_placed : ℕ → IExpr → IExpr
where_placed at value = Pick (Two op.Lt (Local at) (Num (pos 0))) none value

-- the place in the fibre whose number is the key or more, or whose run holds it
abbrev pub sought : Place → IExpr → IExpr
sought p x = Seek p.tensor p.level (fibre_begin p) (fibre_end p) x

-- that place, where the key stands there
abbrev pub if_here : Place → IExpr → IExpr
if_here p x = Pick (Two op.Eq (Cell p.tensor p.level table.Idx (aside p)) x) (aside p) none

-- the value where that place lies in the fibre
abbrev pub if_within : Place → IExpr → IExpr
if_within p value = Pick (Two op.Lt (aside p) (fibre_end p)) value none

abbrev pub found : Place → IExpr → IExpr
found p x = if_within p (if_here p x)

-- how far the index is behind the first coordinate of a block
abbrev pub behind : Place → IExpr → IExpr
behind p x = Two op.Sub x (Cell p.tensor p.level table.Start (Local p.at))

abbrev pub block_length : Place → IExpr
block_length p = Two op.Sub (fibre_end p) (fibre_begin p)

-- the place of a coordinate in a block, given how far it is behind the first one: where that is less than the block is long
abbrev pub if_in_block : Place → IExpr
if_in_block p = Pick (Two op.Lt (aside p) (block_length p)) (Two op.Add (fibre_begin p) (aside p)) none

-- and where it isn't before it
abbrev pub in_block : Place → IExpr
in_block p = Pick (Two op.Lt (aside p) (Num (pos 0))) none (if_in_block p)

abbrev pub step_to : ℕ → IExpr → Step
step_to local value = record { local = local; value = value }

-- to the value, where there is a position
abbrev pub placed_step : Place → IExpr → Step
placed_step p value = step_to p.at (where_placed p.at value)

abbrev pub sought_step : Place → IExpr → Step
sought_step p x = step_to (p.at + 1) (sought p x)

abbrev pub behind_step : Place → IExpr → Step
behind_step p x = step_to (p.at + 1) (behind p x)

abbrev pub dense_step : Place → ℕ → IExpr → Step
dense_step p n x = placed_step p (Two op.Add (Two op.Mul (Local p.at) (Num (pos n))) x)

-- from the position in a level to that below it at an index
abbrev pub level_steps : Place → Level → ℕ → IExpr → List Step
level_steps p level.Dense n x = dense_step p n x ∷ []
level_steps p level.List n x = sought_step p x ∷ placed_step p (found p x) ∷ []
level_steps p level.Dict n x = sought_step p x ∷ placed_step p (found p x) ∷ []
level_steps p level.Runs n x = sought_step p x ∷ placed_step p (aside p) ∷ []
level_steps p level.Band n x = behind_step p x ∷ placed_step p (in_block p) ∷ []

-- the levels from that one on
abbrev pub levels_steps : Place → List Level → List ℕ → List IExpr → List Step
levels_steps p [] ns xs = []
levels_steps p (l ∷ ls) [] xs = []
levels_steps p (l ∷ ls) (n ∷ ns) [] = []
levels_steps p (l ∷ ls) (n ∷ ns) (x ∷ xs) = level_steps p l n x ++ levels_steps (below p) ls ns xs

abbrev pub first_step : List ℕ → List IExpr → ℕ → Step
first_step shape xs at = step_to at (Pick (in_box shape xs) (Num (pos 0)) none)

-- the value at the position, or the fill
abbrev pub last_step : ℕ → ℤ → ℕ → Step
last_step tensor fill at = step_to at (Pick (Two op.Lt (Local at) (Num (pos 0))) (Num fill) (Val tensor (Local at)))

abbrev pub read_steps : ℕ → List Level → List ℕ → ℤ → List IExpr → ℕ → List Step
read_steps tensor levels shape fill xs at = first_step shape xs at ∷ levels_steps (place_of tensor 0 at) levels shape xs ++ last_step tensor fill at ∷ []
