-- The steps that find where a driven read stands, as its loop is entered, and what they leave.
use Rattle.std.specs.Prelude.{◌≡◌, ℕ, zero, suc, ◌+◌, ◌<◌, List, ◌∷◌, length, map, take, ℤ, pos, Some}
use Rattle.fin_base.specs.declared.terms.Op.TheVariants as op
use Rattle.fin_tensor.specs.declared.format.Level.{Level}
use Rattle.fin_tensor.specs.Levels.{IsStored}
use Rattle.fin_ast.specs.declared.tree.Index.{Index}
use Rattle.fin_ast.specs.Value.{Numbers, place}
use Rattle.fin_ir.specs.declared.expression.IExpr.{IExpr}
use Rattle.fin_ir.specs.declared.expression.IExpr.TheVariants.{Num, Local, Two}
use Rattle.fin_ir.specs.Frozen.{Frozen}
use Rattle.fin_ir.specs.Machine.{stored}
use Rattle.fin_looplet.specs.View.{Store}
use Rattle.fin_read.specs.Steps.{Step, stepped, Agree}
use Rattle.fin_read.specs.Reads.{first_step, levels_steps, place_of}
use Rattle.fin_read.specs.Means.{AreAt}
use Rattle.fin_simp.specs.Sights.{Stand, stand_at}
use Rattle.fin_drive.specs.declared.reading.Spot.{Spot}
use Rattle.fin_drive.specs.Entries.{IsFound}

-- From the first position through the levels before k, by the indices before it. The local `at` has the position in level
-- k, or -1 where there is none; the local behind it is free for a step of its own.
abbrev pub position_steps : ℕ → List Level → List ℕ → List IExpr → ℕ → ℕ → List Step
position_steps tensor levels shape xs k at = first_step (take k shape) (take k xs) at ∷ levels_steps (place_of tensor 0 at) levels (take k shape) (take k xs)

-- the spot of a read whose position is in a local
abbrev pub spot_in : ℕ → IExpr → Spot
spot_in at by = record { place = Local at; there = Two op.Ge (Local at) (Num (pos 0)); by = by }

-- The position at a level, and whether it is there: a tensor's first level has one fibre, at 0, and that is always there;
-- further down the position is in a local.
abbrev pub place_at : ℕ → ℕ → IExpr
place_at zero at = Num (pos 0)
place_at (suc k) at = Local at

abbrev pub there_at : ℕ → ℕ → IExpr
there_at zero at = Num (pos 1)
there_at (suc k) at = Two op.Ge (Local at) (Num (pos 0))

-- the spot of a read that stands at this level
abbrev pub spot_at : ℕ → ℕ → IExpr → Spot
spot_at k at by = record { place = place_at k at; there = there_at k at; by = by }

-- the locals before `at` are as they were, and the spot is found wherever it and they are kept
pub record IsPlaced (ts : Store) (steps : List Step) (at : ℕ) (ls : List ℤ) (stand : Stand) : Type 0 where
  pub long : length (stepped ts steps ls) ≡ length ls
  pub kept : Agree at (stepped ts steps ls) ls
  pub found : (by : IExpr) (ks : List ℤ) → Agree (at + 1) ks (stepped ts steps ls) → IsFound ts ks (spot_in at by) stand

-- the first indices have their values, whatever the locals from `at` on hold
abbrev pub ArePlaces : Store → ℕ → List ℤ → Numbers → ℕ → List IExpr → List Index → Type 0
ArePlaces ts at ls vars k xs is = AreAt ts at ls (take k xs) (take k (map (place vars) is))

-- the position to which the indices before level k lead
abbrev pub PositionsAreFound : Type 0
PositionsAreFound = (ts : Store) (tensor : ℕ) (levels : List Level) (f : Frozen) (vars : Numbers) (xs : List IExpr) (is : List Index) (k at : ℕ) (ls : List ℤ)
    → ts tensor ≡ stored f → IsStored 1 levels f.shape f.parts f.val → ArePlaces ts at ls vars k xs is
    → k < length levels → k < length is → at + 1 < length ls
    → IsPlaced ts (position_steps tensor levels f.shape xs k at) at ls (stand_at vars f.shape f.parts is k (Some 0))
