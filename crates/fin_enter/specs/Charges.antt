-- The charge of a loop's entry: the loop, its driven reads and masks, and the stored lengths.
use Rattle.std.specs.Prelude.{◌≡◌, ℕ, ◌+◌, ◌*◌, ◌<◌, false, List, ◌∷◌, length, map, sum, slice_index_or, ℤ, pos, Some}
use Rattle.fin_base.specs.declared.terms.Op.TheVariants as op
use Rattle.fin_base.specs.declared.terms.Proto.{Proto}
use Rattle.fin_tensor.specs.declared.format.Level.{Level}
use Rattle.fin_tensor.specs.declared.format.Level.TheVariants as level
use Rattle.fin_tensor.specs.Levels.{IsStored}
use Rattle.fin_ast.specs.declared.tree.Index.{Index}
use Rattle.fin_ast.specs.Value.{Numbers}
use Rattle.fin_ir.specs.declared.code.Code.{Code}
use Rattle.fin_ir.specs.declared.code.Code.TheVariants.{Charge}
use Rattle.fin_ir.specs.declared.expression.IExpr.{IExpr}
use Rattle.fin_ir.specs.declared.expression.IExpr.TheVariants.{Num, Local, Two, Pick}
use Rattle.fin_ir.specs.declared.layout.Layout.{Layout}
use Rattle.fin_ir.specs.Frozen.{Frozen}
use Rattle.fin_ir.specs.Machine.{Machine, stored}
use Rattle.fin_ir.specs.Meaning.{meaning_all}
use Rattle.fin_ir.specs.Value.{value_in}
use Rattle.fin_looplet.specs.View.{Store, value}
use Rattle.fin_read.specs.Reads.{block_length, place_of}
use Rattle.fin_stage.specs.Staged.{Run, worked}
use Rattle.fin_nest.specs.Related.{Start, Related}
use Rattle.fin_simp.specs.Sights.{stand_at, length_at}
use Rattle.fin_simp.specs.Work.{Entered, length_of, entry_of}
use Rattle.fin_drive.specs.Entries.{IsFound}
use Rattle.fin_enter.specs.Positions.{spot_in}

-- ---- stored lengths

-- how many places the fibre at the position in a local has, or 0 where there is no position
abbrev pub placed_length : ℕ → ℕ → ℕ → IExpr
placed_length tensor k at = Pick (Two op.Ge (Local at) (Num (pos 0))) (block_length (place_of tensor k at)) (Num (pos 0))

-- the stored length by the kind of the level: a dense fibre and a block have none
abbrev pub length_code : Level → ℕ → ℕ → ℕ → IExpr
length_code level.Dense tensor k at = Num (pos 0)
length_code level.List tensor k at = placed_length tensor k at
length_code level.Dict tensor k at = placed_length tensor k at
length_code level.Runs tensor k at = placed_length tensor k at
length_code level.Band tensor k at = Num (pos 0)

-- where a read's position is in a local, its code is the length that the loop is charged for
abbrev pub LengthsMean : Type 0
LengthsMean = (ts : Store) (tensor : ℕ) (levels : List Level) (f : Frozen) (vars : Numbers) (is : List Index) (k at : ℕ) (ls : List ℤ) (by : IExpr) (proto : Proto)
    → ts tensor ≡ stored f → IsStored 1 levels f.shape f.parts f.val → k < length levels
    → IsFound ts ls (spot_in at by) (stand_at vars f.shape f.parts is k (Some 0))
    → value ts ls (length_code (slice_index_or levels k level.Dense) tensor k at) ≡ pos (length_at proto (stand_at vars f.shape f.parts is k (Some 0)))

-- ---- the charge

-- what is known of the loop where its code is made, and behind it the lengths
abbrev pub entry_codes : ℕ → List IExpr → List Code
entry_codes known lengths = map Charge (Num (pos known) ∷ lengths)

-- the loop, its driven reads and masks, and the chunks
abbrev pub known_of : Entered → ℕ
known_of e = 1 + 2 * (length e.driven + length e.masks) + e.chunks

-- the expressions have these numbers, which are together the stored lengths
pub record AreLengths (e : Entered) (m : Machine) (lengths : List IExpr) : Type 0 where
  pub numbers : List ℕ
  pub values : map (value_in m) lengths ≡ map pos numbers
  pub total : sum numbers ≡ sum (map length_of e.driven)

-- a machine pays the charge of the entry and nothing else is done, and what does what a run does goes on so
pub record Pays (e : Entered) (lengths : List IExpr) (layout : Layout) (m : Machine) : Type 0 where
  pub charges : m.cut ≡ false → meaning_all layout (entry_codes (known_of e) lengths) m ≡ record m { charges = m.charges + entry_of e }
  pub related : (s : Start) (pins : List ℤ) (r : Run) → Related s pins r m
      → Related s pins (worked (entry_of e) r) (meaning_all layout (entry_codes (known_of e) lengths) m)

abbrev pub EntriesArePaid : Type 0
EntriesArePaid = (e : Entered) (lengths : List IExpr) (layout : Layout) (m : Machine) → (m.cut ≡ false → AreLengths e m lengths) → Pays e lengths layout m
