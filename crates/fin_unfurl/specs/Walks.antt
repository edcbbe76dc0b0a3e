-- The looplets of walked fibres.
use Rattle.std.specs.Prelude.{ℕ, ◌+◌, min, nat_eq, List, [], ◌∷◌, length, Option, Some, None, pos, Bool, false, not, if◌then◌else◌, slice_index_or}
use Rattle.fin_base.specs.declared.terms.Op.TheVariants as op
use Rattle.fin_tensor.specs.declared.format.Format.{Format}
use Rattle.fin_tensor.specs.declared.format.Level.{Level}
use Rattle.fin_tensor.specs.declared.format.Level.TheVariants.{Dense, List as SortedList, Runs, Band, Dict}
use Rattle.fin_ir.specs.declared.expression.Table.TheVariants as table
use Rattle.fin_ir.specs.declared.expression.IExpr.{IExpr}
use Rattle.fin_ir.specs.declared.expression.IExpr.TheVariants.{Num, Local, Two, Pick}
use Rattle.fin_ir.specs.Value.{is_off}
use Rattle.fin_looplet.specs.declared.looplet.Leaf.TheVariants.{Fill}
use Rattle.fin_looplet.specs.declared.looplet.Looplet.{Looplet}
use Rattle.fin_looplet.specs.declared.looplet.Looplet.TheVariants.{Run, Spike, Lookup, Sequence, Stepper, Switch}
use Rattle.fin_looplet.specs.declared.looplet.Phase.{Phase}
use Rattle.fin_looplet.specs.declared.looplet.Walker.{Walker}
use Rattle.fin_unfurl.specs.declared.fibre.Fibre.{Fibre}
use Rattle.fin_unfurl.specs.Fibres.{Asked}
use Rattle.fin_unfurl.specs.Parts.{next, cell, begin, end, place, leaf}

-- the fill, up to a stop
abbrev pub filled : Fibre → IExpr → Phase
filled f stop = record { stop = stop; child = Run (Fill f.fill) }

-- the fill, up to the extent
abbrev pub rest : Fibre → Phase
rest f = filled f (Num (pos f.extent))

-- whether the fibre has a place
abbrev pub has_places : Fibre → IExpr → IExpr
has_places f p = Two op.Lt (begin f p) (end f p)

-- ---- list and dict: spikes up to the last stored coordinate, and then the fill

abbrev pub list_stop : Fibre → IExpr → IExpr
list_stop f at = next (cell f table.Idx at)

abbrev pub list_end : Fibre → IExpr → IExpr
list_end f p = Pick (has_places f p) (list_stop f (Two op.Sub (end f p) (Num (pos 1)))) (Num (pos 0))

abbrev pub list_walker : Fibre → IExpr → Walker
list_walker f p = record { cursor = f.cursor; seek = place f p; stop = list_stop f (Local f.cursor); child = Spike (Fill f.fill) (leaf f (Local f.cursor)) }

abbrev pub list_walk : Fibre → IExpr → Looplet
list_walk f p = Sequence (record { stop = list_end f p; child = Stepper (list_walker f p) } ∷ rest f ∷ [])

-- ---- runs: one after another

abbrev pub runs_walker : Fibre → IExpr → Walker
runs_walker f p = record { cursor = f.cursor; seek = place f p; stop = cell f table.Stop (Local f.cursor); child = Run (leaf f (Local f.cursor)) }

abbrev pub runs_walk : Fibre → IExpr → Looplet
runs_walk f p = Stepper (runs_walker f p)

-- ---- dense: a position for each coordinate

abbrev pub dense_place : Fibre → IExpr → IExpr
dense_place f p = Two op.Add (Two op.Mul p (Num (pos f.extent))) (Local (f.cursor + 1))

abbrev pub dense_walk : Fibre → IExpr → Looplet
dense_walk f p = Lookup (f.cursor + 1) (leaf f (dense_place f p))

-- ---- band: the block, with the fill before and behind it; a block that is empty stands nowhere

abbrev pub start : Fibre → IExpr → IExpr
start f p = cell f table.Start p

abbrev pub block_begin : Fibre → IExpr → IExpr
block_begin f p = Pick (has_places f p) (start f p) (Num (pos 0))

abbrev pub block_end : Fibre → IExpr → IExpr
block_end f p = Two op.Add (block_begin f p) (Two op.Sub (end f p) (begin f p))

abbrev pub block_place : Fibre → IExpr → IExpr
block_place f p = Two op.Add (begin f p) (Two op.Sub (Local (f.cursor + 1)) (start f p))

abbrev pub block : Fibre → IExpr → Phase
block f p = record { stop = block_end f p; child = Lookup (f.cursor + 1) (leaf f (block_place f p)) }

abbrev pub band_walk : Fibre → IExpr → Looplet
band_walk f p = Sequence (filled f (block_begin f p) ∷ block f p ∷ rest f ∷ [])

-- ---- each level

abbrev pub walk_of : Level → Fibre → IExpr → Looplet
walk_of Dense f p = dense_walk f p
walk_of SortedList f p = list_walk f p
walk_of Runs f p = runs_walk f p
walk_of Band f p = band_walk f p
walk_of Dict f p = list_walk f p

-- ---- a position that may be absent

abbrev pub is_there : IExpr → Bool
is_there (Num n) = not (is_off n)
is_there e = false

abbrev pub guarded : Fibre → IExpr → Looplet → Looplet
guarded f there walk =
    if is_there there then walk else Switch (record { test = there; child = walk } ∷ record { test = Num (pos 1); child = Run (Fill f.fill) } ∷ [])

-- ---- the fibre that is asked for

-- the level below, where there is one; a level's number fits a byte
abbrev pub below_of : List Level → ℕ → Option ℕ
below_of ls k = if nat_eq (k + 1) (length ls) then None else Some (min (k + 1) 255)

abbrev pub fibre_in : Format → ℕ → ℕ → ℕ → ℕ → Fibre
fibre_in format tensor level extent cursor =
    record { tensor = tensor; level = level; below = below_of format.levels level; extent = extent; fill = format.fill; cursor = cursor }

abbrev pub fibre_of : Asked → Fibre
fibre_of a = fibre_in a.format a.tensor a.level a.extent a.cursor

abbrev pub unfurled : Asked → Level → Looplet
unfurled a kind = guarded (fibre_of a) a.there (walk_of kind (fibre_of a) a.place)

-- its level is that of the format; what it means is proved, so that nobody else needs to see into it
unfoldable pub unfurl_of : Asked → Looplet
unfurl_of a = unfurled a (slice_index_or a.format.levels a.level Dense)
