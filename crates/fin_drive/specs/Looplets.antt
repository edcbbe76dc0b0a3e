-- The looplet of a read that a loop drives, and that of a mask.
use Rattle.std.specs.Prelude.{ℕ, ◌+◌, ◌^◌, Bool, not, ◌&&◌, nat_eq, is_none, if◌then◌else◌, ℤ, pos, negsuc, neg_ℤ, int_lt, Option, Some, None}
use Rattle.std.specs.Ordering.{int_eq}
use Rattle.fin_base.specs.declared.terms.Op.{Op}
use Rattle.fin_base.specs.declared.terms.Op.TheVariants as op
use Rattle.fin_tensor.specs.declared.format.Format.{Format}
use Rattle.fin_ir.specs.declared.expression.IExpr.{IExpr}
use Rattle.fin_ir.specs.declared.expression.IExpr.TheVariants.{Num, Local}
use Rattle.fin_looplet.specs.declared.looplet.Leaf.TheVariants.{Sub}
use Rattle.fin_looplet.specs.declared.looplet.Looplet.{Looplet}
use Rattle.fin_looplet.specs.declared.looplet.Looplet.TheVariants.{Lookup}
use Rattle.fin_looplet.specs.Cut.{minus}
use Rattle.fin_unfurl.specs.Fibres.{asked}
use Rattle.fin_unfurl.specs.Walks.{unfurl_of}
use Rattle.fin_unfurl.specs.Shifts.{shift_of}
use Rattle.fin_unfurl.specs.Masks.{mask_of}
use Rattle.fin_drive.specs.declared.reading.Reading.{Reading}
use Rattle.fin_drive.specs.declared.reading.Spot.{Spot}

-- ---- the index, but for the loop's variable

-- the variable that the loop doesn't bind
abbrev pub other_of : ℕ → Option ℕ → Option ℕ → Option ℕ
other_of var None second = None
other_of var (Some x) second = if nat_eq x var then second else Some x

abbrev pub other : Reading → Option ℕ
other r = other_of r.var r.index.first r.index.second

-- an offset with the other sign; further out no index meets its dimension, so that one may stand for all
abbrev pub back_offset : ℤ → ℤ
back_offset o = if int_lt o (negsuc (2 ^ 41)) then pos (2 ^ 41 + 1) else (if int_lt (pos (2 ^ 41 + 1)) o then negsuc (2 ^ 41) else neg_ℤ o)

abbrev pub back_from : ℤ → Option ℕ → IExpr
back_from z None = Num z
back_from z (Some y) = minus (Num z) (Local y)

-- how far the coordinates of the loop lie behind those of the level, by the local of the other variable
abbrev pub back : Reading → IExpr
back r = back_from (back_offset r.index.offset) (other r)

-- the loop's variable alone
abbrev pub is_bare : Reading → Bool
is_bare r = not r.index.loose && (is_none (other r) && int_eq r.index.offset (pos 0))

-- ---- the looplets

-- of a fibre that isn't known before the body is run: the tensor from its first level on, at each coordinate anew
abbrev pub unknown : ℕ → ℕ → Looplet
unknown tensor coord = Lookup coord (Sub tensor 0 (Num (pos 0)) (Num (pos 1)))

-- the fibre, where it stands before the body is run
abbrev pub fibre_at : Format → Reading → IExpr → IExpr → Looplet
fibre_at format r place there =
    if r.settled then unfurl_of (asked format r.tensor r.level r.extent place there r.cursor) else unknown r.tensor (r.cursor + 1)

-- with an edge where the index may leave the extent
abbrev pub edge_of : Reading → ℤ → Option (ℕ × ℤ)
edge_of r fill = if r.index.loose then Some (r.extent, fill) else None

-- along the coordinates of the loop
abbrev pub placed : Reading → ℤ → Looplet → IExpr → Looplet
placed r fill fibre by = if is_bare r then fibre else shift_of fibre by (edge_of r fill)

abbrev pub driven_looplet : Format → Reading → Spot → Looplet
driven_looplet format r s = placed r format.fill (fibre_at format r s.place s.there) s.by

-- ---- masks

-- the comparison of the two sides exchanged
abbrev pub turned_round : Op → Op
turned_round op.Lt = op.Gt
turned_round op.Le = op.Ge
turned_round op.Gt = op.Lt
turned_round op.Ge = op.Le
turned_round o = o

abbrev pub mask_looplet : Op → Bool → IExpr → Looplet
mask_looplet o bare_first bound = mask_of (if bare_first then o else turned_round o) bound
