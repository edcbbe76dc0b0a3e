-- The looplets of a loop's entry hold no jumpers.
use Rattle.std.proofs.Common.{inl, inr, ℕ, ◌+◌, ◌^◌, ℤ, pos, Bool, true, false, if◌then◌else◌, List, [], ◌∷◌, ◌++◌, length, Option, Some, None, sym, subst}
use Rattle.std.specs.Prelude.{nat_lt, slice_index_or}
use denote.Hole.Carrier.{hidden}
use Rattle.fin_base.specs.declared.terms.Op.{Op}
use Rattle.fin_tensor.specs.declared.format.Format.{Format}
use Rattle.fin_tensor.specs.declared.format.Level.{Level}
use Rattle.fin_tensor.specs.declared.format.Level.TheVariants as level
use Rattle.fin_ast.specs.declared.tree.Index.{Index}
use Rattle.fin_ir.specs.declared.expression.IExpr.{IExpr}
use Rattle.fin_ir.specs.declared.expression.IExpr.TheVariants.{Num}
use Rattle.fin_looplet.specs.declared.looplet.Case.{Case}
use Rattle.fin_looplet.specs.declared.looplet.Phase.{Phase}
use Rattle.fin_looplet.specs.declared.looplet.Walker.{Walker}
use Rattle.fin_looplet.specs.declared.looplet.Leaf.TheVariants.{Fill}
use Rattle.fin_looplet.specs.declared.looplet.Looplet.{Looplet}
use Rattle.fin_looplet.specs.declared.looplet.Looplet.TheVariants.{Run, Sequence, Stepper, Switch, Shift}
use Rattle.fin_looplet.specs.declared.looplet.Looplet.TheBlock.{shape-the_row-Phase-0, hidden-the_row-Phase-0, shape-the_row-Walker-1, hidden-the_row-Walker-1, shape-the_row-Case-2, hidden-the_row-Case-2, shape-the_row-Looplet-3, hidden-the_row-Looplet-3}
use Rattle.fin_nest.specs.Jumping.{HoldsJumper, NoneHolds}
use Rattle.fin_simp.specs.Rest.{Access}
use Rattle.fin_simp.specs.Sights.{driven_index}
use Rattle.fin_unfurl.specs.declared.fibre.Fibre.{Fibre}
use Rattle.fin_unfurl.specs.Parts.{next}
use Rattle.fin_unfurl.specs.Fibres.{Asked}
use Rattle.fin_unfurl.specs.Walks.{filled, rest, list_end, list_walker, list_walk, runs_walker, block_begin, block, walk_of, is_there, guarded, fibre_of, unfurl_of}
use Rattle.fin_unfurl.specs.Shifts.{outside, boxed, shift_of}
use Rattle.fin_unfurl.specs.Masks.{holds_before, holds_at, holds_behind, bounded, known, mask_of}
use Rattle.fin_drive.specs.declared.reading.Reading.{Reading}
use Rattle.fin_drive.specs.declared.reading.Spot.{Spot}
use Rattle.fin_drive.specs.Looplets.{back, fibre_at, is_bare, edge_of, driven_looplet, turned_round}
use Rattle.fin_drive.specs.Standing.{asked_by}
use Rattle.fin_drive.proofs.Fibres.{fibre_by}
use Rattle.fin_read.specs.Values.{Heads, format_of, value_code}
use Rattle.fin_enter.specs.Positions.{spot_at}
use Rattle.fin_enter.specs.Together.{Around, settled_index, behind_place}
use Rattle.fin_enter.specs.Masked.{Tested, tested_among}
use Rattle.fin_enter.specs.LoopEntry.{bounds_by, reading_with, shape_in, waiting, read_looplet, behind_cursor, read_looplets, mask_looplets}
use Rattle.fin_loops.specs.Loops.{rest_entered}
use Rattle.fin_loops.specs.Tops.{around_of, own_first, TopsHoldNoJumpers}

abbrev Jumpless : Looplet → Type 0
Jumpless l = HoldsJumper l → ⊥

-- ---- as the program's constructors write them

no_phase : Jumpless (Sequence [])
unfolding shape-the_row-Phase-0 hidden-the_row-Phase-0 hidden
no_phase h = h

one_phase : (p : Phase) (ps : List Phase) → Jumpless p.child → Jumpless (Sequence ps) → Jumpless (Sequence (p ∷ ps))
unfolding shape-the_row-Phase-0 hidden-the_row-Phase-0 hidden
one_phase p ps f g (inl h) = f h
one_phase p ps f g (inr h) = g h

no_case : Jumpless (Switch [])
unfolding shape-the_row-Case-2 hidden-the_row-Case-2 hidden
no_case h = h

one_case : (c : Case) (cs : List Case) → Jumpless c.child → Jumpless (Switch cs) → Jumpless (Switch (c ∷ cs))
unfolding shape-the_row-Case-2 hidden-the_row-Case-2 hidden
one_case c cs f g (inl h) = f h
one_case c cs f g (inr h) = g h

stepper : (w : Walker) → Jumpless w.child → Jumpless (Stepper w)
unfolding shape-the_row-Walker-1 hidden-the_row-Walker-1 hidden
stepper w f h = f h

shifted : (by : IExpr) (child : Looplet) → Jumpless child → Jumpless (Shift by child)
unfolding shape-the_row-Looplet-3 hidden-the_row-Looplet-3 hidden
shifted by child f h = f h

three_phases : (a b c : Phase) → Jumpless a.child → Jumpless b.child → Jumpless c.child → Jumpless (Sequence (a ∷ b ∷ c ∷ []))
three_phases a b c f g h = one_phase a (b ∷ c ∷ []) f (one_phase b (c ∷ []) g (one_phase c [] h no_phase))

-- ---- fibres

module _ (f : Fibre) (e : IExpr) where
  list_jumpless : Jumpless (list_walk f e)
  list_jumpless =
      one_phase (record { stop = list_end f e; child = Stepper (list_walker f e) }) (rest f ∷ []) (stepper (list_walker f e) (λ h. h)) (one_phase (rest f) [] (λ h. h) no_phase)

  walk_jumpless : (kind : Level) → Jumpless (walk_of kind f e)
  walk_jumpless level.Dense = λ h. h
  walk_jumpless level.List = list_jumpless
  walk_jumpless level.Dict = list_jumpless
  walk_jumpless level.Runs = stepper (runs_walker f e) (λ h. h)
  walk_jumpless level.Band = three_phases (filled f (block_begin f e)) (block f e) (rest f) (λ h. h) (λ h. h) (λ h. h)

  module _ (there : IExpr) (kind : Level) where
    abbrev walks : Case
    walks = record { test = there; child = walk_of kind f e }

    abbrev filling : Case
    filling = record { test = Num (pos 1); child = Run (Fill f.fill) }

    guarded_by : (b : Bool) → Jumpless (if b then walk_of kind f e else Switch (walks ∷ filling ∷ []))
    guarded_by true = walk_jumpless kind
    guarded_by false = one_case walks (filling ∷ []) (walk_jumpless kind) (one_case filling [] (λ h. h) no_case)

    guarded_jumpless : Jumpless (guarded f there (walk_of kind f e))
    guarded_jumpless = guarded_by (is_there there)

unfurled : (a : Asked) → Jumpless (unfurl_of a)
unfolding unfurl_of
unfurled a = guarded_jumpless (fibre_of a) a.place a.there (slice_index_or a.format.levels a.level level.Dense)

fibre_jumpless : (a : Asked) (settled : Bool) → Jumpless (fibre_by a settled (a.cursor + 1))
fibre_jumpless a true = unfurled a
fibre_jumpless a false = λ h. h

-- ---- reads

shift_jumpless : (child : Looplet) (by : IExpr) (edge : Option (ℕ × ℤ)) → Jumpless child → Jumpless (shift_of child by edge)
shift_jumpless child by None f = shifted by child f
shift_jumpless child by (Some e) f = three_phases (outside e.1 by) (boxed child by e.0) (outside e.1 (Num (pos (2 ^ 40)))) (λ h. h) (shifted by child f) (λ h. h)

driven_jumpless : (format : Format) (r : Reading) (s : Spot) → Jumpless (driven_looplet format r s)
driven_jumpless format r s = by_test (is_bare r) where
  fibre : Jumpless (fibre_at format r s.place s.there)
  fibre = fibre_jumpless (asked_by format r s) r.settled

  by_test : (b : Bool) → Jumpless (if b then fibre_at format r s.place s.there else shift_of (fibre_at format r s.place s.there) s.by (edge_of r format.fill))
  by_test true = fibre
  by_test false = shift_jumpless (fibre_at format r s.place s.there) s.by (edge_of r format.fill) fibre

module _ (l : Around) (at cursor : ℕ) (a : Access) where
  by_level : (d : ℕ × Index) (b : Bool)
      → Jumpless (if b then driven_looplet (format_of l.heads a.tensor) (reading_with l a d cursor (shape_in l a)) (spot_at d.0 at (back (reading_with l a d cursor (shape_in l a)))) else waiting)
  by_level d true = let r = reading_with l a d cursor (shape_in l a) in driven_jumpless (format_of l.heads a.tensor) r (spot_at d.0 at (back r))
  by_level d false = λ h. h

  read_jumpless : (o : Option (ℕ × Index)) → Jumpless (read_looplet l a o at cursor)
  read_jumpless None = λ h. h
  read_jumpless (Some d) = by_level d (nat_lt d.0 (length (format_of l.heads a.tensor).levels))

-- ---- masks

mask_jumpless : (o : Op) (b : IExpr) → Jumpless (mask_of o b)
mask_jumpless o b = three_phases (known (holds_before o) (bounded b)) (known (holds_at o) (next (bounded b))) (known (holds_behind o) (Num (pos (2 ^ 40)))) (λ h. h) (λ h. h) (λ h. h)

masks_jumpless : (h : Heads) (ts : List Tested) (at : ℕ) → NoneHolds (mask_looplets h ts at)
masks_jumpless h [] at = tt
masks_jumpless h (t ∷ ts) at =
    let v = value_code h t.bound at in (mask_jumpless (if t.bare_first then t.op else turned_round t.op) v.value, masks_jumpless h ts v.next)

all_jumpless : (l : Around) (reads : List Access) (ts : List Tested) (at bounds cursor : ℕ) → NoneHolds (read_looplets l reads at cursor ++ mask_looplets l.heads ts bounds)
all_jumpless l [] ts at bounds cursor = masks_jumpless l.heads ts bounds
all_jumpless l (a ∷ reads) ts at bounds cursor =
    let o = driven_index l.var a.at in
    (read_jumpless l at cursor a o, all_jumpless l reads ts (behind_place (settled_index l a) at) bounds (behind_cursor o cursor))

pub tops_hold_no_jumpers : TopsHoldNoJumpers
tops_hold_no_jumpers l next top is =
    subst NoneHolds (sym is.looplets)
    (all_jumpless (around_of l) (rest_entered l).reads (tested_among l.var (rest_entered l).tests) next (bounds_by (around_of l) (rest_entered l).reads next) (own_first l next))
