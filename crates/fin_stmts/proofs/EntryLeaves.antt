-- The looplets of a loop's entry have words for fills and tests for masks.
use Rattle.std.proofs.Common.{inl, ℕ, ◌+◌, ◌^◌, ℤ, pos, Bool, true, false, if◌then◌else◌, List, [], ◌∷◌, length, Option, Some, None, refl}
use Rattle.std.specs.Prelude.{nat_lt, slice_index_or}
use denote.Hole.Carrier.{hidden}
use Rattle.fin_base.specs.Words.{IsWord, truth}
use Rattle.fin_base.specs.declared.terms.Op.{Op}
use Rattle.fin_tensor.specs.declared.format.Format.{Format}
use Rattle.fin_tensor.specs.declared.format.Level.{Level}
use Rattle.fin_tensor.specs.declared.format.Level.TheVariants as level
use Rattle.fin_ast.specs.declared.tree.Index.{Index}
use Rattle.fin_ir.specs.declared.expression.IExpr.{IExpr}
use Rattle.fin_ir.specs.declared.expression.IExpr.TheVariants.{Num, Local}
use Rattle.fin_looplet.specs.declared.looplet.Case.{Case}
use Rattle.fin_looplet.specs.declared.looplet.Leaf.{Leaf}
use Rattle.fin_looplet.specs.declared.looplet.Leaf.TheVariants.{Fill, Value}
use Rattle.fin_looplet.specs.declared.looplet.Looplet.{Looplet}
use Rattle.fin_looplet.specs.declared.looplet.Looplet.TheVariants.{Run, Sequence, Stepper, Switch, Shift}
use Rattle.fin_looplet.specs.declared.looplet.Looplet.TheBlock.{shape-the_row-Phase-0, hidden-the_row-Phase-0, shape-the_row-Walker-1, hidden-the_row-Walker-1, shape-the_row-Case-2, hidden-the_row-Case-2, shape-the_row-Looplet-3, hidden-the_row-Looplet-3}
use Rattle.fin_looplet.specs.declared.looplet.Phase.{Phase}
use Rattle.fin_looplet.specs.declared.looplet.Walker.{Walker}
use Rattle.fin_simp.specs.Rest.{Access}
use Rattle.fin_simp.specs.Sights.{driven_index}
use Rattle.fin_unfurl.specs.declared.fibre.Fibre.{Fibre}
use Rattle.fin_unfurl.specs.Parts.{next, leaf, leaf_below}
use Rattle.fin_unfurl.specs.Fibres.{Asked}
use Rattle.fin_unfurl.specs.Walks.{filled, rest, list_end, list_walker, list_walk, runs_walker, block_begin, block, walk_of, is_there, guarded, fibre_of, unfurl_of}
use Rattle.fin_unfurl.specs.Shifts.{outside, boxed, shift_of}
use Rattle.fin_unfurl.specs.Masks.{holds_before, holds_at, holds_behind, bounded, known, mask_of}
use Rattle.fin_drive.specs.declared.reading.Reading.{Reading}
use Rattle.fin_drive.specs.declared.reading.Spot.{Spot}
use Rattle.fin_drive.specs.Looplets.{back, fibre_at, is_bare, edge_of, driven_looplet, turned_round}
use Rattle.fin_drive.specs.Standing.{asked_by}
use Rattle.fin_drive.proofs.Fibres.{fibre_by}
use Rattle.fin_read.specs.Values.{Heads, format_of, value_code}
use Rattle.fin_descend.specs.Leaves.{AllLeaves, EachAllLeaves, LeafWorded, Never}
use Rattle.fin_enter.specs.Positions.{spot_at}
use Rattle.fin_enter.specs.Together.{Around, settled_index, behind_place}
use Rattle.fin_enter.specs.Masked.{Tested}
use Rattle.fin_enter.specs.LoopEntry.{reading_with, shape_in, waiting, read_looplet, behind_cursor, read_looplets, mask_looplets}
use Rattle.fin_loops.specs.Facts.{IsTruthOrGap}

-- ---- as the program's constructors write them

module _ (P L : Leaf → Type 0) where
  abbrev Has : Looplet → Type 0
  Has l = AllLeaves P L l

  no_phase : Has (Sequence [])
  unfolding shape-the_row-Phase-0 hidden-the_row-Phase-0 hidden
  no_phase = tt

  one_phase : (p : Phase) (ps : List Phase) → Has p.child → Has (Sequence ps) → Has (Sequence (p ∷ ps))
  unfolding shape-the_row-Phase-0 hidden-the_row-Phase-0 hidden
  one_phase p ps f g = (f, g)

  no_case : Has (Switch [])
  unfolding shape-the_row-Case-2 hidden-the_row-Case-2 hidden
  no_case = tt

  one_case : (c : Case) (cs : List Case) → Has c.child → Has (Switch cs) → Has (Switch (c ∷ cs))
  unfolding shape-the_row-Case-2 hidden-the_row-Case-2 hidden
  one_case c cs f g = (f, g)

  stepper : (w : Walker) → Has w.child → Has (Stepper w)
  unfolding shape-the_row-Walker-1 hidden-the_row-Walker-1 hidden
  stepper w f = f

  shifted : (by : IExpr) (child : Looplet) → Has child → Has (Shift by child)
  unfolding shape-the_row-Looplet-3 hidden-the_row-Looplet-3 hidden
  shifted by child f = f

  two_phases : (a b : Phase) → Has a.child → Has b.child → Has (Sequence (a ∷ b ∷ []))
  two_phases a b f g = one_phase a (b ∷ []) f (one_phase b [] g no_phase)

  three_phases : (a b c : Phase) → Has a.child → Has b.child → Has c.child → Has (Sequence (a ∷ b ∷ c ∷ []))
  three_phases a b c f g h = one_phase a (b ∷ c ∷ []) f (two_phases b c g h)

-- ---- fibres whose fill is a word

abbrev Worded : Looplet → Type 0
Worded l = AllLeaves LeafWorded LeafWorded l

leaf_worded : (t : ℕ) (o : Option ℕ) (e : IExpr) → LeafWorded (leaf_below t o e)
leaf_worded t None e = tt
leaf_worded t (Some k) e = tt

module _ (f : Fibre) (e : IExpr) (fill : IsWord f.fill) where
  has_leaf : (p : IExpr) → LeafWorded (leaf f p)
  has_leaf p = leaf_worded f.tensor f.below p

  list_worded : Worded (list_walk f e)
  list_worded =
      two_phases LeafWorded LeafWorded (record { stop = list_end f e; child = Stepper (list_walker f e) }) (rest f) (stepper LeafWorded LeafWorded (list_walker f e) (fill, has_leaf (Local f.cursor))) fill

  walk_worded : (kind : Level) → Worded (walk_of kind f e)
  walk_worded level.Dense = has_leaf _
  walk_worded level.List = list_worded
  walk_worded level.Dict = list_worded
  walk_worded level.Runs = stepper LeafWorded LeafWorded (runs_walker f e) (has_leaf (Local f.cursor))
  walk_worded level.Band = three_phases LeafWorded LeafWorded (filled f (block_begin f e)) (block f e) (rest f) fill (has_leaf _) fill

  module _ (there : IExpr) (kind : Level) where
    abbrev walks : Case
    walks = record { test = there; child = walk_of kind f e }

    abbrev filling : Case
    filling = record { test = Num (pos 1); child = Run (Fill f.fill) }

    guarded_by : (b : Bool) → Worded (if b then walk_of kind f e else Switch (walks ∷ filling ∷ []))
    guarded_by true = walk_worded kind
    guarded_by false = one_case LeafWorded LeafWorded walks (filling ∷ []) (walk_worded kind) (one_case LeafWorded LeafWorded filling [] fill (no_case LeafWorded LeafWorded))

    guarded_worded : Worded (guarded f there (walk_of kind f e))
    guarded_worded = guarded_by (is_there there)

unfurled : (a : Asked) → IsWord a.format.fill → Worded (unfurl_of a)
unfolding unfurl_of
unfurled a fill = guarded_worded (fibre_of a) a.place fill a.there (slice_index_or a.format.levels a.level level.Dense)

fibre_worded : (a : Asked) (settled : Bool) → IsWord a.format.fill → Worded (fibre_by a settled (a.cursor + 1))
fibre_worded a true fill = unfurled a fill
fibre_worded a false fill = tt

-- ---- reads

edged_by : (child : Looplet) (by : IExpr) (extent : ℕ) (fill : ℤ) (loose : Bool) → IsWord fill → Worded child → Worded (shift_of child by (if loose then Some (extent, fill) else None))
edged_by child by extent fill false word f = shifted LeafWorded LeafWorded by child f
edged_by child by extent fill true word f =
    three_phases LeafWorded LeafWorded (outside fill by) (boxed child by extent) (outside fill (Num (pos (2 ^ 40)))) word (shifted LeafWorded LeafWorded by child f) word

driven_worded : (format : Format) (r : Reading) (s : Spot) → IsWord format.fill → Worded (driven_looplet format r s)
driven_worded format r s word = by_test (is_bare r) where
  fibre : Worded (fibre_at format r s.place s.there)
  fibre = fibre_worded (asked_by format r s) r.settled word

  by_test : (b : Bool) → Worded (if b then fibre_at format r s.place s.there else shift_of (fibre_at format r s.place s.there) s.by (edge_of r format.fill))
  by_test true = fibre
  by_test false = edged_by (fibre_at format r s.place s.there) s.by r.extent format.fill r.index.loose word fibre

module _ (l : Around) (words : (t : ℕ) → IsWord (format_of l.heads t).fill) where
  module _ (at cursor : ℕ) (a : Access) where
    by_level : (d : ℕ × Index) (b : Bool)
        → Worded (if b then driven_looplet (format_of l.heads a.tensor) (reading_with l a d cursor (shape_in l a)) (spot_at d.0 at (back (reading_with l a d cursor (shape_in l a)))) else waiting)
    by_level d true =
        let r = reading_with l a d cursor (shape_in l a) in driven_worded (format_of l.heads a.tensor) r (spot_at d.0 at (back r)) (words a.tensor)
    by_level d false = tt

    read_worded : (o : Option (ℕ × Index)) → Worded (read_looplet l a o at cursor)
    read_worded None = tt
    read_worded (Some d) = by_level d (nat_lt d.0 (length (format_of l.heads a.tensor).levels))

  pub reads_worded : (reads : List Access) (at cursor : ℕ) → EachAllLeaves LeafWorded LeafWorded (read_looplets l reads at cursor)
  reads_worded [] at cursor = tt
  reads_worded (a ∷ reads) at cursor =
      let o = driven_index l.var a.at in
      (read_worded at cursor a o, reads_worded reads (behind_place (settled_index l a) at) (behind_cursor o cursor))

-- ---- masks

is_truth : (b : Bool) → IsTruthOrGap (Value (Num (truth b)))
is_truth b = inl (b, refl)

mask_told : (o : Op) (b : IExpr) → AllLeaves IsTruthOrGap Never (mask_of o b)
mask_told o b =
    three_phases IsTruthOrGap Never (known (holds_before o) (bounded b)) (known (holds_at o) (next (bounded b))) (known (holds_behind o) (Num (pos (2 ^ 40))))
    (is_truth (holds_before o)) (is_truth (holds_at o)) (is_truth (holds_behind o))

pub masks_told : (h : Heads) (ts : List Tested) (at : ℕ) → EachAllLeaves IsTruthOrGap Never (mask_looplets h ts at)
masks_told h [] at = tt
masks_told h (t ∷ ts) at =
    let v = value_code h t.bound at in (mask_told (if t.bare_first then t.op else turned_round t.op) v.value, masks_told h ts v.next)
