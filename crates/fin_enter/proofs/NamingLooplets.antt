-- The looplets of driven reads and of masks are named where their positions, distances and bounds are.
use Rattle.std.proofs.Common.{ℕ, ◌+◌, ◌^◌, ℤ, pos, negsuc, Bool, true, false, if◌then◌else◌, List, [], ◌∷◌, Option, Some, None}
use Rattle.std.specs.Prelude.{slice_index_or}
use denote.Hole.Carrier.{hidden}
use Rattle.fin_base.specs.declared.terms.Op.{Op}
use Rattle.fin_base.specs.declared.terms.Op.TheVariants as op
use Rattle.fin_tensor.specs.declared.format.Format.{Format}
use Rattle.fin_tensor.specs.declared.format.Level.{Level}
use Rattle.fin_tensor.specs.declared.format.Level.TheVariants as level
use Rattle.fin_ir.specs.declared.expression.IExpr.{IExpr}
use Rattle.fin_ir.specs.declared.expression.IExpr.TheVariants.{Num, Local, Two}
use Rattle.fin_ir.specs.declared.expression.Table.TheVariants as table
use Rattle.fin_ir.specs.declared.layout.Layout.{Layout}
use Rattle.fin_looplet.specs.declared.looplet.Case.{Case}
use Rattle.fin_looplet.specs.declared.looplet.Phase.{Phase}
use Rattle.fin_looplet.specs.declared.looplet.Walker.{Walker}
use Rattle.fin_looplet.specs.declared.looplet.Leaf.TheVariants.{Fill}
use Rattle.fin_looplet.specs.declared.looplet.Looplet.{Looplet}
use Rattle.fin_looplet.specs.declared.looplet.Looplet.TheVariants.{Run, Sequence, Stepper, Switch, Shift}
use Rattle.fin_looplet.specs.declared.looplet.Looplet.TheBlock.{shape-the_row-Phase-0, hidden-the_row-Phase-0, shape-the_row-Walker-1, hidden-the_row-Walker-1, shape-the_row-Case-2, hidden-the_row-Case-2, shape-the_row-Looplet-3, hidden-the_row-Looplet-3}
use Rattle.fin_read.proofs.Naming.{num, local}
use Rattle.fin_unfurl.specs.declared.fibre.Fibre.{Fibre}
use Rattle.fin_unfurl.specs.Parts.{next, cell, begin, end, place, leaf_below, leaf}
use Rattle.fin_unfurl.specs.Fibres.{Asked}
use Rattle.fin_unfurl.specs.Walks.{filled, rest, has_places, list_stop, list_end, list_walker, list_walk, runs_walker, dense_place, start, block_begin, block_end, block_place, block, walk_of, is_there, guarded, fibre_of, unfurl_of}
use Rattle.fin_unfurl.specs.Shifts.{near, outside, boxed, shift_of}
use Rattle.fin_unfurl.specs.Masks.{holds_before, holds_at, holds_behind, bounded, known, mask_of}
use Rattle.fin_drive.specs.declared.reading.Reading.{Reading}
use Rattle.fin_drive.specs.declared.reading.Spot.{Spot}
use Rattle.fin_drive.specs.Looplets.{fibre_at, is_bare, edge_of, driven_looplet}
use Rattle.fin_drive.specs.Standing.{asked_by}
use Rattle.fin_drive.proofs.Fibres.{fibre_by}
use Rattle.fin_enter.specs.NamedLooplets.{NamedLeaf, NamedLooplet}
use Rattle.fin_enter.proofs.NamingSteps.{Named, HasLocal, HasTensor}
use Rattle.fin_enter.proofs.NamingSteps as named

module _ (layout : Layout) where
  abbrev pub Is : Looplet → Type 0
  Is = NamedLooplet layout

  abbrev N : IExpr → Type 0
  N = Named layout

  -- ---- as the program's constructors write them

  no_phase : Is (Sequence [])
  unfolding shape-the_row-Phase-0 hidden-the_row-Phase-0 hidden
  no_phase = tt

  one_phase : (p : Phase) (ps : List Phase) → N p.stop → Is p.child → Is (Sequence ps) → Is (Sequence (p ∷ ps))
  unfolding shape-the_row-Phase-0 hidden-the_row-Phase-0 hidden
  one_phase p ps stop child more = (stop, child, more)

  no_case : Is (Switch [])
  unfolding shape-the_row-Case-2 hidden-the_row-Case-2 hidden
  no_case = tt

  one_case : (c : Case) (cs : List Case) → N c.test → Is c.child → Is (Switch cs) → Is (Switch (c ∷ cs))
  unfolding shape-the_row-Case-2 hidden-the_row-Case-2 hidden
  one_case c cs test child more = (test, child, more)

  stepper : (w : Walker) → HasLocal layout w.cursor → HasLocal layout (w.cursor + 1) → N w.seek → N w.stop → Is w.child → Is (Stepper w)
  unfolding shape-the_row-Walker-1 hidden-the_row-Walker-1 hidden
  stepper w own above seek stop child = (own, above, seek, stop, child)

  shifted : (by : IExpr) (child : Looplet) → N by → Is child → Is (Shift by child)
  unfolding shape-the_row-Looplet-3 hidden-the_row-Looplet-3 hidden
  shifted by child is f = (is, f)

  three_phases : (a b c : Phase) → N a.stop → Is a.child → N b.stop → Is b.child → N c.stop → Is c.child → Is (Sequence (a ∷ b ∷ c ∷ []))
  three_phases a b c sa ca sb cb sc cc' = one_phase a (b ∷ c ∷ []) sa ca (one_phase b (c ∷ []) sb cb (one_phase c [] sc cc' no_phase))

  -- ---- expressions

  next_named : (e : IExpr) → N e → N (next e)
  next_named e is = named.two layout op.Add e (Num (pos 1)) is (num layout (pos 1))

  below_named : (t : ℕ) (o : Option ℕ) (e : IExpr) → HasTensor layout t → N e → NamedLeaf layout (leaf_below t o e)
  below_named t None e has is = named.val layout t e has is
  below_named t (Some k) e has is = (has, is, num layout (pos 1))

  -- ---- fibres

  module _ (f : Fibre) (has : HasTensor layout f.tensor) (own : HasLocal layout f.cursor) (above : HasLocal layout (f.cursor + 1)) (p : IExpr) (is : N p) where
    at_cursor : N (Local f.cursor)
    at_cursor = local layout f.cursor own

    at_coordinate : N (Local (f.cursor + 1))
    at_coordinate = local layout (f.cursor + 1) above

    leaf_named : (e : IExpr) → N e → NamedLeaf layout (leaf f e)
    leaf_named e = below_named f.tensor f.below e has

    begin_named : N (begin f p)
    begin_named = named.cell layout f.tensor f.level table.Ptr p has is

    end_named : N (end f p)
    end_named = named.cell layout f.tensor f.level table.Ptr (next p) has (next_named p is)

    places_named : N (has_places f p)
    places_named = named.two layout op.Lt (begin f p) (end f p) begin_named end_named

    long_named : N (Two op.Sub (end f p) (begin f p))
    long_named = named.two layout op.Sub (end f p) (begin f p) end_named begin_named

    seek_named : N (place f p)
    seek_named = named.seek layout f.tensor f.level (begin f p) (end f p) (Local (f.cursor + 1)) has begin_named end_named at_coordinate

    stop_named : (at : IExpr) → N at → N (list_stop f at)
    stop_named at h = next_named (cell f table.Idx at) (named.cell layout f.tensor f.level table.Idx at has h)

    list_end_named : N (list_end f p)
    list_end_named =
        let last : IExpr = Two op.Sub (end f p) (Num (pos 1)) in
        let last_named = named.two layout op.Sub (end f p) (Num (pos 1)) end_named (num layout (pos 1)) in
        named.pick layout (has_places f p) (list_stop f last) (Num (pos 0)) places_named (stop_named last last_named) (num layout (pos 0))

    start_named : N (start f p)
    start_named = named.cell layout f.tensor f.level table.Start p has is

    block_begin_named : N (block_begin f p)
    block_begin_named = named.pick layout (has_places f p) (start f p) (Num (pos 0)) places_named start_named (num layout (pos 0))

    block_end_named : N (block_end f p)
    block_end_named = named.two layout op.Add (block_begin f p) (Two op.Sub (end f p) (begin f p)) block_begin_named long_named

    block_place_named : N (block_place f p)
    block_place_named =
        let far : IExpr = Two op.Sub (Local (f.cursor + 1)) (start f p) in
        named.two layout op.Add (begin f p) far begin_named (named.two layout op.Sub (Local (f.cursor + 1)) (start f p) at_coordinate start_named)

    dense_place_named : N (dense_place f p)
    dense_place_named =
        let row : IExpr = Two op.Mul p (Num (pos f.extent)) in
        named.two layout op.Add row (Local (f.cursor + 1)) (named.two layout op.Mul p (Num (pos f.extent)) is (num layout (pos f.extent))) at_coordinate

    list_named : Is (list_walk f p)
    list_named =
        let w : Walker = list_walker f p in
        one_phase (record { stop = list_end f p; child = Stepper w }) (rest f ∷ []) list_end_named
        (stepper w own above seek_named (stop_named (Local f.cursor) at_cursor) (tt, leaf_named (Local f.cursor) at_cursor))
        (one_phase (rest f) [] (num layout (pos f.extent)) tt no_phase)

    walk_named : (kind : Level) → Is (walk_of kind f p)
    walk_named level.Dense = (above, leaf_named (dense_place f p) dense_place_named)
    walk_named level.List = list_named
    walk_named level.Dict = list_named
    walk_named level.Runs = stepper (runs_walker f p) own above seek_named (named.cell layout f.tensor f.level table.Stop (Local f.cursor) has at_cursor) (leaf_named (Local f.cursor) at_cursor)
    walk_named level.Band =
        three_phases (filled f (block_begin f p)) (block f p) (rest f) block_begin_named tt block_end_named (above, leaf_named (block_place f p) block_place_named) (num layout (pos f.extent)) tt

    module _ (there : IExpr) (known_there : N there) (kind : Level) where
      abbrev walks : Case
      walks = record { test = there; child = walk_of kind f p }

      abbrev filling : Case
      filling = record { test = Num (pos 1); child = Run (Fill f.fill) }

      guarded_by : (b : Bool) → Is (if b then walk_of kind f p else Switch (walks ∷ filling ∷ []))
      guarded_by true = walk_named kind
      guarded_by false = one_case walks (filling ∷ []) known_there (walk_named kind) (one_case filling [] (num layout (pos 1)) tt no_case)

      guarded_named : Is (guarded f there (walk_of kind f p))
      guarded_named = guarded_by (is_there there)

  unfurled : (a : Asked) → HasTensor layout a.tensor → HasLocal layout a.cursor → HasLocal layout (a.cursor + 1) → N a.place → N a.there → Is (unfurl_of a)
  unfolding unfurl_of
  unfurled a has own above place there = guarded_named (fibre_of a) has own above a.place place a.there there (slice_index_or a.format.levels a.level level.Dense)

  fibre_named : (a : Asked) (settled : Bool) → HasTensor layout a.tensor → HasLocal layout a.cursor → HasLocal layout (a.cursor + 1) → N a.place → N a.there → Is (fibre_by a settled (a.cursor + 1))
  fibre_named a true has own above place there = unfurled a has own above place there
  fibre_named a false has own above place there = (above, (has, num layout (pos 0), num layout (pos 1)))

  -- ---- reads

  near_named : (by : IExpr) → N by → N (near by)
  near_named by is =
      let most = named.two layout op.Min by (Num (pos (2 ^ 40))) is (num layout (pos (2 ^ 40))) in
      named.two layout op.Max (Two op.Min by (Num (pos (2 ^ 40)))) (Num (negsuc (2 ^ 41))) most (num layout (negsuc (2 ^ 41)))

  shift_named : (child : Looplet) (by : IExpr) (edge : Option (ℕ × ℤ)) → N by → Is child → Is (shift_of child by edge)
  shift_named child by None is f = shifted by child is f
  shift_named child by (Some e) is f =
      three_phases (outside e.1 by) (boxed child by e.0) (outside e.1 (Num (pos (2 ^ 40)))) is tt (named.two layout op.Add (near by) (Num (pos e.0)) (near_named by is) (num layout (pos e.0)))
      (shifted by child is f) (num layout (pos (2 ^ 40))) tt

  pub driven_named : (format : Format) (r : Reading) (s : Spot) → HasTensor layout r.tensor → HasLocal layout r.cursor → HasLocal layout (r.cursor + 1) → N s.place → N s.there → N s.by
      → Is (driven_looplet format r s)
  driven_named format r s has own above place there by = by_test (is_bare r) where
    fibre : Is (fibre_at format r s.place s.there)
    fibre = fibre_named (asked_by format r s) r.settled has own above place there

    by_test : (b : Bool) → Is (if b then fibre_at format r s.place s.there else shift_of (fibre_at format r s.place s.there) s.by (edge_of r format.fill))
    by_test true = fibre
    by_test false = shift_named (fibre_at format r s.place s.there) s.by (edge_of r format.fill) by fibre

  -- ---- masks

  bounded_named : (b : IExpr) → N b → N (bounded b)
  bounded_named b is =
      named.two layout op.Max (Two op.Min b (Num (pos (2 ^ 40)))) (Num (negsuc 0)) (named.two layout op.Min b (Num (pos (2 ^ 40))) is (num layout (pos (2 ^ 40)))) (num layout (negsuc 0))

  pub mask_named : (o : Op) (b : IExpr) → N b → Is (mask_of o b)
  mask_named o b is =
      let stop = bounded_named b is in
      three_phases (known (holds_before o) (bounded b)) (known (holds_at o) (next (bounded b))) (known (holds_behind o) (Num (pos (2 ^ 40))))
      stop (num layout _) (next_named (bounded b) stop) (num layout _) (num layout (pos (2 ^ 40))) (num layout _)
