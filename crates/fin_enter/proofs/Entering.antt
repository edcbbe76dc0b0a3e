-- Behind the steps of its entry a loop's nest is an entrance.
use Rattle.std.proofs.Common.{◌≡◌, ℕ, ◌<◌, ◌≤◌, Bool, true, false, List, [], ◌∷◌, ◌++◌, length, map, Option, Some, None, refl, sym, ap, ◌∙◌, subst, ℤ, arith, if◌then◌else◌}
use Rattle.fin_tensor.specs.declared.format.Level.TheVariants as level
use Rattle.fin_tensor.specs.declared.part.Part.{Part}
use Rattle.fin_ast.specs.declared.tree.Index.{Index}
use Rattle.fin_ast.specs.Scope.{Scope}
use Rattle.fin_ast.specs.Dense.{shape_at}
use Rattle.fin_ir.specs.declared.expression.IExpr.{IExpr}
use Rattle.fin_stage.specs.Staged.{Run}
use Rattle.fin_looplet.specs.declared.looplet.Looplet.{Looplet}
use Rattle.fin_looplet.specs.declared.looplet.Leaf.TheVariants.{Value}
use Rattle.fin_ir.specs.declared.expression.IExpr.TheVariants.{Num}
use Rattle.std.specs.Prelude.{pos, option_map, slice_index_or}
use Rattle.std.specs.List.{cons_option, filter_map}
use Rattle.std.proofs.lemmas.List.Sums.{sum_by-cons}
use Rattle.std.proofs.lemmas.Bool.{lt-ltb}
use Rattle.fin_looplet.specs.View.{value}
use Rattle.fin_read.specs.Steps.{stepped, Agree}
use Rattle.fin_read.specs.Values.{Heads, format_of, shape_of, value_code}
use Rattle.fin_read.proofs.Stepping.{agree_refl, agree_then, agree_less, stepped_append}
use Rattle.fin_nest.specs.Nests.{Nest}
use Rattle.fin_simp.specs.Rest.{Access}
use Rattle.fin_simp.specs.Sights.{Stand, Unsettled, driven_index, stand_at, length_at}
use Rattle.fin_simp.specs.Work.{Driven, Mask, is_in, parts_at, driven_at, length_of, masks_of}
use Rattle.fin_drive.specs.Looplets.{back}
use Rattle.fin_drive.specs.Entries.{Entry, IsFound, MadeMasks, reading_of}
use Rattle.fin_enter.specs.Charges.{length_code}
use Rattle.fin_enter.specs.Positions.{spot_in, spot_at}
use Rattle.fin_enter.specs.Indices.{AreAround}
use Rattle.fin_enter.specs.Bounds.{BoundsMean}
use Rattle.fin_enter.specs.Together.{Around, settled_index, behind_place, all_positions, behind_all, CanBePlaced, AllCanStand, FoundIn, AllFound, ArePlaced}
use Rattle.fin_enter.specs.Masked.{Tested, as_mask, bound_steps, behind_bounds, AreBounds, AreBounded}
use Rattle.fin_enter.specs.Entrances.{PlacedRead, AllPlaced}
use Rattle.fin_enter.specs.LoopEntry.{driven_with, waiting, read_looplet, behind_cursor, read_looplets, behind_cursors, mask_looplets, and_length, lengths_by}
use Rattle.fin_enter.specs.Entering.{HasLengths, around_in, tests_in, bounds_from, cursors_from, entered_by, CanDrive, AllCanDrive, CanEnter, IsNestOf, Enters, EntriesAreEntrances}
use Rattle.fin_enter.proofs.Charges.{lengths_mean}
use Rattle.fin_enter.proofs.Indices.{indices_are_bound}
use Rattle.fin_enter.proofs.Sites.{driven_within, found_at, stored_reads_are_found}
use Rattle.fin_enter.proofs.Together.{place_grows, places_grow, all_positions_are_found}
use Rattle.fin_enter.proofs.Masked.{bounds_grow as bounds_after, masks_are_tests, numbers_kept, all_bounds_mean}

pub cursor_grows : (o : Option (ℕ × Index)) (cursor : ℕ) → cursor ≤ behind_cursor o cursor
cursor_grows None cursor = omega arith
cursor_grows (Some d) cursor = omega arith

pub cursors_grow : (l : Around) (reads : List Access) (cursor : ℕ) → cursor ≤ behind_cursors l reads cursor
cursors_grow l [] cursor = omega arith
cursors_grow l (a ∷ reads) cursor = omega (arith, cursor_grows (driven_index l.var a.at) cursor, cursors_grow l reads (behind_cursor (driven_index l.var a.at) cursor))

-- ---- driven reads can stand before the steps

settled_by : (b : Bool) (o : Option (ℕ × Index)) (d : ℕ × Index) → (if b then None else o) ≡ Some d → (b ≡ false) × (o ≡ Some d)
settled_by true o d e = cc
settled_by false o d e = (refl, e)

module _ (h : Heads) (sc : Scope) (e : Entry) where
  abbrev l : Around
  l = around_in h e

  abbrev parts : ℕ → List Part
  parts tensor = parts_at e.world e.run tensor

  one_stands : (a : Access) (o : Option (ℕ × Index)) → settled_index l a ≡ o → ((d : ℕ × Index) → driven_index e.loop.loop.var a.at ≡ Some d → CanDrive h sc e a) → CanBePlaced e.store h parts sc a o
  one_stands a None is can = tt
  one_stands a (Some d) is can =
      let settled = settled_by (is_in e.rest.changed a.tensor) (driven_index e.loop.loop.var a.at) d is in
      let c = can d settled.1 in
      let s = c.store settled.0 in
      record { frozen = s.frozen; is = s.is; shape = sym s.shape ∙ c.shape; parts_are = sym s.parts; valid = s.valid; each = c.each; named = c.named; small = c.small }

  pub all_stand : (reads : List Access) → AllCanDrive h sc e reads → AllCanStand e.store l parts sc reads
  all_stand [] can = tt
  all_stand (a ∷ reads) can = (one_stands a (settled_index l a) refl can.0, all_stand reads can.1)

  -- ---- and are placed behind them
  module _ (ks : List ℤ) (around : AreAround sc e.loop.loop.var e.loop.vars ks) where
    abbrev e' : Entry
    e' = record e { locals = ks }

    found_as : (a : Access) (d : ℕ × Index) (at cursor : ℕ) (c : CanDrive h sc e a) → driven_index e.loop.loop.var a.at ≡ Some d
        → FoundIn e.store ks h parts e.loop.vars a (settled_index l a) at → (same : is_in e.rest.changed a.tensor ≡ false)
        → (let f = (c.store same).frozen in IsFound e.store ks (spot_at d.0 at (back (reading_of e' a d cursor))) (stand_at e.loop.vars f.shape f.parts a.at d.0 (Some 0)))
    found_as a d at cursor c driven found same =
        let settled : settled_index l a ≡ Some d = ap (λ (b : Bool). if b then None else driven_index e.loop.loop.var a.at) same ∙ driven in
        let by = back (reading_of e' a d cursor) in
        let got = (subst (λ (o : Option (ℕ × Index)). FoundIn e.store ks h parts e.loop.vars a o at) settled found) by in
        let s = c.store same in
        let held = stored_reads_are_found e.world e.run e.store (format_of h a.tensor) a.tensor s ks (spot_in at by) e.loop.vars a.at d.0
        (subst (λ (ns : List ℕ). IsFound e.store ks (spot_in at by) (stand_at e.loop.vars ns (parts a.tensor) a.at d.0 (Some 0))) (sym c.shape) got) in
        let within = driven_within e.loop.loop.var a.at d driven in
        found_at e.store ks e.loop.vars by (format_of h a.tensor).levels s.frozen.shape s.frozen.parts s.frozen.val a.at d.0 at s.valid (omega (arith, within, c.each)) within held

    at_level : (a : Access) (d : ℕ × Index) (at cursor : ℕ) → driven_index e.loop.loop.var a.at ≡ Some d → CanDrive h sc e a
        → read_looplet l a (Some d) at cursor ≡ driven_with l a d at cursor (shape_of h a.tensor)
    at_level a d at cursor is c =
        ap (λ (b : Bool). if b then driven_with l a d at cursor (shape_of h a.tensor) else waiting)
        (lt-ltb d.0 (length (format_of h a.tensor).levels) (omega (arith, driven_within e.loop.loop.var a.at d is, c.each)))

    one_placed : (a : Access) (o : Option (ℕ × Index)) (at cursor : ℕ) → driven_index e.loop.loop.var a.at ≡ o → ((d : ℕ × Index) → driven_index e.loop.loop.var a.at ≡ Some d → CanDrive h sc e a)
        → FoundIn e.store ks h parts e.loop.vars a (settled_index l a) at → at < cursor → e.loop.loop.var ≤ at → behind_cursor o cursor ≤ length ks → PlacedRead e' a o (read_looplet l a o at cursor)
    one_placed a None at cursor is can found below var_below room = (Value (Num (pos 0)), refl)
    one_placed a (Some d) at cursor is can found below var_below room =
        let c = can d is in
        let bound = indices_are_bound e.store sc e.loop.vars e.loop.loop.var a.at d at ks around c.named c.small is var_below in
        record {
          format = format_of h a.tensor;
          at = at;
          cursor = cursor;
          footed = record {
            driven = is;
            has = c.has;
            each = c.each;
            stays = c.stays;
            below = below;
            room = omega (arith, room);
            numbers = bound.others;
            store = c.store;
            found = found_as a d at cursor c is found;
          };
          made = at_level a d at cursor is c ∙ ap (driven_with l a d at cursor) (sym c.shape);
        }

    pub all_placed : (reads : List Access) (at cursor : ℕ) (ms : List Mask) (mls : List Looplet) → AllCanDrive h sc e reads
        → AllFound e.store ks l parts e.loop.vars reads at → behind_all l reads at < cursor → e.loop.loop.var ≤ at
        → behind_cursors l reads cursor ≤ length ks → MadeMasks e' ms mls → AllPlaced e' reads ms (read_looplets l reads at cursor ++ mls)
    all_placed [] at cursor ms mls can found below var_below room masks = masks
    all_placed (a ∷ reads) at cursor ms mls can found below var_below room masks =
        let next = behind_place (settled_index l a) at in
        let o = driven_index l.var a.at in
        let more = place_grows (settled_index l a) at in
        let grown = cursor_grows o cursor in (
          one_placed a o at cursor refl can.0 found.0 (omega (arith, below, more, places_grow l reads next)) var_below (omega (arith, room, cursors_grow l reads (behind_cursor o cursor))),
          all_placed reads next (behind_cursor o cursor) ms mls can.1 found.1 (omega (arith, below, grown)) (omega (arith, var_below, more)) room masks,
        )

    pub masks_made : (tests : List Tested) (next : ℕ) → AreBounds e.store ks h e.loop.vars tests next → MadeMasks e' (map (as_mask e.loop.vars) tests) (mask_looplets h tests next)
    masks_made [] next are = tt
    masks_made (t ∷ tests) next are = (record { bound = (value_code h t.bound next).value; is = are.0; made = refl }, masks_made tests (value_code h t.bound next).next are.1)

    -- ---- the stored lengths

    abbrev driven_of : Access → Option Driven
    driven_of a = option_map (driven_at e.world e.loop.vars e.run e.rest.changed a) (driven_index e.loop.loop.var a.at)

    abbrev stand_in : Access → ℕ × Index → List ℕ → List Part → Stand
    stand_in a d shape ps = stand_at e.loop.vars shape ps a.at d.0 (Some 0)

    length_by : (a : Access) (d : ℕ × Index) (b : Bool) → is_in e.rest.changed a.tensor ≡ b
        → length_of (driven_at e.world e.loop.vars e.run e.rest.changed a d) ≡ length_at d.1.proto (if b then Unsettled else stand_in a d (shape_at e.world.setting a.tensor) (parts a.tensor))
    length_by a d b is = ap (λ (x : Bool). length_at d.1.proto (if x then Unsettled else stand_in a d (shape_at e.world.setting a.tensor) (parts a.tensor))) is

    length_is : (a : Access) (d : ℕ × Index) (at : ℕ) → driven_index e.loop.loop.var a.at ≡ Some d → is_in e.rest.changed a.tensor ≡ false → CanDrive h sc e a
        → FoundIn e.store ks h parts e.loop.vars a (Some d) at
        → value e.store ks (length_code (slice_index_or (format_of h a.tensor).levels d.0 level.Dense) a.tensor d.0 at) ≡ pos (length_of (driven_at e.world e.loop.vars e.run e.rest.changed a d))
    length_is a d at driven same c found =
        let s = c.store same in
        let by = Num (pos 0) in
        let here = stand_in a d (shape_at e.world.setting a.tensor) (parts a.tensor) in
        let by_heads : here ≡ stand_in a d (shape_of h a.tensor) (parts a.tensor) = ap (λ (ns : List ℕ). stand_in a d ns (parts a.tensor)) c.shape in
        let by_store : here ≡ stand_in a d s.frozen.shape s.frozen.parts =
        ap (λ (ns : List ℕ). stand_in a d ns (parts a.tensor)) s.shape ∙ ap (stand_in a d s.frozen.shape) s.parts in
        let got = subst (IsFound e.store ks (spot_in at by)) (sym by_heads ∙ by_store) (found by) in
        lengths_mean e.store a.tensor (format_of h a.tensor).levels s.frozen e.loop.vars a.at d.0 at ks by d.1.proto s.is s.valid
        (omega (arith, driven_within e.loop.loop.var a.at d driven, c.each)) got
        ∙ ap (λ (x : Stand). pos (length_at d.1.proto x)) (sym by_store) ∙ ap (λ (k : ℕ). pos k) (sym (length_by a d false same))

    one_length : (a : Access) (o : Option (ℕ × Index)) (b : Bool) (at : ℕ) (xs : List IExpr) (ds : List Driven)
        → driven_index e.loop.loop.var a.at ≡ o → is_in e.rest.changed a.tensor ≡ b
        → ((d : ℕ × Index) → driven_index e.loop.loop.var a.at ≡ Some d → CanDrive h sc e a) → FoundIn e.store ks h parts e.loop.vars a (if b then None else o) at → HasLengths e ks xs ds
        → HasLengths e ks (and_length l a (if b then None else o) at xs) (cons_option (option_map (driven_at e.world e.loop.vars e.run e.rest.changed a) o) ds)
    one_length a None true at xs ds is among can found rest = rest
    one_length a None false at xs ds is among can found rest = rest
    one_length a (Some d) true at xs ds is among can found rest =
        let own = length_of (driven_at e.world e.loop.vars e.run e.rest.changed a d) in
        record {
          numbers = rest.numbers;
          values = rest.values;
          total = omega (arith, rest.total, length_by a d true among, sum_by-cons (λ (k : ℕ). k) own (map length_of ds));
        }
    one_length a (Some d) false at xs ds is among can found rest =
        let own = length_of (driven_at e.world e.loop.vars e.run e.rest.changed a d) in
        record {
          numbers = own ∷ rest.numbers;
          values = ap (λ (z : ℤ). z ∷ map (value e.store ks) xs) (length_is a d at is among (can d is) found) ∙ ap (λ (zs : List ℤ). pos own ∷ zs) rest.values;
          total = omega (arith, rest.total, sum_by-cons (λ (k : ℕ). k) own (map length_of ds), sum_by-cons (λ (k : ℕ). k) own rest.numbers);
        }

    all_lengths : (reads : List Access) (at : ℕ) → AllCanDrive h sc e reads → AllFound e.store ks l parts e.loop.vars reads at → HasLengths e ks (lengths_by l reads at) (filter_map driven_of reads)
    all_lengths [] at can found = record { numbers = []; values = refl; total = refl }
    all_lengths (a ∷ reads) at can found =
        let next = behind_place (settled_index l a) at in
        one_length a (driven_index e.loop.loop.var a.at) (is_in e.rest.changed a.tensor) at (lengths_by l reads next) (filter_map driven_of reads) refl refl can.0 found.0
        (all_lengths reads next can.1 found.1)

-- ---- all together

module _ (mean : BoundsMean) (h : Heads) (sc : Scope) (e : Entry) (next : ℕ) (can : CanEnter h sc e next) where
  abbrev whole : Around
  whole = around_in h e

  abbrev begin : ℕ
  begin = bounds_from h e next

  abbrev bounds_end : ℕ
  bounds_end = behind_bounds h (tests_in e) begin

  abbrev middle : List ℤ
  middle = stepped e.store (all_positions whole e.rest.reads next) e.locals

  abbrev end : List ℤ
  end = stepped e.store (bound_steps h (tests_in e) begin) middle

  abbrev var_below : e.loop.loop.var ≤ next
  var_below = can.after

  around_after : (ks : List ℤ) → Agree next ks e.locals → AreAround sc e.loop.loop.var e.loop.vars ks
  around_after ks same x among lt = let q = can.around x among lt in (q.0, q.1, same x (omega (arith, lt, var_below)) ∙ q.2, q.3)

  placed : ArePlaced e.store whole (λ tensor. parts_at e.world e.run tensor) e.loop.vars e.rest.reads next e.locals
  placed =
      let tail = cursors_grow whole e.rest.reads (cursors_from h e next) in
      all_positions_are_found e.store whole (λ tensor. parts_at e.world e.run tensor) sc e.loop.vars e.rest.reads next e.locals can.around var_below (all_stand h sc e e.rest.reads can.reads)
      (omega (arith, can.room, tail, bounds_after h (tests_in e) begin))

  bounded : AreBounded e.store h e.loop.vars (tests_in e) begin middle
  bounded =
      let tail = cursors_grow whole e.rest.reads (cursors_from h e next) in
      let grown = places_grow whole e.rest.reads next in
      let near = numbers_kept sc e.loop.loop.var e.loop.vars next e.locals middle can.after placed.kept can.numbers in
      all_bounds_mean mean e.store h sc e.loop.vars e.loop.loop.var (tests_in e) begin middle can.tests
      (omega (arith, can.after, grown)) near (omega (arith, can.room, tail, placed.long))

  is_end : (entered_by h e next).locals ≡ end
  is_end = stepped_append e.store (all_positions whole e.rest.reads next) (bound_steps h (tests_in e) begin) e.locals

  pub long_behind : length (entered_by h e next).locals ≡ length e.locals
  long_behind = ap length is_end ∙ bounded.long ∙ placed.long

  pub kept_behind : Agree next (entered_by h e next).locals e.locals
  kept_behind =
      let grown = places_grow whole e.rest.reads next in
      let back_to_middle : Agree next end middle = agree_less next begin end middle (omega (arith, grown)) bounded.kept in
      subst (λ (js : List ℤ). Agree next js e.locals) (sym is_end) (agree_then next end middle e.locals back_to_middle placed.kept)

  -- wherever the locals of the steps are as they were the positions and the bounds are found
  module _ (ks : List ℤ) (same : Agree bounds_end ks (entered_by h e next).locals) where
    to_end : Agree bounds_end ks end
    to_end = subst (λ (js : List ℤ). Agree bounds_end ks js) is_end same

    pub positions_found : AllFound e.store ks whole (λ tensor. parts_at e.world e.run tensor) e.loop.vars e.rest.reads next
    positions_found =
        let to_middle = agree_then begin ks end middle (agree_less begin bounds_end ks end bounded.grows to_end) bounded.kept in
        placed.found ks (agree_less (behind_all whole e.rest.reads next) begin ks middle (omega arith) to_middle)

    pub bounds_found : AreBounds e.store ks h e.loop.vars (tests_in e) begin
    bounds_found = bounded.found ks to_end

    pub around_there : AreAround sc e.loop.loop.var e.loop.vars ks
    around_there =
        let grown = places_grow whole e.rest.reads next in
        around_after ks (agree_then next ks (entered_by h e next).locals e.locals
        (agree_less next bounds_end ks (entered_by h e next).locals (omega (arith, grown, bounded.grows)) same) kept_behind)

  module _ (n : Nest Run) (nest : IsNestOf h e next n) where
    entered : Enters h e next n
    entered =
        let vars = e.loop.vars in
        let reads = e.rest.reads in
        let ks = (entered_by h e next).locals in
        let same = agree_refl bounds_end ks in
        let found = positions_found ks same in
        let made = masks_made h sc e ks (around_there ks same) (tests_in e) begin (bounds_found ks same) in
        let masks = subst (λ (ms : List Mask). MadeMasks (entered_by h e next) ms (mask_looplets h (tests_in e) begin)) (sym (masks_are_tests vars e.loop.loop.var e.rest.tests)) made in
        let all = all_placed h sc e ks (around_there ks same) reads next (cursors_from h e next) (masks_of vars e.loop.loop.var e.rest) (mask_looplets h (tests_in e) begin) can.reads found
        (omega (arith, bounds_after h (tests_in e) begin)) var_below (omega (arith, can.room, long_behind)) masks in
        record {
          long = long_behind;
          kept = kept_behind;
          lengths = all_lengths h sc e ks (around_there ks same) reads next can.reads found;
          entrance = record {
            bound = can.bound;
            ordered = can.ordered;
            small = can.small;
            lo = nest.lo;
            hi = nest.hi;
            body = nest.body;
            looplets = subst (λ (ls : List Looplet). AllPlaced (entered_by h e next) reads (masks_of vars e.loop.loop.var e.rest) ls) (sym nest.reads) all;
          };
        }

pub entries_are_entrances : BoundsMean → EntriesAreEntrances
entries_are_entrances mean h sc e next n can nest = entered mean h sc e next can n nest
