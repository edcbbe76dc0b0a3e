-- The codes of a loop's entry and the looplets of its nest are named where the names of what remains of its body are good.
use Rattle.std.proofs.Common.{◌≡◌, ℕ, zero, suc, ◌+◌, ◌<◌, ◌≤◌, ℤ, pos, Bool, true, false, ◌&&◌, if◌then◌else◌, List, [], ◌∷◌, ◌++◌, map, length, Option, Some, None, refl, subst, arith}
use Rattle.std.specs.Prelude.{slice_get, slice_index_or, nat_lt, nat_eq, ◌==◌}
use Rattle.std.specs.List.{list_all}
use Rattle.std.proofs.lemmas.Bool.{lt-ltb}
use Rattle.fin_base.specs.declared.terms.Op.TheVariants as op
use Rattle.fin_tensor.specs.declared.format.Level.{Level}
use Rattle.fin_tensor.specs.declared.format.Level.TheVariants as level
use Rattle.fin_ast.specs.declared.header.Header.{Header}
use Rattle.fin_ast.specs.declared.tree.Index.{Index}
use Rattle.fin_ast.specs.Scope.{Scope, holds_of, is_loop, is_index, is_access, differ}
use Rattle.fin_ir.specs.declared.code.Code.TheVariants.{Charge}
use Rattle.fin_ir.specs.declared.expression.IExpr.{IExpr}
use Rattle.fin_ir.specs.declared.expression.IExpr.TheVariants.{Num, Local, Two}
use Rattle.fin_ir.specs.declared.layout.Layout.{Layout}
use Rattle.fin_ir.specs.Named.{is_named_in, is_named}
use Rattle.fin_looplet.specs.declared.looplet.Looplet.{Looplet}
use Rattle.fin_stage.proofs.Alive.{left, right, both, holds_there}
use Rattle.fin_read.specs.Reads.{block_length, place_of}
use Rattle.fin_read.specs.Steps.{assign_of}
use Rattle.fin_read.specs.Values.{Lowered, format_of, shape_of, index_code, value_code}
use Rattle.fin_read.proofs.Equations.{code_grows}
use Rattle.fin_read.proofs.Indexing.{loop_is_bound}
use Rattle.fin_read.proofs.Naming.{local_below, num, local, AllNamed, AreNamed, indices_named, values_are_named}
use Rattle.fin_simp.specs.Rest.{Access, Rest}
use Rattle.fin_simp.specs.Sights.{driven_index}
use Rattle.fin_drive.specs.declared.reading.Reading.{Reading}
use Rattle.fin_drive.specs.Looplets.{other_of, other, back_offset, back_from, back, driven_looplet, turned_round}
use Rattle.fin_perform.proofs.NamingNodes.{named_charge, one_more, some_more}
use Rattle.fin_enter.specs.Charges.{length_code, entry_codes}
use Rattle.fin_enter.specs.LoopEntry.{reading_with, shape_in, waiting, read_looplet, read_looplets, behind_cursor, behind_cursors, mask_looplets, bounds_by, cursors_by, and_length, lengths_by, known_by, steps_by}
use Rattle.fin_enter.specs.Masked.{Tested, tested_among, bound_steps, behind_bounds, AllCanBound}
use Rattle.fin_enter.specs.NamedLooplets.{NamedLooplet, AllNamedLooplets}
use Rattle.fin_enter.specs.Naming.{CanName, EntriesAreNamed}
use Rattle.fin_enter.specs.Positions.{place_at, there_at, spot_at}
use Rattle.fin_enter.specs.Together.{Around, settled_index, steps_of, behind_place, all_positions, behind_all}
use Rattle.fin_enter.proofs.Entering.{cursors_grow}
use Rattle.fin_enter.proofs.Indices.{driven_holds}
use Rattle.fin_enter.proofs.Masked.{bounds_grow}
use Rattle.fin_enter.proofs.NamingLooplets.{driven_named, mask_named}
use Rattle.fin_enter.proofs.NamingSteps.{Named, HasLocal, HasTensor, two, pick, steps_append, long, position_named}
use Rattle.fin_enter.proofs.Together.{place_grows, places_grow}

module _ (layout : Layout) (l : Around) (sc : Scope) (rest : Rest) (next : ℕ) (can : CanName layout l sc rest next) where
  abbrev room : ℕ
  room = layout.locals

  abbrev good : Access → Bool
  good a = is_access sc a.tensor a.at

  abbrev Good : List Access → Type 0
  Good reads = list_all good reads ≡ true

  -- a local before the first free one, or behind it and before the end
  here : (at : ℕ) → at < room → HasLocal layout at
  here at lt = local_below layout at lt

  tensor_there : (a : Access) → good a ≡ true → HasTensor layout a.tensor
  tensor_there a is =
      let sized : Header → Bool = λ (x : Header). length a.at == length x.format.levels in
      let sized_in : List Header → Bool = λ hs. holds_of sized (slice_get hs a.tensor) in
      let lt = holds_there sized l.heads.headers a.tensor (subst (λ (hs : List Header). sized_in hs ≡ true) can.headers (left (sized_in sc.headers) (list_all (is_index sc) a.at) is)) in
      let few = can.tensors in
      lt-ltb a.tensor (length layout.formats) (omega (arith, lt, few))

  indices_there : (a : Access) → good a ≡ true → list_all (is_index sc) a.at ≡ true
  indices_there a is = right (holds_of (λ (x : Header). length a.at == length x.format.levels) (slice_get sc.headers a.tensor)) (list_all (is_index sc) a.at) is

  -- variables of loops in scope have locals, once there is one behind the first free one
  variable : next < room → (x : ℕ) → is_loop sc (Some x) ≡ true → HasLocal layout x
  variable lt x is = let a = can.within x (loop_is_bound sc x is) in let b = can.after in here x (omega (arith, a, b, lt))

  -- ---- positions

  steps_named : next < room → (a : Access) (o : Option (ℕ × Index)) (at : ℕ) → good a ≡ true → behind_place o at < room → AreNamed layout (steps_of l.heads a o at)
  steps_named some a None at is lt = refl
  steps_named some a (Some d) at is lt =
      position_named layout a.tensor at (tensor_there a is) (here at (omega (arith, lt))) (here (at + 1) lt) (format_of l.heads a.tensor).levels (shape_of l.heads a.tensor) (map index_code a.at) d.0
      (indices_named layout sc (variable some) a.at (indices_there a is))

  positions_named : next < room → (reads : List Access) (at : ℕ) → Good reads → behind_all l reads at < room → AreNamed layout (all_positions l reads at)
  positions_named some [] at are lt = refl
  positions_named some (a ∷ reads) at are lt =
      let o = settled_index l a in
      let far = places_grow l reads (behind_place o at) in
      steps_append layout (steps_of l.heads a o at) (all_positions l reads (behind_place o at)) (steps_named some a o at (left (good a) (list_all good reads) are) (omega (arith, far, lt)))
      (positions_named some reads (behind_place o at) (right (good a) (list_all good reads) are) lt)

  -- ---- bounds

  module _ (t : Tested) (at : ℕ) (low : next ≤ at) where
    bound_named : (ts : List Tested) → AllCanBound sc l.var (t ∷ ts) → (value_code l.heads t.bound at).next + 1 ≤ room
        → AreNamed layout (value_code l.heads t.bound at).steps × Named layout (value_code l.heads t.bound at).value
    bound_named ts bound lt =
        let after = can.after in
        values_are_named layout l.heads sc can.count t.bound at can.headers can.tensors can.within bound.0.named (omega (arith, after, low)) lt

  bounds_named : (ts : List Tested) (at : ℕ) → AllCanBound sc l.var ts → next ≤ at → behind_bounds l.heads ts at + 1 ≤ room
      → AreNamed layout (bound_steps l.heads ts at) × AllNamedLooplets layout (mask_looplets l.heads ts at)
  bounds_named [] at bound low lt = (refl, tt)
  bounds_named (t ∷ ts) at bound low lt =
      let v : Lowered = value_code l.heads t.bound at in
      let more = bounds_grow l.heads ts v.next in
      let grown = code_grows l.heads t.bound at in
      let own = bound_named t at low ts bound (omega (arith, more, lt)) in
      let others = bounds_named ts v.next bound.1 (omega (arith, low, grown)) lt in
      (steps_append layout v.steps (bound_steps l.heads ts v.next) own.0 others.0, (mask_named layout (if t.bare_first then t.op else turned_round t.op) v.value own.1, others.1))

  -- ---- the charge

  placed_named : (tensor k at : ℕ) → HasTensor layout tensor → HasLocal layout at → HasLocal layout (at + 1) → Named layout (length_code level.List tensor k at)
  placed_named tensor k at has own behind =
      let place = local layout at own in
      pick layout (Two op.Ge (Local at) (Num (pos 0))) (block_length (place_of tensor k at)) (Num (pos 0)) (two layout op.Ge (Local at) (Num (pos 0)) place (num layout (pos 0)))
      (long layout tensor at has own behind k) (num layout (pos 0))

  length_named : (kind : Level) (tensor k at : ℕ) → HasTensor layout tensor → HasLocal layout at → HasLocal layout (at + 1) → Named layout (length_code kind tensor k at)
  length_named level.Dense tensor k at has own behind = num layout (pos 0)
  length_named level.List tensor k at has own behind = placed_named tensor k at has own behind
  length_named level.Dict tensor k at has own behind = placed_named tensor k at has own behind
  length_named level.Runs tensor k at has own behind = placed_named tensor k at has own behind
  length_named level.Band tensor k at has own behind = num layout (pos 0)

  and_named : (a : Access) (o : Option (ℕ × Index)) (at : ℕ) (es : List IExpr) → good a ≡ true → behind_place o at < room → AllNamed layout es → AllNamed layout (and_length l a o at es)
  and_named a None at es is lt all = all
  and_named a (Some d) at es is lt all =
      let kind : Level = slice_index_or (format_of l.heads a.tensor).levels d.0 level.Dense in
      both (is_named_in layout (length_code kind a.tensor d.0 at)) (list_all (is_named_in layout) es)
      (length_named kind a.tensor d.0 at (tensor_there a is) (here at (omega (arith, lt))) (here (at + 1) lt)) all

  lengths_named : (reads : List Access) (at : ℕ) → Good reads → behind_all l reads at < room → AllNamed layout (lengths_by l reads at)
  lengths_named [] at are lt = refl
  lengths_named (a ∷ reads) at are lt =
      let o = settled_index l a in
      let far = places_grow l reads (behind_place o at) in
      and_named a o at (lengths_by l reads (behind_place o at)) (left (good a) (list_all good reads) are) (omega (arith, far, lt))
      (lengths_named reads (behind_place o at) (right (good a) (list_all good reads) are) lt)

  charges_named : (es : List IExpr) → AllNamed layout es → list_all (is_named layout) (map Charge es) ≡ true
  charges_named [] all = refl
  charges_named (e ∷ es) all =
      one_more layout (Charge e) (map Charge es) (named_charge layout e (left (is_named_in layout e) (list_all (is_named_in layout) es) all))
      (charges_named es (right (is_named_in layout e) (list_all (is_named_in layout) es) all))

  -- ---- looplets

  other_there : (var : ℕ) (a b : Option ℕ) → is_loop sc a ≡ true → is_loop sc b ≡ true → is_loop sc (other_of var a b) ≡ true
  other_there var None b first second = refl
  other_there var (Some x) b first second = by_test (nat_eq x var) where
    by_test : (t : Bool) → is_loop sc (if t then b else Some x) ≡ true
    by_test true = second
    by_test false = first

  back_named : next < room → (z : ℤ) (o : Option ℕ) → is_loop sc o ≡ true → Named layout (back_from z o)
  back_named some z None is = num layout z
  back_named some z (Some y) is = two layout op.Sub (Num z) (Local y) (num layout z) (local layout y (variable some y is))

  place_named : (k at : ℕ) → HasLocal layout at → Named layout (place_at k at)
  place_named zero at has = num layout (pos 0)
  place_named (suc k) at has = local layout at has

  there_named : (k at : ℕ) → HasLocal layout at → Named layout (there_at k at)
  there_named zero at has = num layout (pos 1)
  there_named (suc k) at has = two layout op.Ge (Local at) (Num (pos 0)) (local layout at has) (num layout (pos 0))

  module _ (some : next < room) (a : Access) (is : good a ≡ true) (at cursor : ℕ) (own : at < room) where
    abbrev driven : ℕ × Index → Looplet
    driven d = let r = reading_with l a d cursor (shape_in l a) in driven_looplet (format_of l.heads a.tensor) r (spot_at d.0 at (back r))

    driven_there : (d : ℕ × Index) → driven_index l.var a.at ≡ Some d → cursor + 2 ≤ room → NamedLooplet layout (driven d)
    driven_there d is_driven lt =
        let r : Reading = reading_with l a d cursor (shape_in l a) in
        let i : Index = d.1 in
        let named = driven_holds (is_index sc) l.var a.at d (indices_there a is) is_driven in
        let loops = left (is_loop sc i.first && is_loop sc i.second) (differ i.first i.second) named in
        let others = other_there l.var i.first i.second (left (is_loop sc i.first) (is_loop sc i.second) loops) (right (is_loop sc i.first) (is_loop sc i.second) loops) in
        driven_named layout (format_of l.heads a.tensor) r (spot_at d.0 at (back r)) (tensor_there a is) (here cursor (omega (arith, lt))) (here (cursor + 1) (omega (arith, lt)))
        (place_named d.0 at (here at own)) (there_named d.0 at (here at own)) (back_named some (back_offset i.offset) (other r) others)

    looplet_named : (o : Option (ℕ × Index)) → driven_index l.var a.at ≡ o → behind_cursor o cursor ≤ room → NamedLooplet layout (read_looplet l a o at cursor)
    looplet_named None is_driven lt = num layout (pos 0)
    looplet_named (Some d) is_driven lt = by_level (nat_lt d.0 (length (format_of l.heads a.tensor).levels)) where
      by_level : (b : Bool) → NamedLooplet layout (if b then driven d else waiting)
      by_level true = driven_there d is_driven lt
      by_level false = num layout (pos 0)

  looplets_named : next < room → (reads : List Access) (at cursor : ℕ) (ls : List Looplet) → Good reads → behind_all l reads at < room → behind_cursors l reads cursor ≤ room
      → AllNamedLooplets layout ls → AllNamedLooplets layout (read_looplets l reads at cursor ++ ls)
  looplets_named some [] at cursor ls are lt le all = all
  looplets_named some (a ∷ reads) at cursor ls are lt le all =
      let o = driven_index l.var a.at in
      let place = behind_place (settled_index l a) at in
      let near = place_grows (settled_index l a) at in
      let far = places_grow l reads place in
      let wide = cursors_grow l reads (behind_cursor o cursor) in (
        looplet_named some a (left (good a) (list_all good reads) are) at cursor (omega (arith, near, far, lt)) o refl (omega (arith, wide, le)),
        looplets_named some reads place (behind_cursor o cursor) ls (right (good a) (list_all good reads) are) lt le all,
      )

  -- ---- all of it

  module _ (chunks : ℕ) where
    abbrev tests : List Tested
    tests = tested_among l.var rest.tests

    abbrev bounds : ℕ
    bounds = bounds_by l rest.reads next

    abbrev cursors : ℕ
    cursors = cursors_by l rest.reads rest.tests next

    cursors_fit : cursors ≤ room
    cursors_fit = let wide = cursors_grow l rest.reads cursors in let le = can.room in omega (arith, wide, le)

    bounds_fit : bounds < room
    bounds_fit = let wide = bounds_grow l.heads tests bounds in omega (arith, wide, cursors_fit)

    some_room : next < room
    some_room = let far = places_grow l rest.reads next in omega (arith, far, bounds_fit)

    places_fit : behind_all l rest.reads next < room
    places_fit = omega (arith, bounds_fit)

    known : AreNamed layout (bound_steps l.heads tests bounds) × AllNamedLooplets layout (mask_looplets l.heads tests bounds)
    known = let far = places_grow l rest.reads next in bounds_named tests bounds can.tests (omega (arith, far)) cursors_fit

    all : (list_all (is_named layout) (map assign_of (steps_by l rest.reads rest.tests next) ++ entry_codes (known_by l rest chunks) (lengths_by l rest.reads next)) ≡ true)
        × AllNamedLooplets layout (read_looplets l rest.reads next cursors ++ mask_looplets l.heads tests bounds)
    all =
        let steps = steps_append layout (all_positions l rest.reads next) (bound_steps l.heads tests bounds) (positions_named some_room rest.reads next can.reads places_fit) known.0 in
        let lengths = lengths_named rest.reads next can.reads places_fit in
        let number : IExpr = Num (pos (known_by l rest chunks)) in
        let numbers = both (is_named_in layout number) (list_all (is_named_in layout) (lengths_by l rest.reads next)) (num layout (pos (known_by l rest chunks))) lengths in
        let charges = charges_named (number ∷ lengths_by l rest.reads next) numbers in (
          some_more layout (map assign_of (steps_by l rest.reads rest.tests next)) (entry_codes (known_by l rest chunks) (lengths_by l rest.reads next)) steps charges,
          looplets_named some_room rest.reads next cursors (mask_looplets l.heads tests bounds) can.reads places_fit can.room known.1,
        )

pub entries_are_named : EntriesAreNamed
entries_are_named layout l sc rest chunks next can = all layout l sc rest next can chunks
