-- The codes of a parallel loop's entry enter it chunk by chunk wherever it stands.
use Rattle.std.proofs.Common.{◌≡◌, ◌≢◌, ℕ, ◌+◌, ◌-◌, ◌<◌, ◌≤◌, Bool, true, false, List, [], ◌∷◌, length, Option, None, refl, sym, ap, ◌∙◌, subst, ℤ, pos, arith}
use Rattle.std.specs.Prelude.{not, ◌||◌, nat_eq, slice_index_or, slice_set}
use Rattle.std.specs.List.{list_all}
use Rattle.std.proofs.lemmas.Bool.Decides.{nat_tests}
use Rattle.std.proofs.lemmas.List.{length-set, get_or-set_same, get_or-set_other}
use Rattle.fin_ast.specs.declared.header.Header.{Header}
use Rattle.fin_ast.specs.Scope.{is_among, within_loop}
use Rattle.fin_ir.specs.declared.expression.IExpr.{IExpr}
use Rattle.fin_ir.specs.declared.expression.IExpr.TheVariants.{Num}
use Rattle.fin_ir.specs.Machine.{Machine, seen}
use Rattle.fin_ir.specs.Meaning.{meaning_all, chunk_locals}
use Rattle.fin_ir.proofs.Values.{value_local}
use Rattle.fin_looplet.specs.declared.looplet.Looplet.{Looplet}
use Rattle.fin_looplet.specs.View.{value}
use Rattle.fin_stage.specs.Stages.{Stage, Absent, Built, Frozen, stage_at, is_declared}
use Rattle.fin_stage.specs.Staged.{Run, is_made}
use Rattle.fin_stage.specs.Trailing.{RunTrails}
use Rattle.fin_stage.proofs.Alive.{left, right}
use Rattle.fin_read.proofs.Valuing.{values_mean}
use Rattle.fin_nest.specs.Nests.{Nest}
use Rattle.fin_nest.specs.Related.{Live}
use Rattle.fin_nest.specs.Senses.{Behind}
use Rattle.fin_nest.specs.Performs.{Ready}
use Rattle.fin_simp.specs.Fresh.{fresh_in}
use Rattle.fin_simp.specs.Rest.{Rest}
use Rattle.fin_simp.specs.Work.{World, Worked, is_in, can_be_read, is_absent, all_fresh, rests_in, can_be_entered, inside, masks_of}
use Rattle.fin_simp.specs.Moving.{worked_all}
use Rattle.fin_simp.proofs.Fresh.{all_fresh_are}
use Rattle.fin_drive.specs.Entries.{Entry, IsMade, MadeAll}
use Rattle.fin_drive.proofs.Offsets.{distances_mean}
use Rattle.fin_style_point.specs.declared.nest.Nest as point
use Rattle.fin_perform.specs.Layouts.{heads_in, layout_with, start_with}
use Rattle.fin_perform.proofs.Evaluating.{living}
use Rattle.fin_enter.specs.Entering.{around_in, cursors_from}
use Rattle.fin_enter.specs.Lasting.{IsAsEntered}
use Rattle.fin_enter.proofs.Bounds.{bounds_mean}
use Rattle.fin_enter.proofs.Entering.{cursors_grow}
use Rattle.fin_enter.proofs.Lasting.{entries_last}
use Rattle.fin_loops.specs.Loops.{Loop}
use Rattle.fin_loops.specs.Entering.{stmt_of, Spot, StandsAt, world_at, nest_at}
use Rattle.fin_loops.specs.Chunks.{IsChunk, AreAbsent}
use Rattle.fin_loops.specs.Parallel.{Ends, range_in, parallel_in, chunk_entry, EntersChunks}
use Rattle.fin_loops.specs.Sourced.{Sourced, entry_code_of, CanBegin}
use Rattle.fin_loops.specs.Tops.{IsNumbered, IsTop}
use Rattle.fin_loops.specs.Chunked.{IsOfChunks, AreFresh, ChunksEnter}
use Rattle.fin_loops.proofs.Closing.{parts_without}
use Rattle.fin_loops.proofs.FreshThere.{fresh_there}
use Rattle.fin_loops.proofs.Entries.{entry_in, big, told, named, may, top_small, turns_told, behind_told, looplets_told, can_be, there, long_there, left_there, behind_codes}
use Rattle.fin_loops.proofs.Turning.{can_enter, loop_advances}

-- ---- what isn't there before the loop

among_cons : (p : ℕ → Bool) (x t : ℕ) (xs : List ℕ) → p x ≡ true → (is_among xs t ≡ true → p t ≡ true) → (b : Bool) → nat_eq t x ≡ b → (b || is_among xs t) ≡ true → p t ≡ true
among_cons p x t xs own later true e h = let same : t ≡ x = grind (arith, nat_tests) in ap p same ∙ own
among_cons p x t xs own later false e h = later h

among_all : (p : ℕ → Bool) (xs : List ℕ) → list_all p xs ≡ true → (t : ℕ) → is_among xs t ≡ true → p t ≡ true
among_all p [] all t e = cc
among_all p (x ∷ xs) all t e =
    among_cons p x t xs (left (p x) (list_all p xs) all) (among_all p xs (right (p x) (list_all p xs) all) t) (nat_eq t x) refl e

not_declared : (x : Stage) → not (is_declared x) ≡ true → x ≡ Absent
not_declared Absent e = refl
not_declared (Built b) e = cc
not_declared (Frozen format f) e = cc

-- ---- a chunk's locals

module _ (ends : Ends) (ls : List ℤ) (c : ℕ × ℕ) (apart : ends.from < ends.to) (room : ends.to < length ls) where
  long_of : length (chunk_locals ends.from ends.to ls c) ≡ length ls
  long_of = length-set (slice_set ls ends.from (pos c.0)) ends.to (pos c.1) ∙ length-set ls ends.from (pos c.0)

  from_is : slice_index_or (chunk_locals ends.from ends.to ls c) ends.from (pos 0) ≡ pos c.0
  from_is =
      let other : ends.from ≢ ends.to = λ same. omega (arith, apart, same) in
      get_or-set_other (slice_set ls ends.from (pos c.0)) ends.to ends.from (pos c.1) (pos 0) other
      ∙ get_or-set_same ls ends.from (pos c.0) (pos 0) (omega (arith, apart, room))

  to_is : slice_index_or (chunk_locals ends.from ends.to ls c) ends.to (pos 0) ≡ pos c.1
  to_is = get_or-set_same (slice_set ls ends.from (pos c.0)) ends.to (pos c.1) (pos 0) (let long = length-set ls ends.from (pos c.0) in omega (arith, long, room))

  others_are : (y : ℕ) → y < ends.from → slice_index_or (chunk_locals ends.from ends.to ls c) y (pos 0) ≡ slice_index_or ls y (pos 0)
  others_are y lt =
      let not_from : y ≢ ends.from = λ same. omega (arith, lt, same) in
      let not_to : y ≢ ends.to = λ same. omega (arith, lt, apart, same) in
      get_or-set_other (slice_set ls ends.from (pos c.0)) ends.to y (pos c.1) (pos 0) not_to ∙ get_or-set_other ls ends.from y (pos c.0) (pos 0) not_from

-- ---- on a machine that begins a chunk

module _ (l : Loop) (range : Option (ℕ × ℕ)) (line last next need : ℕ) (top : point.Nest) (ends : Ends) (own : ℕ → Bool)
    (sourced : Sourced l) (numbered : IsNumbered l next) (is : IsTop l next top) (over : IsOfChunks l next need top ends) (fresh : AreFresh l own)
    (can : CanBegin l range true line last next need) (q : Spot) (le : need ≤ q.room) (at : StandsAt l (stmt_of l range true line last) next q)
    (r r' : Run) (m : Machine) (ready : Ready (layout_with l.checked q.room) m q.place) (trails : RunTrails r r')
    (live : Live (start_with l.checked q.room q.inputs) [] r' m)
    (able : can_be_entered (world_at l q) true (all_fresh (worked_all (world_at l q) l.body l.here)) (rests_in (inside l.context l.var None) (worked_all (world_at l q) l.body l.here)) r ≡ true) where
  abbrev w : World
  w = world_at l q

  abbrev body : List Worked
  body = worked_all w l.body l.here

  abbrev nest : Nest Run
  nest = nest_at l top q

  -- the nest over the whole range, for which the entry's codes are
  abbrev whole : Nest Run
  whole = record (nest_at l top q) { lo = Num (pos (range_in l).0); hi = Num (pos (range_in l).1) }

  abbrev e : Entry
  e = entry_in l true q r m

  abbrev begun : Machine
  begun = there l range true line last next need sourced numbered can.room q le at r r' m ready trails live able can.ordered whole refl refl refl is.looplets

  long_begun : length begun.locals ≡ q.room
  long_begun = long_there l range true line last next need sourced numbered can.room q le at r r' m ready trails live able can.ordered whole refl refl refl is.looplets ∙ ready.locals

  room : ends.to < length begun.locals
  room = let enough = over.room in let long = long_begun in omega (arith, enough, le, long)

  behind : cursors_from (heads_in l.checked) e next ≤ ends.from
  behind =
      let same = behind_told l range true line last next need sourced numbered can.room q le at r r' m ready trails live able in
      let grows = cursors_grow (around_in (heads_in l.checked) e) e.rest.reads (cursors_from (heads_in l.checked) e next) in
      let after = over.behind in
      omega (arith, same, grows, after)

  -- what the body leaves is what the loop leaves
  steady_is : (t : ℕ) → is_in e.rest.changed t ≡ false → nest.steady t ≡ true
  steady_is t free =
      ap (λ (z : Rest). not (is_in z.changed t)) (sym (told l range true line last next need sourced numbered can.room q le at)) ∙ ap not free

  module _ (c : ℕ × ℕ) (chunk : IsChunk (parallel_in l q r) c) (k : Machine) (locals : k.locals ≡ chunk_locals ends.from ends.to begun.locals c)
      (same : (t : ℕ) → nest.steady t ≡ true → seen k t ≡ seen begun t) where
    as_entered : IsAsEntered (heads_in l.checked) e next (seen k) k.locals
    as_entered = record {
      long = ap length locals ∙ long_of ends begun.locals c over.apart room
          ∙ long_there l range true line last next need sourced numbered can.room q le at r r' m ready trails live able can.ordered whole refl refl refl is.looplets;
      locals = λ y lt. ap (λ (zs : List ℤ). slice_index_or zs y (pos 0)) locals ∙ others_are ends begun.locals c over.apart room y (let low = behind in omega (arith, low, lt));
      store = λ t free. same t (steady_is t free);
    }

    looplets_made : MadeAll (chunk_entry l q r k c) e.rest.reads (masks_of q.vars l.var e.rest) nest.reads
    looplets_made =
        subst (λ (ls : List Looplet). MadeAll (chunk_entry l q r k c) e.rest.reads (masks_of q.vars l.var e.rest) ls)
        (looplets_told l range true line last next need sourced numbered can.room q le at r r' m ready trails live able ∙ sym is.looplets)
        (entries_last (bounds_mean values_mean) distances_mean (heads_in l.checked) (big l range true line last next need sourced numbered can.room q le at) e next (seen k) k.locals c.0 (c.1 - c.0)
        (can_be l range true line last next need sourced numbered can.room q le at r r' m ready trails live able can.ordered) as_entered)

    ends_are : c.0 + (c.1 - c.0) ≡ c.1
    ends_are = let ordered = chunk.ordered in omega (arith, ordered)

    in_range : c.1 ≤ (range_in l).1
    in_range = let whole_range = can.ordered in let within = chunk.ends in omega (arith, whole_range, within)

    made : IsMade (chunk_entry l q r k c) nest
    made = record {
      entered = record { driven = refl; masks = refl };
      bound = (may l range true line last next need sourced numbered can.room q le at).0.counted;
      begins = chunk.begins;
      ends = (let same_end = ends_are in let within = in_range in omega (arith, same_end, within));
      body = turns_told l range true line last next need sourced numbered can.room q le at r (seen k) k.locals c.0 (c.1 - c.0);
      lo = ap (λ (x : IExpr). value (seen k) k.locals x) over.lo ∙ value_local (seen k) k.locals ends.from
          ∙ ap (λ (zs : List ℤ). slice_index_or zs ends.from (pos 0)) locals ∙ from_is ends begun.locals c over.apart room;
      hi = ap (λ (x : IExpr). value (seen k) k.locals x) over.hi ∙ value_local (seen k) k.locals ends.to
          ∙ ap (λ (zs : List ℤ). slice_index_or zs ends.to (pos 0)) locals ∙ to_is ends begun.locals c over.apart room ∙ ap (λ (n : ℕ). pos n) (sym ends_are);
      top = (let same_end = ends_are in let within = in_range in let small = top_small l range true line last next need sourced numbered can.room q le at in omega (arith, same_end, within, small));
      looplets = looplets_made;
    }

  absent : AreAbsent w.setting own r
  absent t o =
      let f = fresh t o in
      let all : list_all (is_absent w r) (fresh_in l.body) ≡ true =
      subst (λ (ts : List ℕ). list_all (is_absent w r) ts ≡ true) (all_fresh_are w l.body l.here)
      (right (list_all (can_be_read w r e.rest.changed) e.rest.reads) (list_all (is_absent w r) (all_fresh body)) able) in
      let gone = among_all (is_absent w r) (fresh_in l.body) all t f in
      let there_is = fresh_there l.body (within_loop q.scope l.var) (named l range true line last next need sourced numbered can.room q le at) t f in
      let lt : t < length l.checked.program.headers = subst (λ (hs : List Header). t < length hs) at.suits.stands.headers there_is in
      let stages = live.stages in
      let long = trails.long in (
        omega (arith, lt, stages, long),
        not_declared (stage_at r.stages t) (right (is_made w.setting t) (not (is_declared (stage_at r.stages t))) gone),
        left (is_made w.setting t) (not (is_declared (stage_at r.stages t))) gone,
      )

  enters : EntersChunks l q top ends own r m (meaning_all (layout_with l.checked q.room) (entry_code_of l true next) m)
  enters = behind_codes l range true line last next need sourced numbered can.room q le at r r' m ready trails live able can.ordered whole refl refl refl is.looplets
      (EntersChunks l q top ends own r m)
      (λ paid. record {
        left = left_there l range true line last next need sourced numbered can.room q le at r r' m ready trails live able can.ordered whole refl refl refl is.looplets;
        pays = paid;
        absent = absent;
        stays = λ from count k a. parts_without w own l.context l.var true l.body l.here q.vars r from count k a;
        made = λ alive c chunk k locals same. made c chunk k locals same;
      })

pub chunks_enter : ChunksEnter
chunks_enter l range line last next need top ends own sourced numbered is over fresh can q le at r m ready stands fine =
    let start = start_with l.checked q.room q.inputs in
    let behind : Behind start r m = stands ((loop_advances l range true line last can.some q r).before fine) in
    enters l range line last next need top ends own sourced numbered is over fresh can q le at r behind.run m ready behind.trails
    (living start behind.run m ready.live behind.related) (can_enter l range true line last can.some q r fine)
