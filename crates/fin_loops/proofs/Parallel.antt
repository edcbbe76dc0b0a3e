-- The entry's codes, and the code of the nest chunk by chunk, perform a parallel loop.
use Rattle.std.proofs.Common.{◌≡◌, ◌≢◌, ℕ, ◌<◌, ◌≤◌, ◌+◌, ◌-◌, ◌^◌, Bool, true, false, ◌&&◌, List, [], ◌∷◌, ◌++◌, map, length, Option, if◌then◌else◌, refl, sym, ap, ◌∙◌, subst, ℤ, pos, arith}
use Rattle.std.specs.Prelude.{not, nat_le, slice_index_or, slice_set}
use Rattle.std.proofs.lemmas.Bool.Decides.{nat_tests}
use Rattle.std.proofs.lemmas.List.{length-set, get_or-set_other}
use Rattle.fin_ast.specs.Scope.{is_bound}
use Rattle.fin_ast.specs.Value.{number}
use Rattle.fin_ir.specs.declared.code.Code.{Code}
use Rattle.fin_ir.specs.declared.layout.Layout.{Layout}
use Rattle.fin_ir.specs.Declares.{declares}
use Rattle.fin_ir.specs.Machine.{Machine, seen, refused}
use Rattle.fin_ir.specs.Meaning.{meaning, meaning_all, chunk_locals, chunks, opened, in_chunks, is_range}
use Rattle.fin_ir.proofs.Codes.{meaning_par_loop}
use Rattle.fin_ir.proofs.Values.{value_local}
use Rattle.fin_stage.specs.Staged.{Run, worked, regular}
use Rattle.fin_nest.specs.Related.{Start}
use Rattle.fin_nest.specs.Nests.{Nest, Fits, Does as DoesNest}
use Rattle.fin_nest.specs.Senses.{runs}
use Rattle.fin_nest.specs.Performs.{Ready}
use Rattle.fin_nest.proofs.Both.{nothing_is_passed_over}
use Rattle.fin_nest.proofs.Senses.{runs_over}
use Rattle.fin_nest.proofs.Statements.{all_append, hold_on}
use Rattle.fin_nest.proofs.Still.{all_still}
use Rattle.fin_simp.specs.Work.{World, entry_of}
use Rattle.fin_simp.specs.Costs.{Running, MasksCompare}
use Rattle.fin_drive.specs.Entries.{IsMade}
use Rattle.fin_drive.specs.Watches.{part_of}
use Rattle.fin_drive.proofs.Made.{made_nests_are_loops}
use Rattle.fin_style_point.specs.declared.nest.Nest as point
use Rattle.fin_descend.specs.declared.lowered.Lowered.{Lowered}
use Rattle.fin_perform.specs.Layouts.{layout_with, start_with}
use Rattle.fin_perform.specs.Performing.{Does}
use Rattle.fin_perform.specs.Working.{run_of}
use Rattle.fin_loops.specs.Loops.{Loop}
use Rattle.fin_loops.specs.Entering.{stmt_of, Spot, StandsAt, world_at, nest_at}
use Rattle.fin_loops.specs.Chunks.{over_chunks, IsChunk, AreChunks, all_chunks, InChunks, AreAbsent}
use Rattle.fin_loops.specs.Parallel.{Ends, range_in, chunks_code, parallel_in, chunk_entry, EntersChunks, IsLoweredInChunks, ParallelLoopsMean}
use Rattle.fin_loops.proofs.Advancing.{parts_advance}
use Rattle.fin_loops.proofs.Chunks.{loops_in_chunks}
use Rattle.fin_loops.proofs.Opening.{seen_on, opened_stand}
use Rattle.fin_loops.proofs.Placing.{made_fits, turns_are, loop_advances, meant, leaves}

both_hold : (a b : Bool) → (a && b) ≡ true → a ≡ true
both_hold true b e = refl
both_hold false b e = e

module _ (compare : MasksCompare) (l : Loop) (range : Option (ℕ × ℕ)) (line last next need : ℕ) (cs : List Code) (top : point.Nest) (ends : Ends) (code : Lowered)
    (low : IsLoweredInChunks l (stmt_of l range true line last) next need cs top ends code) (q : Spot) (le : need ≤ q.room) (at : StandsAt l (stmt_of l range true line last) next q) where
  abbrev w : World
  w = world_at l q

  abbrev layout : Layout
  layout = layout_with l.checked q.room

  abbrev start : Start
  start = start_with l.checked q.room q.inputs

  abbrev nest : Nest Run
  nest = nest_at l top q

  abbrev own : ℕ → Bool
  own = declares code.code

  abbrev body : Machine → Machine
  body = meaning layout code.code

  abbrev does_loop : Run → Run
  does_loop = run_of w (stmt_of l range true line last) l.here l.context q.vars

  -- ---- in a run, behind the entry

  module _ (r : Run) (m : Machine) (ready : Ready layout m q.place) (h : (runs start).stands r m) (fine : regular (does_loop r) ≡ true) where
    abbrev there : Machine
    there = meaning_all layout cs m

    abbrev x : Running
    x = parallel_in l q r

    abbrev paid : Run
    paid = worked (entry_of x.loop) r

    enters : EntersChunks l q top ends own r m there
    enters = low.enters q le at r m ready h fine

    abbrev locals_of : ℕ × ℕ → List ℤ
    locals_of c = chunk_locals ends.from ends.to there.locals c

    long : length there.locals ≡ layout.locals
    long = enters.left.long ∙ ready.locals

    long_of : (c : ℕ × ℕ) → length (locals_of c) ≡ layout.locals
    long_of c = length-set (slice_set there.locals ends.from (pos c.0)) ends.to (pos c.1) ∙ length-set there.locals ends.from (pos c.0) ∙ long

    module _ (live : there.cut ≡ false) where
      numbers : (y : ℕ) → is_bound q.scope y ≡ true → slice_index_or there.locals y (pos 0) ≡ number q.vars y
      numbers y e = sym (value_local (seen there) there.locals y)
          ∙ at.suits.stands.numbers there (hold_on q.place q.place.facts m there enters.left live at.suits.stands.stay ready.facts) y e

      -- the ends stand behind the variables in scope
      numbers_of : (c : ℕ × ℕ) (y : ℕ) → is_bound q.scope y ≡ true → slice_index_or (locals_of c) y (pos 0) ≡ number q.vars y
      numbers_of c y e =
          let below : y < next = subst (λ (k : ℕ). y < k) at.suits.next_is (at.suits.stands.within y e) in
          let first = low.from in
          let second = low.to in
          let not_from : y ≢ ends.from = λ same. omega (arith, below, first, same) in
          let not_to : y ≢ ends.to = λ same. omega (arith, below, second, same) in
          get_or-set_other (slice_set there.locals ends.from (pos c.0)) ends.to y (pos c.1) (pos 0) not_to
          ∙ get_or-set_other there.locals ends.from y (pos c.0) (pos 0) not_from ∙ numbers y e

      -- what the body doesn't write it doesn't declare
      not_own : (t : ℕ) → nest.steady t ≡ true → (b : Bool) → own t ≡ b → b ≡ false
      not_own t e false o = refl
      not_own t e true o = let f = ap not (low.owns t o) in cc

      abbrev Same : Machine → Type 0
      Same k = k.cut ≡ false → (t : ℕ) → nest.steady t ≡ true → seen k t ≡ seen there t

      -- ---- one chunk

      module _ (c : ℕ × ℕ) (is : IsChunk x c) (k : Machine) (alike : Same k) where
        abbrev begun : Machine
        begun = opened own (locals_of c) k

        seen_begun : k.cut ≡ false → (t : ℕ) → nest.steady t ≡ true → seen begun t ≡ seen there t
        seen_begun e t s = seen_on own (locals_of c) k t (not_own t s (own t) refl) ∙ alike e t s

        made : k.cut ≡ false → IsMade (chunk_entry l q r begun c) nest
        made e = enters.made live c is begun refl (seen_begun e)

        fits : k.cut ≡ false → Fits layout (seen begun) begun nest
        fits e = made_fits compare l top q layout (chunk_entry l q r begun c) begun e (long_of c) (numbers_of c) (made e)

        does_nest : (R : Run) → k.cut ≡ false → (runs start).stands R begun → DoesNest (runs start) (seen begun) R begun (body begun) nest
        does_nest R e stands = (meant l range true line last next need top code low.nest q le at m ready).means.does (seen begun) R begun (fits e)
            ((nothing_is_passed_over start).0 (seen begun) begun.locals nest low.nest.jumpless) stands

        after : (R : Run) → (b : Bool) → k.cut ≡ b → (runs start).stands R begun → (runs start).stands (part_of x c.0 (c.1 - c.0) R) (body begun)
        after R true e stands =
            subst (λ (z : Machine). (runs start).stands (part_of x c.0 (c.1 - c.0) R) z) (sym (all_still layout (code.code ∷ []) begun e))
            (runs_over start (part_of x c.0 (c.1 - c.0)) (λ z. parts_advance w l.context l.var true l.body l.here q.vars r c.0 (c.1 - c.0) z) R begun e stands)
        after R false e stands =
            subst (λ (z : Run). (runs start).stands z (body begun)) ((made_nests_are_loops compare (chunk_entry l q r begun c) nest (made e)).chunk is.one R) (does_nest R e stands).done

        alike_after : (R : Run) → (b : Bool) → k.cut ≡ b → (runs start).stands R begun → Same (body begun)
        alike_after R true e stands = λ f t s. let g = ap (λ (z : Machine). z.cut) (all_still layout (code.code ∷ []) begun e) in cc
        alike_after R false e stands = λ f t s. (does_nest R e stands).steady f t s ∙ seen_begun e t s

      -- ---- all of them

      abbrev Stood : Run → Machine → Type 0
      Stood R k = (runs start).stands R k × AreAbsent w.setting own R

      along : (ds : List (ℕ × ℕ)) → AreChunks x ds → (R : Run) (k : Machine) → (runs start).stands R k → AreAbsent w.setting own R → Same k
          → Stood (over_chunks x ds R) (chunks own body (map locals_of ds) k)
      along [] all R k stands absent alike = (stands, absent)
      along (c ∷ ds) all R k stands absent alike =
          let begun : Machine = opened own (locals_of c) k in
          let opens : (runs start).stands R begun = opened_stand start own (locals_of c) R k (long_of c) absent stands in
          along ds all.1 (part_of x c.0 (c.1 - c.0) R) (body begun) (after c all.0 k alike R k.cut refl opens) (enters.stays c.0 (c.1 - c.0) R absent)
          (alike_after c all.0 k alike R k.cut refl opens)

      cover : InChunks x
      cover = loops_in_chunks x refl

      abbrev last_one : Machine
      last_one = chunks own body (map locals_of (all_chunks x)) there

      all_stood : Stood (over_chunks x (all_chunks x) paid) last_one
      all_stood = along (all_chunks x) cover.all paid there enters.pays enters.absent (λ e t s. refl)

      end_is : x.loop.lo + x.loop.len ≡ (range_in l).1
      end_is =
          let held : nat_le (range_in l).0 (range_in l).1 ≡ true = both_hold (nat_le (range_in l).0 (range_in l).1) (nat_le (range_in l).1 (2 ^ 40)) low.range in
          let ordered : (range_in l).0 ≤ (range_in l).1 = grind (arith, nat_tests) in
          omega (arith, ordered)

      done_live : (runs start).stands (does_loop r) (in_chunks own body ends.from ends.to (range_in l).0 (range_in l).1 there)
      done_live =
          subst (λ (z : ℕ). (runs start).stands (does_loop r) (in_chunks own body ends.from ends.to (range_in l).0 z there)) end_is
          (subst (λ (z : Run). (runs start).stands z (opened own there.locals last_one))
          (cover.whole paid ∙ sym (turns_are l range true line last next need top code low.nest q le at r fine))
          (opened_stand start own there.locals (over_chunks x (all_chunks x) paid) last_one long all_stood.1 all_stood.0))

    either : (b : Bool) → there.cut ≡ b → (runs start).stands (does_loop r)
        (if b then there else (if is_range (range_in l).0 (range_in l).1 then in_chunks own body ends.from ends.to (range_in l).0 (range_in l).1 there else refused there))
    either true e =
        subst (λ (z : Run). (runs start).stands z there) (sym (turns_are l range true line last next need top code low.nest q le at r fine))
        (runs_over start (part_of x x.loop.lo x.loop.len) (λ z. parts_advance w l.context l.var true l.body l.here q.vars r x.loop.lo x.loop.len z) paid there e enters.pays)
    either false e =
        subst (λ (b : Bool). (runs start).stands (does_loop r) (if b then in_chunks own body ends.from ends.to (range_in l).0 (range_in l).1 there else refused there)) (sym low.range)
        (done_live e)

    all_stands : (runs start).stands (does_loop r) (meaning_all layout (cs ++ chunks_code l ends code ∷ []) m)
    all_stands =
        subst (λ (z : Machine). (runs start).stands (does_loop r) z)
        (sym (all_append layout cs (chunks_code l ends code ∷ []) m ∙ meaning_par_loop layout ends.from ends.to (range_in l).0 (range_in l).1 [] code.code there))
        (either there.cut refl)

  pub parallel_does : Does l.checked q.room q.inputs q.place (cs ++ chunks_code l ends code ∷ []) does_loop
  parallel_does = record {
    performs = record {
      does = λ r m ready h fine. all_stands r m ready h fine fine;
      leaves = λ r m ready h. leaves l range true line last next need top code low.nest q le at (cs ++ chunks_code l ends code ∷ []) low.spares m;
    };
    advances = loop_advances l range true line last next need top code low.nest q le at;
  }

pub parallel_loops_mean : MasksCompare → ParallelLoopsMean
parallel_loops_mean compare l range line last next need cs top ends code low room inputs sc vars p le fits given u named =
    parallel_does compare l range line last next need cs top ends code low (record { room = room; inputs = inputs; scope = sc; vars = vars; place = p }) le
    (record { shaped = fits; given = given; suits = u; named = named })
