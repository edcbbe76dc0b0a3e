-- What the steps of a loop's entry found is found wherever their locals and the tensors that the body leaves are as they were.
use Rattle.std.proofs.Common.{◌≡◌, ℕ, ⊎_elim, List, [], ◌∷◌, Option, Some, None, sym, ap, ◌∙◌, subst, ℤ, pos, arith}
use Rattle.fin_tensor.specs.declared.part.Part.{Part}
use Rattle.fin_ast.specs.declared.tree.Index.{Index}
use Rattle.fin_ast.specs.Scope.{Scope}
use Rattle.fin_ast.specs.Value.{Numbers}
use Rattle.fin_base.specs.declared.terms.Op.TheVariants as op
use Rattle.fin_ir.specs.declared.expression.IExpr.{IExpr}
use Rattle.fin_ir.specs.declared.expression.IExpr.TheVariants.{Num, Local, Two}
use Rattle.fin_ir.specs.Value.{is_off}
use Rattle.fin_looplet.specs.View.{Store, value}
use Rattle.fin_looplet.proofs.Exprs.{loads_local, loads_num, loads_two, value_seen}
use Rattle.fin_read.specs.Values.{Heads, value_code}
use Rattle.fin_read.proofs.Stepping.{agree_less}
use Rattle.fin_simp.specs.Rest.{Access}
use Rattle.fin_simp.specs.Sights.{Stand, Nowhere, At, Unsettled}
use Rattle.fin_simp.specs.Work.{Mask, parts_at, masks_of}
use Rattle.fin_drive.specs.Entries.{Entry, IsFound, MadeAll, MadeMasks}
use Rattle.fin_drive.specs.Standing.{DistancesMean}
use Rattle.fin_enter.specs.Bounds.{BoundsMean}
use Rattle.fin_enter.specs.Positions.{spot_in}
use Rattle.fin_enter.specs.Together.{Around, settled_index, behind_place, FoundIn, AllFound}
use Rattle.fin_enter.specs.Masked.{Tested, AllCanBound, AreBounds, behind_bounds}
use Rattle.fin_enter.specs.LoopEntry.{mask_looplets}
use Rattle.fin_enter.specs.Entering.{around_in, tests_in, bounds_from, cursors_from, entered_by, entry_looplets, CanDrive, AllCanDrive, CanEnter}
use Rattle.fin_enter.specs.Lasting.{moved_to, IsAsEntered, EntriesLast}
use Rattle.fin_enter.proofs.Entrances.{all_made}
use Rattle.fin_enter.proofs.LowBounds.{bound_low}
use Rattle.fin_enter.proofs.Masked.{masks_are_tests, bounds_grow}
use Rattle.fin_enter.proofs.Entering.{all_placed, masks_made, positions_found, bounds_found, around_there}

-- ---- in another store

module _ (ts ts' : Store) (ls : List ℤ) where
  there_same : (at : ℕ) → value ts ls (Two op.Ge (Local at) (Num (pos 0))) ≡ value ts' ls (Two op.Ge (Local at) (Num (pos 0)))
  there_same at = value_seen ts ts' (Two op.Ge (Local at) (Num (pos 0))) ls
      (λ t n. absurd (⊎_elim (λ first. loads_local t at first) (λ second. loads_num t (pos 0) second) (loads_two t op.Ge (Local at) (Num (pos 0)) n)))

  place_same : (at : ℕ) → value ts ls (Local at) ≡ value ts' ls (Local at)
  place_same at = value_seen ts ts' (Local at) ls (λ t n. absurd (loads_local t at n))

  found_same : (at : ℕ) (by : IExpr) (s : Stand) → IsFound ts ls (spot_in at by) s → IsFound ts' ls (spot_in at by) s
  found_same at by Nowhere f = sym (ap is_off (there_same at)) ∙ f
  found_same at by (At part q) f = (sym (ap is_off (there_same at)) ∙ f.0, sym (place_same at) ∙ f.1)
  found_same at by Unsettled f = f

  one_found : (h : Heads) (parts : ℕ → List Part) (vars : Numbers) (a : Access) (o : Option (ℕ × Index)) (at : ℕ) → FoundIn ts ls h parts vars a o at → FoundIn ts' ls h parts vars a o at
  one_found h parts vars a None at f = tt
  one_found h parts vars a (Some d) at f = λ by. found_same at by _ (f by)

  all_found : (l : Around) (parts : ℕ → List Part) (vars : Numbers) (reads : List Access) (at : ℕ) → AllFound ts ls l parts vars reads at → AllFound ts' ls l parts vars reads at
  all_found l parts vars [] at f = tt
  all_found l parts vars (a ∷ reads) at f = (one_found l.heads parts vars a (settled_index l a) at f.0, all_found l parts vars reads (behind_place (settled_index l a) at) f.1)

  bounds_same : (h : Heads) (sc : Scope) (vars : Numbers) (var : ℕ) (tests : List Tested) (next : ℕ) → AllCanBound sc var tests → AreBounds ts ls h vars tests next → AreBounds ts' ls h vars tests next
  bounds_same h sc vars var [] next can f = tt
  bounds_same h sc vars var (t ∷ tests) next can f = (
    f.0 ∙ value_seen ts ts' (value_code h t.bound next).value ls (λ k n. absurd ((bound_low h var t.bound next can.0.bound).loads k n)),
    bounds_same h sc vars var tests (value_code h t.bound next).next can.1 f.1,
  )

-- ---- the entry there

module _ (mean : BoundsMean) (distance : DistancesMean) (h : Heads) (sc : Scope) (e : Entry) (next : ℕ) (ts : Store) (ls : List ℤ) (from count : ℕ)
    (can : CanEnter h sc e next) (still : IsAsEntered h e next ts ls) where
  abbrev there : Entry
  there = moved_to e ts ls from count

  one_drives : (a : Access) → CanDrive h sc e a → CanDrive h sc there a
  one_drives a c = record {
    has = c.has;
    shape = c.shape;
    each = c.each;
    named = c.named;
    small = c.small;
    stays = c.stays;
    store = λ same. (let s = c.store same in record { frozen = s.frozen; is = still.store a.tensor same ∙ s.is; shape = s.shape; parts = s.parts; valid = s.valid });
  }

  all_drive : (reads : List Access) → AllCanDrive h sc e reads → AllCanDrive h sc there reads
  all_drive [] c = tt
  all_drive (a ∷ reads) c = (λ d is. one_drives a (c.0 d is), all_drive reads c.1)

  last : MadeAll there e.rest.reads (masks_of e.loop.vars e.loop.loop.var e.rest) (entry_looplets h e next)
  last =
      let vars = e.loop.vars in
      let reads = e.rest.reads in
      let begin = bounds_from h e next in
      let bounds_end = behind_bounds h (tests_in e) begin in
      let same = agree_less bounds_end (cursors_from h e next) ls (entered_by h e next).locals (omega arith) still.locals in
      let around = around_there mean h sc e next can ls same in
      let found = all_found e.store ts ls (around_in h e) (λ tensor. parts_at e.world e.run tensor) vars reads next (positions_found mean h sc e next can ls same) in
      let bounds = bounds_same e.store ts ls h sc vars e.loop.loop.var (tests_in e) begin can.tests (bounds_found mean h sc e next can ls same) in
      let made = masks_made h sc there ls around (tests_in e) begin bounds in
      let masks = subst (λ (ms : List Mask). MadeMasks there ms (mask_looplets h (tests_in e) begin)) (sym (masks_are_tests vars e.loop.loop.var e.rest.tests)) made in
      all_made distance there reads (masks_of vars e.loop.loop.var e.rest) (entry_looplets h e next)
      (all_placed h sc there ls around reads next (cursors_from h e next) (masks_of vars e.loop.loop.var e.rest) (mask_looplets h (tests_in e) begin) (all_drive reads can.reads) found
      (omega (arith, bounds_grow h (tests_in e) begin)) can.after (let room = can.room in let long = still.long in omega (arith, room, long)) masks)

pub entries_last : BoundsMean → DistancesMean → EntriesLast
entries_last mean distance h sc e next ts ls from count can still = last mean distance h sc e next ts ls from count can still
