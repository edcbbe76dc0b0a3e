-- The codes of the entry of a loop without coordinates mean it: behind its entry the loop does nothing.
use Rattle.std.proofs.Common.{◌≡◌, ℕ, ◌+◌, ◌-◌, ◌≤◌, Bool, true, false, ◌&&◌, List, [], ◌∷◌, Option, Some, None, refl, sym, ap, ◌∙◌, subst, ℤ, pos, negsuc, arith}
use Rattle.std.specs.Prelude.{nat_lt, not, is_none, ◌||◌, slice_index_or}
use Rattle.std.proofs.lemmas.Bool.Decides.{nat_tests}
use Rattle.fin_ast.specs.declared.tree.Index.{Index}
use Rattle.fin_ast.specs.Bindings.{bindings_of}
use Rattle.fin_ast.specs.Dense.{Setting, shape_at}
use Rattle.fin_ast.specs.Scope.{Scope, differ, is_among}
use Rattle.fin_ast.specs.Sizes.{leaves, range_at}
use Rattle.fin_ir.specs.declared.expression.IExpr.TheVariants.{Num}
use Rattle.fin_ir.specs.declared.code.Code.{Code}
use Rattle.fin_ir.specs.declared.layout.Layout.{Layout}
use Rattle.fin_ir.specs.Machine.{Machine}
use Rattle.fin_ir.specs.Meaning.{meaning_all}
use Rattle.fin_stage.specs.Staged.{Run, regular, worked}
use Rattle.fin_stage.specs.Trailing.{RunTrails}
use Rattle.fin_stage.proofs.Alive.{left, right, both}
use Rattle.fin_stage.proofs.Trailing.{worked_trails}
use Rattle.fin_read.specs.Values.{Heads}
use Rattle.fin_read.proofs.Valuing.{values_mean}
use Rattle.fin_nest.specs.Nests.{Nest}
use Rattle.fin_nest.specs.Related.{Start, Live}
use Rattle.fin_nest.specs.Senses.{Behind}
use Rattle.fin_nest.specs.Performs.{Ready}
use Rattle.fin_simp.specs.Moving.{stays, all_stay, worked_all}
use Rattle.fin_simp.specs.Rest.{Access, Rest}
use Rattle.fin_simp.specs.Work.{World, Worked, chunk_count, rests_in, all_fresh, can_be_entered, inside, entry_of}
use Rattle.fin_drive.specs.Turns.{seen_turn}
use Rattle.fin_drive.specs.Watches.{watched, part_of}
use Rattle.fin_drive.specs.Entries.{Entry, watches}
use Rattle.fin_perform.specs.Layouts.{heads_in, layout_with, start_with}
use Rattle.fin_perform.specs.Performing.{Does}
use Rattle.fin_perform.specs.Working.{run_of}
use Rattle.fin_perform.proofs.Evaluating.{living}
use Rattle.fin_enter.specs.Entering.{entry_looplets, CanDrive, AllCanDrive, CanEnter}
use Rattle.fin_enter.specs.EntryCodes.{code_by, entry_code, IsEnteredAt, RunsEntry}
use Rattle.fin_enter.proofs.Bounds.{bounds_mean}
use Rattle.fin_enter.proofs.EntryCodes.{entry_codes_enter}
use Rattle.fin_loops.specs.Loops.{Loop}
use Rattle.fin_loops.specs.Empty.{IsEmpty, EmptyLoopsMean}
use Rattle.fin_loops.specs.Entering.{SparesAll, stmt_of, Spot, StandsAt, world_at}
use Rattle.fin_loops.specs.Parallel.{range_in}
use Rattle.fin_loops.specs.Sourced.{Sourced, entry_code_of}
use Rattle.fin_loops.specs.Sparing.{around_stmt}
use Rattle.fin_loops.specs.Tops.{IsNumbered}
use Rattle.fin_loops.proofs.Entries as entries
use Rattle.fin_loops.proofs.Placing.{left_around}
use Rattle.fin_loops.proofs.Sparing.{codes_spare}
use Rattle.fin_loops.proofs.SparingEntries.{entries_spare}
use Rattle.fin_loops.proofs.Turning as turning

-- a number isn't before one that it reaches
not_before : (y n : ℕ) → n ≤ y → nat_lt y n ≡ false
not_before y n le = elim (nat_lt y n) as (λ b. nat_lt y n ≡ b → nat_lt y n ≡ false) [
  | true ↦ (λ e. absurd (grind (arith, nat_tests)))
  | false ↦ (λ e. e)
] refl

-- ---- without ranges

-- What codes of an entry pay doesn't depend on ranges, so they are told over a setting in which each loop has none: there
-- no range is turned round.
abbrev rangeless : Setting → Setting
rangeless w = record w { dims = record { shapes = w.dims.shapes; ranges = [] } }

abbrev rangeless_world : World → World
rangeless_world w = record w { setting = rangeless w.setting }

not_out : (ranges : List (ℕ × ℕ)) (o : ℤ) (first : Option ℕ) (n : ℕ) → not (leaves o (range_at ranges first) n) ≡ true → not (leaves o (range_at [] first) n) ≡ true
not_out ranges o None n e = e
not_out ranges (pos k) (Some v) n e = refl
not_out ranges (negsuc k) (Some v) n e = refl

one_stays : (a b c d d' : Bool) → (d ≡ true → d' ≡ true) → (a && (b || (c && d))) ≡ true → (a && (b || (c && d'))) ≡ true
one_stays false b c d d' f e = cc
one_stays true true c d d' f e = refl
one_stays true false false d d' f e = cc
one_stays true false true d d' f e = f e

indices_stay : (w : Setting) (shape : List ℕ) (k : ℕ) (at : List Index) → all_stay w shape k at ≡ true → all_stay (rangeless w) shape k at ≡ true
indices_stay w shape k [] e = refl
indices_stay w shape k (i ∷ at) e =
    let n = slice_index_or shape k 0 in
    both (stays (rangeless w) n i) (all_stay (rangeless w) shape (k + 1) at)
    (one_stays (differ i.first i.second) i.loose (is_none i.second) (not (leaves i.offset (range_at w.dims.ranges i.first) n)) (not (leaves i.offset (range_at [] i.first) n))
    (not_out w.dims.ranges i.offset i.first n) (left (stays w n i) (all_stay w shape (k + 1) at) e))
    (indices_stay w shape (k + 1) at (right (stays w n i) (all_stay w shape (k + 1) at) e))

module _ (h : Heads) (sc : Scope) (e : Entry) where
  abbrev bare : Entry
  bare = record e { world = rangeless_world e.world }

  one_drives : (a : Access) → CanDrive h sc e a → CanDrive h sc bare a
  one_drives a can = record {
    has = record { fill = can.has.fill; few = can.has.few; long = can.has.long; small = can.has.small };
    shape = can.shape;
    each = can.each;
    named = can.named;
    small = can.small;
    stays = indices_stay e.world.setting (shape_at e.world.setting a.tensor) 0 a.at can.stays;
    store = λ same. let s = can.store same in record { frozen = s.frozen; is = s.is; shape = s.shape; parts = s.parts; valid = s.valid };
  }

  all_drive : (reads : List Access) → AllCanDrive h sc e reads → AllCanDrive h sc bare reads
  all_drive [] all = tt
  all_drive (a ∷ reads) all = (λ d is. one_drives a (all.0 d is), all_drive reads all.1)

before_free : (y next : ℕ) → next ≤ y → (b : Bool) → (nat_lt y next && b) ≡ false
before_free y next le b = ap (λ (c : Bool). c && b) (not_before y next le)

module _ (l : Loop) (range : Option (ℕ × ℕ)) (par : Bool) (line last next need : ℕ) (sourced : Sourced l) (numbered : IsNumbered l next)
    (can : IsEmpty l range par line last next need) (q : Spot) (le : need ≤ q.room) (at : StandsAt l (stmt_of l range par line last) next q) where
  abbrev w : World
  w = world_at l q

  abbrev h : Heads
  h = heads_in l.checked

  abbrev body : List Worked
  body = worked_all w l.body l.here

  abbrev layout : Layout
  layout = layout_with l.checked q.room

  abbrev start : Start
  start = start_with l.checked q.room q.inputs

  abbrev codes : List Code
  codes = entry_code_of l par next

  abbrev does_loop : Run → Run
  does_loop = run_of w (stmt_of l range par line last) l.here l.context q.vars

  abbrev big : Scope
  big = entries.big l range par line last next need sourced numbered can.room q le at

  abbrev paid_in : Run → Run
  paid_in r = worked (entry_of (turning.entering l range par line last can.some q r).loop) r

  -- ---- a machine that does a run there, or one that trails it, pays for the entry

  module _ (r r' : Run) (m : Machine) (ready : Ready layout m q.place) (trails : RunTrails r r') (live : Live start [] r' m)
      (able : can_be_entered w par (all_fresh body) (rests_in (inside l.context l.var None) body) r ≡ true) where
    abbrev e : Entry
    e = bare h big (entries.entry_in l par q r m)

    can_be : CanEnter h big e next
    can_be = record {
      bound = (entries.may l range par line last next need sourced numbered can.room q le at).0.counted;
      ordered = omega arith;
      small = omega arith;
      around = entries.coordinates l range par line last next need sourced numbered can.room q le at r r' m ready trails live able;
      after = entries.var_below l range par line last next need sourced numbered can.room q le at;
      numbers = entries.numbers_before l range par line last next need sourced numbered can.room q le at r r' m ready trails live able;
      room = entries.room_there l range par line last next need sourced numbered can.room q le at r r' m ready trails live able;
      reads = all_drive h big (entries.entry_in l par q r m) e.rest.reads (entries.reads_drive l range par line last next need sourced numbered can.room q le at r r' m ready trails live able);
      tests = entries.tests_bound l range par line last next need sourced numbered can.room q le at r r' m ready trails live able;
    }

    -- some nest over these looplets, of which nothing is asked
    abbrev nest : Nest Run
    nest = record {
      var = l.var;
      binds = λ x. true;
      lo = Num (pos e.from);
      hi = Num (pos (e.from + e.count));
      next = next;
      reads = entry_looplets h e next;
      counts = [];
      body = seen_turn (watched e.loop (watches e));
      pins = λ x. None;
      steady = λ t. true;
    }

    entered_at : IsEnteredAt e start [] r' m
    entered_at = record { entered = record { driven = refl; masks = refl }; store = refl; locals = refl; live = live }

    runs_entry : RunsEntry h e next layout start [] r' m
    runs_entry = (entry_codes_enter (bounds_mean values_mean) h big e next nest layout start [] r' m can_be (record { lo = refl; hi = refl; body = refl; reads = refl }) entered_at (omega arith)).1

    same_code : entry_code h e next ≡ codes
    same_code = ap (λ (z : Rest). code_by (record { heads = h; var = l.var; changed = z.changed }) z (chunk_count par ((range_in l).1 - (range_in l).0)) next)
        (entries.told l range par line last next need sourced numbered can.room q le at)

    pays : Behind start (paid_in r) (meaning_all layout codes m)
    pays = subst (λ (cs : List Code). Behind start (paid_in r) (meaning_all layout cs m)) same_code
        (record { run = worked (entry_of e.loop.loop) r'; trails = worked_trails (entry_of e.loop.loop) r r' trails; related = runs_entry.related })

  -- ---- and that is all

  spares : SparesAll (stmt_of l range par line last) l.here l.context next codes
  spares =
      let x = stmt_of l range par line last in
      let around = around_stmt x l.here l.context next in
      codes_spare x l.here l.context next codes (entries_spare l par next around (λ y low. before_free y next low (not (is_among (bindings_of x) y))))

  none_is_left : (r : Run) → regular (does_loop r) ≡ true → does_loop r ≡ paid_in r
  none_is_left r fine =
      let x = turning.entering l range par line last can.some q r in
      let empty = can.empty in
      let none : x.loop.len ≡ 0 = omega (arith, empty) in
      turning.turns_are l range par line last can.some q r fine ∙ ap (λ (n : ℕ). part_of x x.loop.lo n (paid_in r)) none

  empty_does : Does l.checked q.room q.inputs q.place codes does_loop
  empty_does = record {
    performs = record {
      does = λ r m ready stands fine.
          let behind = stands ((turning.loop_advances l range par line last can.some q r).before fine) in
          let live = living start behind.run m ready.live behind.related in
          let able = turning.can_enter l range par line last can.some q r fine in
          subst (λ (z : Run). Behind start z (meaning_all layout codes m)) (sym (none_is_left r fine)) (pays r behind.run m ready behind.trails live able);
      leaves = λ r m ready stands. left_around l (stmt_of l range par line last) next q at codes spares m;
    };
    advances = turning.loop_advances l range par line last can.some q;
  }

pub empty_loops_mean : EmptyLoopsMean
empty_loops_mean l range par line last next need sourced numbered can room inputs sc vars p le fits given u named =
    empty_does l range par line last next need sourced numbered can (record { room = room; inputs = inputs; scope = sc; vars = vars; place = p }) le
    (record { shaped = fits; given = given; suits = u; named = named })
