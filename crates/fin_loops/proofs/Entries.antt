-- What a loop's entry asks is there wherever the loop stands, and its codes leave the place as it was and pay for the entry.
use Rattle.std.proofs.Common.{◌≡◌, ℕ, zero, suc, ◌+◌, ◌-◌, ◌<◌, ◌≤◌, ◌^◌, Bool, true, false, ◌&&◌, ⊎_elim, List, [], ◌∷◌, length, Option, Some, None, if◌then◌else◌}
use Rattle.std.proofs.Common.{refl, sym, ap, ◌∙◌, subst, ℤ, pos, arith}
use Rattle.std.specs.Prelude.{not, is_some, ◌||◌, ◌==◌, nat_eq, slice_get, slice_index_or, unwrap_or, option_map}
use Rattle.std.specs.List.{list_all}
use Rattle.std.specs.Option.{option_or}
use Rattle.std.proofs.lemmas.Bool.{or_cases, or_left, or_right}
use Rattle.std.proofs.lemmas.Bool.Decides.{nat_tests}
use Rattle.fin_tensor.specs.Building.{no_format}
use Rattle.fin_tensor.specs.TensorFunction.{TensorFunction}
use Rattle.fin_ast.specs.declared.header.Header.{Header}
use Rattle.fin_ast.specs.declared.tree.Expr.{Expr, map-Expr, out-Expr, fold_out-Expr}
use Rattle.fin_ast.specs.declared.tree.Expr.TheOpen.{Expr-F}
use Rattle.fin_ast.specs.Bindings.{bindings_step, counts_from}
use Rattle.fin_ast.specs.Dense.{made_at}
use Rattle.fin_ast.specs.Scope.{Scope, is_among, is_bound, holds_of, is_access, is_index, expr_step, is_named_expr, stmt_step, are_named, within_loop}
use Rattle.fin_ast.specs.Shaped.{AreRanged}
use Rattle.fin_ast.specs.Value.{number}
use Rattle.fin_ast.proofs.Nodes.{of_loop}
use Rattle.fin_ir.specs.declared.code.Code.{Code}
use Rattle.fin_ir.specs.declared.expression.IExpr.TheVariants.{Num}
use Rattle.fin_ir.specs.declared.layout.Layout.{Layout}
use Rattle.fin_ir.specs.Machine.{Machine, seen}
use Rattle.fin_ir.specs.Meaning.{meaning_all}
use Rattle.fin_ir.proofs.Values.{value_local}
use Rattle.fin_looplet.specs.View.{Store}
use Rattle.fin_stage.specs.Stages.{Stage, Absent, Built, Frozen, stage_at, frozen_in}
use Rattle.fin_stage.specs.Staged.{Run, worked, tensors_of}
use Rattle.fin_stage.specs.Trailing.{StageTrails, RunTrails}
use Rattle.fin_stage.proofs.Alive.{left, right, holds_there}
use Rattle.fin_stage.proofs.Trailing.{worked_trails}
use Rattle.fin_read.specs.Values.{Heads, format_of}
use Rattle.fin_read.proofs.Valuing.{values_mean}
use Rattle.fin_nest.specs.Nests.{Nest}
use Rattle.fin_nest.specs.Related.{Start, Live}
use Rattle.fin_nest.specs.Senses.{runs}
use Rattle.fin_nest.specs.Performs.{Ready, Left}
use Rattle.fin_simp.specs.Rest.{Access, Test, Rest}
use Rattle.fin_simp.specs.Moving.{access_stays, worked_all, running}
use Rattle.fin_simp.specs.Work.{World, Worked, Context, is_comparison, is_var, is_bound_of, is_in, can_be_read, is_absent, chunk_count, frozen_parts}
use Rattle.fin_simp.specs.Work.{parts_or, rests_in, all_fresh, can_be_entered, inside, entry_of}
use Rattle.fin_drive.specs.Turns.{Slot, seen_turn}
use Rattle.fin_drive.specs.Watches.{watched}
use Rattle.fin_drive.specs.Entries.{Entry, watches}
use Rattle.fin_perform.specs.Layouts.{heads_in, layout_with, start_with}
use Rattle.fin_perform.specs.Places.{AllMayBind}
use Rattle.fin_enter.specs.Indices.{AreAround, small_offsets}
use Rattle.fin_enter.specs.Bounds.{HaveNumbers}
use Rattle.fin_enter.specs.Stores.{IsStoredAs}
use Rattle.fin_enter.specs.Masked.{Tested, tested, tested_by, and_tested, tested_among, CanBound, AllCanBound}
use Rattle.fin_enter.specs.LoopEntry.{behind_by, looplets_by}
use Rattle.fin_enter.specs.Entrances.{IsEntrance}
use Rattle.fin_enter.specs.Entering.{around_in, behind_entry, entry_looplets, entered_by, tests_in, CanDrive, AllCanDrive, CanEnter, IsNestOf}
use Rattle.fin_enter.specs.Entering as entry
use Rattle.fin_enter.specs.EntryCodes.{code_by, entry_code, IsEnteredAt, RunsEntry}
use Rattle.fin_enter.proofs.Bounds.{bounds_mean}
use Rattle.fin_enter.proofs.EntryCodes.{entry_codes_enter}
use Rattle.fin_enter.proofs.Stores.{tensors_have_formats, tensors_are_stored}
use Rattle.fin_loops.specs.Loops.{Loop, bound_in, rest_entered, slots_of, around, watching}
use Rattle.fin_loops.specs.Entering.{stmt_of, Spot, StandsAt, world_at}
use Rattle.fin_loops.specs.Parallel.{range_in}
use Rattle.fin_loops.specs.Sourced.{Sourced, entry_code_of}
use Rattle.fin_loops.specs.Tops.{own_end, looplets_from, IsNumbered}
use Rattle.fin_loops.proofs.Enclosing.{enclosing, has_own, has_inner, all_loops}
use Rattle.fin_loops.proofs.Named.{reads_remain, accesses_named, tests_named}
use Rattle.fin_loops.proofs.Rests.{rests_are, slots_are}

-- ---- small facts

-- variables that are numbered from one on
numbered_cons : (n v y : ℕ) (vs : List ℕ) → v ≡ n → (is_among vs y ≡ true → n + 1 ≤ y) → (b : Bool) → nat_eq y v ≡ b → (b || is_among vs y) ≡ true → n ≤ y
numbered_cons n v y vs same later true t e = grind (arith, nat_tests)
numbered_cons n v y vs same later false t e = let le = later e in omega (arith, le)

numbered_from : (n : ℕ) (vs : List ℕ) → counts_from n vs ≡ true → (y : ℕ) → is_among vs y ≡ true → n ≤ y
numbered_from n [] c y e = cc
numbered_from n (v ∷ vs) c y e =
    let same : v ≡ n = (let t = left (v == n) (counts_from (n + 1) vs) c in grind (arith, nat_tests)) in
    numbered_cons n v y vs same (numbered_from (n + 1) vs (right (v == n) (counts_from (n + 1) vs) c) y) (nat_eq y v) refl e

-- a range of the program is small
range_small : (ranges : List (ℕ × ℕ)) (k : ℕ) → AreRanged ranges → (slice_index_or ranges k (0, 0)).1 ≤ 2 ^ 40
range_small [] k all = omega arith
range_small (x ∷ ranges) zero all = all 0 (0, 0) (omega arith)
range_small (x ∷ ranges) (suc k) all = range_small ranges k (λ j d lt. all (suc j) d (omega (arith, lt)))

-- an access has as many indices as its tensor has levels
sized_by : (n : ℕ) (o : Option Header) → holds_of (λ (x : Header). n == length x.format.levels) o ≡ true
    → n ≡ length (unwrap_or (option_map (λ (x : Header). x.format) o) no_format).levels
sized_by n None e = cc
sized_by n (Some x) e = grind (arith, nat_tests)

some_function : (b : Bool) (o : Option TensorFunction) → b ≡ false → (b || is_some o) ≡ true → (f : TensorFunction) × (o ≡ Some f)
some_function true o same e = cc
some_function false None same e = cc
some_function false (Some f) same e = (f, refl)

-- runs that trail have the same parts
stage_parts : (x y : Stage) → StageTrails x y → (frozen_in x ≡ frozen_in y) × (frozen_parts x ≡ frozen_parts y)
stage_parts Absent y k = (sym (ap frozen_in k), sym (ap frozen_parts k))
stage_parts (Built b) y k = (sym (ap frozen_in k.1.0), sym (ap frozen_parts k.1.0))
stage_parts (Frozen format f) y k = (sym (ap frozen_in k), sym (ap frozen_parts k))

-- ---- the bounds of masks are named where their tests are

module _ (sc : Scope) (var : ℕ) where
  abbrev parts_named : Expr-F Expr → Bool
  parts_named y = expr_step (map-Expr Expr (Scope → Bool) is_named_expr y) sc

  named_out : (x : Expr) → is_named_expr x sc ≡ parts_named (out-Expr x)
  named_out x = ap (λ (f : Scope → Bool). f sc) (fold_out-Expr (Scope → Bool) expr_step x)

  abbrev IfBound : Option Tested → Type 0
  IfBound None = Unit {0}
  IfBound (Some t) = CanBound sc var t

  either_bound : (c a b d f : Bool) (p q : Tested) → (b ≡ true → CanBound sc var p) → (f ≡ true → CanBound sc var q)
      → IfBound (if (c && (a && b)) then Some p else (if (c && (d && f)) then Some q else None))
  either_bound false a b d f p q h k = tt
  either_bound true true true d f p q h k = h refl
  either_bound true true false true true p q h k = k refl
  either_bound true true false true false p q h k = tt
  either_bound true true false false f p q h k = tt
  either_bound true false b true true p q h k = k refl
  either_bound true false b true false p q h k = tt
  either_bound true false b false f p q h k = tt

  one_bound : (test : ℕ) (y : Expr-F Expr) → parts_named y ≡ true → IfBound (tested_by var test y)
  one_bound test (Expr-F.Num n) e = tt
  one_bound test (Expr-F.Var x line) e = tt
  one_bound test (Expr-F.Read tensor at line) e = tt
  one_bound test (Expr-F.Neg inner) e = tt
  one_bound test (Expr-F.Two o x y) e =
      either_bound (is_comparison o) (is_var var x) (is_bound_of var y) (is_var var y) (is_bound_of var x) (tested test o true y) (tested test o false x)
      (λ b. record { named = right (is_named_expr x sc) (is_named_expr y sc) e; bound = b })
      (λ b. record { named = left (is_named_expr x sc) (is_named_expr y sc) e; bound = b })

  and_bound : (o : Option Tested) (ts : List Tested) → IfBound o → AllCanBound sc var ts → AllCanBound sc var (and_tested o ts)
  and_bound None ts h all = all
  and_bound (Some t) ts h all = (h, all)

  pub all_bound : (ts : List Test) → list_all (λ (t : Test). is_named_expr t.expr sc) ts ≡ true → AllCanBound sc var (tested_among var ts)
  all_bound [] e = tt
  all_bound (t ∷ ts) e =
      let own = left (is_named_expr t.expr sc) (list_all (λ (z : Test). is_named_expr z.expr sc) ts) e in
      let others = right (is_named_expr t.expr sc) (list_all (λ (z : Test). is_named_expr z.expr sc) ts) e in
      and_bound (tested_by var t.test (out-Expr t.expr)) (tested_among var ts) (one_bound t.test (out-Expr t.expr) (sym (named_out t.expr) ∙ own)) (all_bound ts others)

-- ---- at a place of the loop

-- the loop as it is entered in a run, with so many of its coordinates from one on, in a store and locals
abbrev pub part_in : Loop → Bool → Spot → Run → Store → List ℤ → ℕ → ℕ → Entry
part_in l par q r ts ls from count = record {
  world = world_at l q;
  run = r;
  rest = rests_in (inside l.context l.var None) (worked_all (world_at l q) l.body l.here);
  loop = running (world_at l q) l.context l.var par (worked_all (world_at l q) l.body l.here) q.vars r;
  store = ts;
  locals = ls;
  from = from;
  count = count;
}

-- with all of them, on a machine
abbrev pub entry_in : Loop → Bool → Spot → Run → Machine → Entry
entry_in l par q r m = part_in l par q r (seen m) m.locals (range_in l).0 ((range_in l).1 - (range_in l).0)

module _ (l : Loop) (range : Option (ℕ × ℕ)) (par : Bool) (line last next need : ℕ) (sourced : Sourced l) (numbered : IsNumbered l next)
    (enough : own_end l next ≤ need) (q : Spot) (le : need ≤ q.room) (at : StandsAt l (stmt_of l range par line last) next q) where
  abbrev pub w : World
  w = world_at l q

  abbrev pub h : Heads
  h = heads_in l.checked

  abbrev pub body : List Worked
  body = worked_all w l.body l.here

  abbrev pub context : Context
  context = inside l.context l.var None

  abbrev pub layout : Layout
  layout = layout_with l.checked q.room

  abbrev pub start : Start
  start = start_with l.checked q.room q.inputs

  -- what remains of the body is told where the code is made
  abbrev pub rest : Rest
  rest = rests_in context body

  pub told : rest ≡ rest_entered l
  told = rests_are w l.body l.here context

  -- ---- one scope for all names of the body

  abbrev pub big : Scope
  big = enclosing l q.scope

  pub named : are_named l.body (within_loop q.scope l.var) ≡ true
  named = sym (ap (λ (f : Scope → Bool). f q.scope) (of_loop (Scope → Bool) stmt_step l.var range par l.body line last)) ∙ at.named

  -- the variables before the loop's own are those around it
  not_before : (y : ℕ) → is_among (bound_in l) y ≡ true → y < l.var → ⊥
  not_before y e lt = let after = numbered_from l.var (bound_in l) numbered.counts y e in omega (arith, after, lt)

  loop_around : (y : ℕ) → is_among big.loops y ≡ true → y < l.var → is_among q.scope.loops y ≡ true
  loop_around y e lt = ⊎_elim (λ own. absurd (not_before y own lt)) (λ outer. outer) (or_cases (is_among (bound_in l) y) (is_among q.scope.loops y) (sym (has_own l q.scope y) ∙ e))

  bound_around : (y : ℕ) → is_bound big y ≡ true → y < l.var → is_bound q.scope y ≡ true
  bound_around y e lt = ⊎_elim (λ among. or_left (is_among q.scope.loops y) (is_among q.scope.lets y) (loop_around y among lt))
      (λ among. or_right (is_among q.scope.loops y) (is_among q.scope.lets y) among) (or_cases (is_among big.loops y) (is_among big.lets y) e)

  -- ---- the variable

  pub may : AllMayBind q.place (length q.vars) (bound_in l)
  may = subst (AllMayBind q.place (length q.vars)) (of_loop (List ℕ) bindings_step l.var range par l.body line last) at.suits.may_bind

  pub var_below : l.var ≤ next
  var_below = let below = may.0.below in let is = at.suits.next_is in omega (arith, below, is)

  pub top_small : (range_in l).1 ≤ 2 ^ 40
  top_small = range_small l.checked.dims.ranges l.var at.shaped.ranges

  -- what its nest does at a coordinate is told where the code is made, for whatever of the coordinates it is
  pub turns_told : (r : Run) (ts : Store) (ls : List ℤ) (from count : ℕ)
      → seen_turn (watching l w q.vars) ≡ seen_turn (watched (part_in l par q r ts ls from count).loop (watches (part_in l par q r ts ls from count)))
  turns_told r ts ls from count =
      let e = part_in l par q r ts ls from count in
      let slots : slots_of l.var (rest_entered l) ≡ (watched e.loop (watches e)).slots = sym (slots_are e q.vars ∙ ap (slots_of l.var) told) in
      ap (λ (xs : List Slot). seen_turn (record { var = l.var; slots = xs; rest = λ k. rests_in (Some k) body; body = e.loop.body; around = around l; vars = q.vars })) slots

  -- ---- a machine that does a run there, or one that trails it

  module _ (r r' : Run) (m : Machine) (ready : Ready layout m q.place) (trails : RunTrails r r') (live : Live start [] r' m)
      (able : can_be_entered w par (all_fresh body) rest r ≡ true) where
    abbrev pub e : Entry
    e = entry_in l par q r m

    numbers_are : (y : ℕ) → is_bound q.scope y ≡ true → number m.locals y ≡ number q.vars y
    numbers_are y b = sym (value_local (seen m) m.locals y) ∙ at.suits.stands.numbers m ready.facts y b

    pub coordinates : AreAround big l.var q.vars m.locals
    coordinates y among lt =
        let outer = loop_around y among lt in
        let k = at.suits.coordinates y outer in
        (k.0, k.1, numbers_are y (or_left (is_among q.scope.loops y) (is_among q.scope.lets y) outer) ∙ k.1, k.2)

    -- ---- reads

    stored_there : (t : ℕ) → (is_in rest.changed t || is_some (tensors_of w.setting r t)) ≡ true → is_in rest.changed t ≡ false → IsStoredAs w r (seen m) (format_of h t) t
    stored_there t there same =
        let f = some_function (is_in rest.changed t) (tensors_of w.setting r t) same there in
        let both = stage_parts (stage_at r.stages t) (stage_at r'.stages t) (trails.stages t) in
        let there' : tensors_of w.setting r' t ≡ Some f.0 = ap (option_or (made_at w.setting.given t)) (sym both.0) ∙ f.1 in
        let s = tensors_are_stored l.checked q.room q.inputs [] r' m t f.0 at.shaped at.given live there' in
        record {
          frozen = s.frozen;
          is = s.is;
          shape = s.shape;
          parts = ap (parts_or (slice_index_or w.given t None)) both.1 ∙ s.parts;
          valid = s.valid;
        }

    one_drives : (a : Access) → is_access big a.tensor a.at ≡ true → small_offsets a.at ≡ true → access_stays w.setting a ≡ true → can_be_read w r rest.changed a ≡ true → CanDrive h big e a
    one_drives a there small stays able_a =
        let sized = left (holds_of (λ (y : Header). length a.at == length y.format.levels) (slice_get big.headers a.tensor)) (list_all (is_index big) a.at) there in
        let sized_c = subst (λ (hs : List Header). holds_of (λ (y : Header). length a.at == length y.format.levels) (slice_get hs a.tensor) ≡ true) at.suits.stands.headers sized in
        record {
          has = tensors_have_formats l.checked q.inputs a.tensor at.shaped (holds_there (λ (y : Header). length a.at == length y.format.levels) l.checked.program.headers a.tensor sized_c);
          shape = refl;
          each = sized_by (length a.at) (slice_get l.checked.program.headers a.tensor) sized_c;
          named = right (holds_of (λ (y : Header). length a.at == length y.format.levels) (slice_get big.headers a.tensor)) (list_all (is_index big) a.at) there;
          small = small;
          stays = stays;
          store = stored_there a.tensor able_a;
        }

    all_drive : (reads : List Access) → list_all (λ (a : Access). is_access big a.tensor a.at) reads ≡ true → list_all (λ (a : Access). small_offsets a.at) reads ≡ true
        → list_all (access_stays w.setting) reads ≡ true → list_all (can_be_read w r rest.changed) reads ≡ true → AllCanDrive h big e reads
    all_drive [] there small stays able_all = tt
    all_drive (a ∷ reads) there small stays able_all = (
      λ d is. one_drives a (left (is_access big a.tensor a.at) (list_all (λ (b : Access). is_access big b.tensor b.at) reads) there)
          (left (small_offsets a.at) (list_all (λ (b : Access). small_offsets b.at) reads) small)
          (left (access_stays w.setting a) (list_all (access_stays w.setting) reads) stays) (left (can_be_read w r rest.changed a) (list_all (can_be_read w r rest.changed) reads) able_all),
      all_drive reads (right (is_access big a.tensor a.at) (list_all (λ (b : Access). is_access big b.tensor b.at) reads) there)
          (right (small_offsets a.at) (list_all (λ (b : Access). small_offsets b.at) reads) small)
          (right (access_stays w.setting a) (list_all (access_stays w.setting) reads) stays) (right (can_be_read w r rest.changed a) (list_all (can_be_read w r rest.changed) reads) able_all),
    )

    reads_all : (p : Access → Bool) → list_all p (rest_entered l).reads ≡ true → list_all p rest.reads ≡ true
    reads_all p all = ap (λ (z : Rest). list_all p z.reads) told ∙ all

    pub behind_told : behind_entry h e next ≡ own_end l next
    behind_told = ap (λ (z : Rest). behind_by (record { heads = h; var = l.var; changed = z.changed }) z.reads z.tests next) told

    pub looplets_told : entry_looplets h e next ≡ looplets_from l next
    looplets_told = ap (λ (z : Rest). looplets_by (record { heads = h; var = l.var; changed = z.changed }) z.reads z.tests next) told

    pub numbers_before : HaveNumbers big l.var q.vars m.locals
    numbers_before y b lt = numbers_are y (bound_around y b lt)

    pub room_there : behind_entry h e next ≤ length m.locals
    room_there = let same = behind_told in let long = ready.locals in omega (arith, same, enough, le, long)

    pub reads_drive : AllCanDrive h big e rest.reads
    reads_drive =
        all_drive rest.reads (reads_all _ (accesses_named big (within_loop q.scope l.var) (has_inner l q.scope) l.body (all_loops l q.scope) named l.here context))
        (reads_all _ (reads_remain (λ (a : Access). small_offsets a.at) l.body l.here context sourced.small))
        (reads_all _ (reads_remain (access_stays w.setting) l.body l.here context (sourced.stay q.inputs)))
        (left (list_all (can_be_read w r rest.changed) rest.reads) (not par || list_all (is_absent w r) (all_fresh body)) able)

    pub tests_bound : AllCanBound big l.var (tests_in e)
    tests_bound =
        all_bound big l.var rest.tests (ap (λ (z : Rest). list_all (λ (t : Test). is_named_expr t.expr big) z.tests) told
        ∙ tests_named big (within_loop q.scope l.var) (has_inner l q.scope) l.body (all_loops l q.scope) named l.here context)

    pub can_be : (range_in l).0 ≤ (range_in l).1 → CanEnter h big e next
    can_be ordered = record {
      bound = may.0.counted;
      ordered = ordered;
      small = top_small;
      around = coordinates;
      after = var_below;
      numbers = numbers_before;
      room = room_there;
      reads = reads_drive;
      tests = tests_bound;
    }

    -- ---- the machine behind the entry's codes

    entered_at : IsEnteredAt e start [] r' m
    entered_at = record { entered = record { driven = refl; masks = refl }; store = refl; locals = refl; live = live }

    -- by a nest over the whole range
    module _ (ordered : (range_in l).0 ≤ (range_in l).1) (n : Nest Run) (lo : n.lo ≡ Num (pos (range_in l).0)) (hi : n.hi ≡ Num (pos (range_in l).1)) (does : n.body ≡ seen_turn (watching l w q.vars))
        (reads : n.reads ≡ looplets_from l next) where
      is_nest : IsNestOf h e next n
      is_nest = record {
        lo = lo;
        hi = (let all : (range_in l).1 ≡ e.from + e.count = omega (arith, ordered) in hi ∙ ap (λ (k : ℕ). Num (pos k)) all);
        body = does ∙ turns_told r (seen m) m.locals e.from e.count;
        reads = reads ∙ sym looplets_told;
      }

      both : entry.Enters h e next n × RunsEntry h e next layout start [] r' m
      both = entry_codes_enter (bounds_mean values_mean) h big e next n layout start [] r' m (can_be ordered) is_nest entered_at (omega arith)

      pub entrance : IsEntrance (entered_by h e next) n
      entrance = both.0.entrance

      abbrev pub there : Machine
      there = record m { locals = (entered_by h e next).locals; charges = m.charges + entry_of e.loop.loop }

      pub long_there : length (entered_by h e next).locals ≡ length m.locals
      long_there = both.0.long

      pub left_there : Left m there q.place
      left_there = record {
        long = both.0.long;
        kept = λ cut y below free. both.0.kept y (subst (λ (k : ℕ). y < k) at.suits.next_is below);
        steady = λ cut t still. refl;
      }

      same_code : entry_code h e next ≡ entry_code_of l par next
      same_code = ap (λ (z : Rest). code_by (record { heads = h; var = l.var; changed = z.changed }) z (chunk_count par ((range_in l).1 - (range_in l).0)) next) told

      -- what is so of that machine, where it has paid, is so behind the codes
      pub behind_codes : (P : Machine → Type 0) → ((runs start).stands (worked (entry_of e.loop.loop) r) there → P there) → P (meaning_all layout (entry_code_of l par next) m)
      behind_codes P f =
          let codes = meaning_all layout (entry_code h e next) m in
          let pays : (runs start).stands (worked (entry_of e.loop.loop) r) codes =
          λ fine. record { run = worked (entry_of e.loop.loop) r'; trails = worked_trails (entry_of e.loop.loop) r r' trails; related = both.1.related } in
          subst (λ (cs : List Code). P (meaning_all layout cs m)) same_code
          (subst P (sym both.1.runs) (f (subst ((runs start).stands (worked (entry_of e.loop.loop) r)) both.1.runs pays)))
