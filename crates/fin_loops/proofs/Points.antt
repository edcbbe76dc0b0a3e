-- The codes of a loop's body at a point mean the nest that has come there.
use Rattle.std.proofs.Common.{◌≡◌, ℕ, ◌<◌, ◌≤◌, Bool, true, false, ◌&&◌, List, [], ◌∷◌, Some, if◌then◌else◌, refl, sym, ap, ◌∙◌, subst, ℤ, pos, negsuc, ◌+ℤ◌, ◌≤ℤ◌, ◌^◌, w64, SFits, arith}
use Rattle.std.specs.Prelude.{nat_eq, nat_lt, not, slice_set}
use Rattle.std.specs.List.{list_all}
use Rattle.std.proofs.lemmas.Bool.Decides.{nat_tests}
use Rattle.std.proofs.lemmas.Int.{int_wrap_fits}
use borrow.Author.Differences.{sum_is_lem, le_out, fits_in}
use Rattle.fin_base.specs.declared.terms.Op.TheVariants as op
use Rattle.fin_base.specs.Words.{operate}
use Rattle.fin_tensor.specs.declared.storage.Storage.{Storage}
use Rattle.fin_ast.specs.Scope.{Scope, within_loop}
use Rattle.fin_ast.specs.Value.{Numbers, number}
use Rattle.fin_ir.specs.declared.code.Code.{Code}
use Rattle.fin_ir.specs.declared.expression.IExpr.{IExpr}
use Rattle.fin_ir.specs.declared.expression.IExpr.TheVariants.{Num}
use Rattle.fin_ir.specs.declared.layout.Layout.{Layout}
use Rattle.fin_ir.specs.Machine.{Machine, seen, count_turn}
use Rattle.fin_ir.specs.Meaning.{meaning, span}
use Rattle.fin_ir.proofs.Loops.{span_is}
use Rattle.fin_ir.proofs.Values.{value_num, value_two}
use Rattle.fin_stage.specs.Staged.{Run, worked}
use Rattle.fin_looplet.specs.Cut.{plus}
use Rattle.fin_looplet.specs.View.{Store, value, Seen}
use Rattle.fin_looplet.specs.Lists.{seens}
use Rattle.fin_nest.specs.Related.{Start}
use Rattle.fin_nest.specs.Nests.{Nest, Body, Bounds, Kept, Separate, Jumps, Fits, Does, Means as MeansNest, MeansCounted, fresh, fold, part, views_of}
use Rattle.fin_nest.specs.Jumping.{NoneHolds}
use Rattle.fin_nest.specs.Laws.{Onward, AtPoints, Nothing as IsNothing}
use Rattle.fin_nest.specs.Senses.{runs}
use Rattle.fin_nest.specs.Courses.{Behind, nest_with, Meant}
use Rattle.fin_nest.specs.Performs.{Fact, Place, Hold, Performs, IsBody}
use Rattle.fin_nest.proofs.Both.{nothing_is_passed_over, bodies_mean}
use Rattle.fin_simp.specs.Left.{Marks}
use Rattle.fin_simp.specs.Rest.{Access, is_none_kind}
use Rattle.fin_simp.specs.Remaining.{are_nothing}
use Rattle.fin_simp.specs.Work.{World, world_of, is_in, names_var, is_one_update, costing, first_share}
use Rattle.fin_drive.specs.Turns.{any_varies, marks_seen, is_fixed_seen, Watched, seen_turn}
use Rattle.fin_drive.specs.Bodies.{UpdatesOnce}
use Rattle.fin_drive.proofs.Bodies.{bodies_go_on, bodies_at_points, bodies_are_nothing}
use Rattle.fin_drive.proofs.Programs.{statements_go_on, statements_update_once}
use Rattle.fin_style_point.specs.declared.nest.Nest as point
use Rattle.fin_style_point.specs.Parts.{all_looplets, course_of}
use Rattle.fin_descend.proofs.Descents.{nothing_means}
use Rattle.fin_perform.specs.Layouts.{layout_with, start_with}
use Rattle.fin_perform.specs.Meanings.{Means, body_deed}
use Rattle.fin_perform.specs.Places.{change_all}
use Rattle.fin_perform.specs.Performing.{Does as DoesIn}
use Rattle.fin_perform.specs.Working.{body_of}
use Rattle.fin_loops.specs.Loops.{Loop, watching, behind_of, InScope, OfLoop}
use Rattle.fin_loops.specs.Points.{marks_at_point, AtPoint, point_code, ChangesNoMore, PointsMean, LoopsGoOn}
use Rattle.fin_loops.proofs.Known.{runs_flat, runs_hold_none, marks_flat}
use Rattle.fin_loops.proofs.Rests.{none_are}
use Rattle.fin_loops.proofs.Standing.{world, whole, pinned, within, within_suits, within_facts}

-- ---- the body at a point, where something is left of it: a turn and the body

module _ (x : Watched) (once : UpdatesOnce x) (ss : List Seen) (m : Marks) (i : ℤ) (r : Run) where
  abbrev inner : Numbers
  inner = slice_set x.vars x.var i

  abbrev left_in : Marks → Run
  left_in h = if is_fixed_seen x ss (x.rest h) then costing (first_share true) r (x.body h inner r) else x.body h inner (worked 1 r)

  either : (b : Bool) → costing 2 r (x.body m inner r) ≡ x.body m inner (worked 1 r)
      → (if b then costing (first_share true) r (x.body m inner r) else x.body m inner (worked 1 r)) ≡ x.body m inner (worked 1 r)
  either true e = e
  either false e = refl

  not_fixed : is_one_update (x.rest m).kind ≡ false → is_fixed_seen x ss (x.rest m) ≡ false
  not_fixed e = ap (λ (b : Bool). b && not (is_in (x.rest m).vars x.var) && list_all (λ j. not (names_var x.var j)) (x.rest m).targets
      && list_all (λ (a : Access). not (any_varies x.slots ss a.read)) (x.rest m).reads) e

  by_kind : (b : Bool) → is_one_update (x.rest m).kind ≡ b → left_in m ≡ x.body m inner (worked 1 r)
  by_kind true e = either (is_fixed_seen x ss (x.rest m)) (once m inner r e)
  by_kind false e = ap (λ (b : Bool). if b then costing (first_share true) r (x.body m inner r) else x.body m inner (worked 1 r)) (not_fixed e)

  pub begun_turn : marks_seen x ss ≡ m → is_none_kind (x.rest m).kind ≡ false → seen_turn x ss true i r ≡ x.body m inner (worked 1 r)
  begun_turn known some =
      ap (λ (h : Marks). if is_none_kind (x.rest h).kind then r else left_in h) known
      ∙ ap (λ (b : Bool). if b then r else left_in m) some
      ∙ by_kind (is_one_update (x.rest m).kind) refl

-- ---- the nest with another body, which is the same at its one coordinate

module _ (n : Nest Run) (body : Body Run) where
  abbrev pub other : Nest Run
  other = record n { body = body }

  as_other : (x : ℕ) → Kept n x → Kept other x
  as_other x k = record { below = k.below; no_var = k.no_var; no_own = k.no_own }

  pub other_separate : Separate n → Separate other
  other_separate s = record {
    lo = λ x h. as_other x (s.lo x h);
    hi = λ x h. as_other x (s.hi x h);
    reads = λ x h. as_other x (s.reads x h);
    pins = λ x v h. as_other x (s.pins x v h);
    lo_loads = s.lo_loads;
    hi_loads = s.hi_loads;
    loads = s.loads;
    binds_var = s.binds_var;
    binds_below = s.binds_below;
    own_below = s.own_below;
    own_free = s.own_free;
    own = s.own;
  }

  module _ (layout : Layout) (s : Start) (same : (ts : Store) (m : Machine) → Fits layout ts m n → (r : Run) → fold (λ x. x) ts m.locals other r ≡ fold (λ x. x) ts m.locals n r) where
    other_fits : (ts : Store) (m : Machine) → Fits layout ts m n → Fits layout ts m other
    other_fits ts m f = record { live = f.live; locals = f.locals; steady = f.steady; pinned = f.pinned; bounds = f.bounds; sound = f.sound }

    -- no runs hold a jumper
    module _ (none : NoneHolds n.reads) where
      jumps : (ts : Store) (ls : List ℤ) → Jumps (runs s) ts ls other
      jumps ts ls = (nothing_is_passed_over s).0 ts ls other none

    other_does : (ts : Store) (r : Run) (m m' : Machine) → Fits layout ts m n → Does (runs s) ts r m m' other → Does (runs s) ts r m m' n
    other_does ts r m m' f d = record {
      done = subst (λ (x : Run). (runs s).stands x m') (same ts m f r) d.done;
      long = d.long;
      kept = λ e x k. d.kept e x (as_other x k);
      steady = d.steady;
    }

    pub other_meant : NoneHolds n.reads → (c : Code) → MeansNest layout (runs s) c other × MeansCounted layout (runs s) c other → Meant layout (runs s) n c
    other_meant none c both = record {
      means = record { does = λ ts r m f j h. other_does ts r m (meaning layout c m) f (both.0.does ts r m (other_fits ts m f) (jumps none ts m.locals) h) };
      counted = λ w. record { does = λ ts r m f j h. other_does ts r m (count_turn (meaning layout c m)) f (both.1.does ts r m (other_fits ts m f) (jumps none ts m.locals) h) };
    }

-- ---- a nest of the loop at a point

-- one more than a coordinate, as code computes it
next_is : (ts : Store) (ls : List ℤ) (lo hi : IExpr) → hi ≡ plus lo (Num (pos 1)) → Bounds (value ts ls lo) (value ts ls hi) → value ts ls hi ≡ value ts ls lo +ℤ pos 1
next_is ts ls lo hi e b =
    let from = value ts ls lo in
    let f : SFits w64 (from +ℤ pos 1) = fits_in w64 (from +ℤ pos 1) (omega (arith, sum_is_lem from (pos 1), le_out (pos 0) from b.low, le_out from (pos (2 ^ 40)) b.low_top)) in
    ap (value ts ls) e ∙ value_two ts ls op.Add lo (Num (pos 1)) ∙ ap (operate op.Add from) (value_num ts ls (pos 1)) ∙ int_wrap_fits w64 (from +ℤ pos 1) f

-- ---- coordinates

abbrev is_coordinate : ℤ → Bool
is_coordinate (pos k) = nat_lt k (2 ^ 40)
is_coordinate (negsuc k) = false

below_by : (m n : ℕ) → nat_lt m n ≡ true → m < n
below_by m n e = grind (arith, nat_tests)

below_is : (m n : ℕ) → m < n → (b : Bool) → nat_lt m n ≡ b → b ≡ true
below_is m n lt true e = refl
below_is m n lt false e = absurd (grind (arith, nat_tests))

coordinate_is : (i : ℤ) → is_coordinate i ≡ true → (k : ℕ) × (i ≡ pos k) × (k < 2 ^ 40)
coordinate_is (pos k) e = (k, refl, below_by k (2 ^ 40) e)
coordinate_is (negsuc k) e = cc

coordinate_by : (z : ℤ) → pos 0 ≤ℤ z → (z +ℤ pos 1) ≤ℤ pos (2 ^ 40) → is_coordinate z ≡ true
coordinate_by (pos k) low top = below_is k (2 ^ 40) (omega (arith, sum_is_lem (pos k) (pos 1), le_out (pos k +ℤ pos 1) (pos (2 ^ 40)) top)) (nat_lt k (2 ^ 40)) refl
coordinate_by (negsuc k) low top = absurd (omega (arith, le_out (pos 0) (negsuc k) low))

-- facts of which one holds in no machine
abbrev impossible : List Fact
impossible = (Num (pos 0), pos 1) ∷ []

never_held : (m : Machine) → Hold m impossible → ⊥
never_held m h = let e : pos 0 ≡ pos 1 = sym (value_num (seen m) m.locals (pos 0)) ∙ h.0 in cc

abbrev facts_by : Bool → List Fact → List Fact
facts_by true facts = facts
facts_by false facts = impossible

module _ (l : Loop) (n : point.Nest) (at : AtPoint l n) (room : ℕ) (inputs : List Storage) (sc : Scope) (vars : Numbers) (good : InScope l room inputs sc vars)
    (apart : Separate (whole l n room inputs sc vars good)) where
  abbrev w : World
  w = world l n room inputs sc vars good

  abbrev x : Watched
  x = watching l w vars

  abbrev nest : Nest Run
  nest = whole l n room inputs sc vars good

  abbrev layout : Layout
  layout = layout_with l.checked room

  abbrev start : Start
  start = start_with l.checked room inputs

  abbrev marks : Marks
  marks = marks_at_point l n

  known : (ts : Store) (ls : List ℤ) (i : ℤ) → marks_seen x (seens (views_of ts ls nest i)) ≡ marks
  known ts ls i = marks_flat ts ls (value ts ls nest.hi) i x (all_looplets n) (runs_flat (all_looplets n) at.runs.runs) at.settled

  once : UpdatesOnce x
  once m ns r e = statements_update_once w l.body l.here m ns r e

  -- ---- where nothing is left
  pub none_stands : are_nothing l.body l.here marks ≡ true → (ts : Store) (ls : List ℤ) (b : Bool) (i : ℤ) (r : Run) (m : Machine) → (runs start).stands r m
      → (runs start).stands (nest.body (seens (views_of ts ls nest i)) b i r) m
  none_stands none = (bodies_are_nothing start x).0 nest refl
      (λ ts ls i. ap (λ (k : Marks). is_none_kind (x.rest k).kind) (known ts ls i) ∙ none_are w l.body l.here marks ∙ none)

  -- ---- where something is left
  module _ (cs : List Code) (need : ℕ) (some : are_nothing l.body l.here marks ≡ false) (low : n.next ≤ need) (le : need ≤ room)
      (fewer : ChangesNoMore l marks) (means : Means l.checked n.next need cs (body_deed l.body l.here (Some marks))) where
    abbrev does_at : ℤ → Run → Run
    does_at i = body_of w l.body l.here (Some marks) (slice_set vars l.var i)

    abbrev plain : Nest Run
    plain = other nest (λ ss b i r. does_at i (worked 1 r))

    body_does : (i : ℤ) (k : ℕ) → i ≡ pos k → k < 2 ^ 40 → DoesIn l.checked room inputs (within l n room inputs sc vars good apart i) cs (does_at i)
    body_does i k is lt = means room inputs (within_loop sc l.var) (slice_set vars l.var i) (within l n room inputs sc vars good apart i)
        le good.shaped good.given (within_suits l n room inputs sc vars good apart (change_all l.body l.here (Some marks)) fewer i k is lt) good.named

    -- the place at a number: where it is no coordinate nothing stands
    abbrev place_by : Bool → ℤ → Place
    place_by b i = record (within l n room inputs sc vars good apart i) { facts = facts_by b (within l n room inputs sc vars good apart i).facts }

    performs_by : (i : ℤ) (b : Bool) → is_coordinate i ≡ b → Performs layout (runs start) (place_by b i) cs (does_at i)
    performs_by i true e = let (k, is, lt) = coordinate_is i e in (body_does i k is lt).performs
    performs_by i false e = record {
      does = λ r m ready h. absurd (never_held m ready.facts);
      leaves = λ r m ready h. absurd (never_held m ready.facts);
    }

    var_room : n.var < room
    var_room = omega (arith, apart.binds_below n.var apart.binds_var, low, le)

    place_facts : (ts : Store) (m : Machine) → Fits layout ts m plain
        → Hold (record m { locals = slice_set m.locals n.var (value ts m.locals n.lo) }) (within l n room inputs sc vars good apart (value ts m.locals n.lo)).facts
    place_facts ts m fits =
        within_facts l n room inputs sc vars good apart at.var (value ts m.locals n.lo) m (omega (arith, var_room, fits.locals))
        (λ y e. fits.pinned y (number vars y) (pinned l n room inputs sc vars good apart y e))

    is_body : IsBody layout (runs start) (worked 1) plain cs
    is_body = record {
      at = λ ss i. place_by (is_coordinate i) i;
      does = λ ss i. does_at i;
      room = var_room;
      point = λ ts ls b. next_is ts ls n.lo n.hi at.runs.end b;
      body = λ ss i r. refl;
      performs = λ ss i. performs_by i (is_coordinate i) refl;
      facts = λ ts m fits.
          let lo = value ts m.locals n.lo in
          let is = coordinate_by lo fits.bounds.low (subst (λ (z : ℤ). z ≤ℤ pos (2 ^ 40)) (next_is ts m.locals n.lo n.hi at.runs.end fits.bounds) fits.bounds.high_top) in
          subst (λ (b : Bool). Hold (record m { locals = slice_set m.locals n.var lo }) (place_by b lo).facts) (sym is) (place_facts ts m fits);
      kept = λ ss i y k. (k.below, ap (λ (b : Bool). b && not (nat_eq y l.var)) k.no_var);
      steady = λ ss i t e. e;
    }

    one : (ts : Store) (m : Machine) → Fits layout ts m nest → span (value ts m.locals n.lo) (value ts m.locals n.hi) ≡ 1
    one ts m f =
        let lo = value ts m.locals n.lo in
        ap (span lo) (next_is ts m.locals n.lo n.hi at.runs.end f.bounds) ∙ omega (arith, span_is lo (lo +ℤ pos 1), sum_is_lem lo (pos 1))

    same_folds : (ts : Store) (m : Machine) → Fits layout ts m nest → (r : Run) → fold (λ y. y) ts m.locals plain r ≡ fold (λ y. y) ts m.locals nest r
    same_folds ts m f r =
        let lo = value ts m.locals n.lo in
        ap (λ k. part (λ y. y) ts m.locals plain k fresh lo r) (one ts m f)
        ∙ sym (begun_turn x once (seens (views_of ts m.locals nest lo)) marks lo r (known ts m.locals lo) (none_are w l.body l.here marks ∙ some))
        ∙ sym (ap (λ k. part (λ y. y) ts m.locals nest k fresh lo r) (one ts m f))

    pub point_meant : Meant layout (runs start) nest (point_code n cs)
    point_meant = other_meant nest (λ ss b i r. does_at i (worked 1 r)) layout start same_folds (runs_hold_none (all_looplets n) at.runs.runs) (point_code n cs)
        ((bodies_mean start cs).in_values plain (other_separate nest (λ ss b i r. does_at i (worked 1 r)) apart) is_body)

-- ---- in whatever run

-- what is said of the loop where it stands is said of all that may stand behind
pub in_all : (l : Loop) (P : Start → Layout → Behind Run → Type 0)
    → ((room : ℕ) (inputs : List Storage) (sc : Scope) (vars : Numbers) → InScope l room inputs sc vars
    → P (start_with l.checked room inputs) (layout_with l.checked room) (behind_of l (world_of l.checked inputs) sc vars))
    → (s : Start) (layout : Layout) (b : Behind Run) → OfLoop l s layout b → P s layout b
in_all l P all s layout b o =
    subst (λ (s' : Start). P s' layout b) (sym o.begins)
    (subst (λ (k : Layout). P (start_with l.checked o.room o.inputs) k b) (sym o.laid)
    (subst (λ (b' : Behind Run). P (start_with l.checked o.room o.inputs) (layout_with l.checked o.room) b') (sym o.behind) (all o.room o.inputs o.scope o.vars o.good)))

pub points_mean : PointsMean
points_mean l n code at = record {
  nothing = λ none empty. nothing_means (OfLoop l) n code
      (λ s layout b stands.
      in_all l (λ s' k b'. Separate (nest_with b' (course_of n)) → IsNothing (runs s') (nest_with b' (course_of n)))
      (λ room inputs sc vars good apart. none_stands l n at room inputs sc vars good apart none) s layout b stands.ours stands.separate)
      empty;
  some = λ cs left is low fewer means s layout b stands fine.
      subst (λ (c : Code). Meant layout (runs s) (nest_with b (course_of n)) c) (sym is)
      (in_all l (λ s' k b'. Separate (nest_with b' (course_of n)) → code.room ≤ k.locals → Meant k (runs s') (nest_with b' (course_of n)) (point_code n cs))
      (λ room inputs sc vars good apart enough. point_meant l n at room inputs sc vars good apart cs code.room left low enough fewer means) s layout b stands.ours stands.separate fine);
}

pub loops_go_on : LoopsGoOn
loops_go_on l = in_all l (λ s layout b. Onward (runs s) b.body × AtPoints b.body)
    (λ room inputs sc vars good.
    let w = world_of l.checked inputs in
    let x : Watched = watching l w vars in (
      (bodies_go_on (start_with l.checked room inputs) x (λ m ns r. statements_go_on w l.body l.here m ns r)).0,
      (bodies_at_points x (λ m ns r e. statements_update_once w l.body l.here m ns r e)).0,
    ))
