-- The codes of a fixed update, in a loop over the coordinates that is paid before it, mean the nest.
use Rattle.std.proofs.Common.{◌≡◌, ℕ, zero, suc, ◌+◌, ◌<◌, ◌≤◌, ◌^◌, ⊎_elim, inl, Bool, true, false, List, [], ◌∷◌, length, Some, refl, sym, ap, ◌∙◌, subst, ℤ, pos, negsuc, ◌≤ℤ◌, arith}
use Rattle.std.specs.Prelude.{◌&&◌, if◌then◌else◌, nat_eq, not, slice_set, int_lt}
use borrow.Author.Differences.{up, down, le_out}
use Rattle.fin_base.specs.Words.{truth}
use Rattle.fin_base.specs.declared.terms.Op.TheVariants as op
use Rattle.fin_tensor.specs.declared.storage.Storage.{Storage}
use Rattle.fin_ast.specs.Scope.{Scope, within_loop}
use Rattle.fin_ast.specs.Value.{Numbers, number}
use Rattle.fin_ir.specs.declared.code.Code.{Code}
use Rattle.fin_ir.specs.declared.code.Code.TheVariants.{Seq, When, ForLoop, Charge}
use Rattle.fin_ir.specs.declared.expression.IExpr.TheVariants.{Num, Two}
use Rattle.fin_ir.specs.declared.layout.Layout.{Layout}
use Rattle.fin_ir.specs.Machine.{Machine, seen}
use Rattle.fin_ir.specs.Value.{value_in, is_off}
use Rattle.fin_ir.specs.Meaning.{Action, meaning, for_loop, for_turns, span}
use Rattle.fin_ir.proofs.Codes.{meaning_seq, meaning_when, meaning_for_loop}
use Rattle.fin_ir.proofs.Loops.{span_is, span_zero}
use Rattle.fin_ir.proofs.Values.{value_two}
use Rattle.fin_stage.specs.Staged.{Run, worked}
use Rattle.fin_stage.proofs.Trailing.{worked_trails}
use Rattle.fin_looplet.specs.View.{Store, value}
use Rattle.fin_looplet.proofs.Exprs.{get}
use Rattle.fin_nest.specs.Related.{Start}
use Rattle.fin_nest.specs.Nests.{Nest, Kept, Separate, Fits, Does, Means as MeansNest, fresh, fold, part}
use Rattle.fin_nest.specs.Senses.{runs}
use Rattle.fin_nest.specs.Courses.{nest_with, Meant}
use Rattle.fin_nest.specs.Performs.{Place, Hold, Performs}
use Rattle.fin_nest.proofs.Changed.{paid, number_pays, worked_live}
use Rattle.fin_nest.proofs.Means.{with_local, computes, does_by, counted_means}
use Rattle.fin_nest.proofs.Senses.{runs_lawful}
use Rattle.fin_simp.specs.Work.{World}
use Rattle.fin_style_point.specs.declared.nest.Nest as point
use Rattle.fin_style_point.specs.Parts.{all_looplets, course_of}
use Rattle.fin_style_point.specs.Steps.{AllFlat}
use Rattle.fin_style_point.proofs.Times.{within_some}
use Rattle.fin_perform.specs.Layouts.{layout_with, start_with}
use Rattle.fin_perform.specs.Meanings.{Means}
use Rattle.fin_perform.specs.Once.{once_deed}
use Rattle.fin_perform.specs.Places.{change_all}
use Rattle.fin_loops.specs.Loops.{Loop, slots, InScope}
use Rattle.fin_loops.specs.Points.{AreSettled, marks_at_point, ChangesNoMore}
use Rattle.fin_loops.specs.Told.{is_fixed_along}
use Rattle.fin_loops.specs.Fixed.{fixed_code, FixedMeans}
use Rattle.fin_loops.proofs.FixedFolds.{once_at, once_advances, fixed_along}
use Rattle.fin_loops.proofs.FixedTurns.{done_along, Went, turns_go}
use Rattle.fin_loops.proofs.Points.{in_all}
use Rattle.fin_loops.proofs.Standing.{world, whole, pinned, pin_kept, within, within_facts, within_suits}

natural : (z : ℤ) → pos 0 ≤ℤ z → (k : ℕ) × (z ≡ pos k)
natural (pos k) low = (k, refl)
natural (negsuc k) low = absurd (omega (arith, le_out (pos 0) (negsuc k) low))

-- work that is paid
charged : (s : Start) (k : ℕ) (r : Run) (m : Machine) → m.cut ≡ false → (runs s).stands r m → (runs s).stands (worked k r) (paid k m)
charged s k r m live h g =
    let b = h g in
    record {
      run = worked k b.run;
      trails = worked_trails k r b.run b.trails;
      related = ⊎_elim (λ on. inl (worked_live s [] b.run m on k)) (λ x. let e = x.cut in absurd (cc)) b.related;
    }

module _ (l : Loop) (n : point.Nest) (var : n.var ≡ l.var) (flat : AllFlat (all_looplets n)) (settled : AreSettled (slots l) (all_looplets n))
    (fixed : is_fixed_along l n ≡ true) (room : ℕ) (inputs : List Storage) (sc : Scope) (vars : Numbers) (good : InScope l room inputs sc vars)
    (apart : Separate (whole l n room inputs sc vars good)) (cs : List Code) (need : ℕ) (low : n.next ≤ need) (le : need ≤ room)
    (fewer : ChangesNoMore l (marks_at_point l n)) (means : Means l.checked n.next need cs (once_deed l.body l.here (Some (marks_at_point l n)))) where
  abbrev w : World
  w = world l n room inputs sc vars good

  abbrev nest : Nest Run
  nest = whole l n room inputs sc vars good

  abbrev layout : Layout
  layout = layout_with l.checked room

  abbrev start : Start
  start = start_with l.checked room inputs

  abbrev place : ℤ → Place
  place = within l n room inputs sc vars good apart

  abbrev act : ℤ → Run → Run
  act = once_at l n w vars flat settled fixed

  abbrev turn : Action
  turn = meaning layout (Seq cs)

  performs : (c : ℕ) → c < 2 ^ 40 → Performs layout (runs start) (place (pos c)) cs (act (pos c))
  performs c below =
      (means room inputs (within_loop sc l.var) (slice_set vars l.var (pos c)) (place (pos c)) le good.shaped good.given
      (within_suits l n room inputs sc vars good apart (change_all l.body l.here (Some (marks_at_point l n))) fewer (pos c) c refl below) good.named).performs

  var_room : n.var < room
  var_room = omega (arith, apart.binds_below n.var apart.binds_var, low, le)

  module _ (ts : Store) (m : Machine) (fits : Fits layout ts m nest) where
    abbrev lo : ℤ
    lo = value ts m.locals n.lo

    abbrev hi : ℤ
    hi = value ts m.locals n.hi

    lo_is : value_in m n.lo ≡ lo
    lo_is = computes layout ts m nest n.lo fits.steady apart.lo_loads

    hi_is : value_in m n.hi ≡ hi
    hi_is = computes layout ts m nest n.hi fits.steady apart.hi_loads

    -- ---- where there is no coordinate

    never_paid : span lo hi ≡ 0 → meaning layout (When (Two op.Lt n.lo n.hi) (Charge (Num (pos 2)))) m ≡ m
    never_paid e =
        let off : value_in m (Two op.Lt n.lo n.hi) ≡ truth false =
        value_two (seen m) m.locals op.Lt n.lo n.hi ∙ ap (λ (z : ℤ). truth (int_lt z (value_in m n.hi))) lo_is ∙ ap (λ (z : ℤ). truth (int_lt lo z)) hi_is ∙ ap truth (span_zero lo hi e) in
        meaning_when layout (Two op.Lt n.lo n.hi) (Charge (Num (pos 2))) m ∙ ap (λ (v : ℤ). if is_off v then m else meaning layout (Charge (Num (pos 2))) m) off

    -- ---- behind the charge

    loops : (m' : Machine) → meaning layout (When (Two op.Lt n.lo n.hi) (Charge (Num (pos 2)))) m ≡ m' → value_in m' n.lo ≡ lo → value_in m' n.hi ≡ hi → (k : ℕ) → span lo hi ≡ k
        → meaning layout (fixed_code n cs) m ≡ for_turns n.var turn k lo m'
    loops m' paying from to k long =
        meaning_seq layout (When (Two op.Lt n.lo n.hi) (Charge (Num (pos 2))) ∷ ForLoop n.var n.lo n.hi (Seq cs) ∷ []) m
        ∙ ap (meaning layout (ForLoop n.var n.lo n.hi (Seq cs))) paying
        ∙ meaning_for_loop layout n.var n.lo n.hi (Seq cs) m'
        ∙ ap (λ (z : ℤ). for_loop n.var turn z (value_in m' n.hi) m') from
        ∙ ap (λ (z : ℤ). for_loop n.var turn lo z m') to
        ∙ ap (λ (j : ℕ). for_turns n.var turn j lo m') long

    facts : (i : ℤ) (k : Machine) → length k.locals ≡ layout.locals → ((x : ℕ) → Kept nest x → get k.locals x ≡ get m.locals x) → Hold (with_local n.var i k) (place i).facts
    facts i k long kept =
        within_facts l n room inputs sc vars good apart var i k (omega (arith, var_room, long))
        (λ x e. kept x (pin_kept l n room inputs sc vars good apart x e) ∙ fits.pinned x (number vars x) (pinned l n room inputs sc vars good apart x e))

    module _ (r : Run) (stands : (runs start).stands r m) where
      none_does : span lo hi ≡ 0 → Does (runs start) ts r m (meaning layout (fixed_code n cs) m) nest
      none_does none =
          let nothing : fold (λ y. y) ts m.locals nest r ≡ r = ap (λ (k : ℕ). part (λ y. y) ts m.locals nest k fresh lo r) none in
          let stand : (runs start).stands (fold (λ y. y) ts m.locals nest r) m = subst (λ (y : Run). (runs start).stands y m) (sym nothing) stands in
          let still : Does (runs start) ts r m m nest = record { done = stand; long = refl; kept = λ d x k. refl; steady = λ d t k. refl } in
          subst (λ (y : Machine). Does (runs start) ts r m y nest) (sym (loops m (never_paid none) lo_is hi_is 0 none)) still

      some_does : (k : ℕ) → span lo hi ≡ suc k → Does (runs start) ts r m (meaning layout (fixed_code n cs) m) nest
      some_does k long =
          let (c, from) = natural lo fits.bounds.low in
          let top : c + suc k ≤ 2 ^ 40 = let u = ap up from in let d = ap down from in omega (arith, u, d, span_is lo hi, long, le_out hi (pos (2 ^ 40)) fits.bounds.high_top) in
          let first : Went start nest m (worked 2 r) (paid 2 m) =
          record { stands = charged start 2 r m fits.live stands; leaves = record { long = refl; kept = λ e x q. refl; steady = λ e t q. refl } } in
          let went = turns_go start layout nest apart cs act place (once_advances l n w vars flat settled fixed) performs
          (λ i x q. (q.below, ap (λ (b : Bool). b && not (nat_eq x l.var)) q.no_var)) (λ i t q. q) m fits.locals facts (suc k) c (worked 2 r) (paid 2 m) top first in
          let all : done_along act (suc k) (pos c) (worked 2 r) ≡ fold (λ y. y) ts m.locals nest r =
          sym (ap (λ (j : ℕ). part (λ y. y) ts m.locals nest j fresh lo r) long ∙ fixed_along l n w vars flat settled fixed ts m.locals sc k lo r
          ∙ ap (λ (z : ℤ). done_along act (suc k) z (worked 2 r)) from) in
          let runs_to : meaning layout (fixed_code n cs) m ≡ for_turns n.var turn (suc k) (pos c) (paid 2 m) =
          loops (paid 2 m) (within_some layout nest (Charge (Num (pos 2))) apart ts m fits k long ∙ number_pays layout 2 m fits.live) lo_is hi_is (suc k) long
          ∙ ap (λ (z : ℤ). for_turns n.var turn (suc k) z (paid 2 m)) from in
          subst (λ (y : Machine). Does (runs start) ts r m y nest) (sym runs_to)
          (does_by (runs start) ts r m (for_turns n.var turn (suc k) (pos c) (paid 2 m)) nest
          (subst (λ (y : Run). (runs start).stands y (for_turns n.var turn (suc k) (pos c) (paid 2 m))) all went.stands) went.leaves)

      does : (k : ℕ) → span lo hi ≡ k → Does (runs start) ts r m (meaning layout (fixed_code n cs) m) nest
      does zero e = none_does e
      does (suc k) e = some_does k e

  pub fixed_meant : Meant layout (runs start) nest (fixed_code n cs)
  fixed_meant =
      let mean : MeansNest layout (runs start) (fixed_code n cs) nest =
      record { does = λ ts r m fits jumps stands. does ts m fits r stands (span (value ts m.locals n.lo) (value ts m.locals n.hi)) refl } in
      record { means = mean; counted = λ none. counted_means layout (runs start) (runs_lawful start) (λ r. refl) (fixed_code n cs) nest mean }

pub fixed_means : FixedMeans
fixed_means l n code cs var flat settled fixed fewer is low means s layout b stands fine =
    subst (λ (c : Code). Meant layout (runs s) (nest_with b (course_of n)) c) (sym is)
    (in_all l (λ s' k b'. Separate (nest_with b' (course_of n)) → code.room ≤ k.locals → Meant k (runs s') (nest_with b' (course_of n)) (fixed_code n cs))
    (λ room inputs sc vars good apart enough. fixed_meant l n var flat settled fixed room inputs sc vars good apart cs code.room low enough fewer means)
    s layout b stands.ours stands.separate fine)
