-- The statements of a program, as the definition of work runs them, go on; and where a single update is left of them they
-- are that update, whose own work is 1.
use Rattle.std.proofs.Common.{◌≡◌, ◌⊎◌, ⊎_elim, inl, inr, ℕ, ◌+◌, ℤ, pos, Bool, true, false, List, [], ◌∷◌, map, Option, Some, None, refl, sym, ap, ◌∙◌, arith, subst, T, if◌then◌else◌}
use Rattle.std.specs.Prelude.{slice_set}
use Rattle.std.specs.Ordering.{int_eq}
use Rattle.fin_base.specs.declared.reduce.Reduce.{Reduce}
use Rattle.fin_base.specs.Words.{apply}
use Rattle.fin_tensor.specs.Building.{Building, follows, updated}
use Rattle.fin_ast.specs.declared.tree.Index.{Index}
use Rattle.fin_ast.specs.declared.tree.Expr.{Expr}
use Rattle.fin_ast.specs.declared.tree.Stmt.TheOpen.{Stmt-F}
use Rattle.fin_ast.specs.Value.{Numbers, place, coordinates, value_of}
use Rattle.fin_ast.specs.Dense.{Setting}
use Rattle.fin_ast.specs.Actions.{Declare, Freeze, Thaw, Update, in_turn}
use Rattle.fin_stage.specs.Stages.{Stage, Absent, Built, Frozen, stage_at}
use Rattle.fin_stage.specs.Staged.{Run, Action, worked, tensors_of, can_read, has_small_indices, are_small, asked_to_read, asked_for_small, unalive, unordered, with_stage, closed, leaf, put_at, update_at, update, is_made}
use Rattle.fin_nest.proofs.Senses.{advances}
use Rattle.fin_simp.specs.Numbered.{Here}
use Rattle.fin_simp.specs.Left.{Marks, binding}
use Rattle.fin_simp.specs.Rest.{Kind, Nothing, OneUpdate, Other, Rest, ExprRest, Test, is_none_kind, kinds, all_rest, within_kind, chosen_rest, let_rest, test_rest, expr_rest, no_expr, nothing as nothing_left}
use Rattle.fin_simp.specs.Work.{World, Worked, work_step, all_of, inside, chosen, bound, done, unless_nothing, is_one_update}
use Rattle.fin_simp.specs.Moving.{worked_all}
use Rattle.fin_simp.proofs.GoingOn.{bodies_go_on}
use Rattle.fin_simp.proofs.Holding.{Each, InNode, all_held}
use Rattle.fin_drive.specs.Bodies.{StatementsGoOn, StatementsUpdateOnce}

-- ---- they go on

pub statements_go_on : StatementsGoOn
statements_go_on w body h m vars r = advances r (all_of (worked_all w body h) (Some m) vars r) (bodies_go_on w body h (Some m) vars r)

-- ---- a single update

abbrev Same : (Run → Run) → Run → Type 0
Same f r = (f (worked 1 r) ≡ worked 1 (f r)) × ((f r).work ≡ r.work + 1)

-- done to a run they don't look at its work
abbrev Unpaid : (Run → Run) → Run → Type 0
Unpaid f r = (f (worked 1 r) ≡ worked 1 (f r)) × ((f r).work ≡ r.work)

asked_unpaid : (b : Bool) (r : Run) → Unpaid (asked_to_read b) r
asked_unpaid true r = (refl, refl)
asked_unpaid false r = (refl, refl)

small_unpaid : (b : Bool) (r : Run) → Unpaid (asked_for_small b) r
small_unpaid true r = (refl, refl)
small_unpaid false r = (refl, refl)

then_unpaid : (f g : Run → Run) → ((r : Run) → Unpaid f r) → ((r : Run) → Unpaid g r) → (r : Run) → Unpaid (λ x. g (f x)) r
then_unpaid f g p q r = (ap g (p r).0 ∙ (q (f r)).0, (q (f r)).1 ∙ (p r).1)

put_unpaid : (tensor : ℕ) (b : Building) (at : Option (List ℕ)) (by : Reduce) (v : ℤ) (r : Run) → Unpaid (put_at tensor b at by v) r
put_unpaid tensor b None by v r = (refl, refl)
put_unpaid tensor b (Some cs) by v r = elim (follows b cs) as (λ o. Unpaid (λ x. if o then with_stage tensor (Built (updated b cs (λ old. apply by old v))) x else unordered x) r) [
  | true ↦ (refl, refl)
  | false ↦ (refl, refl)
]

update_at_unpaid : (tensor : ℕ) (x : Stage) (at : List ℤ) (by : Reduce) (v : ℤ) (r : Run) → Unpaid (update_at tensor x at by v) r
update_at_unpaid tensor Absent at by v r = (refl, refl)
update_at_unpaid tensor (Built b) at by v r = put_unpaid tensor b (coordinates b.function.shape at) by v r
update_at_unpaid tensor (Frozen format f) at by v r = (refl, refl)

made_unpaid : (made : Bool) (tensor : ℕ) (x : Stage) (at : List ℤ) (by : Reduce) (v : ℤ) (r : Run) → Unpaid (λ y. if made then update_at tensor x at by v y else unalive y) r
made_unpaid true tensor x at by v r = update_at_unpaid tensor x at by v r
made_unpaid false tensor x at by v r = (refl, refl)

-- an update's own work is 1
update_same : (w : Setting) (tensor : ℕ) (at : List ℤ) (by : Reduce) (v : ℤ) (r : Run) → Same (update w tensor at by v) r
update_same w tensor at by v r =
    let u = made_unpaid (is_made w tensor) tensor (stage_at r.stages tensor) at by v r in
    (ap (worked 1) u.0, ap (λ n. n + 1) u.1)

leaf_same : (w : Setting) (tensor : ℕ) (at : List Index) (by : Reduce) (value : Expr) (vars : Numbers) (r : Run) → Same (leaf w (Update tensor at by value) vars) r
leaf_same w tensor at by value vars r =
    let v = value_of value vars (tensors_of w r) in
    let asked : Run → Run = λ x. asked_for_small (are_small vars at) (asked_for_small (has_small_indices value vars) (asked_to_read (can_read value (tensors_of w r)) x)) in
    let unpaid = then_unpaid (λ x. asked_for_small (has_small_indices value vars) (asked_to_read (can_read value (tensors_of w r)) x)) (asked_for_small (are_small vars at))
    (then_unpaid (asked_to_read (can_read value (tensors_of w r))) (asked_for_small (has_small_indices value vars)) (asked_unpaid (can_read value (tensors_of w r))) (small_unpaid (has_small_indices value vars)))
    (small_unpaid (are_small vars at)) r in
    let u = update_same w tensor (map (place vars) at) by v (asked r) in
    (ap (update w tensor (map (place vars) at) by v) unpaid.0 ∙ u.0, u.1 ∙ ap (λ n. n + 1) unpaid.1)

-- nothing where nothing is left, and where an update is, that one
record Once (s : Worked) : Type 0 where
  nothing : (m : Marks) (vars : Numbers) (r : Run) → is_none_kind (s.rest m).kind ≡ true → s.run (Some m) vars r ≡ r
  update : (m : Marks) (vars : Numbers) (r : Run) → is_one_update (s.rest m).kind ≡ true → Same (s.run (Some m) vars) r

none_left : (a b : Kind) → is_none_kind (kinds a b) ≡ true → is_none_kind a ≡ true
none_left Nothing b h = refl
none_left OneUpdate Nothing h = h
none_left OneUpdate OneUpdate h = h
none_left OneUpdate Other h = h
none_left Other Nothing h = h
none_left Other OneUpdate h = h
none_left Other Other h = h

none_right : (a b : Kind) → is_none_kind (kinds a b) ≡ true → is_none_kind b ≡ true
none_right Nothing b h = h
none_right OneUpdate Nothing h = refl
none_right OneUpdate OneUpdate h = h
none_right OneUpdate Other h = h
none_right Other Nothing h = refl
none_right Other OneUpdate h = h
none_right Other Other h = h

-- an update is one of two, and the other one nothing
one_of : (a b : Kind) → is_one_update (kinds a b) ≡ true → ((is_none_kind a ≡ true) × (is_one_update b ≡ true)) ⊎ ((is_one_update a ≡ true) × (is_none_kind b ≡ true))
one_of Nothing b h = inl (refl, h)
one_of OneUpdate Nothing h = inr (refl, refl)
one_of OneUpdate OneUpdate h = absurd (subst T (sym h) tt)
one_of OneUpdate Other h = absurd (subst T (sym h) tt)
one_of Other Nothing h = absurd (subst T (sym h) tt)
one_of Other OneUpdate h = absurd (subst T (sym h) tt)
one_of Other Other h = absurd (subst T (sym h) tt)

abbrev rests : List Worked → List (Marks → Rest)
rests body = map (λ (s : Worked). s.rest) body

abbrev run_in : Marks → List Worked → Action
run_in m body = in_turn (map (λ (s : Worked). s.run (Some m)) body)

turn_nothing : (m : Marks) (body : List Worked) → Each Once body → (vars : Numbers) (r : Run) → is_none_kind (all_rest (rests body) m).kind ≡ true → run_in m body vars r ≡ r
turn_nothing m [] all vars r h = refl
turn_nothing m (s ∷ ss) all vars r h =
    let a = (s.rest m).kind in
    let b = (all_rest (rests ss) m).kind in
    ap (run_in m ss vars) (all.0.nothing m vars r (none_left a b h)) ∙ turn_nothing m ss all.1 vars r (none_right a b h)

turn_update : (m : Marks) (body : List Worked) → Each Once body → (vars : Numbers) (r : Run) → is_one_update (all_rest (rests body) m).kind ≡ true → Same (run_in m body vars) r
turn_update m [] all vars r h = absurd (subst T (sym h) tt)
turn_update m (s ∷ ss) all vars r h =
    let a = (s.rest m).kind in
    let b = (all_rest (rests ss) m).kind in
    ⊎_elim
    (λ (q : (is_none_kind a ≡ true) × (is_one_update b ≡ true)).
    let first = all.0.nothing m vars r q.0 in
    let paid = all.0.nothing m vars (worked 1 r) q.0 in
    let rest = turn_update m ss all.1 vars r q.1 in
    (ap (run_in m ss vars) paid ∙ rest.0 ∙ ap (λ (x : Run). worked 1 (run_in m ss vars x)) (sym first), ap (λ (x : Run). (run_in m ss vars x).work) first ∙ rest.1))
    (λ (q : (is_one_update a ≡ true) × (is_none_kind b ≡ true)).
    let one = all.0.update m vars r q.0 in
    let rest = λ (x : Run). turn_nothing m ss all.1 vars x q.1 in
    (rest (s.run (Some m) vars (worked 1 r)) ∙ one.0 ∙ ap (worked 1) (sym (rest (s.run (Some m) vars r))), ap (λ (x : Run). x.work) (rest (s.run (Some m) vars r)) ∙ one.1))
    (one_of a b h)

all_update : (m : Marks) (body : List Worked) → Each Once body → (vars : Numbers) (r : Run) → is_one_update (all_rest (rests body) m).kind ≡ true → Same (all_of body (Some m) vars) r
all_update m body all vars r h =
    let q = turn_update m body all vars r h in
    (ap (closed r.stages) q.0, q.1)

within_more : (k : Kind) (e : ExprRest) (tests : List Test) (body : Rest) → is_one_update (within_kind k e tests body).kind ≡ true → ⊥
within_more Nothing e tests body h = subst T (sym h) tt
within_more OneUpdate e tests body h = subst T (sym h) tt
within_more Other e tests body h = subst T (sym h) tt

chosen_update : (w : Setting) (lit : Option ℤ) (e : ExprRest) (t : Test) (m : Marks) (test : Expr) (body : List Worked) → Each Once body → (vars : Numbers) (r : Run)
    → is_one_update (chosen_rest lit e t (all_rest (rests body) m)).kind ≡ true → Same (chosen w lit test (all_of body (Some m)) vars) r
chosen_update w None e t m test body all vars r h = absurd (within_more (all_rest (rests body) m).kind e (t ∷ []) (all_rest (rests body) m) h)
chosen_update w (Some n) e t m test body all vars r h = all_update m body all vars r (held (int_eq n (pos 0)) h) where
  held : (b : Bool) → is_one_update (if b then nothing_left else all_rest (rests body) m).kind ≡ true → is_one_update (all_rest (rests body) m).kind ≡ true
  held true q = absurd (subst T (sym q) tt)
  held false q = q

bound_update : (w : Setting) (lit : Option ℤ) (e : ExprRest) (m : Marks) (var : ℕ) (value : Expr) (body : List Worked) → Each Once body → (vars : Numbers) (r : Run)
    → is_one_update (let_rest lit e (all_rest (rests body) (binding m var lit))).kind ≡ true → Same (bound w lit var value (all_of body (inside (Some m) var lit)) vars) r
bound_update w None e m var value body all vars r h = absurd (within_more (all_rest (rests body) (binding m var None)).kind e [] (all_rest (rests body) (binding m var None)) h)
bound_update w (Some n) e m var value body all vars r h = all_update (binding m var (Some n)) body all (slice_set vars var n) r h

none_unless : (k : Kind) (r n : Run) → is_none_kind k ≡ true → unless_nothing k r n ≡ r
none_unless Nothing r n h = refl
none_unless OneUpdate r n h = absurd (subst T (sym h) tt)
none_unless Other r n h = absurd (subst T (sym h) tt)

one_unless : (k : Kind) (r n : Run) → is_one_update k ≡ true → unless_nothing k r n ≡ n
one_unless Nothing r n h = absurd (subst T (sym h) tt)
one_unless OneUpdate r n h = refl
one_unless Other r n h = absurd (subst T (sym h) tt)

module _ (w : World) where
  done_update : (h : Here) (y : Stmt-F Worked) → InNode Once y → (m : Marks) (vars : Numbers) (r : Run) → is_one_update ((work_step w h y).rest m).kind ≡ true → Same (done w h y (Some m) vars) r
  done_update h (Stmt-F.Block body line last) all m vars r q = all_update m body all vars r q
  done_update h (Stmt-F.Loop var range par body line last) all m vars r q = absurd (within_more (all_rest (rests body) (binding m var None)).kind no_expr [] (all_rest (rests body) (binding m var None)) q)
  done_update h (Stmt-F.Cond test body line last) all m vars r q = chosen_update w.setting (test_rest test h m) _ _ m test body all vars r q
  done_update h (Stmt-F.Bind var value body line last) all m vars r q = bound_update w.setting (expr_rest value h.read m).literal (expr_rest value h.read m) m var value body all vars r q
  done_update h (Stmt-F.Declare tensor value line) all m vars r q = absurd (subst T (sym q) tt)
  done_update h (Stmt-F.Freeze tensor line) all m vars r q = absurd (subst T (sym q) tt)
  done_update h (Stmt-F.Thaw tensor line) all m vars r q = absurd (subst T (sym q) tt)
  done_update h (Stmt-F.Update tensor at by value line) all m vars r q = leaf_same w.setting tensor at by value vars r

  once_kept : (h : Here) (y : Stmt-F Worked) → InNode Once y → Once (work_step w h y)
  once_kept h y all = record {
    nothing = λ m vars r q. none_unless ((work_step w h y).rest m).kind r (done w h y (Some m) vars r) q;
    update = λ m vars r q.
        let k = ((work_step w h y).rest m).kind in
        let is = λ (x : Run). one_unless k x (done w h y (Some m) vars x) q in
        let u = done_update h y all m vars r q in
        (is (worked 1 r) ∙ u.0 ∙ ap (worked 1) (sym (is r)), ap (λ (x : Run). x.work) (is r) ∙ u.1);
  }

pub statements_update_once : StatementsUpdateOnce
statements_update_once w body h m vars r q =
    let s = all_update m (worked_all w body h) (all_held Worked (work_step w) Once (once_kept w) body h) vars r q in
    let n = all_of (worked_all w body h) (Some m) vars r in
    let same : r.work + 2 ≡ n.work + 1 = omega (arith, s.1) in
    ap (λ k. record { stages = n.stages; work = k; alive = n.alive; small = n.small; ordered = n.ordered }) same ∙ sym s.0
