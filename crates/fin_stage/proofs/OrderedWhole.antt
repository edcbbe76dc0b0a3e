-- The same for whole programs.
use Rattle.std.proofs.Common.{◌≡◌, ◌<◌, ◌≤◌, ◌+◌, ℕ, suc, ℤ, pos, Bool, true, false, ◌||◌, List, [], ◌∷◌, ◌++◌, map, None, if◌then◌else◌, refl, sym, ap, ◌∙◌, subst, inl, arith, length, take, drop}
use Rattle.std.proofs.lemmas.List.{length-set}
use Rattle.std.specs.Prelude.{is_some, slice_set, nat_eq, not, ◌==◌}
use Rattle.std.specs.Ordering.{int_eq}
use Rattle.std.proofs.lemmas.Bool.Decides.{nat_tests}
use Rattle.fin_base.specs.declared.reduce.Reduce.{Reduce}
use Rattle.fin_base.specs.declared.refusal.Rule.{Rule}
use Rattle.fin_ast.specs.declared.header.Header.{Header}
use Rattle.fin_ast.specs.declared.mode.Mode.{Mode}
use Rattle.fin_ast.specs.declared.mode.Mode.TheVariants.{Undeclared, Update, Read}
use Rattle.fin_ast.specs.declared.tree.Index.{Index}
use Rattle.fin_ast.specs.declared.tree.Expr.{Expr}
use Rattle.fin_ast.specs.declared.tree.Stmt.{Stmt, map-Stmt, roll-Stmt, fold-roll-Stmt}
use Rattle.fin_ast.specs.declared.tree.Stmt.TheOpen.{Stmt-F}
use Rattle.fin_ast.specs.Bindings.{bindings_step, bindings_of, bindings_of_all, counts_from}
use Rattle.fin_ast.specs.Text.{Updates}
use Rattle.fin_ast.specs.Modes.{is_input_at}
use Rattle.fin_ast.specs.Life.{is_update, is_read, is_declared, breach_by}
use Rattle.fin_ast.specs.Order.{are_variables}
use Rattle.fin_ast.specs.Scope.{Scope, is_among, is_named, are_named, stmt_step, within_loop, within_let, is_access, is_named_expr}
use Rattle.fin_ast.specs.Value.{Numbers, place, value_of}
use Rattle.fin_ast.specs.Dense.{Setting, made_at, range_of}
use Rattle.fin_ast.specs.Actions.{act_step}
use Rattle.fin_ast.proofs.Induction.{AllOf, Held, bare, plain, all_of, each, by_nodes}
use Rattle.fin_ast.proofs.Unbroken.{first_none, second_none, unbroken}
use Rattle.fin_life.specs.Passage.{ModeOf, Passage, turned, breach_of_expr, breach_in, body_breach, stmt_passage, passage_of, passages_of}
use Rattle.fin_life.specs.Tracks.{Tracks}
use Rattle.fin_life.specs.Tracks as track
use Rattle.fin_life.specs.Trails.{Trail, stmt_trail, trail_of, trails_of, breach_along, update_breach}
use Rattle.fin_life.specs.Trails as trail
use Rattle.fin_stage.specs.Stages.{Stage, Absent, Built, Frozen, stage_at}
use Rattle.fin_stage.specs.Staged.{Run, Action, worked, unalive, asked_to_read, asked_for_small, has_small_indices, can_read, tensors_of, are_small, braced, looped, is_made, freeze_at, thaw_at, update_at, update, staging, stage_of, stage_all}
use Rattle.fin_stage.specs.Fitting.{StagesFit}
use Rattle.fin_stage.proofs.Alive.{left, right, not_not, holds_there, ready, worked_lives, small_lives}
use Rattle.fin_stage.proofs.Lexical.{Weak}
use Rattle.fin_stage.proofs.Touching.{is_update_of, touches, any_touches, same_tensor, last_in}
use Rattle.fin_ast.proofs.Leaves.{leaf_step}
use Rattle.fin_stage.proofs.Declaring.{body_declares_nothing}
use Rattle.fin_stage.proofs.Tracking.{depth, body_tracked, order_kept, deep_enough}
use Rattle.fin_stage.proofs.InOrder.{values, values_dropped, InOrder}
use Rattle.fin_stage.proofs.Ordered.{Here, declared_mode, carried_by, update_follows, Updated, deep_alone}
use Rattle.fin_stage.proofs.OrderedAll.{last_at, After, Orders, orders_all, braced_orders, other_values, more_numbers, entered_over, loop_orders}

equal : (a b : ℕ) → (a == b) ≡ true → a ≡ b
equal a b e = grind (arith, nat_tests)

module _ (hs : List Header) (w : Setting) (given_is : (t : ℕ) → is_some (made_at w.given t) ≡ is_input_at hs t) (headers_is : w.headers ≡ hs) where
  abbrev At : ModeOf → List ℕ → Tracks → ℕ → Run → Type 0
  At now loops tracks n r = Here hs w given_is now loops tracks n r

  abbrev Then : ModeOf → List ℕ → Tracks → ℕ → Numbers → (ℕ → Bool) → Run → Type 0
  Then after loops tracks m vars among r = After hs w given_is headers_is after loops tracks m vars among r

  abbrev OrdersIt : Stmt → Type 0
  OrdersIt x = Orders hs w given_is headers_is x

  -- the run behind an expression
  ready_stages : (e : Expr) (vars : Numbers) (r : Run) → (asked_for_small (has_small_indices e vars) (asked_to_read (can_read e (tensors_of w r)) r)).stages ≡ r.stages
  ready_stages e vars r = small_same (has_small_indices e vars) (asked_to_read (can_read e (tensors_of w r)) r) ∙ read_same (can_read e (tensors_of w r)) where
    small_same : (b : Bool) (x : Run) → (asked_for_small b x).stages ≡ x.stages
    small_same true x = refl
    small_same false x = refl

    read_same : (b : Bool) → (asked_to_read b r).stages ≡ r.stages
    read_same true = refl
    read_same false = refl

  ready_ordered : (e : Expr) (vars : Numbers) (r : Run) → r.ordered ≡ true → (asked_for_small (has_small_indices e vars) (asked_to_read (can_read e (tensors_of w r)) r)).ordered ≡ true
  ready_ordered e vars r g = small_same (has_small_indices e vars) (asked_to_read (can_read e (tensors_of w r)) r) ∙ read_same (can_read e (tensors_of w r)) ∙ g where
    small_same : (b : Bool) (x : Run) → (asked_for_small b x).ordered ≡ x.ordered
    small_same true x = refl
    small_same false x = refl

    read_same : (b : Bool) → (asked_to_read b r).ordered ≡ r.ordered
    read_same true = refl
    read_same false = refl

  ready_at : (now : ModeOf) (loops : List ℕ) (tracks : Tracks) (n : ℕ) (e : Expr) (vars : Numbers) (r : Run) → breach_of_expr now e ≡ None → At now loops tracks n r → At now loops tracks n (asked_for_small (has_small_indices e vars) (asked_to_read (can_read e (tensors_of w r)) r))
  ready_at now loops tracks n e vars r h at = record {
    below = at.below;
    entered = at.entered;
    alive = ready hs w given_is now e vars r h at.alive;
    fits = subst (λ (ss : List Stage). StagesFit w ss) (sym (ready_stages e vars r)) at.fits;
    ordered = ready_ordered e vars r at.ordered;
  }

  worked_at : (now : ModeOf) (loops : List ℕ) (tracks : Tracks) (n : ℕ) (r : Run) → At now loops tracks n r → At now loops tracks n (worked 1 r)
  worked_at now loops tracks n r at = record { below = at.below; entered = at.entered; alive = worked_lives hs w given_is now 1 r at.alive; fits = at.fits; ordered = at.ordered }

  -- ---- kinds
  abbrev OrdersBy : Passage → Trail → List ℕ → (Scope → Bool) → (ℕ → Bool) → Action → Type 0
  OrdersBy p q binds names among does = (sc : Scope) (begin now : ModeOf) (loops : List ℕ) (tracks : Tracks) (n : ℕ) (vars : Numbers) (r : Run) → sc.headers ≡ hs → names sc ≡ true → p.breach begin now ≡ None → q.breach loops tracks ≡ None → counts_from n binds ≡ true → n + length binds ≤ length vars → At now loops tracks n r
      → ((t : ℕ) → among t ≡ true → InOrder hs t loops tracks n vars (last_at r t)) → Then (p.after now) loops (q.after loops tracks) (n + length binds) vars among (does vars r)

  by_equations : (x : Stmt) (p : Passage) (q : Trail) (binds : List ℕ) (names : Scope → Bool) (among : ℕ → Bool) (does : Action)
      → passage_of hs x ≡ p → trail_of hs x ≡ q → bindings_of x ≡ binds → is_named x ≡ names → ((t : ℕ) → touches t x ≡ among t) → ((vars : Numbers) (r : Run) → stage_of w x vars r ≡ does vars r)
      → OrdersBy p q binds names among does → OrdersIt x
  by_equations x p q binds names among does ep eq eb en ea ed f sc begin now loops tracks n vars r eh e el et ec room at o =
      let got = f sc begin now loops tracks n vars r eh (ap (λ (g : Scope → Bool). g sc) (sym en) ∙ e) (subst (λ (y : Passage). y.breach begin now ≡ None) ep el) (subst (λ (y : Trail). y.breach loops tracks ≡ None) eq et)
      (subst (λ (vs : List ℕ). counts_from n vs ≡ true) eb ec) (subst (λ (vs : List ℕ). n + length vs ≤ length vars) eb room) at (λ t h. o t (ea t ∙ h)) in
      subst (λ (n' : Run). Then ((passage_of hs x).after now) loops ((trail_of hs x).after loops tracks) (n + length (bindings_of x)) vars (λ t. touches t x) n') (sym (ed vars r))
      (subst (λ (y : Passage). Then (y.after now) loops ((trail_of hs x).after loops tracks) (n + length (bindings_of x)) vars (λ t. touches t x) (does vars r)) (sym ep)
      (subst (λ (y : Trail). Then (p.after now) loops (y.after loops tracks) (n + length (bindings_of x)) vars (λ t. touches t x) (does vars r)) (sym eq)
      (subst (λ (vs : List ℕ). Then (p.after now) loops (q.after loops tracks) (n + length vs) vars (λ t. touches t x) (does vars r)) (sym eb)
      (record { ordered = got.ordered; order = λ t h. got.order t (sym (ea t) ∙ h); entered = got.entered }))))

  -- a test that doesn't hold: nothing is run
  unrun : (body : List Stmt) (last : ℕ) (now : ModeOf) (loops : List ℕ) (tracks : Tracks) (n m : ℕ) (vars : Numbers) (r : Run) → n ≤ m → body_breach hs (passages_of hs body) last now ≡ None → At now loops tracks n r
      → ((t : ℕ) → any_touches t body ≡ true → InOrder hs t loops tracks n vars (last_at r t)) → Then now loops (trail.after_all (trails_of hs body) loops tracks) m vars (λ t. any_touches t body) r
  unrun body last now loops tracks n m vars r le el at o = record {
    ordered = at.ordered;
    order = λ t h. carried_by hs w given_is now t loops tracks (trail.after_all (trails_of hs body) loops tracks) n m le vars r r.stages at.alive (λ u. body_tracked hs t body loops tracks (body_declares_nothing hs t body last now el (declared_mode hs w given_is (now t) u))) (inl refl) (o t h);
    entered = entered_over hs w given_is headers_is body last now loops loops tracks n r el at;
  }

  either : (b : Bool) (after : ModeOf) (loops : List ℕ) (tracks : Tracks) (m : ℕ) (vars : Numbers) (among : ℕ → Bool) (x y : Run) → Then after loops tracks m vars among x → Then after loops tracks m vars among y → Then after loops tracks m vars among (if b then x else y)
  either true after loops tracks m vars among x y f g = f
  either false after loops tracks m vars among x y f g = g

  same_flag : (b : Bool) (x y : Run) → x.ordered ≡ true → y.ordered ≡ true → (if b then x else y).ordered ≡ true
  same_flag true x y f g = f
  same_flag false x y f g = g

  freeze_flag : (t : ℕ) (x : Stage) (r : Run) → r.ordered ≡ true → (freeze_at t x r).ordered ≡ true
  freeze_flag t Absent r g = g
  freeze_flag t (Built b) r g = g
  freeze_flag t (Frozen format f) r g = g

  thaw_flag : (t : ℕ) (x : Stage) (r : Run) → r.ordered ≡ true → (thaw_at t x r).ordered ≡ true
  thaw_flag t Absent r g = g
  thaw_flag t (Built b) r g = g
  thaw_flag t (Frozen format f) r g = g

  -- what a freeze or thaw leads on stays entered
  led_entered : (now : ModeOf) (tensor : ℕ) (mode : Mode) (loops : List ℕ) (tracks : Tracks) (n : ℕ) (r : Run) → is_declared (now tensor) ≡ true → At now loops tracks n r → (t : ℕ) → is_declared (turned now tensor mode t) ≡ true → tracks.entered t ≤ length loops
  led_entered now tensor mode loops tracks n r d at t h = elim (tensor == t) as (λ b. (tensor == t) ≡ b → is_declared (if b then mode else now t) ≡ true → tracks.entered t ≤ length loops) [
    | true ↦ λ e _. at.entered t (ap (λ (k : ℕ). is_declared (now k)) (sym (equal tensor t e)) ∙ d)
    | false ↦ λ _ g. at.entered t g
  ] refl h

  declared_entered : (now : ModeOf) (tensor : ℕ) (loops : List ℕ) (tracks : Tracks) (n : ℕ) (r : Run) → At now loops tracks n r → (t : ℕ) → is_declared (turned now tensor Update t) ≡ true → (track.declared tensor (length loops) tracks).entered t ≤ length loops
  declared_entered now tensor loops tracks n r at t h = elim (tensor == t) as (λ b. is_declared (if b then Update else now t) ≡ true → (if b then length loops else tracks.entered t) ≤ length loops) [
    | true ↦ λ _. omega arith
    | false ↦ λ g. at.entered t g
  ] h

  update_is_declared : (m : Mode) → is_update m ≡ true → is_declared m ≡ true
  update_is_declared Undeclared e = cc
  update_is_declared Update e = refl
  update_is_declared Read e = cc

  read_is_declared : (m : Mode) → is_read m ≡ true → is_declared m ≡ true
  read_is_declared Undeclared e = cc
  read_is_declared Update e = cc
  read_is_declared Read e = refl

  second_false : (a b : Bool) → (a || b) ≡ false → b ≡ false
  second_false true b e = cc
  second_false false b e = e

  update_orders : (now : ModeOf) (loops : List ℕ) (tracks : Tracks) (n m : ℕ) (vars : Numbers) (tensor line : ℕ) (at' : List Index) (by : Reduce) (v : ℤ) (y : Run) → tensor < length hs → update_breach hs tensor at' line loops tracks ≡ None → At now loops tracks n y
      → InOrder hs tensor loops tracks n vars (last_at y tensor) → Updated hs w given_is tensor loops tracks m vars (update w tensor (map (place vars) at') by v y)
  update_orders now loops tracks n m vars tensor line at' by v y inside et at o =
      let kept = order_kept hs tensor loops tracks at' line et in
      let deep : depth hs tensor ≤ length (drop (tracks.entered tensor) loops) = deep_enough hs tensor (drop (tracks.entered tensor) loops) at' kept.0 in
      let bare : are_variables (take (depth hs tensor) (drop (tracks.entered tensor) loops)) (take (depth hs tensor) at') ≡ true = right _ _ kept.0 in
      let weak : Weak (depth hs tensor) (last_at y tensor) (values vars (drop (tracks.entered tensor) loops)) = o.deep deep in
      let done = update_follows hs w given_is tensor loops tracks m vars at' by v headers_is inside deep bare (stage_at y.stages tensor) y refl (at.fits tensor) at.alive.long at.ordered weak in
      let none : Updated hs w given_is tensor loops tracks m vars (unalive y) = record { ordered = at.ordered; order = deep_alone hs w given_is tensor loops tracks m vars (last_at y tensor) deep weak } in
      pick (is_made w tensor) (update_at tensor (stage_at y.stages tensor) (map (place vars) at') by v y) (unalive y) done none where
        pick : (b : Bool) (x z : Run) → Updated hs w given_is tensor loops tracks m vars x → Updated hs w given_is tensor loops tracks m vars z → Updated hs w given_is tensor loops tracks m vars (worked 1 (if b then x else z))
        pick true x z f g = record { ordered = f.ordered; order = f.order }
        pick false x z f g = record { ordered = g.ordered; order = g.order }

  small_stages : (b : Bool) (x : Run) → (asked_for_small b x).stages ≡ x.stages
  small_stages true x = refl
  small_stages false x = refl

  small_at : (now : ModeOf) (loops : List ℕ) (tracks : Tracks) (n : ℕ) (b : Bool) (x : Run) → At now loops tracks n x → At now loops tracks n (asked_for_small b x)
  small_at now loops tracks n true x a = a
  small_at now loops tracks n false x a = record { below = a.below; entered = a.entered; alive = small_lives hs w given_is now false x a.alive; fits = a.fits; ordered = a.ordered }

  itself : (a : ℕ) → nat_eq a a ≡ true
  itself a = grind (arith, nat_tests)

  step : (y : Stmt-F (Held OrdersIt)) → (let u = plain OrdersIt y in OrdersBy (stmt_passage hs (map-Stmt Stmt Passage (passage_of hs) u)) (stmt_trail hs (map-Stmt Stmt Trail (trail_of hs) u)) (bindings_step (map-Stmt Stmt (List ℕ) bindings_of u))
      (stmt_step (map-Stmt Stmt (Scope → Bool) is_named u)) (λ t. leaf_step (is_update_of t) (map-Stmt Stmt Bool (touches t) u)) (act_step (staging w) (map-Stmt Stmt Action (stage_of w) u)))
  step (Stmt-F.Block xs line last) sc begin now loops tracks n vars r eh en el et ec room at o =
      let body : List Stmt = bare OrdersIt xs in let all : AllOf OrdersIt body = all_of OrdersIt xs in
      braced_orders hs w given_is headers_is body all sc now last loops tracks n vars r eh en el et ec room at o
  step (Stmt-F.Loop var range par xs line last) sc begin now loops tracks n vars r eh en el et ec room at o =
      let body : List Stmt = bare OrdersIt xs in let all : AllOf OrdersIt body = all_of OrdersIt xs in
      let is : n ≡ var = sym (equal var n (left (var == n) (counts_from (n + 1) (bindings_of_all body)) ec)) in
      subst (λ (k : ℕ). are_named body (within_loop sc k) ≡ true → breach_along (trails_of hs body) (loops ++ k ∷ []) tracks ≡ None → Then now loops (trail.after_all (trails_of hs body) (loops ++ k ∷ []) tracks) (n + suc (length (bindings_of_all body))) vars (λ t. any_touches t body) (looped (range_of w k) k (braced (stage_all w body)) vars r)) is
      (λ en' et'. loop_orders hs w given_is headers_is body all sc now last line loops tracks n vars eh en' el et' (right (var == n) (counts_from (n + 1) (bindings_of_all body)) ec) room at.below (range_of w n) r at o) en et
  step (Stmt-F.Cond test xs line last) sc begin now loops tracks n vars r eh en el et ec room at o =
      let body : List Stmt = bare OrdersIt xs in let all : AllOf OrdersIt body = all_of OrdersIt xs in
      let x : Run = asked_for_small (has_small_indices test vars) (asked_to_read (can_read test (tensors_of w (worked 1 r))) (worked 1 r)) in
      let ax : At now loops tracks n x = ready_at now loops tracks n test vars (worked 1 r) (first_none (breach_of_expr now test) _ el) (worked_at now loops tracks n r at) in
      let ox : (t : ℕ) → any_touches t body ≡ true → InOrder hs t loops tracks n vars (last_at x t) = λ t h. subst (λ (ss : List Stage). InOrder hs t loops tracks n vars (last_in (stage_at ss t))) (sym (ready_stages test vars (worked 1 r))) (o t h) in
      let eb = second_none (breach_of_expr now test) (body_breach hs (passages_of hs body) last now) el in
      either (int_eq (value_of test vars (tensors_of w (worked 1 r))) (pos 0)) now loops (trail.after_all (trails_of hs body) loops tracks) (n + length (bindings_of_all body)) vars (λ t. any_touches t body) x (braced (stage_all w body) vars x)
      (unrun body last now loops tracks n (n + length (bindings_of_all body)) vars x (omega arith) eb ax ox) (braced_orders hs w given_is headers_is body all sc now last loops tracks n vars x eh (right (is_named_expr test sc) (are_named body sc) en) eb et ec room ax ox)
  step (Stmt-F.Bind var value xs line last) sc begin now loops tracks n vars r eh en el et ec room at o =
      let body : List Stmt = bare OrdersIt xs in let all : AllOf OrdersIt body = all_of OrdersIt xs in
      let is : var ≡ n = equal var n (left (var == n) (counts_from (n + 1) (bindings_of_all body)) ec) in
      let x : Run = asked_for_small (has_small_indices value vars) (asked_to_read (can_read value (tensors_of w (worked 1 r))) (worked 1 r)) in
      let v : ℤ = value_of value vars (tensors_of w (worked 1 r)) in
      let inner : Numbers = slice_set vars var v in
      let below : (k : ℕ) → is_among loops k ≡ true → k < var = λ k h. omega (arith, is, at.below k h) in
      let ax : At now loops tracks n x = ready_at now loops tracks n value vars (worked 1 r) (first_none (breach_of_expr now value) _ el) (worked_at now loops tracks n r at) in
      let ax1 : At now loops tracks (n + 1) x = record { below = λ k h. omega (arith, at.below k h); entered = ax.entered; alive = ax.alive; fits = ax.fits; ordered = ax.ordered } in
      let same : (tr : Tracks) (t : ℕ) → values inner (drop (tr.entered t) loops) ≡ values vars (drop (tr.entered t) loops) = λ tr t. values_dropped vars loops (tr.entered t) var v below in
      let ox : (t : ℕ) → any_touches t body ≡ true → InOrder hs t loops tracks (n + 1) inner (last_at x t) = λ t h.
      more_numbers hs w given_is headers_is t loops tracks n (n + 1) inner (last_at x t) (omega arith) (other_values hs w given_is headers_is t loops tracks n inner vars (last_at x t) (sym (same tracks t))
      (subst (λ (ss : List Stage). InOrder hs t loops tracks n vars (last_in (stage_at ss t))) (sym (ready_stages value vars (worked 1 r))) (o t h))) in
      let eb = second_none (breach_of_expr now value) (body_breach hs (passages_of hs body) last now) el in
      let long : length inner ≡ length vars = length-set vars var v in
      let done = braced_orders hs w given_is headers_is body all (within_let sc var) now last loops tracks (n + 1) inner x eh (right (is_named_expr value sc) (are_named body (within_let sc var)) en) eb et (right (var == n) (counts_from (n + 1) (bindings_of_all body)) ec) (omega (arith, room, long)) ax1 ox in
      let after : Tracks = trail.after_all (trails_of hs body) loops tracks in
      record {
        ordered = done.ordered;
        order = λ t h. other_values hs w given_is headers_is t loops after (n + suc (length (bindings_of_all body))) vars inner (last_at (braced (stage_all w body) inner x) t) (same after t) (more_numbers hs w given_is headers_is t loops after (n + 1 + length (bindings_of_all body)) (n + suc (length (bindings_of_all body))) inner (last_at (braced (stage_all w body) inner x) t) (omega arith) (done.order t h));
        entered = done.entered;
      }
  step (Stmt-F.Declare tensor value line) sc begin now loops tracks n vars r eh en el et ec room at o =
      record { ordered = same_flag (is_made w tensor) _ (unalive r) at.ordered at.ordered; order = λ t h. absurd (let c : ◌≡◌ {A = Bool} false true = h in cc); entered = declared_entered now tensor loops tracks n r at }
  step (Stmt-F.Freeze tensor line) sc begin now loops tracks n vars r eh en el et ec room at o =
      record { ordered = freeze_flag tensor (stage_at r.stages tensor) r at.ordered; order = λ t h. absurd (let c : ◌≡◌ {A = Bool} false true = h in cc); entered = led_entered now tensor Read loops tracks n r (update_is_declared (now tensor) (not_not (is_update (now tensor)) (unbroken _ Rule.L4 line el))) at }
  step (Stmt-F.Thaw tensor line) sc begin now loops tracks n vars r eh en el et ec room at o =
      record { ordered = same_flag (is_made w tensor) (thaw_at tensor (stage_at r.stages tensor) r) (unalive r) (thaw_flag tensor (stage_at r.stages tensor) r at.ordered) at.ordered; order = λ t h. absurd (let c : ◌≡◌ {A = Bool} false true = h in cc); entered = led_entered now tensor Update loops tracks n r (read_is_declared (now tensor) (not_not (is_read (now tensor)) (second_false (is_input_at hs tensor) (not (is_read (now tensor))) (unbroken _ Rule.L5 line el)))) at }
  step (Stmt-F.Update tensor at' by value line) sc begin now loops tracks n vars r eh en el et ec room at o =
      let x : Run = asked_for_small (has_small_indices value vars) (asked_to_read (can_read value (tensors_of w r)) r) in
      let y : Run = asked_for_small (are_small vars at') x in
      let v : ℤ = value_of value vars (tensors_of w r) in
      let ax : At now loops tracks n x = ready_at now loops tracks n value vars r (second_none (breach_by hs begin now (Updates tensor [] line)) _ el) at in
      let ay : At now loops tracks n y = small_at now loops tracks n (are_small vars at') x ax in
      let sy : y.stages ≡ r.stages = small_stages (are_small vars at') x ∙ ready_stages value vars r in
      let own : InOrder hs tensor loops tracks n vars (last_at y tensor) = subst (λ (ss : List Stage). InOrder hs tensor loops tracks n vars (last_in (stage_at ss tensor))) (sym sy) (o tensor (itself tensor)) in
      let inside : tensor < length hs = subst (λ (l : List Header). tensor < length l) eh (holds_there _ sc.headers tensor (left _ _ (left (is_access sc tensor at') (is_named_expr value sc) en))) in
      let done = update_orders now loops tracks n (n + 0) vars tensor line at' by v y inside et ay own in
      record { ordered = done.ordered; order = λ t h. subst (λ (k : ℕ). InOrder hs k loops (track.updated tensor loops tracks) (n + 0) vars (last_at (update w tensor (map (place vars) at') by v y) k)) (same_tensor tensor t h) done.order; entered = at.entered }

  orders_it : (x : Stmt) → OrdersIt x
  orders_it = by_nodes OrdersIt (λ y. let u = plain OrdersIt y in
      by_equations (roll-Stmt u) _ _ _ _ (λ t. leaf_step (is_update_of t) (map-Stmt Stmt Bool (touches t) u)) _ (fold-roll-Stmt Passage (stmt_passage hs) u) (fold-roll-Stmt Trail (stmt_trail hs) u) (fold-roll-Stmt (List ℕ) bindings_step u)
      (fold-roll-Stmt (Scope → Bool) stmt_step u) (λ t. fold-roll-Stmt Bool (leaf_step (is_update_of t)) u) (λ vars r. ap (λ (a : Action). a vars r) (fold-roll-Stmt Action (act_step (staging w)) u)) (step y))

  pub statements_in_order : (body : List Stmt) (sc : Scope) (begin now : ModeOf) (loops : List ℕ) (tracks : Tracks) (n : ℕ) (vars : Numbers) (r : Run) → sc.headers ≡ hs → are_named body sc ≡ true
      → breach_in (passages_of hs body) begin now ≡ None → breach_along (trails_of hs body) loops tracks ≡ None → counts_from n (bindings_of_all body) ≡ true → n + length (bindings_of_all body) ≤ length vars → At now loops tracks n r
      → ((t : ℕ) → any_touches t body ≡ true → InOrder hs t loops tracks n vars (last_at r t)) → (stage_all w body vars r).ordered ≡ true
  statements_in_order body sc begin now loops tracks n vars r eh en el et ec room at o =
      (orders_all hs w given_is headers_is body (each OrdersIt orders_it body) sc begin now loops tracks n vars r (λ t. any_touches t body) eh en el et ec room at (λ t h. h) o).ordered
