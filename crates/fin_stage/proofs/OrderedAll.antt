-- The same, statement by statement.
use Rattle.std.proofs.Common.{◌≡◌, ◌<◌, ◌≤◌, ◌+◌, ◌-◌, ℕ, zero, suc, pos, Bool, true, false, ◌&&◌, ◌||◌, List, [], ◌∷◌, ◌++◌, Option, Some, None, refl, sym, ap, ◌∙◌, subst, inl, inr, ◌⊎◌, arith, length, take, drop}
use Rattle.std.proofs.lemmas.List.{length-set}
use Rattle.std.proofs.lemmas.Bool.Decides.{nat_tests}
use Rattle.std.specs.Prelude.{is_some, slice_set, nat_eq, ◌==◌}
use Rattle.fin_base.specs.declared.refusal.Rule.{Rule}
use Rattle.fin_ast.specs.declared.header.Header.{Header}
use Rattle.fin_ast.specs.declared.mode.Mode.TheVariants.{Update}
use Rattle.fin_ast.specs.declared.tree.Stmt.{Stmt, map-Stmt}
use Rattle.fin_ast.specs.declared.tree.Stmt.TheOpen.{Stmt-F}
use Rattle.fin_ast.specs.Bindings.{bindings_of, bindings_of_all, counts_from}
use Rattle.fin_ast.specs.Text.{Declares}
use Rattle.fin_ast.specs.Modes.{is_input_at}
use Rattle.fin_ast.specs.Life.{is_update, is_declared, breach_by}
use Rattle.fin_ast.specs.Scope.{Scope, is_among, is_named, are_named, within_loop}
use Rattle.fin_ast.specs.Value.{Numbers}
use Rattle.fin_ast.specs.Dense.{Setting, made_at}
use Rattle.fin_ast.proofs.Induction.{AllOf, Held, bare, plain, by_two}
use Rattle.fin_ast.proofs.Unbroken.{first_none, second_none, unbroken}
use Rattle.fin_life.specs.Passage.{ModeOf, Passage, turned, breach_of_expr, breach_in, body_breach, stmt_passage, passage_of, passages_of}
use Rattle.fin_life.specs.Passage as life
use Rattle.fin_life.specs.Tracks.{Tracks}
use Rattle.fin_life.specs.Trails.{Trail, stmt_trail, trail_of, trails_of, breach_along, update_breach}
use Rattle.fin_life.specs.Trails as trail
use Rattle.fin_stage.specs.Stages.{stage_at}
use Rattle.fin_stage.specs.Staged.{Run, worked, braced, repeated, looped, stage_of, stage_all}
use Rattle.fin_stage.proofs.Alive.{Living, left, right, neither, worked_lives}
use Rattle.fin_stage.proofs.AliveAll.{statement_lives, body_closes}
use Rattle.fin_stage.proofs.Fits.{stage_fits, braced_fits}
use Rattle.fin_stage.proofs.Small.{counts_split}
use Rattle.fin_stage.proofs.Lexical.{Strict, Weak, strict_inside, strict_is_weak, weak_fewer, weak_prefix}
use Rattle.fin_stage.proofs.Touching.{is_declaration_of, touches, any_touches, declares, any_declares, same_tensor, last_in, last_closed, untouched}
use Rattle.fin_ast.proofs.Leaves.{leaf_step}
use Rattle.fin_stage.proofs.Declaring.{body_declares_nothing}
use Rattle.fin_stage.proofs.Tracking.{depth, long_end, Stays, Along, tracked, body_tracked, body_goes_along, loop_goes}
use Rattle.fin_stage.proofs.InOrder.{values, long_values, among_from, InOrder, no_update}
use Rattle.fin_stage.proofs.Ordered.{Here, in_update_mode, declared_mode, carried_by, AtTurn, no_turn, turn_begins, turn_ends}

abbrev pub last_at : Run → ℕ → Option (List ℕ)
last_at r t = last_in (stage_at r.stages t)

module _ (hs : List Header) (w : Setting) (given_is : (t : ℕ) → is_some (made_at w.given t) ≡ is_input_at hs t) (headers_is : w.headers ≡ hs) where
  abbrev Alive : ModeOf → Run → Type 0
  Alive now r = Living hs w given_is now r

  abbrev pub At : ModeOf → List ℕ → Tracks → ℕ → Run → Type 0
  At now loops tracks n r = Here hs w given_is now loops tracks n r

  -- ---- what is declared and in update mode isn't declared by a statement
  abbrev FreshBy : ℕ → Passage → Bool → Type 0
  FreshBy t p b = (begin now : ModeOf) → p.breach begin now ≡ None → now t ≡ Update → b ≡ false

  abbrev Fresh : ℕ → Stmt → Type 0
  Fresh t x = FreshBy t (passage_of hs x) (declares t x)

  pub declare_fresh : (tensor line : ℕ) (begin now : ModeOf) (t : ℕ) → breach_by hs begin now (Declares tensor line) ≡ None → now t ≡ Update → nat_eq tensor t ≡ false
  declare_fresh tensor line begin now t e u = elim (nat_eq tensor t) as (λ b. nat_eq tensor t ≡ b → b ≡ false) [
    | true ↦ λ same.
        let un : is_update (now tensor) ≡ false = (neither (is_input_at hs tensor) (is_update (now tensor)) (neither (is_input_at hs tensor || is_update (now tensor)) (is_declared (begin tensor)) (unbroken _ Rule.L3 line e)).0).1 in
        let c : ◌≡◌ {A = Bool} false true = sym un ∙ ap (λ (k : ℕ). is_update (now k)) (same_tensor tensor t same) ∙ ap is_update u in absurd (cc)
    | false ↦ λ _. refl
  ] refl

  body_fresh : (body : List Stmt) (last : ℕ) (now : ModeOf) (t : ℕ) → body_breach hs (passages_of hs body) last now ≡ None → now t ≡ Update → any_declares t body ≡ false
  body_fresh body last now t e u = body_declares_nothing hs t body last now e (declared_mode hs w given_is (now t) u)

  fresh_step : (t : ℕ) (y : Stmt-F (Held (Fresh t))) → FreshBy t (stmt_passage hs (map-Stmt Stmt Passage (passage_of hs) (plain (Fresh t) y))) (leaf_step (is_declaration_of t) (map-Stmt Stmt Bool (declares t) (plain (Fresh t) y)))
  fresh_step t (Stmt-F.Block body line last) begin now e u = body_fresh (bare (Fresh t) body) last now t e u
  fresh_step t (Stmt-F.Loop var range par body line last) begin now e u = body_fresh (bare (Fresh t) body) last now t e u
  fresh_step t (Stmt-F.Cond test body line last) begin now e u = body_fresh (bare (Fresh t) body) last now t (second_none (breach_of_expr now test) _ e) u
  fresh_step t (Stmt-F.Bind var value body line last) begin now e u = body_fresh (bare (Fresh t) body) last now t (second_none (breach_of_expr now value) _ e) u
  fresh_step t (Stmt-F.Declare tensor value line) begin now e u = declare_fresh tensor line begin now t e u
  fresh_step t (Stmt-F.Freeze tensor line) begin now e u = refl
  fresh_step t (Stmt-F.Thaw tensor line) begin now e u = refl
  fresh_step t (Stmt-F.Update tensor at by value line) begin now e u = refl

  fresh : (t : ℕ) (x : Stmt) → Fresh t x
  fresh t = by_two (stmt_passage hs) (leaf_step (is_declaration_of t)) (FreshBy t) (fresh_step t)

  -- ---- what is shown
  pub record After (after : ModeOf) (loops : List ℕ) (tracks : Tracks) (m : ℕ) (vars : Numbers) (among : ℕ → Bool) (r : Run) : Type 0 where
    pub ordered : r.ordered ≡ true
    pub order : (t : ℕ) → among t ≡ true → InOrder hs t loops tracks m vars (last_at r t)
    pub entered : (t : ℕ) → is_declared (after t) ≡ true → tracks.entered t ≤ length loops

  abbrev pub Orders : Stmt → Type 0
  Orders x = (sc : Scope) (begin now : ModeOf) (loops : List ℕ) (tracks : Tracks) (n : ℕ) (vars : Numbers) (r : Run) → sc.headers ≡ hs → is_named x sc ≡ true
      → (passage_of hs x).breach begin now ≡ None → (trail_of hs x).breach loops tracks ≡ None → counts_from n (bindings_of x) ≡ true → n + length (bindings_of x) ≤ length vars → At now loops tracks n r
      → ((t : ℕ) → touches t x ≡ true → InOrder hs t loops tracks n vars (last_at r t))
      → After ((passage_of hs x).after now) loops ((trail_of hs x).after loops tracks) (n + length (bindings_of x)) vars (λ t. touches t x) (stage_of w x vars r)

  long_both : (a b : List ℕ) → length (a ++ b) ≡ length a + length b
  long_both [] b = omega arith
  long_both (x ∷ a) b = omega (arith, long_both a b)

  or_left : (a b : Bool) → a ≡ true → (a || b) ≡ true
  or_left true b e = refl
  or_left false b e = cc

  or_right : (a b : Bool) → b ≡ true → (a || b) ≡ true
  or_right true b e = refl
  or_right false b e = e

  -- a body, for all tensors that some statement of it updates, and others
  pub orders_all : (body : List Stmt) → AllOf Orders body → (sc : Scope) (begin now : ModeOf) (loops : List ℕ) (tracks : Tracks) (n : ℕ) (vars : Numbers) (r : Run) (among : ℕ → Bool) → sc.headers ≡ hs → are_named body sc ≡ true
      → breach_in (passages_of hs body) begin now ≡ None → breach_along (trails_of hs body) loops tracks ≡ None → counts_from n (bindings_of_all body) ≡ true → n + length (bindings_of_all body) ≤ length vars → At now loops tracks n r
      → ((t : ℕ) → any_touches t body ≡ true → among t ≡ true) → ((t : ℕ) → among t ≡ true → InOrder hs t loops tracks n vars (last_at r t))
      → After (life.after_all (passages_of hs body) now) loops (trail.after_all (trails_of hs body) loops tracks) (n + length (bindings_of_all body)) vars among (stage_all w body vars r)
  orders_all [] all sc begin now loops tracks n vars r among eh en el et ec room at within o = record {
    ordered = at.ordered;
    order = λ t h. subst (λ (m : ℕ). InOrder hs t loops tracks m vars (last_at r t)) (omega arith) (o t h);
    entered = at.entered;
  }
  orders_all (x ∷ body) all sc begin now loops tracks n vars r among eh en el et ec room at within o =
      let two = counts_split n (bindings_of x) (bindings_of_all body) ec in
      let named : is_named x sc ≡ true = left (is_named x sc) (are_named body sc) en in
      let lives : (passage_of hs x).breach begin now ≡ None = first_none ((passage_of hs x).breach begin now) _ el in
      let long = long_both (bindings_of x) (bindings_of_all body) in
      let here = all.0 sc begin now loops tracks n vars r eh named lives (first_none ((trail_of hs x).breach loops tracks) _ et) two.0 (omega (arith, room, long)) at (λ t h. o t (within t (or_left (touches t x) (any_touches t body) h))) in
      let m : ℕ = n + length (bindings_of x) in
      let middle : Tracks = (trail_of hs x).after loops tracks in
      let r1 : Run = stage_of w x vars r in
      let at1 : At ((passage_of hs x).after now) loops middle m r1 = record {
        below = λ k h. omega (arith, at.below k h);
        entered = here.entered;
        alive = statement_lives hs w given_is x sc begin now vars r eh named lives at.alive;
        fits = stage_fits w x vars r at.fits;
        ordered = here.ordered;
      } in
      let o1 : (t : ℕ) → among t ≡ true → InOrder hs t loops middle m vars (last_at r1 t) = λ t h. elim (touches t x) as (λ b. touches t x ≡ b → InOrder hs t loops middle m vars (last_at r1 t)) [
        | true ↦ λ e. here.order t e
        | false ↦ λ e. carried_by hs w given_is now t loops tracks middle n m (omega arith) vars r r1.stages at.alive (λ u. tracked hs t x loops tracks (fresh t x begin now lives u)) (untouched w t x e vars r) (o t h)
      ] refl in
      let later = orders_all body all.1 sc begin ((passage_of hs x).after now) loops middle m vars r1 among eh (right (is_named x sc) (are_named body sc) en) (second_none ((passage_of hs x).breach begin now) _ el) (second_none ((trail_of hs x).breach loops tracks) _ et) two.1 (omega (arith, room, long)) at1 (λ t h. within t (or_right (touches t x) (any_touches t body) h)) o1 in
      record { ordered = later.ordered; order = λ t h. subst (λ (k : ℕ). InOrder hs t loops (trail.after_all (trails_of hs body) loops middle) k vars (last_at (stage_all w body vars r1) t)) (omega (arith, long)) (later.order t h); entered = later.entered }

  -- ---- the entered loops of what is declared, over a body
  pub entered_over : (body : List Stmt) (last : ℕ) (now : ModeOf) (outer loops : List ℕ) (tracks : Tracks) (n : ℕ) (r : Run) → body_breach hs (passages_of hs body) last now ≡ None → At now outer tracks n r → (t : ℕ) → is_declared (now t) ≡ true → (trail.after_all (trails_of hs body) loops tracks).entered t ≤ length outer
  entered_over body last now outer loops tracks n r el at t d = subst (λ (e : ℕ). e ≤ length outer) (sym (body_tracked hs t body loops tracks (body_declares_nothing hs t body last now el d)).entered) (at.entered t d)

  -- a body in braces
  pub braced_orders : (body : List Stmt) → AllOf Orders body → (sc : Scope) (now : ModeOf) (last : ℕ) (loops : List ℕ) (tracks : Tracks) (n : ℕ) (vars : Numbers) (r : Run) → sc.headers ≡ hs → are_named body sc ≡ true
      → body_breach hs (passages_of hs body) last now ≡ None → breach_along (trails_of hs body) loops tracks ≡ None → counts_from n (bindings_of_all body) ≡ true → n + length (bindings_of_all body) ≤ length vars → At now loops tracks n r
      → ((t : ℕ) → any_touches t body ≡ true → InOrder hs t loops tracks n vars (last_at r t))
      → After now loops (trail.after_all (trails_of hs body) loops tracks) (n + length (bindings_of_all body)) vars (λ t. any_touches t body) (braced (stage_all w body) vars r)
  braced_orders body all sc now last loops tracks n vars r eh en el et ec room at o =
      let inner = orders_all body all sc now now loops tracks n vars r (λ t. any_touches t body) eh en (first_none (breach_in (passages_of hs body) now now) _ el) et ec room at (λ t h. h) o in
      let after : Tracks = trail.after_all (trails_of hs body) loops tracks in
      let m : ℕ = n + length (bindings_of_all body) in
      record {
        ordered = inner.ordered;
        order = λ t h. elim (last_closed t r.stages (stage_all w body vars r).stages) [
          | inl same ↦ subst (InOrder hs t loops after m vars) (sym same) (inner.order t h)
          | inr none ↦ no_update hs t loops after m vars (last_at (braced (stage_all w body) vars r) t) none
        ];
        entered = entered_over body last now loops loops tracks n r el at;
      }

  -- other numbers with the same values of the loops
  pub other_values : (t : ℕ) (loops : List ℕ) (tracks : Tracks) (m : ℕ) (vars vars' : Numbers) (last : Option (List ℕ)) → values vars' (drop (tracks.entered t) loops) ≡ values vars (drop (tracks.entered t) loops) → InOrder hs t loops tracks m vars' last → InOrder hs t loops tracks m vars last
  other_values t loops tracks m vars vars' last e o = record {
    deep = λ d. subst (Weak (depth hs t) last) e (o.deep d);
    shallow = λ d. elim (o.shallow d) [
      | inl s ↦ inl (subst (Strict last) e s)
      | inr s ↦ inr (subst (Weak (length (drop (tracks.entered t) loops)) last) e s.0, s.1)
    ];
  }

  pub more_numbers : (t : ℕ) (loops : List ℕ) (tracks : Tracks) (n m : ℕ) (vars : Numbers) (last : Option (List ℕ)) → n ≤ m → InOrder hs t loops tracks n vars last → InOrder hs t loops tracks m vars last
  more_numbers t loops tracks n m vars last le o = record {
    deep = o.deep;
    shallow = λ d. elim (o.shallow d) [
      | inl s ↦ inl s
      | inr s ↦ inr (s.0, record { first = s.1.first; is = s.1.is; next = s.1.next; goes = s.1.goes; behind = omega (arith, s.1.behind, le) })
    ];
  }

  -- ---- loops
  last_same : (xs : List ℕ) (a b : ℕ) → xs ++ a ∷ [] ≡ xs ++ b ∷ [] → a ≡ b
  last_same [] a b e = cc
  last_same (x ∷ xs) a b e = last_same xs a b (cc)

  some_same : (a b : List ℕ) → ◌≡◌ {A = Option (List ℕ)} (Some a) (Some b) → a ≡ b
  some_same a b e = cc

  module _ (body : List Stmt) (all : AllOf Orders body) (sc : Scope) (now : ModeOf) (last line : ℕ) (loops : List ℕ) (tracks : Tracks) (n : ℕ) (vars : Numbers) (eh : sc.headers ≡ hs) (en : are_named body (within_loop sc n) ≡ true)
      (el : body_breach hs (passages_of hs body) last now ≡ None) (et : breach_along (trails_of hs body) (loops ++ n ∷ []) tracks ≡ None) (ec : counts_from (n + 1) (bindings_of_all body) ≡ true) (room : n + suc (length (bindings_of_all body)) ≤ length vars) (below : (k : ℕ) → is_among loops k ≡ true → k < n) where
    abbrev L : List ℕ
    L = loops ++ n ∷ []

    abbrev after : Tracks
    after = trail.after_all (trails_of hs body) L tracks

    there : n < length vars
    there = omega (arith, room)

    abbrev Turning : ℕ → ℕ → Option (List ℕ) → Type 0
    Turning t k l = AtTurn hs w given_is t loops tracks n vars below there k l

    -- a tensor that has a last update is declared
    declared_by : (r : Run) (t : ℕ) (cs : List ℕ) → Alive now r → last_at r t ≡ Some cs → is_declared (now t) ≡ true
    declared_by r t cs a e = declared_mode hs w given_is (now t) (in_update_mode hs w given_is now r t cs a e)

    stays_over : (t : ℕ) → is_declared (now t) ≡ true → Stays hs t L tracks after
    stays_over t d = body_tracked hs t body L tracks (body_declares_nothing hs t body last now el d)

    goes_on : (r : Run) (t : ℕ) → any_touches t body ≡ true → is_declared (now t) ≡ true → At now loops tracks n r → (f : List ℕ) × (after.firsts t ≡ Some f) × Along hs t loops (n ∷ bindings_of_all body) (tracks.entered t) f
    goes_on r t te d at =
        let (f, is, along) = body_goes_along hs t body L tracks (body_declares_nothing hs t body last now el d) te (omega (arith, at.entered t d, long_end loops n)) et in
        (f, is, loop_goes hs t loops n (tracks.entered t) (bindings_of_all body) f (at.entered t d) along)

    loops_below : (k : ℕ) → is_among L k ≡ true → k < n + 1
    loops_below k h = elim (among_end loops n k h) [ inl e ↦ omega (arith, e) | inr e ↦ omega (arith, below k e) ] where
      among_end : (xs : List ℕ) (v k : ℕ) → is_among (xs ++ v ∷ []) k ≡ true → (k ≡ v) ⊎ (is_among xs k ≡ true)
      among_end [] v k e = elim (nat_eq k v) as (λ b. nat_eq k v ≡ b → (b || false) ≡ true → (k ≡ v) ⊎ (is_among [] k ≡ true)) [ true ↦ λ same _. inl (same_tensor k v same) | false ↦ λ _ none. cc ] refl e
      among_end (x ∷ xs) v k e = elim (nat_eq k x) as (λ b. (b || is_among (xs ++ v ∷ []) k) ≡ true → (k ≡ v) ⊎ ((b || is_among xs k) ≡ true)) [ true ↦ λ _. inr refl | false ↦ λ h. among_end xs v k h ] e

    turn_orders : (k : ℕ) (r : Run) → At now loops tracks n r → ((t : ℕ) → any_touches t body ≡ true → Turning t k (last_at r t))
        → (let r2 = braced (stage_all w body) (slice_set vars n (pos k)) (worked 1 r) in At now loops tracks n r2 × ((t : ℕ) → any_touches t body ≡ true → Turning t (k + 1) (last_at r2 t)))
    turn_orders k r at o =
        let inner_at : At now L tracks (n + 1) (worked 1 r) = record {
          below = loops_below;
          entered = λ t d. omega (arith, at.entered t d, long_end loops n);
          alive = worked_lives hs w given_is now 1 r at.alive;
          fits = at.fits;
          ordered = at.ordered;
        } in
        let inner_o : (t : ℕ) → any_touches t body ≡ true → InOrder hs t L tracks (n + 1) (slice_set vars n (pos k)) (last_at (worked 1 r) t) = λ t h. begin_by t h (last_at r t) refl in
        let long : length (slice_set vars n (pos k)) ≡ length vars = length-set vars n (pos k) in
        let r2 : Run = braced (stage_all w body) (slice_set vars n (pos k)) (worked 1 r) in
        let done = braced_orders body all (within_loop sc n) now last L tracks (n + 1) (slice_set vars n (pos k)) (worked 1 r) eh en el et ec (omega (arith, room, long)) inner_at inner_o in
        let alive2 : Alive now r2 = body_closes hs w given_is body (within_loop sc n) now last (slice_set vars n (pos k)) (worked 1 r) eh en el (worked_lives hs w given_is now 1 r at.alive) in
        let at2 : At now loops tracks n r2 = record {
          below = below;
          entered = at.entered;
          alive = alive2;
          fits = braced_fits w body (slice_set vars n (pos k)) (worked 1 r) at.fits;
          ordered = done.ordered;
        } in
        (at2, λ t h. end_by alive2 t (last_at r2 t) refl (done.order t h)) where
          begin_by : (t : ℕ) → any_touches t body ≡ true → (l : Option (List ℕ)) → last_at r t ≡ l → InOrder hs t L tracks (n + 1) (slice_set vars n (pos k)) (last_at r t)
          begin_by t h None e = no_update hs t L tracks (n + 1) (slice_set vars n (pos k)) (last_at r t) e
          begin_by t h (Some cs) e = turn_begins hs w given_is t loops tracks n vars below there (n + 1) k (last_at r t) (at.entered t (declared_by r t cs at.alive e)) (o t h)

          end_by : Alive now (braced (stage_all w body) (slice_set vars n (pos k)) (worked 1 r)) → (t : ℕ) (l : Option (List ℕ)) → last_at (braced (stage_all w body) (slice_set vars n (pos k)) (worked 1 r)) t ≡ l
              → InOrder hs t L after (n + 1 + length (bindings_of_all body)) (slice_set vars n (pos k)) (last_at (braced (stage_all w body) (slice_set vars n (pos k)) (worked 1 r)) t) → Turning t (k + 1) (last_at (braced (stage_all w body) (slice_set vars n (pos k)) (worked 1 r)) t)
          end_by alive2 t None e i = no_turn hs w given_is t loops tracks n vars below there (k + 1) (last_at (braced (stage_all w body) (slice_set vars n (pos k)) (worked 1 r)) t) e
          end_by alive2 t (Some cs) e i =
              let d = declared_by (braced (stage_all w body) (slice_set vars n (pos k)) (worked 1 r)) t cs alive2 e in
              turn_ends hs w given_is t loops tracks n vars below there after (n + 1 + length (bindings_of_all body)) k (last_at (braced (stage_all w body) (slice_set vars n (pos k)) (worked 1 r)) t) (stays_over t d).entered (at.entered t d) i

    turns_order : (c k : ℕ) (r : Run) → At now loops tracks n r → ((t : ℕ) → any_touches t body ≡ true → Turning t k (last_at r t))
        → (let r2 = repeated c k n (braced (stage_all w body)) vars r in At now loops tracks n r2 × ((j : ℕ) × ((t : ℕ) → any_touches t body ≡ true → Turning t j (last_at r2 t))))
    turns_order zero k r at o = (at, (k, o))
    turns_order (suc c) k r at o =
        let one = turn_orders k r at o in
        turns_order c (k + 1) (braced (stage_all w body) (slice_set vars n (pos k)) (worked 1 r)) one.0 one.1

    counted : counts_from n (n ∷ bindings_of_all body) ≡ true
    counted = ap (λ (b : Bool). b && counts_from (n + 1) (bindings_of_all body)) (itself n) ∙ ec where
      itself : (a : ℕ) → (a == a) ≡ true
      itself a = grind (arith, nat_tests)

    take_of : (j : ℕ) (xs : List ℕ) → take (length xs) (xs ++ j ∷ []) ≡ take (length xs) xs
    take_of j [] = refl
    take_of j (x ∷ xs) = ap (λ (ys : List ℕ). x ∷ ys) (take_of j xs)

    weaker : (k : ℕ) (l : Option (List ℕ)) (inner : List ℕ) → Strict l (values vars inner ++ k ∷ []) → Weak (length inner) l (values vars inner)
    weaker k l inner s =
        let vs : List ℕ = values vars inner in
        let strict : Weak (suc (length vs)) l (vs ++ k ∷ []) = subst (λ (j : ℕ). Weak j l (vs ++ k ∷ [])) (long_end vs k) (strict_is_weak l (vs ++ k ∷ []) s) in
        subst (λ (j : ℕ). Weak j l vs) (long_values vars inner) (weak_prefix (length vs) l (vs ++ k ∷ []) vs (take_of k vs) (weak_fewer (length vs) l (vs ++ k ∷ []) strict))

    -- before the first turn
    turns_begin : (k : ℕ) (r : Run) → At now loops tracks n r → (t : ℕ) → any_touches t body ≡ true → InOrder hs t loops tracks n vars (last_at r t) → Turning t k (last_at r t)
    turns_begin k r at t te o = by_last (last_at r t) refl where
      by_last : (l : Option (List ℕ)) → last_at r t ≡ l → Turning t k (last_at r t)
      by_last None e = no_turn hs w given_is t loops tracks n vars below there k (last_at r t) e
      by_last (Some cs) e =
          let d = declared_by r t cs at.alive e in
          record {
            deep = o.deep;
            shallow = λ lt. elim (o.shallow lt) [
              | inl s ↦ strict_inside (last_at r t) (values vars (drop (tracks.entered t) loops)) k s
              | inr s ↦
                  let (f, is, along) = goes_on r t te d at in
                  let (v, own, among) = along.own lt in
                  let same : f ≡ s.1.first = some_same f s.1.first (sym is ∙ (stays_over t d).first s.1.first s.1.is) in
                  let next : v ≡ s.1.next = last_same (drop (tracks.entered t) loops) v s.1.next (sym own ∙ ap (λ (x : List ℕ). take (suc (length (drop (tracks.entered t) loops))) (drop (tracks.entered t) x)) same ∙ s.1.goes) in
                  let from = (among_from n (n ∷ bindings_of_all body) v counted among).0 in
                  absurd (omega (arith, from, next, s.1.behind))
            ];
          }

    -- behind the last turn
    turns_end : (k : ℕ) (r : Run) → At now loops tracks n r → (t : ℕ) → any_touches t body ≡ true → Turning t k (last_at r t) → InOrder hs t loops after (n + suc (length (bindings_of_all body))) vars (last_at r t)
    turns_end k r at t te o = by_last (last_at r t) refl where
      by_last : (l : Option (List ℕ)) → last_at r t ≡ l → InOrder hs t loops after (n + suc (length (bindings_of_all body))) vars (last_at r t)
      by_last None e = no_update hs t loops after (n + suc (length (bindings_of_all body))) vars (last_at r t) e
      by_last (Some cs) e =
          let d = declared_by r t cs at.alive e in
          let same = (stays_over t d).entered in
          let (f, is, along) = goes_on r t te d at in
          record {
            deep = λ g. subst (λ (x : ℕ). Weak (depth hs t) (last_at r t) (values vars (drop x loops))) (sym same) (o.deep (subst (λ (x : ℕ). depth hs t ≤ length (drop x loops)) same g));
            shallow = λ g.
                let lt = subst (λ (x : ℕ). length (drop x loops) < depth hs t) same g in
                let (v, own, among) = along.own lt in
                inr (
                  subst (λ (x : ℕ). Weak (length (drop x loops)) (last_at r t) (values vars (drop x loops))) (sym same) (weaker k (last_at r t) (drop (tracks.entered t) loops) (o.shallow lt)),
                  record {
                    first = f;
                    is = is;
                    next = v;
                    goes = subst (λ (x : ℕ). take (suc (length (drop x loops))) (drop x f) ≡ drop x loops ++ v ∷ []) (sym same) own;
                    behind = (among_from n (n ∷ bindings_of_all body) v counted among).1;
                  },
                );
          }

    pub loop_orders : (range : ℕ × ℕ) (r : Run) → At now loops tracks n r → ((t : ℕ) → any_touches t body ≡ true → InOrder hs t loops tracks n vars (last_at r t))
        → After now loops after (n + suc (length (bindings_of_all body))) vars (λ t. any_touches t body) (looped range n (braced (stage_all w body)) vars r)
    loop_orders range r at o =
        let at1 : At now loops tracks n (worked 1 r) = record { below = below; entered = at.entered; alive = worked_lives hs w given_is now 1 r at.alive; fits = at.fits; ordered = at.ordered } in
        let (at2, (j, turning)) = turns_order (range.1 - range.0) range.0 (worked 1 r) at1 (λ t h. turns_begin range.0 (worked 1 r) at1 t h (o t h)) in
        record {
          ordered = at2.ordered;
          order = λ t h. turns_end j (looped range n (braced (stage_all w body)) vars r) at2 t h (turning t h);
          entered = entered_over body last now loops L tracks n r el at;
        }
