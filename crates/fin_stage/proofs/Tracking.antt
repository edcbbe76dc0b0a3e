-- What the tracks say of a statement that updates a tensor: its updates go along the loops of the first one.
use Rattle.std.proofs.Common.{◌≡◌, ◌<◌, ◌≤◌, ℕ, zero, suc, Bool, true, false, ◌||◌, List, [], ◌∷◌, ◌++◌, Option, Some, None, if◌then◌else◌, refl, sym, ap, ◌∙◌, subst, arith, length, take, drop}
use Rattle.std.specs.Prelude.{nat_eq, nat_le, ◌==◌, unwrap_or, option_map, slice_get}
use Rattle.std.specs.Cmp.Lexicographic.{pointwise}
use Rattle.std.proofs.lemmas.Bool.Decides.{nat_tests}
use Rattle.fin_base.specs.declared.refusal.Rule.{Rule}
use Rattle.fin_tensor.specs.Order.{ordered_levels}
use Rattle.fin_ast.specs.declared.header.Header.{Header}
use Rattle.fin_ast.specs.declared.tree.Index.{Index}
use Rattle.fin_ast.specs.declared.tree.Stmt.{Stmt, map-Stmt, roll-Stmt, fold-roll-Stmt}
use Rattle.fin_ast.specs.declared.tree.Stmt.TheOpen.{Stmt-F}
use Rattle.fin_ast.specs.Bindings.{bindings_step, bindings_of, bindings_of_all}
use Rattle.fin_ast.specs.Choices.{levels_of}
use Rattle.fin_ast.specs.Order.{is_in_order, is_as_first}
use Rattle.fin_ast.specs.Scope.{is_among}
use Rattle.fin_life.specs.Tracks.{Tracks, declared, updated}
use Rattle.fin_life.specs.Trails.{Trail, stmt_trail, trail_of, trails_of, breach_along, after_all, update_breach}
use Rattle.fin_ast.proofs.Induction.{AllOf, Held, bare, plain, all_of, each, by_nodes, by_two}
use Rattle.fin_ast.proofs.Unbroken.{first_none, second_none, unbroken}
use Rattle.fin_stage.proofs.Alive.{left, right, neither, not_not}
use Rattle.fin_stage.proofs.Touching.{is_declaration_of, is_update_of, touches, any_touches, declares, any_declares, same_tensor, itself}
use Rattle.fin_ast.proofs.Leaves.{leaf_step}

-- ---- lists
pub drop_end : (e : ℕ) (loops : List ℕ) (v : ℕ) → e ≤ length loops → drop e (loops ++ v ∷ []) ≡ drop e loops ++ v ∷ []
drop_end zero loops v h = refl
drop_end (suc e) [] v h = absurd (omega (arith, h))
drop_end (suc e) (x ∷ loops) v h = drop_end e loops v (omega (arith, h))

pub long_end : (xs : List ℕ) (v : ℕ) → length (xs ++ v ∷ []) ≡ suc (length xs)
long_end [] v = refl
long_end (x ∷ xs) v = ap suc (long_end xs v)

take_end : (k : ℕ) (xs : List ℕ) (v : ℕ) → k ≤ length xs → take k (xs ++ v ∷ []) ≡ take k xs
take_end zero xs v h = refl
take_end (suc k) [] v h = absurd (omega (arith, h))
take_end (suc k) (x ∷ xs) v h = ap (λ (ys : List ℕ). x ∷ ys) (take_end k xs v (omega (arith, h)))

take_itself : (xs : List ℕ) → take (length xs) xs ≡ xs
take_itself [] = refl
take_itself (x ∷ xs) = ap (λ (ys : List ℕ). x ∷ ys) (take_itself xs)

take_past : (k : ℕ) (xs : List ℕ) → length xs ≤ k → take k xs ≡ xs
take_past zero [] h = refl
take_past zero (x ∷ xs) h = absurd (omega (arith, h))
take_past (suc k) [] h = refl
take_past (suc k) (x ∷ xs) h = ap (λ (ys : List ℕ). x ∷ ys) (take_past k xs (omega (arith, h)))

take_twice : (k d : ℕ) (xs ys : List ℕ) → k ≤ d → take d xs ≡ take d ys → take k xs ≡ take k ys
take_twice k d xs ys h e = fewer k d xs h ∙ ap (take k) e ∙ sym (fewer k d ys h) where
  fewer : (k d : ℕ) (zs : List ℕ) → k ≤ d → take k zs ≡ take k (take d zs)
  fewer zero d zs h = refl
  fewer (suc k) zero zs h = absurd (omega (arith, h))
  fewer (suc k) (suc d) [] h = refl
  fewer (suc k) (suc d) (z ∷ zs) h = ap (λ (ws : List ℕ). z ∷ ws) (fewer k d zs (omega (arith, h)))

same_numbers : (xs ys : List ℕ) → pointwise nat_eq xs ys ≡ true → xs ≡ ys
same_numbers [] [] e = refl
same_numbers [] (y ∷ ys) e = cc
same_numbers (x ∷ xs) [] e = cc
same_numbers (x ∷ xs) (y ∷ ys) e = ap (λ (zs : List ℕ). x ∷ zs) (same_numbers xs ys (right (nat_eq x y) (pointwise nat_eq xs ys) e)) ∙ ap (λ (z : ℕ). z ∷ ys) (same_tensor x y (left (nat_eq x y) (pointwise nat_eq xs ys) e))

among_left : (a b : List ℕ) (v : ℕ) → is_among a v ≡ true → is_among (a ++ b) v ≡ true
among_left [] b v e = cc
among_left (x ∷ a) b v e = elim (nat_eq v x) as (λ k. (k || is_among a v) ≡ true → (k || is_among (a ++ b) v) ≡ true) [ true ↦ λ h. refl | false ↦ λ h. among_left a b v h ] e

among_right : (a b : List ℕ) (v : ℕ) → is_among b v ≡ true → is_among (a ++ b) v ≡ true
among_right [] b v e = e
among_right (x ∷ a) b v e = elim (nat_eq v x) as (λ k. (k || is_among (a ++ b) v) ≡ true) [ true ↦ refl | false ↦ among_right a b v e ]

module _ (hs : List Header) (t : ℕ) where
  abbrev pub depth : ℕ
  depth = ordered_levels (levels_of (slice_get hs t))

  -- ---- what the tracks of a tensor become where it isn't declared
  pub record Stays (loops : List ℕ) (before after : Tracks) : Type 0 where
    pub entered : after.entered t ≡ before.entered t
    pub first : (f : List ℕ) → before.firsts t ≡ Some f → after.firsts t ≡ Some f

  abbrev TrackedBy : Trail → Bool → Type 0
  TrackedBy q b = (loops : List ℕ) (tracks : Tracks) → b ≡ false → Stays loops tracks (q.after loops tracks)

  abbrev Tracked : Stmt → Type 0
  Tracked x = TrackedBy (trail_of hs x) (declares t x)

  stays_still : (loops : List ℕ) (tracks : Tracks) → Stays loops tracks tracks
  stays_still loops tracks = record { entered = refl; first = λ f e. e }

  pub all_tracked : (body : List Stmt) → AllOf Tracked body → (loops : List ℕ) (tracks : Tracks) → any_declares t body ≡ false → Stays loops tracks (after_all (trails_of hs body) loops tracks)
  all_tracked [] all loops tracks e = stays_still loops tracks
  all_tracked (x ∷ body) all loops tracks e =
      let two = neither (declares t x) (any_declares t body) e in
      let here = all.0 loops tracks two.0 in
      let later = all_tracked body all.1 loops ((trail_of hs x).after loops tracks) two.1 in
      record { entered = later.entered ∙ here.entered; first = λ f h. later.first f (here.first f h) }

  declared_other : (tensor : ℕ) (loops : List ℕ) (tracks : Tracks) → nat_eq tensor t ≡ false → Stays loops tracks (declared tensor (length loops) tracks)
  declared_other tensor loops tracks e = record {
    entered = ap (λ (b : Bool). if b then length loops else tracks.entered t) e;
    first = λ f h. ap (λ (b : Bool). if b then None else tracks.firsts t) e ∙ h;
  }

  updated_stays : (tensor : ℕ) (loops : List ℕ) (tracks : Tracks) → Stays loops tracks (updated tensor loops tracks)
  updated_stays tensor loops tracks = record {
    entered = refl;
    first = λ f h. elim (tensor == t) as (λ b. (tensor == t) ≡ b → (if b then Some (unwrap_or (tracks.firsts tensor) loops) else tracks.firsts t) ≡ Some f) [
      | true ↦ λ same. ap (λ (k : ℕ). Some (unwrap_or (tracks.firsts k) loops)) (same_tensor tensor t same) ∙ ap (λ (o : Option (List ℕ)). Some (unwrap_or o loops)) h
      | false ↦ λ apart. h
    ] refl;
  }

  tracked_step : (y : Stmt-F (Held Tracked)) → TrackedBy (stmt_trail hs (map-Stmt Stmt Trail (trail_of hs) (plain Tracked y))) (leaf_step (is_declaration_of t) (map-Stmt Stmt Bool (declares t) (plain Tracked y)))
  tracked_step (Stmt-F.Block body line last) loops tracks e = all_tracked (bare Tracked body) (all_of Tracked body) loops tracks e
  tracked_step (Stmt-F.Loop var range par body line last) loops tracks e = let h = all_tracked (bare Tracked body) (all_of Tracked body) (loops ++ var ∷ []) tracks e in record { entered = h.entered; first = h.first }
  tracked_step (Stmt-F.Cond test body line last) loops tracks e = all_tracked (bare Tracked body) (all_of Tracked body) loops tracks e
  tracked_step (Stmt-F.Bind var value body line last) loops tracks e = all_tracked (bare Tracked body) (all_of Tracked body) loops tracks e
  tracked_step (Stmt-F.Declare tensor value line) loops tracks e = declared_other tensor loops tracks e
  tracked_step (Stmt-F.Freeze tensor line) loops tracks e = stays_still loops tracks
  tracked_step (Stmt-F.Thaw tensor line) loops tracks e = stays_still loops tracks
  tracked_step (Stmt-F.Update tensor at by value line) loops tracks e = updated_stays tensor loops tracks

  pub tracked : (x : Stmt) → Tracked x
  tracked = by_two (stmt_trail hs) (leaf_step (is_declaration_of t)) TrackedBy tracked_step

  pub body_tracked : (body : List Stmt) (loops : List ℕ) (tracks : Tracks) → any_declares t body ≡ false → Stays loops tracks (after_all (trails_of hs body) loops tracks)
  body_tracked body = all_tracked body (each Tracked tracked body)

  -- ---- a statement that updates the tensor
  -- its first update's loops f begin as those around it do, and where these are few, go on with a loop of the statement's own
  pub record Along (loops binds : List ℕ) (entered : ℕ) (f : List ℕ) : Type 0 where
    pub same : (k : ℕ) → k ≤ length (drop entered loops) → k ≤ depth → take k (drop entered f) ≡ take k (drop entered loops)
    pub own : length (drop entered loops) < depth → (v : ℕ) × (take (suc (length (drop entered loops))) (drop entered f) ≡ drop entered loops ++ v ∷ []) × (is_among binds v ≡ true)

  abbrev Goes : List ℕ → List ℕ → Tracks → Tracks → Type 0
  Goes loops binds before after = (f : List ℕ) × (after.firsts t ≡ Some f) × Along loops binds (before.entered t) f

  abbrev pub GoesAlong : Stmt → Type 0
  GoesAlong x = (loops : List ℕ) (tracks : Tracks) → declares t x ≡ false → touches t x ≡ true → tracks.entered t ≤ length loops → (trail_of hs x).breach loops tracks ≡ None → Goes loops (bindings_of x) tracks ((trail_of hs x).after loops tracks)

  wider : (loops a b : List ℕ) (e : ℕ) (f : List ℕ) → ((v : ℕ) → is_among a v ≡ true → is_among b v ≡ true) → Along loops a e f → Along loops b e f
  wider loops a b e f h g = record { same = g.same; own = λ lt. let (v, is, among) = g.own lt in (v, is, h v among) }

  pub body_goes : (body : List Stmt) → AllOf GoesAlong body → (loops : List ℕ) (tracks : Tracks) → any_declares t body ≡ false → any_touches t body ≡ true → tracks.entered t ≤ length loops → breach_along (trails_of hs body) loops tracks ≡ None → Goes loops (bindings_of_all body) tracks (after_all (trails_of hs body) loops tracks)
  body_goes [] all loops tracks nd te le e = cc
  body_goes (x ∷ body) all loops tracks nd te le e =
      let two = neither (declares t x) (any_declares t body) nd in
      let stays = tracked x loops tracks two.0 in
      let middle : Tracks = (trail_of hs x).after loops tracks in
      elim (touches t x) as (λ b. touches t x ≡ b → (b || any_touches t body) ≡ true → Goes loops (bindings_of_all (x ∷ body)) tracks (after_all (trails_of hs body) loops middle)) [
        | true ↦ λ here _.
            let (f, is, along) = all.0 loops tracks two.0 here le (first_none ((trail_of hs x).breach loops tracks) _ e) in
            (f, (body_tracked body loops middle two.1).first f is, wider loops (bindings_of x) (bindings_of_all (x ∷ body)) (tracks.entered t) f (λ v h. among_left (bindings_of x) (bindings_of_all body) v h) along)
        | false ↦ λ _ later.
            let (f, is, along) = body_goes body all.1 loops middle two.1 later (subst (λ (k : ℕ). k ≤ length loops) (sym stays.entered) le) (second_none ((trail_of hs x).breach loops tracks) _ e) in
            (f, is, wider loops (bindings_of_all body) (bindings_of_all (x ∷ body)) (tracks.entered t) f (λ v h. among_right (bindings_of x) (bindings_of_all body) v h) (subst (λ (k : ℕ). Along loops (bindings_of_all body) k f) stays.entered along))
      ] refl te

  -- a loop around: its variable is the next of the first update's loops
  pub loop_goes : (loops : List ℕ) (var e : ℕ) (binds f : List ℕ) → e ≤ length loops → Along (loops ++ var ∷ []) binds e f → Along loops (var ∷ binds) e f
  loop_goes loops var e binds f le g =
      let D : List ℕ = drop e loops in
      let split : drop e (loops ++ var ∷ []) ≡ D ++ var ∷ [] = drop_end e loops var le in
      let long : length (drop e (loops ++ var ∷ [])) ≡ suc (length D) = ap length split ∙ long_end D var in
      record {
        same = λ k kl kd. g.same k (omega (arith, kl, long)) kd ∙ ap (take k) split ∙ take_end k D var kl;
        own = λ lt. (var, g.same (suc (length D)) (omega (arith, long)) (omega (arith, lt)) ∙ ap (take (suc (length D))) split ∙ take_past (suc (length D)) (D ++ var ∷ []) (omega (arith, long_end D var)), ap (λ (b : Bool). b || is_among binds var) (itself var));
      }

  pub order_kept : (loops : List ℕ) (tracks : Tracks) (at : List Index) (line : ℕ) → update_breach hs t at line loops tracks ≡ None → (is_in_order depth (drop (tracks.entered t) loops) at ≡ true) × (is_as_first depth (drop (tracks.entered t) loops) (option_map (drop (tracks.entered t)) (tracks.firsts t)) ≡ true)
  order_kept loops tracks at line e = (not_not _ (unbroken _ Rule.U1 line (first_none _ _ e)), not_not _ (unbroken _ Rule.U2 line (second_none _ _ e)))

  pub deep_enough : (loops : List ℕ) (at : List Index) → is_in_order depth loops at ≡ true → depth ≤ length loops
  deep_enough loops at e = le_by depth (length loops) (left (nat_le depth (length loops)) _ e) where
    le_by : (m n : ℕ) → nat_le m n ≡ true → m ≤ n
    le_by m n h = grind (arith, nat_tests)

  update_goes : (at : List Index) (line : ℕ) (loops : List ℕ) (tracks : Tracks) → update_breach hs t at line loops tracks ≡ None → Goes loops [] tracks (updated t loops tracks)
  update_goes at line loops tracks e =
      let kept = order_kept loops tracks at line e in
      let deep : depth ≤ length (drop (tracks.entered t) loops) = deep_enough (drop (tracks.entered t) loops) at kept.0 in
      let is : (updated t loops tracks).firsts t ≡ Some (unwrap_or (tracks.firsts t) loops) = ap (λ (b : Bool). if b then Some (unwrap_or (tracks.firsts t) loops) else tracks.firsts t) (itself t) in
      (unwrap_or (tracks.firsts t) loops, is, record { same = λ k kl kd. first_is (tracks.firsts t) kept.1 k kd; own = λ lt. absurd (omega (arith, lt, deep)) }) where
        first_is : (o : Option (List ℕ)) → is_as_first depth (drop (tracks.entered t) loops) (option_map (drop (tracks.entered t)) o) ≡ true → (k : ℕ) → k ≤ depth → take k (drop (tracks.entered t) (unwrap_or o loops)) ≡ take k (drop (tracks.entered t) loops)
        first_is None h k kd = refl
        first_is (Some f) h k kd = take_twice k depth (drop (tracks.entered t) f) (drop (tracks.entered t) loops) kd (same_numbers (take depth (drop (tracks.entered t) f)) (take depth (drop (tracks.entered t) loops)) h)

  abbrev GoesBy : Trail → Bool → Bool → List ℕ → Type 0
  GoesBy q b u binds = (loops : List ℕ) (tracks : Tracks) → b ≡ false → u ≡ true → tracks.entered t ≤ length loops → q.breach loops tracks ≡ None → Goes loops binds tracks (q.after loops tracks)

  goes_by : (x : Stmt) (q : Trail) (b : Bool) (u : Bool) (binds : List ℕ) → trail_of hs x ≡ q → declares t x ≡ b → touches t x ≡ u → bindings_of x ≡ binds
      → GoesBy q b u binds → GoesAlong x
  goes_by x q b u binds eq eb eu en f loops tracks nd te le e =
      subst (λ (y : Trail). Goes loops (bindings_of x) tracks (y.after loops tracks)) (sym eq)
      (subst (λ (vs : List ℕ). Goes loops vs tracks (q.after loops tracks)) (sym en) (f loops tracks (sym eb ∙ nd) (sym eu ∙ te) le (subst (λ (y : Trail). y.breach loops tracks ≡ None) eq e)))

  goes_step : (y : Stmt-F (Held GoesAlong)) → (let u = plain GoesAlong y in GoesBy (stmt_trail hs (map-Stmt Stmt Trail (trail_of hs) u)) (leaf_step (is_declaration_of t) (map-Stmt Stmt Bool (declares t) u)) (leaf_step (is_update_of t) (map-Stmt Stmt Bool (touches t) u)) (bindings_step (map-Stmt Stmt (List ℕ) bindings_of u)))
  goes_step (Stmt-F.Block xs line last) loops tracks nd te le e =
      let body : List Stmt = bare GoesAlong xs in let all : AllOf GoesAlong body = all_of GoesAlong xs in
      body_goes body all loops tracks nd te le e
  goes_step (Stmt-F.Loop var range par xs line last) loops tracks nd te le e =
      let body : List Stmt = bare GoesAlong xs in let all : AllOf GoesAlong body = all_of GoesAlong xs in
      let (f, is, along) = body_goes body all (loops ++ var ∷ []) tracks nd te (omega (arith, le, long_end loops var)) e in (f, is, loop_goes loops var (tracks.entered t) (bindings_of_all body) f le along)
  goes_step (Stmt-F.Cond test xs line last) loops tracks nd te le e =
      let body : List Stmt = bare GoesAlong xs in let all : AllOf GoesAlong body = all_of GoesAlong xs in
      body_goes body all loops tracks nd te le e
  goes_step (Stmt-F.Bind var value xs line last) loops tracks nd te le e =
      let body : List Stmt = bare GoesAlong xs in let all : AllOf GoesAlong body = all_of GoesAlong xs in
      let (f, is, along) = body_goes body all loops tracks nd te le e in (f, is, wider loops (bindings_of_all body) (var ∷ bindings_of_all body) (tracks.entered t) f (λ v h. among_right (var ∷ []) (bindings_of_all body) v h) along)
  goes_step (Stmt-F.Declare tensor value line) loops tracks nd te le e = absurd (let c : ◌≡◌ {A = Bool} false true = te in cc)
  goes_step (Stmt-F.Freeze tensor line) loops tracks nd te le e = absurd (let c : ◌≡◌ {A = Bool} false true = te in cc)
  goes_step (Stmt-F.Thaw tensor line) loops tracks nd te le e = absurd (let c : ◌≡◌ {A = Bool} false true = te in cc)
  goes_step (Stmt-F.Update tensor at by value line) loops tracks nd te le e =
      let same : tensor ≡ t = same_tensor tensor t te in
      subst (λ (k : ℕ). Goes loops [] tracks (updated k loops tracks)) (sym same) (update_goes at line loops tracks (subst (λ (k : ℕ). update_breach hs k at line loops tracks ≡ None) same e))

  pub goes_along : (x : Stmt) → GoesAlong x
  goes_along = by_nodes GoesAlong (λ y. let u = plain GoesAlong y in
      goes_by (roll-Stmt u) _ _ _ _ (fold-roll-Stmt Trail (stmt_trail hs) u) (fold-roll-Stmt Bool (leaf_step (is_declaration_of t)) u) (fold-roll-Stmt Bool (leaf_step (is_update_of t)) u) (fold-roll-Stmt (List ℕ) bindings_step u) (goes_step y))

  pub body_goes_along : (body : List Stmt) (loops : List ℕ) (tracks : Tracks) → any_declares t body ≡ false → any_touches t body ≡ true → tracks.entered t ≤ length loops → breach_along (trails_of hs body) loops tracks ≡ None → (f : List ℕ) × ((after_all (trails_of hs body) loops tracks).firsts t ≡ Some f) × Along loops (bindings_of_all body) (tracks.entered t) f
  body_goes_along body = body_goes body (each GoesAlong goes_along body)
