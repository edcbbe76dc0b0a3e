-- The flag on indices holds along an accepted program.
use Rattle.std.proofs.Common.{◌≡◌, ◌<◌, ◌≤◌, ◌+◌, ◌-◌, ◌*◌, ◌^◌, ℕ, zero, suc, ℤ, pos, Bool, true, false, ◌&&◌, ◌||◌, List, [], ◌∷◌, ◌++◌, map, Option, Some, None, if◌then◌else◌, refl, sym, ap, ◌∙◌, subst, inl, inr, ◌⊎◌, arith, length}
use Rattle.std.specs.Prelude.{slice_set, slice_index_or, nat_eq, ◌==◌}
use Rattle.std.specs.Ordering.{int_eq}
use Rattle.std.proofs.lemmas.Bool.Decides.{nat_tests}
use Rattle.fin_base.specs.declared.reduce.Reduce.{Reduce}
use Rattle.fin_tensor.specs.Building.{Building, follows, updated}
use Rattle.fin_base.specs.Words.{apply}
use Rattle.fin_tensor.specs.declared.storage.Storage.{Storage}
use Rattle.fin_ast.specs.declared.checked.Checked.{Checked}
use Rattle.fin_ast.specs.declared.place.Place.{Place}
use Rattle.fin_ast.specs.declared.place.Place.TheVariants.{Loop, Let}
use Rattle.fin_ast.specs.declared.tree.Index.{Index}
use Rattle.fin_ast.specs.declared.tree.Expr.{Expr}
use Rattle.fin_ast.specs.declared.tree.Stmt.{Stmt, map-Stmt, roll-Stmt, fold-roll-Stmt}
use Rattle.fin_ast.specs.declared.tree.Stmt.TheOpen.{Stmt-F}
use Rattle.fin_ast.specs.Bindings.{bindings_step, bindings_of, bindings_of_all, counts_from}
use Rattle.fin_ast.specs.Sizes.{first_of, large_in_header, large_in_place}
use Rattle.fin_ast.specs.Shaped.{AreRanged}
use Rattle.fin_ast.specs.Accepted.{IsAccepted}
use Rattle.fin_ast.specs.Infer.{places_in}
use Rattle.fin_ast.specs.Places.{Gathering, uses_of, places_of_expr, stmt_places, places_of, places_of_all}
use Rattle.fin_ast.specs.Scope.{Scope, is_among, is_named, are_named, stmt_step, is_named_expr, is_access, within_loop, within_let, outermost}
use Rattle.fin_ast.specs.Value.{Numbers, number, place, coordinates, value_of}
use Rattle.fin_ast.specs.Dense.{Setting, range_of, setting_of, unbound}
use Rattle.fin_stage.specs.Stages.{Stage, Absent, Built, Frozen, stage_at}
use Rattle.fin_stage.specs.Staged.{Run, Action, worked, with_stage, unalive, unordered, asked_to_read, asked_for_small, can_read, has_small_indices, tensors_of, is_small, are_small, braced, repeated, is_made, freeze_at, thaw_at, put_at, update_at, staging, stage_of, stage_all, before_all, staged}
use Rattle.fin_ast.specs.Actions.{act_step}
use Rattle.fin_ast.proofs.Induction.{AllOf, Held, bare, plain, all_of, each, by_nodes}
use Rattle.fin_ast.proofs.Unbroken.{second_none}
use Rattle.fin_stage.proofs.Alive.{left, right}
use Rattle.fin_stage.proofs.Smallness.{NoneLarge, last_none, small_number, SmallLoops, small_access, fine_expr, small_set, kept_small}

-- ---- variables are numbered
pub counts_split : (n : ℕ) (a b : List ℕ) → counts_from n (a ++ b) ≡ true → (counts_from n a ≡ true) × (counts_from (n + length a) b ≡ true)
counts_split n [] b e = (refl, subst (λ (k : ℕ). counts_from k b ≡ true) (omega arith) e)
counts_split n (v ∷ a) b e =
    let rest = counts_split (n + 1) a b (right (v == n) (counts_from (n + 1) (a ++ b)) e) in
    (subst (λ (k : Bool). (k && counts_from (n + 1) a) ≡ true) (sym (left (v == n) (counts_from (n + 1) (a ++ b)) e)) rest.0, subst (λ (k : ℕ). counts_from k b ≡ true) (omega arith) rest.1)

equal : (a b : ℕ) → (a == b) ≡ true → a ≡ b
equal a b e = grind (arith, nat_tests)

-- the loops around have numbers below n
abbrev Below : List ℕ → ℕ → Type 0
Below loops n = (k : ℕ) → is_among loops k ≡ true → k < n

below_more : (loops : List ℕ) (n m : ℕ) → n ≤ m → Below loops n → Below loops m
below_more loops n m le h k e = omega (arith, le, h k e)

among_cases : (v : ℕ) (loops : List ℕ) (k : ℕ) → is_among (v ∷ loops) k ≡ true → (k ≡ v) ⊎ (is_among loops k ≡ true)
among_cases v loops k e = elim (nat_eq k v) as (λ b. nat_eq k v ≡ b → (b || is_among loops k) ≡ true → (k ≡ v) ⊎ (is_among loops k ≡ true)) [
  | true ↦ λ same h. inl (equal k v same)
  | false ↦ λ apart h. inr h
] refl e

below_loop : (loops : List ℕ) (n : ℕ) → Below loops n → Below (n ∷ loops) (n + 1)
below_loop loops n h k e = elim (among_cases n loops k e) [ inl same ↦ omega (arith, same) | inr among ↦ omega (arith, h k among) ]

small_loop : (loops : List ℕ) (vars : Numbers) (n : ℕ) (x : ℤ) → Below loops n → is_small x ≡ true → SmallLoops loops vars → SmallLoops (n ∷ loops) (slice_set vars n x)
small_loop loops vars n x f sx h k e = elim (among_cases n loops k e) [
  | inl same ↦ subst (λ (j : ℕ). is_small (number (slice_set vars n x) j) ≡ true) (sym same) (small_set vars n x sx)
  | inr among ↦ kept_small loops vars n x f h k among
]

at_most_or : (a b : ℕ) → (a ≤ b) ⊎ (b ≤ a)
at_most_or zero b = inl (omega arith)
at_most_or (suc a) zero = inr (omega arith)
at_most_or (suc a) (suc b) = elim (at_most_or a b) [ inl h ↦ inl (omega (arith, h)) | inr h ↦ inr (omega (arith, h)) ]

room : (lo hi : ℕ) → (lo + (hi - lo) ≤ hi) ⊎ (hi - lo ≡ 0)
room lo hi = elim (at_most_or lo hi) [ inl le ↦ inl (omega (arith, le)) | inr gt ↦ inr (omega (arith, gt)) ]

module _ (w : Setting) (ranged : AreRanged w.dims.ranges) where
  -- ---- what is shown of a statement: from a place where variables are numbered from n on, and places stand before
  abbrev Smalls : Stmt → Type 0
  Smalls x = (sc : Scope) (n : ℕ) (before : List Place) → is_named x sc ≡ true → counts_from n (bindings_of x) ≡ true → Below sc.loops n → NoneLarge (places_of x before)
      → NoneLarge before × ((vars : Numbers) (r : Run) → SmallLoops sc.loops vars → r.small ≡ true → (stage_of w x vars r).small ≡ true)

  abbrev SmallsAll : List Stmt → Type 0
  SmallsAll body = (sc : Scope) (n : ℕ) (before : List Place) → are_named body sc ≡ true → counts_from n (bindings_of_all body) ≡ true → Below sc.loops n → NoneLarge (places_of_all body before)
      → NoneLarge before × ((vars : Numbers) (r : Run) → SmallLoops sc.loops vars → r.small ≡ true → (stage_all w body vars r).small ≡ true)

  smalls_all : (body : List Stmt) → AllOf Smalls body → SmallsAll body
  smalls_all [] all sc n before e c f l = (l, λ vars r h g. g)
  smalls_all (x ∷ body) all sc n before e c f l =
      let two = counts_split n (bindings_of x) (bindings_of_all body) c in
      let later = smalls_all body all.1 sc (n + length (bindings_of x)) (places_of x before) (right (is_named x sc) (are_named body sc) e) two.1 (below_more sc.loops n _ (omega arith) f) l in
      let here = all.0 sc n before (left (is_named x sc) (are_named body sc) e) two.0 f later.0 in
      (here.0, λ vars r h g. later.1 vars (stage_of w x vars r) h (here.1 vars r h g))

  -- a range's numbers are small
  range_small : (var : ℕ) → (range_of w var).1 ≤ 2 ^ 40
  range_small var = at_place w.dims.ranges var ranged where
    at_place : (ranges : List (ℕ × ℕ)) (k : ℕ) → AreRanged ranges → (slice_index_or ranges k (0, 0)).1 ≤ 2 ^ 40
    at_place [] k all = omega arith
    at_place (x ∷ ranges) zero all = all 0 (0, 0) (omega arith)
    at_place (x ∷ ranges) (suc k) all = at_place ranges k (λ j d lt. all (suc j) d (omega (arith, lt)))

  repeated_small : (body : List Stmt) (loops : List ℕ) (var : ℕ) → Below loops var → ((vars : Numbers) (r : Run) → SmallLoops (var ∷ loops) vars → r.small ≡ true → (stage_all w body vars r).small ≡ true) → (hi : ℕ) → hi ≤ 2 ^ 40
      → (n lo : ℕ) → lo + n ≤ hi ⊎ (n ≡ 0) → (vars : Numbers) (r : Run) → SmallLoops loops vars → r.small ≡ true → (repeated n lo var (braced (stage_all w body)) vars r).small ≡ true
  repeated_small body loops var f inner hi top zero lo le vars r h g = g
  repeated_small body loops var f inner hi top (suc n) lo (inr none) vars r h g = absurd (omega (arith, none))
  repeated_small body loops var f inner hi top (suc n) lo (inl le) vars r h g =
      let turn : Run = braced (stage_all w body) (slice_set vars var (pos lo)) (worked 1 r) in
      repeated_small body loops var f inner hi top n (lo + 1) (inl (omega (arith, le))) vars turn h
      (inner (slice_set vars var (pos lo)) (worked 1 r) (small_loop loops vars var (pos lo) f (small_number lo (omega (arith, le, top))) h) g)

  -- the run behind an expression
  ready_small : (e : Expr) (vars : Numbers) (r : Run) → has_small_indices e vars ≡ true → r.small ≡ true → (asked_for_small (has_small_indices e vars) (asked_to_read (can_read e (tensors_of w r)) r)).small ≡ true
  ready_small e vars r h g = subst (λ (b : Bool). (asked_for_small b (asked_to_read (can_read e (tensors_of w r)) r)).small ≡ true) (sym h) (read_small (can_read e (tensors_of w r))) where
    read_small : (b : Bool) → (asked_to_read b r).small ≡ true
    read_small true = g
    read_small false = g

  either : (b : Bool) (x y : Run) → x.small ≡ true → y.small ≡ true → (if b then x else y).small ≡ true
  either true x y f g = f
  either false x y f g = g

  freeze_small : (t : ℕ) (x : Stage) (r : Run) → r.small ≡ true → (freeze_at t x r).small ≡ true
  freeze_small t Absent r g = g
  freeze_small t (Built b) r g = g
  freeze_small t (Frozen format f) r g = g

  thaw_small : (t : ℕ) (x : Stage) (r : Run) → r.small ≡ true → (thaw_at t x r).small ≡ true
  thaw_small t Absent r g = g
  thaw_small t (Built b) r g = g
  thaw_small t (Frozen format f) r g = g

  put_small : (t : ℕ) (b : Building) (o : Option (List ℕ)) (by : Reduce) (v : ℤ) (r : Run) → r.small ≡ true → (put_at t b o by v r).small ≡ true
  put_small t b None by v r g = g
  put_small t b (Some cs) by v r g = either (follows b cs) (with_stage t (Built (updated b cs (λ old. apply by old v))) r) (unordered r) g g

  update_small : (t : ℕ) (x : Stage) (at : List ℤ) (by : Reduce) (v : ℤ) (r : Run) → r.small ≡ true → (update_at t x at by v r).small ≡ true
  update_small t Absent at by v r g = g
  update_small t (Built b) at by v r g = put_small t b (coordinates b.function.shape at) by v r g
  update_small t (Frozen format f) at by v r g = g

  -- no place before is large, whatever the numbers are
  no_numbers : (loops : List ℕ) → SmallLoops loops []
  no_numbers loops v e = refl

  before_expr : (sc : Scope) (e : Expr) (before : List Place) → is_named_expr e sc ≡ true → NoneLarge (places_of_expr e before) → NoneLarge before
  before_expr sc e before named l = (fine_expr sc [] (no_numbers sc.loops) e before named l).0

  before_access : (sc : Scope) (line tensor : ℕ) (at : List Index) (before : List Place) → is_access sc tensor at ≡ true → NoneLarge (uses_of line (8 * tensor) at before) → NoneLarge before
  before_access sc line tensor at before access l = (small_access sc [] (no_numbers sc.loops) line tensor at before access l).0

  -- ---- all statements
  abbrev SmallsBy : (Scope → Bool) → List ℕ → Gathering → Action → Type 0
  SmallsBy names binds places does = (sc : Scope) (n : ℕ) (before : List Place) → names sc ≡ true → counts_from n binds ≡ true → Below sc.loops n → NoneLarge (places before) → NoneLarge before × ((vars : Numbers) (r : Run) → SmallLoops sc.loops vars → r.small ≡ true → (does vars r).small ≡ true)

  by_equations : (x : Stmt) (names : Scope → Bool) (binds : List ℕ) (places : Gathering) (does : Action) → is_named x ≡ names → bindings_of x ≡ binds → places_of x ≡ places → ((vars : Numbers) (r : Run) → stage_of w x vars r ≡ does vars r)
      → SmallsBy names binds places does → Smalls x
  by_equations x names binds places does en eb ep ed h sc n before e c f l =
      let got = h sc n before (ap (λ (g : Scope → Bool). g sc) (sym en) ∙ e) (subst (λ (vs : List ℕ). counts_from n vs ≡ true) eb c) f (subst (λ (g : Gathering). NoneLarge (g before)) ep l) in
      (got.0, λ vars r hs g. ap (λ (k : Run). k.small) (ed vars r) ∙ got.1 vars r hs g)

  step : (y : Stmt-F (Held Smalls)) → (let u = plain Smalls y in SmallsBy (stmt_step (map-Stmt Stmt (Scope → Bool) is_named u)) (bindings_step (map-Stmt Stmt (List ℕ) bindings_of u)) (stmt_places (map-Stmt Stmt Gathering places_of u)) (act_step (staging w) (map-Stmt Stmt Action (stage_of w) u)))
  step (Stmt-F.Block xs line last) sc n before e c f l =
      let body : List Stmt = bare Smalls xs in let all : AllOf Smalls body = all_of Smalls xs in
      smalls_all body all sc n before e c f l
  step (Stmt-F.Loop var range par xs line last) sc n before e c f l =
      let body : List Stmt = bare Smalls xs in let all : AllOf Smalls body = all_of Smalls xs in
      let is : var ≡ n = equal var n (left (var == n) (counts_from (n + 1) (bindings_of_all body)) c) in
      let inner = smalls_all body all (within_loop sc var) (n + 1) (before ++ Loop var range line ∷ []) e (right (var == n) (counts_from (n + 1) (bindings_of_all body)) c) (subst (λ (k : ℕ). Below (k ∷ sc.loops) (n + 1)) (sym is) (below_loop sc.loops n f)) l in
      ((last_none before (Loop var range line) inner.0).0, λ vars r h g. repeated_small body sc.loops var (subst (Below sc.loops) (sym is) f) inner.1 (range_of w var).1 (range_small var) ((range_of w var).1 - (range_of w var).0) (range_of w var).0 (room (range_of w var).0 (range_of w var).1) vars (worked 1 r) h g)
  step (Stmt-F.Cond test xs line last) sc n before e c f l =
      let body : List Stmt = bare Smalls xs in let all : AllOf Smalls body = all_of Smalls xs in
      let inner = smalls_all body all sc n (places_of_expr test before) (right (is_named_expr test sc) (are_named body sc) e) c f l in (
        before_expr sc test before (left (is_named_expr test sc) (are_named body sc) e) inner.0,
        λ vars r h g.
            let fine = fine_expr sc vars h test before (left (is_named_expr test sc) (are_named body sc) e) inner.0 in
            let x : Run = asked_for_small (has_small_indices test vars) (asked_to_read (can_read test (tensors_of w (worked 1 r))) (worked 1 r)) in
            let gx : x.small ≡ true = ready_small test vars (worked 1 r) fine.1 g in
            either (int_eq (value_of test vars (tensors_of w (worked 1 r))) (pos 0)) x (braced (stage_all w body) vars x) gx (inner.1 vars x h gx),
      )
  step (Stmt-F.Bind var value xs line last) sc n before e c f l =
      let body : List Stmt = bare Smalls xs in let all : AllOf Smalls body = all_of Smalls xs in
      let is : var ≡ n = equal var n (left (var == n) (counts_from (n + 1) (bindings_of_all body)) c) in
      let inner = smalls_all body all (within_let sc var) (n + 1) (places_of_expr value (before ++ Let ∷ [])) (right (is_named_expr value sc) (are_named body (within_let sc var)) e) (right (var == n) (counts_from (n + 1) (bindings_of_all body)) c) (below_more sc.loops n (n + 1) (omega arith) f) l in (
        (last_none before Let (before_expr sc value (before ++ Let ∷ []) (left (is_named_expr value sc) (are_named body (within_let sc var)) e) inner.0)).0,
        λ vars r h g.
            let fine = fine_expr sc vars h value (before ++ Let ∷ []) (left (is_named_expr value sc) (are_named body (within_let sc var)) e) inner.0 in
            let x : Run = asked_for_small (has_small_indices value vars) (asked_to_read (can_read value (tensors_of w (worked 1 r))) (worked 1 r)) in
            inner.1 (slice_set vars var (value_of value vars (tensors_of w (worked 1 r)))) x (kept_small sc.loops vars var (value_of value vars (tensors_of w (worked 1 r))) (subst (Below sc.loops) (sym is) f) h) (ready_small value vars (worked 1 r) fine.1 g),
      )
  step (Stmt-F.Declare tensor value line) sc n before e c f l = (l, λ vars r h g. either (is_made w tensor) _ (unalive r) g g)
  step (Stmt-F.Freeze tensor line) sc n before e c f l = (l, λ vars r h g. freeze_small tensor (stage_at r.stages tensor) r g)
  step (Stmt-F.Thaw tensor line) sc n before e c f l = (l, λ vars r h g. either (is_made w tensor) _ (unalive r) (thaw_small tensor (stage_at r.stages tensor) r g) g)
  step (Stmt-F.Update tensor at by value line) sc n before e c f l =
      let access = left (is_access sc tensor at) (is_named_expr value sc) e in
      let named = right (is_access sc tensor at) (is_named_expr value sc) e in (
        before_access sc line tensor at before access (before_expr sc value (uses_of line (8 * tensor) at before) named l),
        λ vars r h g.
            let fine = fine_expr sc vars h value (uses_of line (8 * tensor) at before) named l in
            let own = small_access sc vars h line tensor at before access fine.0 in
            let x : Run = asked_for_small (has_small_indices value vars) (asked_to_read (can_read value (tensors_of w r)) r) in
            let gx : x.small ≡ true = ready_small value vars r fine.1 g in
            let gy : (asked_for_small (are_small vars at) x).small ≡ true = subst (λ (b : Bool). (asked_for_small b x).small ≡ true) (sym own.1) gx in
            either (is_made w tensor) (update_at tensor (stage_at (asked_for_small (are_small vars at) x).stages tensor) (map (place vars) at) by (value_of value vars (tensors_of w r)) (asked_for_small (are_small vars at) x)) (unalive (asked_for_small (are_small vars at) x))
            (update_small tensor (stage_at (asked_for_small (are_small vars at) x).stages tensor) (map (place vars) at) by (value_of value vars (tensors_of w r)) (asked_for_small (are_small vars at) x) gy) gy,
      )

  smalls : (x : Stmt) → Smalls x
  smalls = by_nodes Smalls (λ y. let u = plain Smalls y in
      by_equations (roll-Stmt u) _ _ _ _ (fold-roll-Stmt (Scope → Bool) stmt_step u) (fold-roll-Stmt (List ℕ) bindings_step u) (fold-roll-Stmt Gathering stmt_places u) (λ vars r. ap (λ (a : Action). a vars r) (fold-roll-Stmt Action (act_step (staging w)) u)) (step y))

  pub statements_small : (body : List Stmt) → SmallsAll body
  statements_small body = smalls_all body (each Smalls smalls body)

pub accepted_is_small : (c : Checked) (inputs : List Storage) → IsAccepted c → (staged c inputs).small ≡ true
accepted_is_small c inputs a =
    let none : NoneLarge (places_in c.program) = second_none (first_of large_in_header c.program.headers) (first_of large_in_place (places_in c.program)) a.extents.small in
    (statements_small (setting_of c inputs) c.fits.ranges c.program.body (outermost c.program.headers) 0 [] c.program.named c.program.numbered (λ k e. absurd (let x : false ≡ true = e in cc)) none).1 (unbound c.dims) (before_all c.program.headers) (λ k e. absurd (let x : false ≡ true = e in cc)) refl
