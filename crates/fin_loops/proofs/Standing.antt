-- A place where the locals of the variables in scope have their numbers, as a nest of a loop finds it, and the place of the
-- loop's body inside.
use Rattle.std.proofs.Common.{◌≡◌, ℕ, ◌<◌, Bool, true, false, ◌≢◌, ◌^◌, List, [], ◌∷◌, ◌++◌, map, length, Some, None, if◌then◌else◌, refl, sym, ap, ◌∙◌, subst, ℤ, pos, arith}
use Rattle.std.specs.Prelude.{nat_eq, not, ◌&&◌, ◌||◌, slice_set, slice_index_or}
use Rattle.std.proofs.lemmas.Bool.{or_right}
use Rattle.std.proofs.lemmas.Bool.Decides.{nat_tests}
use Rattle.std.proofs.lemmas.List.{get_or-set_same, get_or-set_other}
use Rattle.std.proofs.lemmas.List.Folds.{list_any-append}
use Rattle.fin_tensor.specs.declared.storage.Storage.{Storage}
use Rattle.fin_ast.specs.Scope.{Scope, is_among, is_bound, within_loop}
use Rattle.fin_ast.specs.Value.{Numbers, number}
use Rattle.fin_ir.specs.declared.expression.IExpr.TheVariants.{Local}
use Rattle.fin_ir.specs.Machine.{Machine, seen}
use Rattle.fin_ir.specs.Value.{value_in}
use Rattle.fin_ir.proofs.Values.{value_local}
use Rattle.fin_looplet.proofs.Exprs.{names_local, loads_local}
use Rattle.fin_stage.specs.Staged.{Run}
use Rattle.fin_nest.specs.Nests.{Nest, Kept, Separate}
use Rattle.fin_nest.specs.Courses.{nest_with}
use Rattle.fin_nest.specs.Performs.{Fact, Place, Hold, Stay}
use Rattle.fin_nest.proofs.Means.{with_local, not_the_variable}
use Rattle.fin_simp.specs.Work.{World, world_of}
use Rattle.fin_style_point.specs.declared.nest.Nest as point
use Rattle.fin_style_point.specs.Parts.{course_of}
use Rattle.fin_perform.specs.Standing.{StandsIn}
use Rattle.fin_perform.specs.Places.{AllMayBind, IsCoordinate, Suits}
use Rattle.fin_perform.specs.Inside.{place_inside}
use Rattle.fin_perform.proofs.Suiting.{binds_inside, inside_is, suits_inside}
use Rattle.fin_ast.specs.Bindings.{bindings_of_all}
use Rattle.fin_loops.specs.Loops.{Loop, AreOnce, bound_in, changed_in, behind_of, InScope}

-- never true
never : (b : Bool) → (b && false) ≡ false
never true = refl
never false = refl

-- ---- the facts of a scope

abbrev fact_of : Numbers → ℕ → Fact
fact_of vars x = (Local x, number vars x)

abbrev pub facts_of : Numbers → List ℕ → List Fact
facts_of vars xs = map (fact_of vars) xs

abbrev pub all_bound : Scope → List ℕ
all_bound sc = sc.loops ++ sc.lets

pub bound_is : (sc : Scope) (x : ℕ) → is_among (all_bound sc) x ≡ is_bound sc x
bound_is sc x = list_any-append (nat_eq x) sc.loops sc.lets

pub itself : (x : ℕ) (xs : List ℕ) → is_among (x ∷ xs) x ≡ true
itself x xs = elim (nat_eq x x) as (λ b. nat_eq x x ≡ b → (b || is_among xs x) ≡ true) [
  | true ↦ (λ e. refl)
  | false ↦ (λ e. absurd (let k : x ≡ x = refl in grind (arith, nat_tests)))
] refl

number_held : (vars : Numbers) (m : Machine) (xs : List ℕ) → Hold m (facts_of vars xs) → (x : ℕ) → is_among xs x ≡ true → value_in m (Local x) ≡ number vars x
number_held vars m [] h x e = cc
number_held vars m (y ∷ ys) h x e = elim (nat_eq x y) as (λ b. nat_eq x y ≡ b → (b || is_among ys x) ≡ true → value_in m (Local x) ≡ number vars x) [
  | true ↦ (λ t f. let same : x ≡ y = grind (arith, nat_tests) in subst (λ (z : ℕ). value_in m (Local z) ≡ number vars z) (sym same) h.0)
  | false ↦ (λ t f. number_held vars m ys h.1 x f)
] refl e

pub facts_hold : (vars : Numbers) (m : Machine) (xs : List ℕ) → ((x : ℕ) → is_among xs x ≡ true → value_in m (Local x) ≡ number vars x) → Hold m (facts_of vars xs)
facts_hold vars m [] h = tt
facts_hold vars m (x ∷ xs) h = (h x (itself x xs), facts_hold vars m xs (λ y e. h y (or_right (nat_eq y x) (is_among xs y) e)))

facts_stay : (vars : Numbers) (p : Place) (xs : List ℕ) → ((x : ℕ) → is_among xs x ≡ true → (x < p.next) × (p.binds x ≡ false)) → Stay p (facts_of vars xs)
facts_stay vars p [] h = tt
facts_stay vars p (x ∷ xs) h = (
  record {
    locals = λ y n. subst (λ (z : ℕ). (z < p.next) × (p.binds z ≡ false)) (sym (names_local y x n)) (h x (itself x xs));
    tensors = λ t l. absurd (loads_local t x l);
  },
  facts_stay vars p xs (λ y e. h y (or_right (nat_eq y x) (is_among xs y) e)),
)

-- ---- a nest of the loop

module _ (l : Loop) (n : point.Nest) (room : ℕ) (inputs : List Storage) (sc : Scope) (vars : Numbers) (good : InScope l room inputs sc vars) where
  abbrev pub world : World
  world = world_of l.checked inputs

  abbrev pub whole : Nest Run
  whole = nest_with (behind_of l world sc vars) (course_of n)

  module _ (apart : Separate whole) where
    pub pinned : (x : ℕ) → is_bound sc x ≡ true → whole.pins x ≡ Some (number vars x)
    pinned x e = ap (λ (b : Bool). if b then Some (number vars x) else None) e

    pub pin_kept : (x : ℕ) → is_bound sc x ≡ true → Kept whole x
    pin_kept x e = apart.pins x (number vars x) (pinned x e)

    -- where it stands
    abbrev pub outside : Place
    outside = record { facts = facts_of vars (all_bound sc); steady = whole.steady; binds = whole.binds; next = n.next }

    pub outside_stands : StandsIn l.checked sc vars outside
    outside_stands = record {
      headers = good.headers;
      within = λ x e. (pin_kept x e).below;
      numbers = λ m h x e. number_held vars m (all_bound sc) h x (bound_is sc x ∙ e);
      stay = facts_stay vars outside (all_bound sc) (λ x e. let k = pin_kept x (sym (bound_is sc x) ∙ e) in (k.below, k.no_var));
    }

    may_bind : (vs : List ℕ) → ((v : ℕ) → is_among vs v ≡ true → whole.binds v ≡ true) → AreOnce (length vars) vs → AllMayBind outside (length vars) vs
    may_bind [] all once = tt
    may_bind (v ∷ vs) all once = (
      record { below = apart.binds_below v (all v (itself v vs)); counted = once.0; binds = all v (itself v vs); apart = once.1 },
      may_bind vs (λ x e. all x (or_right (nat_eq x v) (is_among vs x) e)) once.2,
    )

    outside_suits : Suits l.checked n.next (bound_in l) (changed_in l) sc vars outside
    outside_suits = record {
      stands = outside_stands;
      next_is = refl;
      loose = λ t e. ap not e;
      coordinates = good.coordinates;
      unbound = λ x e. (pin_kept x (ap (λ (b : Bool). b || is_among sc.lets x) e)).no_var;
      may_bind = may_bind (bound_in l) (λ v e. e) good.once;
    }

    -- and where its body stands, at a coordinate
    abbrev pub within : ℤ → Place
    within i = place_inside outside (binds_inside l.checked n.next sc vars outside l.var) l.var i

    -- whose facts hold where the variable's local has the number, and those of the variables in scope have theirs
    pub within_facts : n.var ≡ l.var → (i : ℤ) (m : Machine) → n.var < length m.locals
        → ((x : ℕ) → is_bound sc x ≡ true → slice_index_or m.locals x (pos 0) ≡ number vars x) → Hold (with_local n.var i m) (within i).facts
    within_facts var i m below numbers =
        let set : List ℤ = slice_set m.locals n.var i in
        let held : (x : ℕ) → is_bound sc x ≡ true → value_in (with_local n.var i m) (Local x) ≡ number vars x = λ x e.
        value_local (seen m) set x ∙ get_or-set_other m.locals n.var x i (pos 0) (not_the_variable whole apart x (pin_kept x e).no_var) ∙ numbers x e in (
          ap (λ (x : ℕ). value_in (with_local n.var i m) (Local x)) (sym var) ∙ value_local (seen m) set n.var ∙ get_or-set_same m.locals n.var i (pos 0) below,
          facts_hold vars (with_local n.var i m) (all_bound sc) (λ x e. held x (sym (bound_is sc x) ∙ e)),
        )

    module _ (i : ℤ) (k : ℕ) (is : i ≡ pos k) (low : k < 2 ^ 40) where
      own_or_other : (x : ℕ) → (b : Bool) → nat_eq x l.var ≡ b → (b || is_among sc.loops x) ≡ true → IsCoordinate (slice_set vars l.var i) x
      own_or_other x true e f =
          let same : x ≡ l.var = grind (arith, nat_tests) in
          (k, subst (λ (y : ℕ). number (slice_set vars l.var i) y ≡ pos k) (sym same) (get_or-set_same vars l.var i (pos 0) good.once.0 ∙ is), low)
      own_or_other x false e f =
          let (c, same, top) = good.coordinates x f in
          let apart : x ≢ l.var = λ eq. absurd (grind (arith, nat_tests)) in
          (c, get_or-set_other vars l.var x i (pos 0) apart ∙ same, top)

      within_unbound : (x : ℕ) → (b : Bool) → nat_eq x l.var ≡ b → (b || is_among sc.loops x) ≡ true → (whole.binds x && not b) ≡ false
      within_unbound x true e f = never (whole.binds x)
      within_unbound x false e f = ap (λ (b : Bool). b && true) (pin_kept x (ap (λ (b : Bool). b || is_among sc.lets x) f)).no_var

    -- what changes no tensor that the loop leaves, at a coordinate
    pub within_suits : (changed : ℕ → Bool) → ((t : ℕ) → changed t ≡ true → changed_in l t ≡ true) → (i : ℤ) (k : ℕ) → i ≡ pos k → k < 2 ^ 40
        → Suits l.checked n.next (bindings_of_all l.body) changed (within_loop sc l.var) (slice_set vars l.var i) (within i)
    within_suits changed fewer i k is low =
        let inner = suits_inside l.checked n.next sc vars outside l.var i (bindings_of_all l.body) (changed_in l) outside_suits in
        record {
          stands = (inside_is l.checked n.next sc vars outside l.var i (bindings_of_all l.body) (changed_in l) outside_suits).in_loop;
          next_is = refl;
          loose = λ t e. inner.loose t (fewer t e);
          coordinates = λ x e. own_or_other i k is low x (nat_eq x l.var) refl e;
          unbound = λ x e. within_unbound i k is low x (nat_eq x l.var) refl e;
          may_bind = inner.may_bind;
        }
