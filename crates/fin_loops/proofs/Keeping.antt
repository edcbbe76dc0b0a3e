-- Wherever the loop may stand its nest is separate.
use Rattle.std.proofs.Common.{◌≡◌, ◌≢◌, ℕ, ◌<◌, ◌≤◌, Bool, true, false, List, [], ◌∷◌, length, Option, refl, sym, ap, ◌∙◌, subst, ℤ, pos, negsuc, arith}
use Rattle.std.specs.Prelude.{nat_eq, slice_set, ◌||◌}
use Rattle.std.proofs.lemmas.Bool.Decides.{nat_tests}
use Rattle.std.proofs.lemmas.List.{length-set, get_or-set_same, get_or-set_other}
use Rattle.fin_ast.specs.Bindings.{bindings_step, bindings_of_all}
use Rattle.fin_ast.specs.Scope.{Scope, is_among, is_bound}
use Rattle.fin_ast.specs.Value.{Numbers, number}
use Rattle.fin_ast.specs.declared.checked.Checked.{Checked}
use Rattle.fin_ast.proofs.Nodes.{of_loop}
use Rattle.fin_ir.specs.declared.layout.Layout.{Layout}
use Rattle.fin_ir.specs.Machine.{Machine, seen}
use Rattle.fin_ir.proofs.Values.{value_local}
use Rattle.fin_looplet.specs.Lists.{AnyOwns}
use Rattle.fin_nest.specs.Nests.{Nest, Kept, Separate}
use Rattle.fin_nest.specs.Performs.{Place, Ready, Left}
use Rattle.fin_nest.proofs.Statements.{hold_on}
use Rattle.fin_stage.specs.Staged.{Run}
use Rattle.fin_perform.specs.Layouts.{layout_with}
use Rattle.fin_perform.specs.Places.{AllMayBind}
use Rattle.fin_perform.specs.Standing.{StandsIn}
use Rattle.fin_style_point.specs.declared.nest.Nest as point
use Rattle.fin_style_point.specs.Parts.{all_looplets}
use Rattle.fin_loops.specs.Loops.{Loop, bound_in}
use Rattle.fin_loops.specs.Entering.{stmt_of, Spot, StandsAt, nest_at}
use Rattle.fin_loops.specs.Keeping.{IsOuter, KeepsOut, NestsAreSeparate}
use Rattle.fin_loops.proofs.Placing.{none_bound, pin_is}
use Rattle.fin_loops.proofs.Standing.{itself}

-- ---- a variable in scope is none that the code binds: its local would be told nothing of

-- another number than that
other_than : (z : ℤ) → (y : ℤ) × (y ≢ z)
other_than (pos n) = (negsuc 0, λ e. cc)
other_than (negsuc n) = (pos 0, λ e. cc)

module _ (c : Checked) (sc : Scope) (vars : Numbers) (p : Place) (layout : Layout) (m : Machine)
    (stands : StandsIn c sc vars p) (ready : Ready layout m p) (x : ℕ) (bound : is_bound sc x ≡ true) (room : x < length m.locals) where
  other : (y : ℤ) × (y ≢ number vars x)
  other = other_than (number vars x)

  abbrev put : Machine
  put = record m { locals = slice_set m.locals x other.0 }

  put_left : p.binds x ≡ true → Left m put p
  put_left e = record {
    long = length-set m.locals x other.0;
    kept = λ live y lt free. let apart : y ≢ x = λ same. let f = ap p.binds same in cc in get_or-set_other m.locals x y other.0 (pos 0) apart;
    steady = λ live t k. refl;
  }

  told : p.binds x ≡ true → other.0 ≡ number vars x
  told e =
      sym (value_local (seen put) put.locals x ∙ get_or-set_same m.locals x other.0 (pos 0) room)
      ∙ stands.numbers put (hold_on p p.facts m put (put_left e) ready.live stands.stay ready.facts) x bound

  by : (b : Bool) → p.binds x ≡ b → p.binds x ≡ false
  by true e = absurd (other.1 (told e))
  by false e = e

  pub scope_unbound : p.binds x ≡ false
  scope_unbound = by (p.binds x) refl

-- ---- the variables that a place lets be bound are below its first free local

all_below : (p : Place) (count : ℕ) (vs : List ℕ) → AllMayBind p count vs → (x : ℕ) → is_among vs x ≡ true → x < p.next
all_below p count [] a x e = cc
all_below p count (v ∷ vs) a x e = elim (nat_eq x v) as (λ b. nat_eq x v ≡ b → (b || is_among vs x) ≡ true → x < p.next) [
  | true ↦ (λ t f. let same : x ≡ v = grind (arith, nat_tests) in let low = a.0.below in omega (arith, same, low))
  | false ↦ (λ t f. all_below p count vs a.1 x f)
] refl e

module _ (l : Loop) (range : Option (ℕ × ℕ)) (par : Bool) (line last next : ℕ) (top : point.Nest) (own : ℕ → Bool)
    (out : KeepsOut l next top own) (q : Spot) (at : StandsAt l (stmt_of l range par line last) next q) (low : next ≤ q.room) (m : Machine)
    (ready : Ready (layout_with l.checked q.room) m q.place) where
  abbrev nest : Nest Run
  nest = nest_at l top q

  may : AllMayBind q.place (length q.vars) (bound_in l)
  may = subst (AllMayBind q.place (length q.vars)) (of_loop (List ℕ) bindings_step l.var range par l.body line last) at.suits.may_bind

  bound_below : (y : ℕ) → is_among (bound_in l) y ≡ true → y < next
  bound_below y e = subst (λ (k : ℕ). y < k) at.suits.next_is (all_below q.place (length q.vars) (bound_in l) may y e)

  not_owned : (y : ℕ) → own y ≡ false → AnyOwns y (all_looplets top) → ⊥
  not_owned y e o = let f = out.looplets.owns y o in cc

  outer_kept : (y : ℕ) → IsOuter l top own y → Kept nest y
  outer_kept y k = record { below = k.0; no_var = k.1; no_own = not_owned y k.2 }

  -- a local that isn't free around the loop is owned, or not
  unowned : (y : ℕ) → y < next → (b : Bool) → own y ≡ b → own y ≡ false
  unowned y lt true e = let k = (out.owned y e).0 in absurd (omega (arith, k, lt))
  unowned y lt false e = e

  pin_kept : (y : ℕ) → is_bound q.scope y ≡ true → Kept nest y
  pin_kept y e =
      let below : y < next = subst (λ (k : ℕ). y < k) at.suits.next_is (at.suits.stands.within y e) in
      let free = scope_unbound l.checked q.scope q.vars q.place (layout_with l.checked q.room) m at.suits.stands ready y e (omega (arith, below, low, ready.locals)) in
      let more = out.low in
      outer_kept y (omega (arith, below, more), none_bound q.place (length q.vars) (bound_in l) may y free, unowned y below (own y) refl)

  owned_free : (y : ℕ) → own y ≡ true → (b : Bool) → is_among (bound_in l) y ≡ b → is_among (bound_in l) y ≡ false
  owned_free y e true f = let k = (out.owned y e).0 in let lt = bound_below y f in absurd (omega (arith, k, lt))
  owned_free y e false f = f

  nest_separate : Separate nest
  nest_separate = record {
    lo = λ y n. outer_kept y (out.lo y n);
    hi = λ y n. outer_kept y (out.hi y n);
    reads = λ y f. outer_kept y (out.free y f);
    pins = λ y v e. pin_kept y (pin_is (is_bound q.scope y) (number q.vars y) v e).0;
    lo_loads = λ t k. absurd (out.lo_loads t k);
    hi_loads = λ t k. absurd (out.hi_loads t k);
    loads = λ t k. out.looplets.loads t k;
    binds_var = ap (is_among (bound_in l)) out.var ∙ itself l.var (bindings_of_all l.body);
    binds_below = λ y e. let lt = bound_below y e in let more = out.low in omega (arith, lt, more);
    own_below = λ y o. (out.owned y (out.looplets.owns y o)).1;
    own_free = λ y o. owned_free y (out.looplets.owns y o) (is_among (bound_in l) y) refl;
    own = out.looplets.separate;
  }

pub nests_are_separate : NestsAreSeparate
nests_are_separate = nest_separate
