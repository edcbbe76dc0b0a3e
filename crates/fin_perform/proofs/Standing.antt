-- Inside a loop or a let the variables in scope still have the run's numbers.
use Rattle.std.proofs.Common.{◌≡◌, ◌≢◌, ℕ, ◌<◌, ◌⊎◌, inl, inr, ⊎_elim, Bool, true, false, List, [], ◌∷◌, length, refl, sym, ap, ◌∙◌, ℤ, pos, arith}
use Rattle.std.specs.Prelude.{slice_set, nat_eq, ◌||◌}
use Rattle.std.proofs.lemmas.Bool.{cases_eq, or_cases, or_left, or_right}
use Rattle.std.proofs.lemmas.Bool.Decides.{nat_tests}
use Rattle.std.proofs.lemmas.List.{get_or-set_same, get_or-set_other}
use Rattle.fin_ast.specs.declared.checked.Checked.{Checked}
use Rattle.fin_ast.specs.Scope.{Scope, is_bound, is_among, within_loop, within_let}
use Rattle.fin_ast.specs.Value.{Numbers, number}
use Rattle.fin_ir.specs.declared.expression.IExpr.TheVariants.{Local}
use Rattle.fin_ir.specs.Machine.{Machine}
use Rattle.fin_ir.specs.Value.{value_in}
use Rattle.fin_ir.proofs.Nodes.{of_local}
use Rattle.fin_nest.specs.Performs.{Fact, Place, Hold, Stay, Stays}
use Rattle.fin_looplet.specs.Names.{Names, Loads, names_step, loads_step}
use Rattle.fin_perform.specs.Inside.{place_inside, InsideStands, PlacesInside}
use Rattle.fin_perform.specs.Standing.{StandsIn}

-- a variable in the larger scope is that one or was in scope
either_var : (v x : ℕ) (vars : List ℕ) → is_among (v ∷ vars) x ≡ true → (x ≡ v) ⊎ (is_among vars x ≡ true)
either_var v x vars e = elim (nat_eq x v) as (λ b. nat_eq x v ≡ b → (b || is_among vars x) ≡ true → (x ≡ v) ⊎ (is_among vars x ≡ true)) [
  | true ↦ (λ t h. inl (grind (arith, nat_tests)))
  | false ↦ (λ t h. inr h)
] refl e

let_bound : (sc : Scope) (var x : ℕ) → is_bound (within_let sc var) x ≡ true → (x ≡ var) ⊎ (is_bound sc x ≡ true)
let_bound sc var x e = ⊎_elim
    (λ among. inr (or_left (is_among sc.loops x) (is_among sc.lets x) among))
    (λ among. ⊎_elim (λ same. inl same) (λ old. inr (or_right (is_among sc.loops x) (is_among sc.lets x) old)) (either_var var x sc.lets among))
    (or_cases (is_among sc.loops x) (is_among (var ∷ sc.lets) x) e)

loop_bound : (sc : Scope) (var x : ℕ) → is_bound (within_loop sc var) x ≡ true → (x ≡ var) ⊎ (is_bound sc x ≡ true)
loop_bound sc var x e = ⊎_elim
    (λ among. ⊎_elim (λ same. inl same) (λ old. inr (or_left (is_among sc.loops x) (is_among sc.lets x) old)) (either_var var x sc.loops among))
    (λ among. inr (or_right (is_among sc.loops x) (is_among sc.lets x) among))
    (or_cases (is_among (var ∷ sc.loops) x) (is_among sc.lets x) e)

-- a local names itself alone, and loads nothing
names_itself : (var x : ℕ) → Names x (Local var) → x ≡ var
names_itself var x e = let same : nat_eq x var ≡ true = sym (ap (λ (f : ℕ → Bool). f x) (of_local (ℕ → Bool) names_step var)) ∙ e in grind (arith, nat_tests)

loads_nothing : (var t : ℕ) → Loads t (Local var) → false ≡ true
loads_nothing var t e = sym (ap (λ (f : ℕ → Bool). f t) (of_local (ℕ → Bool) loads_step var)) ∙ e

module _ (c : Checked) (sc : Scope) (vars : Numbers) (p : Place) (binds : ℕ → Bool) (var : ℕ) (z : ℤ) (stands : StandsIn c sc vars p) (room : var < p.next) (long : var < length vars) (own : binds var ≡ false)
    (fewer : (x : ℕ) → p.binds x ≡ false → binds x ≡ false) where
  abbrev q : Place
  q = place_inside p binds var z

  stay_inside : (fs : List Fact) → Stay p fs → Stay q fs
  stay_inside [] st = tt
  stay_inside (f ∷ fs) st = (record { locals = λ x n. let k = st.0.locals x n in (k.0, fewer x k.1); tensors = st.0.tensors }, stay_inside fs st.1)

  own_stays : Stays q (Local var)
  own_stays = record {
    locals = λ x n. let same = names_itself var x n in (omega (arith, same, room), ap binds same ∙ own);
    tensors = λ t n. let e = loads_nothing var t n in cc;
  }

  number_inside : (x : ℕ) (m : Machine) → Hold m q.facts → (x ≡ var) ⊎ (is_bound sc x ≡ true) → value_in m (Local x) ≡ number (slice_set vars var z) x
  number_inside x m holds either = ⊎_elim
      (λ (same : x ≡ var). ap (λ (y : ℕ). value_in m (Local y)) same ∙ holds.0 ∙ sym (get_or-set_same vars var z (pos 0) long) ∙ ap (number (slice_set vars var z)) (sym same))
      (λ (apart : x ≢ var). stands.numbers m holds.1 x (⊎_elim (λ same. absurd (apart same)) (λ old. old) either) ∙ sym (get_or-set_other vars var x z (pos 0) apart))
      (cases_eq x var)

  below_inside : (x : ℕ) → (x ≡ var) ⊎ (is_bound sc x ≡ true) → x < p.next
  below_inside x either = ⊎_elim (λ same. omega (arith, same, room)) (λ old. stands.within x old) either

  inside_stands : InsideStands c sc vars p binds var z
  inside_stands = record {
    inside = record { facts = λ m holds value. (value, holds); next = omega arith; binds = fewer; steady = λ t e. e };
    in_let = record {
      headers = stands.headers;
      within = λ x e. below_inside x (let_bound sc var x e);
      numbers = λ m holds x e. number_inside x m holds (let_bound sc var x e);
      stay = (own_stays, stay_inside p.facts stands.stay);
    };
    in_loop = record {
      headers = stands.headers;
      within = λ x e. below_inside x (loop_bound sc var x e);
      numbers = λ m holds x e. number_inside x m holds (loop_bound sc var x e);
      stay = (own_stays, stay_inside p.facts stands.stay);
    };
  }

pub places_inside : PlacesInside
places_inside = inside_stands
