-- What weighs nothing.
use Rattle.std.proofs.Common.{◌≡◌, ◌≢◌, ℕ, ◌+◌, ◌<◌, List, [], ◌∷◌, Bool, true, false, refl, sym, ap, ◌∙◌, pos, arith}
use Rattle.std.specs.Prelude.{◌&&◌, if◌then◌else◌, nat_eq}
use Rattle.std.specs.Bool.{Decides}
use Rattle.std.specs.List.{list_all}
use Rattle.std.proofs.lemmas.Bool.{eqb-true, eqb-false, ne_eqb, and_parts, and_from, false_from_ne_true}
use Rattle.fin_base.specs.declared.terms.Op.{Op}
use Rattle.fin_base.specs.declared.terms.Op.TheVariants as op
use Rattle.fin_ir.specs.declared.expression.IExpr.{IExpr}
use Rattle.fin_ir.specs.declared.expression.IExpr.TheVariants.{Num, Two}
use Rattle.fin_looplet.specs.declared.looplet.Looplet.{Looplet, Row_of-Walker, end_of-Walker, more_of-Walker, end_of-Looplet, more_of-Looplet}
use Rattle.fin_looplet.specs.declared.looplet.Looplet.TheVariants.{Run, Spike, Lookup, Sequence', Stepper', Jumper', Switch', Shift'}
use Rattle.fin_looplet.specs.Cut.{plus}
use Rattle.fin_looplet.specs.Same.{same}
use Rattle.fin_looplet.specs.Weight.{weight, weight_phases, weight_walker, weight_cases, weights, is_point, region, weight_of, is_run, RunsAtPoint}
use Rattle.fin_looplet.proofs.Same.{same_is, same_self}

some_weight : {n : _} (w : Row_of-Walker n) → 0 < weight_walker w
some_weight end_of-Walker = omega arith
some_weight (more_of-Walker cursor seek stop child rest) = omega arith

not_zero : (n : ℕ) → 0 < n → nat_eq n 0 ≡ false
not_zero n h = ne_eqb n 0 (λ e. omega (arith, h, e))

pub zero_is_run : (l : Looplet) → nat_eq (weight l) 0 ≡ is_run l
zero_is_run (Run leaf) = refl
zero_is_run (Spike body tail) = refl
zero_is_run (Lookup coord leaf) = refl
zero_is_run (Sequence' n phases) = not_zero (2 + weight_phases phases) (omega arith)
zero_is_run (Stepper' p w) = not_zero (weight_walker w) (some_weight w)
zero_is_run (Jumper' p w) = not_zero (weight_walker w) (some_weight w)
zero_is_run (Switch' n cases) = not_zero (1 + weight_cases cases) (omega arith)
zero_is_run (Shift' by p (more_of-Looplet child end_of-Looplet)) = not_zero (1 + weight child) (omega arith)

-- a sum is 0 where both parts are
sum_zero : (a b : ℕ) (p q : Bool) → nat_eq a 0 ≡ p → nat_eq b 0 ≡ q → nat_eq (a + b) 0 ≡ (p && q)
sum_zero a b true q e f = let z : a ≡ 0 = eqb-true a 0 e in let s : a + b ≡ b = omega (arith, z) in ap (λ n. nat_eq n 0) s ∙ f
sum_zero a b false q e f = let z : a ≢ 0 = eqb-false a 0 e in ne_eqb (a + b) 0 (λ s. z (omega (arith, s)))

pub zero_are_runs : (ls : List Looplet) → nat_eq (weights ls) 0 ≡ list_all is_run ls
zero_are_runs [] = refl
zero_are_runs (l ∷ ls) = sum_zero (weight l) (weights ls) (is_run l) (list_all is_run ls) (zero_is_run l) (zero_are_runs ls)

zero_region : (b : Bool) → nat_eq (if b then 0 else 1) 0 ≡ b
zero_region true = refl
zero_region false = refl

pub zero_weight : (ls : List Looplet) (lo hi : IExpr) → nat_eq (weight_of ls lo hi) 0 ≡ (is_point lo hi && list_all is_run ls)
zero_weight ls lo hi = sum_zero (region lo hi) (weights ls) (is_point lo hi) (list_all is_run ls) (zero_region (is_point lo hi)) (zero_are_runs ls)

pub exactly_runs : (b : Bool) (ls : List Looplet) (lo hi : IExpr) → b ≡ (is_point lo hi && list_all is_run ls) → Decides b (RunsAtPoint ls lo hi)
exactly_runs b ls lo hi e = (
  (λ h. let p = and_parts (is_point lo hi) (list_all is_run ls) (sym e ∙ h) in record { runs = p.1; end = same_is hi (plus lo (Num (pos 1))) p.0 }),
  (λ r. e ∙ and_from (is_point lo hi) (list_all is_run ls) (ap (λ z. same z (plus lo (Num (pos 1)))) r.end ∙ same_self (plus lo (Num (pos 1)))) r.runs),
)

pub both_then : (x : Bool) (ls : List Looplet) (lo hi : IExpr) → is_point lo hi ≡ true → x ≡ list_all is_run ls → x ≡ (is_point lo hi && list_all is_run ls)
both_then x ls lo hi p e = e ∙ sym (ap (λ b. b && list_all is_run ls) p)

pub both_else : (x : Bool) (ls : List Looplet) (lo hi : IExpr) → x ≡ is_point lo hi → x ≡ false → x ≡ (is_point lo hi && list_all is_run ls)
both_else x ls lo hi p e = e ∙ sym (ap (λ b. b && list_all is_run ls) (sym p ∙ e))

-- what isn't a node of two parts is no beginning plus 1
pub not_next : (lo hi : IExpr) → ((o : Op) (a b : IExpr) → hi ≡ Two o a b → ⊥) → false ≡ is_point lo hi
not_next lo hi h = sym (false_from_ne_true (is_point lo hi) (λ e. h op.Add lo (Num (pos 1)) (same_is hi (plus lo (Num (pos 1))) e)))
