-- The masks of a loop by their tests; the code of one bound after that of another leaves both values.
use Rattle.std.proofs.Common.{◌≡◌, ℕ, ◌+◌, ◌≤◌, Bool, true, false, ◌&&◌, if◌then◌else◌, List, [], ◌∷◌, map, length, ℤ, Option, Some, None, refl, sym, ap, ◌∙◌, subst, arith}
use Rattle.fin_ast.specs.declared.tree.Expr.{Expr, out-Expr}
use Rattle.fin_ast.specs.declared.tree.Expr.TheOpen.{Expr-F}
use Rattle.fin_ast.specs.Scope.{Scope}
use Rattle.fin_ast.specs.Value.{Numbers}
use Rattle.fin_looplet.specs.View.{Store}
use Rattle.fin_read.specs.Steps.{stepped, Agree}
use Rattle.fin_read.specs.Values.{Heads, value_code}
use Rattle.fin_read.proofs.Equations.{code_grows}
use Rattle.fin_read.proofs.Stepping.{agree_refl, agree_then, agree_less, stepped_append}
use Rattle.fin_simp.specs.Work.{Mask, is_comparison, is_var, is_bound_of, mask_by, and_mask, masks_among}
use Rattle.fin_enter.specs.Bounds.{HaveNumbers, BoundsMean}
use Rattle.fin_enter.specs.Masked.{Tested, tested, tested_by, tested_in, and_tested, tested_among, as_mask, MasksAreTests, bound_steps, behind_bounds, AllCanBound, AreBounded, AllBoundsMean}

-- ---- masks

module _ (vars : Numbers) where
  abbrev as_masks : Option Tested → Option Mask
  as_masks None = None
  as_masks (Some t) = Some (as_mask vars t)

  by_tests : (a b : Bool) (p q : Tested) → (if a then Some (as_mask vars p) else (if b then Some (as_mask vars q) else None)) ≡ as_masks (if a then Some p else (if b then Some q else None))
  by_tests true b p q = refl
  by_tests false true p q = refl
  by_tests false false p q = refl

  mask_is : (var test : ℕ) (e : Expr-F Expr) → mask_by vars var test e ≡ as_masks (tested_by var test e)
  mask_is var test (Expr-F.Num n) = refl
  mask_is var test (Expr-F.Var x line) = refl
  mask_is var test (Expr-F.Read tensor at line) = refl
  mask_is var test (Expr-F.Neg inner) = refl
  mask_is var test (Expr-F.Two o left right) = by_tests (is_comparison o && (is_var var left && is_bound_of var right)) (is_comparison o && (is_var var right && is_bound_of var left))
      (tested test o true right) (tested test o false left)

  one_mask : (o : Option Tested) (ts : List Tested) → and_mask (as_masks o) (map (as_mask vars) ts) ≡ map (as_mask vars) (and_tested o ts)
  one_mask None ts = refl
  one_mask (Some t) ts = refl

pub masks_are_tests : MasksAreTests
masks_are_tests vars var [] = refl
masks_are_tests vars var (t ∷ ts) =
    ap (λ (o : Option Mask). and_mask o (masks_among vars var ts)) (mask_is vars var t.test (out-Expr t.expr))
    ∙ ap (and_mask (as_masks vars (tested_in var t))) (masks_are_tests vars var ts)
    ∙ one_mask vars (tested_in var t) (tested_among var ts)

-- ---- bounds

pub bounds_grow : (h : Heads) (tests : List Tested) (next : ℕ) → next ≤ behind_bounds h tests next
bounds_grow h [] next = omega arith
bounds_grow h (t ∷ tests) next = omega (arith, code_grows h t.bound next, bounds_grow h tests (value_code h t.bound next).next)

-- they are kept where the locals before one behind the loop's variable are
pub numbers_kept : (sc : Scope) (var : ℕ) (vars : Numbers) (next : ℕ) (ls ks : List ℤ) → var ≤ next → Agree next ks ls → HaveNumbers sc var vars ls → HaveNumbers sc var vars ks
numbers_kept sc var vars next ls ks le same numbers x bound lt = same x (omega (arith, le, lt)) ∙ numbers x bound lt

module _ (mean : BoundsMean) (ts : Store) (h : Heads) (sc : Scope) (vars : Numbers) (var : ℕ) where
  all_bounded : (tests : List Tested) (next : ℕ) (ls : List ℤ) → AllCanBound sc var tests → var ≤ next → HaveNumbers sc var vars ls
      → behind_bounds h tests next + 1 ≤ length ls → AreBounded ts h vars tests next ls
  all_bounded [] next ls can after numbers room = record { long = refl; kept = agree_refl next ls; grows = omega arith; found = λ ks same. tt }
  all_bounded (t ∷ tests) next ls can after numbers room =
      let v = value_code h t.bound next in
      let own = v.steps in
      let others = bound_steps h tests v.next in
      let last = bounds_grow h tests v.next in
      let one = mean h ts sc vars var t.bound next ls can.0.named can.0.bound after numbers (omega (arith, room, last)) in
      let middle = stepped ts own ls in
      let near = numbers_kept sc var vars next ls middle after one.kept numbers in
      let q = all_bounded tests v.next middle can.1 (omega (arith, after, one.grows)) near (omega (arith, room, one.long)) in
      let same_steps = stepped_append ts own others ls in
      let end = stepped ts others middle in
      record {
        long = ap length same_steps ∙ q.long ∙ one.long;
        kept = subst (λ (ks : List ℤ). Agree next ks ls) (sym same_steps) (agree_then next end middle ls (agree_less next v.next end middle one.grows q.kept) one.kept);
        grows = omega (arith, one.grows, q.grows);
        found = λ ks same.
            let ends : Agree (behind_bounds h tests v.next) ks end = subst (λ (js : List ℤ). Agree (behind_bounds h tests v.next) ks js) same_steps same in
            let here : Agree v.next ks middle = agree_then v.next ks end middle (agree_less v.next (behind_bounds h tests v.next) ks end q.grows ends) q.kept in
            (sym (one.value ks here), q.found ks ends);
      }

pub all_bounds_mean : BoundsMean → AllBoundsMean
all_bounds_mean mean ts h sc vars var tests next ls can after numbers room = all_bounded mean ts h sc vars var tests next ls can after numbers room
