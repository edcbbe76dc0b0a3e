-- The code of indices has the places that they point at: sums of small numbers, which don't wrap.
use Rattle.std.proofs.Common.{◌≡◌, ℕ, ◌+◌, ◌-◌, ◌*◌, ◌≤◌, ◌^◌, Bool, true, false, if◌then◌else◌, ◌&&◌, ◌||◌, List, [], ◌∷◌, map, length, Option, Some, None, refl, sym, ap, ◌∙◌, ℤ, pos, negsuc, ◌+ℤ◌, arith, w64}
use Rattle.std.specs.Prelude.{unsigned_abs}
use Rattle.std.specs.List.{list_all}
use Rattle.std.proofs.lemmas.Bool.Decides.{nat_tests}
use Rattle.std.specs.Ordering.{int_eq}
use Rattle.std.proofs.lemmas.Int.{ints, int_wrap_fits, fits_signed_from_abs}
use lib.IntN.{+ℤ_comm, +ℤ_idl}
use borrow.Author.Differences.{up, down, sum_is_lem}
use Rattle.fin_base.specs.declared.terms.Op.TheVariants as op
use Rattle.fin_base.specs.Words.{wrap}
use Rattle.fin_ast.specs.declared.tree.Index.{Index}
use Rattle.fin_ast.specs.Scope.{Scope, is_among, is_bound, is_loop, is_index, differ}
use Rattle.fin_ast.specs.Value.{Numbers, number_if, place}
use Rattle.fin_ir.specs.declared.expression.IExpr.{IExpr}
use Rattle.fin_ir.specs.declared.expression.IExpr.TheVariants.{Num, Local, Two}
use Rattle.fin_ir.specs.Machine.{Tensor}
use Rattle.fin_ir.specs.Value.{value_of}
use Rattle.fin_ir.proofs.Values.{value_num, value_local, value_two}
use Rattle.fin_stage.specs.Staged.{is_small, is_small_index, are_small}
use Rattle.fin_stage.proofs.Alive.{left, right}
use Rattle.fin_read.specs.Steps.{Agree}
use Rattle.fin_read.specs.Values.{vars_code, index_code}
use Rattle.fin_read.specs.Means.{IsWithin}

-- ---- small numbers

abs_is : (z : ℤ) → unsigned_abs z ≡ (up z - down z) + (down z - up z)
abs_is (pos n) = omega arith
abs_is (negsuc n) = omega arith

few : (z : ℤ) → is_small z ≡ true → unsigned_abs z ≤ 2 ^ 40
few z e = grind (arith, nat_tests)

sum_fits : (a b : ℤ) → is_small a ≡ true → is_small b ≡ true → wrap (a +ℤ b) ≡ a +ℤ b
sum_fits a b ea eb =
    let near : unsigned_abs (a +ℤ b) ≤ 2 * 2 ^ 40 = omega (arith, few a ea, few b eb, abs_is a, abs_is b, abs_is (a +ℤ b), sum_is_lem a b) in
    int_wrap_fits w64 (a +ℤ b) (fits_signed_from_abs w64 (a +ℤ b) (omega (arith, near)))

moved_fits : (a b c : ℤ) → is_small a ≡ true → is_small b ≡ true → is_small c ≡ true → wrap ((a +ℤ b) +ℤ c) ≡ (a +ℤ b) +ℤ c
moved_fits a b c ea eb ec =
    let near : unsigned_abs ((a +ℤ b) +ℤ c) ≤ 3 * 2 ^ 40 = omega (arith, few a ea, few b eb, few c ec, abs_is a, abs_is b, abs_is c, abs_is ((a +ℤ b) +ℤ c), sum_is_lem a b, sum_is_lem (a +ℤ b) c) in
    int_wrap_fits w64 ((a +ℤ b) +ℤ c) (fits_signed_from_abs w64 ((a +ℤ b) +ℤ c) (omega (arith, near)))

no_more : (z : ℤ) → z ≡ z +ℤ pos 0
no_more z = sym (+ℤ_comm z (pos 0) ∙ +ℤ_idl z)

-- ---- variables

-- a loop's variable is bound
pub loop_is_bound : (s : Scope) (var : ℕ) → is_among s.loops var ≡ true → is_bound s var ≡ true
loop_is_bound s var e = ap (λ (b : Bool). b || is_among s.lets var) e

module _ (ts : ℕ → Tensor) (s : Scope) (vars : Numbers) (within : IsWithin s (length vars)) (ks : List ℤ) (agree : Agree (length vars) ks vars) where
  var_is : (var : ℕ) → is_loop s (Some var) ≡ true → value_of (Local var) ts ks ≡ number_if vars (Some var)
  var_is var e = value_local ts ks var ∙ agree var (within var (loop_is_bound s var e))

  vars_are : (a b : Option ℕ) → is_loop s a ≡ true → is_loop s b ≡ true → is_small (number_if vars a) ≡ true → is_small (number_if vars b) ≡ true
      → value_of (vars_code a b) ts ks ≡ number_if vars a +ℤ number_if vars b
  vars_are None None ea eb sa sb = value_num ts ks (pos 0)
  vars_are None (Some b) ea eb sa sb = var_is b eb ∙ sym (+ℤ_idl (number_if vars (Some b)))
  vars_are (Some a) None ea eb sa sb = var_is a ea ∙ no_more (number_if vars (Some a))
  vars_are (Some a) (Some b) ea eb sa sb =
      let x = number_if vars (Some a) in
      value_two ts ks op.Add (Local a) (Local b) ∙ ap (λ (z : ℤ). wrap (z +ℤ value_of (Local b) ts ks)) (var_is a ea) ∙ ap (λ (z : ℤ). wrap (x +ℤ z)) (var_is b eb)
      ∙ sum_fits x (number_if vars (Some b)) sa sb

  moved_is : (e : IExpr) (a b k : ℤ) → value_of e ts ks ≡ a +ℤ b → is_small a ≡ true → is_small b ≡ true → is_small k ≡ true → (same : Bool) → int_eq k (pos 0) ≡ same
      → value_of (if same then e else Two op.Add e (Num k)) ts ks ≡ (a +ℤ b) +ℤ k
  moved_is e a b k is sa sb sk true none =
      let zero : k ≡ pos 0 = grind (arith, ints) in
      is ∙ no_more (a +ℤ b) ∙ ap (λ (z : ℤ). (a +ℤ b) +ℤ z) (sym zero)
  moved_is e a b k is sa sb sk false some =
      value_two ts ks op.Add e (Num k) ∙ ap (λ (z : ℤ). wrap (z +ℤ value_of (Num k) ts ks)) is ∙ ap (λ (z : ℤ). wrap ((a +ℤ b) +ℤ z)) (value_num ts ks k) ∙ moved_fits a b k sa sb sk

  index_is : (i : Index) → is_index s i ≡ true → is_small_index vars i ≡ true → value_of (index_code i) ts ks ≡ place vars i
  index_is i named small =
      let a = number_if vars i.first in
      let b = number_if vars i.second in
      let loops : (is_loop s i.first && is_loop s i.second) ≡ true = left (is_loop s i.first && is_loop s i.second) (differ i.first i.second) named in
      let sides : (is_small a && is_small b) ≡ true = left (is_small a && is_small b) (is_small i.offset) small in
      let sa = left (is_small a) (is_small b) sides in
      let sb = right (is_small a) (is_small b) sides in
      let sum = vars_are i.first i.second (left (is_loop s i.first) (is_loop s i.second) loops) (right (is_loop s i.first) (is_loop s i.second) loops) sa sb in
      moved_is (vars_code i.first i.second) a b i.offset sum sa sb (right (is_small a && is_small b) (is_small i.offset) small) (int_eq i.offset (pos 0)) refl

  pub indices_are : (at : List Index) → list_all (is_index s) at ≡ true → are_small vars at ≡ true → map (λ (x : IExpr). value_of x ts ks) (map index_code at) ≡ map (place vars) at
  indices_are [] named small = refl
  indices_are (i ∷ at) named small =
      ap (λ (z : ℤ). z ∷ map (λ (x : IExpr). value_of x ts ks) (map index_code at)) (index_is i (left (is_index s i) (list_all (is_index s) at) named) (left (is_small_index vars i) (are_small vars at) small))
      ∙ ap (λ (zs : List ℤ). place vars i ∷ zs) (indices_are at (right (is_index s i) (list_all (is_index s) at) named) (right (is_small_index vars i) (are_small vars at) small))
