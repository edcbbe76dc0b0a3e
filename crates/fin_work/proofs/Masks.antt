-- A mask's value is its test's.
use Rattle.std.proofs.Common.{◌≡◌, ◌<◌, ℕ, ℤ, pos, Bool, true, false, ◌&&◌, length, Option, Some, None, refl, sym, ap, ◌∙◌, arith, if◌then◌else◌}
use Rattle.std.specs.Prelude.{nat_lt, slice_set}
use Rattle.std.proofs.lemmas.List.{get_or-set_same, get_or-set_other}
use Rattle.std.proofs.lemmas.Bool.Decides.{nat_tests}
use Rattle.fin_base.specs.Words.{operate, negated}
use Rattle.fin_base.specs.declared.terms.Op.{Op}
use Rattle.fin_ast.specs.declared.tree.Expr.{Expr, map-Expr, out-Expr, fold_out-Expr}
use Rattle.fin_ast.specs.declared.tree.Expr.TheOpen.{Expr-F}
use Rattle.fin_ast.specs.Value.{Numbers, Tensors, Reading, number, value_step, value_of}
use Rattle.fin_ast.proofs.Nodes as node
use Rattle.fin_ast.proofs.Values.{value_num, value_var, value_neg, value_two}
use Rattle.fin_simp.specs.Gaps.{SameUpTo}
use Rattle.fin_simp.specs.Work.{Mask, is_comparison, bound_step, is_bound_of, names_step, is_var, mask_by, mask_value}
use Rattle.fin_simp.proofs.Induction.{ExprCases, by_expr}
use Rattle.fin_stage.proofs.Alive.{left, right}
use Rattle.fin_work.specs.Masks.{MasksTell}

abbrev no_tensor : Tensors
no_tensor = λ tensor. None

module _ (vars later : Numbers) (var c : ℕ) (ts : Tensors) (bound : var < length vars) (same : SameUpTo var (slice_set vars var (pos c)) later) where
  -- ---- what doesn't name the variable has the value that it had at the loop's entry
  kept_number : (x : ℕ) → nat_lt x var ≡ true → number later x ≡ number vars x
  kept_number x h = let lt : x < var = grind (arith, nat_tests) in same x (omega (arith, lt)) ∙ get_or-set_other vars var x (pos c) (pos 0) (λ q. omega (arith, lt, q))

  abbrev Kept : Expr → Type 0
  Kept x = is_bound_of var x ≡ true → value_of x later ts ≡ value_of x vars no_tensor

  kept_cases : ExprCases Kept
  kept_cases = record {
    num = λ n h. value_num later ts n ∙ sym (value_num vars no_tensor n);
    var = λ x line h. value_var later ts x line ∙ kept_number x (sym (node.of_var Bool (bound_step var) x line) ∙ h) ∙ sym (value_var vars no_tensor x line);
    read = λ tensor at line h. absurd (let q : false ≡ true = sym (node.of_read Bool (bound_step var) tensor at line) ∙ h in cc);
    neg = λ x hx h. value_neg later ts x ∙ ap negated (hx (sym (node.of_neg Bool (bound_step var) x) ∙ h)) ∙ sym (value_neg vars no_tensor x);
    two = λ o x y hx hy h.
        let both = sym (node.of_two Bool (bound_step var) o x y) ∙ h in
        value_two later ts o x y ∙ ap (λ z. operate o z (value_of y later ts)) (hx (left (is_bound_of var x) (is_bound_of var y) both))
        ∙ ap (operate o (value_of x vars no_tensor)) (hy (right (is_bound_of var x) (is_bound_of var y) both)) ∙ sym (value_two vars no_tensor o x y);
  }

  kept_value : (x : Expr) → Kept x
  kept_value = by_expr Kept kept_cases

  -- ---- the bare variable has the coordinate
  abbrev node_value : Expr-F Expr → ℤ
  node_value y = value_step (map-Expr Expr Reading value_of y) later ts

  value_out : (x : Expr) → value_of x later ts ≡ node_value (out-Expr x)
  value_out x = ap (λ (f : Reading). f later ts) (fold_out-Expr Reading value_step x)

  own_number : number later var ≡ pos c
  own_number = same var (omega arith) ∙ get_or-set_same vars var (pos c) (pos 0) bound

  named_value : (y : Expr-F Expr) → names_step var y ≡ true → node_value y ≡ pos c
  named_value (Expr-F.Var x line) h = let is : x ≡ var = grind (arith, nat_tests) in ap (number later) is ∙ own_number
  named_value (Expr-F.Num n) h = cc
  named_value (Expr-F.Read tensor at line) h = cc
  named_value (Expr-F.Neg inner) h = cc
  named_value (Expr-F.Two o x y) h = cc

  var_value : (x : Expr) → is_var var x ≡ true → value_of x later ts ≡ pos c
  var_value x h = value_out x ∙ named_value (out-Expr x) h

  -- ---- a comparison
  module _ (test : ℕ) (m : Mask) (o : Op) (x y : Expr) where
    abbrev first : Mask
    first = record { test = test; op = o; bare_first = true; bound = value_of y vars no_tensor }

    abbrev second : Mask
    second = record { test = test; op = o; bare_first = false; bound = value_of x vars no_tensor }

    abbrev Goal : Type 0
    Goal = operate o (value_of x later ts) (value_of y later ts) ≡ mask_value m (pos c)

    by_first : is_var var x ≡ true → is_bound_of var y ≡ true → ◌≡◌ {A = Option Mask} (Some first) (Some m) → Goal
    by_first p q h =
        let is : first ≡ m = cc in
        ap (λ z. operate o z (value_of y later ts)) (var_value x p) ∙ ap (operate o (pos c)) (kept_value y q) ∙ ap (λ (k : Mask). mask_value k (pos c)) is

    by_second : is_var var y ≡ true → is_bound_of var x ≡ true → ◌≡◌ {A = Option Mask} (Some second) (Some m) → Goal
    by_second p q h =
        let is : second ≡ m = cc in
        ap (operate o (value_of x later ts)) (var_value y p) ∙ ap (λ z. operate o z (pos c)) (kept_value x q) ∙ ap (λ (k : Mask). mask_value k (pos c)) is

    picked : (k a b : Bool) → (a ≡ true → (is_var var x && is_bound_of var y) ≡ true) → (b ≡ true → (is_var var y && is_bound_of var x) ≡ true)
        → (if k && a then Some first else (if k && b then Some second else None)) ≡ Some m → Goal
    picked false a b p q h = cc
    picked true true b p q h = by_first (left (is_var var x) (is_bound_of var y) (p refl)) (right (is_var var x) (is_bound_of var y) (p refl)) h
    picked true false true p q h = by_second (left (is_var var y) (is_bound_of var x) (q refl)) (right (is_var var y) (is_bound_of var x) (q refl)) h
    picked true false false p q h = cc

  told : (test : ℕ) (m : Mask) (z : Expr-F Expr) → mask_by vars var test z ≡ Some m → node_value z ≡ mask_value m (pos c)
  told test m (Expr-F.Num n) h = cc
  told test m (Expr-F.Var x line) h = cc
  told test m (Expr-F.Read tensor at line) h = cc
  told test m (Expr-F.Neg inner) h = cc
  told test m (Expr-F.Two o x y) h = picked test m o x y (is_comparison o) (is_var var x && is_bound_of var y) (is_var var y && is_bound_of var x) (λ k. k) (λ k. k) h

pub masks_tell : MasksTell
masks_tell vars later var c test x m ts bound same h = value_out vars later var c ts bound same x ∙ told vars later var c ts bound same test m (out-Expr x) h
