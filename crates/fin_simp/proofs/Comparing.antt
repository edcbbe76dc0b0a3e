-- The masks of a loop compare.
use Rattle.std.proofs.Common.{◌≡◌, ℕ, Bool, true, false, ◌&&◌, List, [], ◌∷◌, Option, Some, None, refl, ap, ◌∙◌, if◌then◌else◌}
use Rattle.std.specs.List.{list_all}
use Rattle.fin_ast.specs.declared.tree.Expr.{Expr, out-Expr}
use Rattle.fin_ast.specs.declared.tree.Expr.TheOpen.{Expr-F}
use Rattle.fin_ast.specs.Value.{Numbers}
use Rattle.fin_simp.specs.Rest.{Test}
use Rattle.fin_simp.specs.Work.{Mask, is_comparison, is_var, is_bound_of, mask_by, and_mask, masks_among}
use Rattle.fin_simp.specs.Costs.{MasksCompare}

abbrev compares_if : Option Mask → Bool
compares_if None = true
compares_if (Some m) = is_comparison m.op

picked : (c a b : Bool) (m m' : Mask) → is_comparison m.op ≡ c → is_comparison m'.op ≡ c → compares_if (if c && a then Some m else (if c && b then Some m' else None)) ≡ true
picked false a b m m' h k = refl
picked true true b m m' h k = h
picked true false true m m' h k = k
picked true false false m m' h k = refl

mask_compares : (vars : Numbers) (var test : ℕ) (x : Expr-F Expr) → compares_if (mask_by vars var test x) ≡ true
mask_compares vars var test (Expr-F.Num n) = refl
mask_compares vars var test (Expr-F.Var v line) = refl
mask_compares vars var test (Expr-F.Read tensor at line) = refl
mask_compares vars var test (Expr-F.Neg inner) = refl
mask_compares vars var test (Expr-F.Two o left right) = picked (is_comparison o) (is_var var left && is_bound_of var right) (is_var var right && is_bound_of var left) _ _ refl refl

also_compares : (m : Option Mask) (ms : List Mask) → compares_if m ≡ true → list_all (λ (k : Mask). is_comparison k.op) ms ≡ true → list_all (λ (k : Mask). is_comparison k.op) (and_mask m ms) ≡ true
also_compares None ms h k = k
also_compares (Some m) ms h k = ap (λ (b : Bool). b && list_all (λ (x : Mask). is_comparison x.op) ms) h ∙ k

all_compare : (vars : Numbers) (var : ℕ) (ts : List Test) → list_all (λ (k : Mask). is_comparison k.op) (masks_among vars var ts) ≡ true
all_compare vars var [] = refl
all_compare vars var (t ∷ ts) = also_compares (mask_by vars var t.test (out-Expr t.expr)) (masks_among vars var ts) (mask_compares vars var t.test (out-Expr t.expr)) (all_compare vars var ts)

pub masks_compare : MasksCompare
masks_compare vars var rest = all_compare vars var rest.tests
