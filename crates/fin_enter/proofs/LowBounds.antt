-- The code of a mask's bound names variables below the loop's own and locals that its steps take, and loads nothing.
use Rattle.std.proofs.Common.{◌≡◌, ◌⊎◌, ⊎_elim, inl, inr, ℕ, ◌<◌, ◌≤◌, Bool, true, false, ◌&&◌, if◌then◌else◌, List, [], ◌∷◌, Option, Some, None, refl, sym, ap, ◌∙◌, subst, arith}
use Rattle.std.proofs.lemmas.Bool.{ltb-true}
use Rattle.fin_base.specs.declared.terms.Op.{Op}
use Rattle.fin_ast.specs.declared.tree.Expr.{Expr, out-Expr}
use Rattle.fin_ast.specs.declared.tree.Expr.TheOpen.{Expr-F}
use Rattle.fin_ast.proofs.Nodes.{of_var, of_read, of_neg, of_two}
use Rattle.fin_ir.specs.declared.expression.IExpr.{IExpr}
use Rattle.fin_ir.specs.declared.expression.IExpr.TheVariants.{Neg}
use Rattle.fin_ir.proofs.Nodes as node
use Rattle.fin_looplet.specs.Names.{names_step, Names, loads_step, Loads}
use Rattle.fin_looplet.proofs.Exprs.{names_num, names_local, names_two, loads_num, loads_local, loads_two}
use Rattle.fin_read.specs.Values.{Heads, Lowered, rested_where, rested, is_shallow, two_after, value_code}
use Rattle.fin_read.proofs.ByKind.{Kinds, by_kind}
use Rattle.fin_read.proofs.Equations.{code_num, code_var, code_neg, code_two}
use Rattle.fin_simp.specs.Rest.{Test}
use Rattle.fin_simp.specs.Work.{is_comparison, bound_step, is_var, is_bound_of}
use Rattle.fin_stage.proofs.Alive.{left, right}
use Rattle.fin_enter.specs.Masked.{Tested, tested, tested_by, tested_in, and_tested, tested_among}

-- a variable below the loop's own, or a local from one on and before another
abbrev pub Below : ℕ → ℕ → ℕ → ℕ → Type 0
Below var from to y = (y < var) ⊎ ((from ≤ y) × (y < to))

pub below_more : (var from to from' to' y : ℕ) → from' ≤ from → to ≤ to' → Below var from to y → Below var from' to' y
below_more var from to from' to' y low high (inl k) = inl k
below_more var from to from' to' y low high (inr k) = let a = k.0 in let b = k.1 in inr (omega (arith, low, a), omega (arith, high, b))

pub record NamesLow (var from : ℕ) (v : Lowered) : Type 0 where
  pub grows : from ≤ v.next
  pub names : (y : ℕ) → Names y v.value → Below var from v.next y
  pub loads : (t : ℕ) → Loads t v.value → ⊥

names_neg : (x : ℕ) (a : IExpr) → Names x (Neg a) → Names x a
names_neg x a n = sym (ap (λ (f : ℕ → Bool). f x) (node.of_neg (ℕ → Bool) names_step a)) ∙ n

loads_neg : (t : ℕ) (a : IExpr) → Loads t (Neg a) → Loads t a
loads_neg t a n = sym (ap (λ (f : ℕ → Bool). f t) (node.of_neg (ℕ → Bool) loads_step a)) ∙ n

module _ (h : Heads) (var : ℕ) where
  abbrev Low : Expr → Type 0
  Low x = (next : ℕ) → is_bound_of var x ≡ true → NamesLow var next (value_code h x next)

  rested_by : (shallow : Bool) (from : ℕ) (v : Lowered) → NamesLow var from v → NamesLow var from (rested_where shallow v)
  rested_by true from v k = record { grows = k.grows; names = k.names; loads = k.loads }
  rested_by false from v k = record {
    grows = omega (arith, k.grows);
    names = λ y n. let same = names_local y v.next n in inr (omega (arith, same, k.grows), omega (arith, same));
    loads = λ t n. loads_local t v.next n;
  }

  rested_low : (from : ℕ) (v : Lowered) → NamesLow var from v → NamesLow var from (rested v)
  rested_low from v k = rested_by (is_shallow v.depth) from v k

  two_low : (o : Op) (from : ℕ) (a b : Lowered) → NamesLow var from a → NamesLow var a.next b → NamesLow var from (two_after o a b)
  two_low o from a b p q = record {
    grows = omega (arith, p.grows, q.grows);
    names = λ y n. ⊎_elim
        (λ (k : Names y a.value). below_more var from a.next from b.next y (omega arith) q.grows (p.names y k))
        (λ (k : Names y b.value). below_more var a.next b.next from b.next y p.grows (omega arith) (q.names y k))
        (names_two y o a.value b.value n);
    loads = λ t n. ⊎_elim (λ (k : Loads t a.value). p.loads t k) (λ (k : Loads t b.value). q.loads t k) (loads_two t o a.value b.value n);
  }

  low_kinds : Kinds Low
  low_kinds = record {
    num = λ n next b. subst (NamesLow var next) (sym (code_num h next n))
        (record { grows = omega arith; names = λ y k. absurd (names_num y n k); loads = λ t k. loads_num t n k });
    var = λ v line next b. (
        let less : v < var = ltb-true v var (sym (of_var Bool (bound_step var) v line) ∙ b) in
        subst (NamesLow var next) (sym (code_var h next v line))
        (record { grows = omega arith; names = λ y k. (let same = names_local y v k in inl (omega (arith, same, less))); loads = λ t k. loads_local t v k }));
    read = λ tensor at line next b. (let x : false ≡ true = sym (of_read Bool (bound_step var) tensor at line) ∙ b in cc);
    neg = λ x f next b. (
        let v = value_code h x next in
        let k = rested_low next v (f next (sym (of_neg Bool (bound_step var) x) ∙ b)) in
        subst (NamesLow var next) (sym (code_neg h next x))
        (record { grows = k.grows; names = λ y n. k.names y (names_neg y (rested v).value n); loads = λ t n. k.loads t (loads_neg t (rested v).value n) }));
    two = λ o x y f g next b. (
        let both : (is_bound_of var x && is_bound_of var y) ≡ true = sym (of_two Bool (bound_step var) o x y) ∙ b in
        let p = rested_low next (value_code h x next) (f next (left (is_bound_of var x) (is_bound_of var y) both)) in
        let middle = (rested (value_code h x next)).next in
        subst (NamesLow var next) (sym (code_two h next o x y))
        (two_low o next (rested (value_code h x next)) (value_code h y middle) p (g middle (right (is_bound_of var x) (is_bound_of var y) both))));
  }

  pub bound_low : (x : Expr) → Low x
  bound_low = by_kind Low low_kinds

-- ---- what a test compares the loop's variable with is a bound

module _ (var : ℕ) where
  abbrev IsBound : Option Tested → Type 0
  IsBound None = Unit {0}
  IsBound (Some t) = is_bound_of var t.bound ≡ true

  abbrev pub AreBounds : List Tested → Type 0
  AreBounds [] = Unit {0}
  AreBounds (t ∷ ts) = (is_bound_of var t.bound ≡ true) × AreBounds ts

  last_true : (a b c : Bool) → (a && (b && c)) ≡ true → c ≡ true
  last_true a b c h = right b c (right a (b && c) h)

  by_sides : (test : ℕ) (o : Op) (x y : Expr) (a b : Bool) → (a ≡ true → is_bound_of var y ≡ true) → (b ≡ true → is_bound_of var x ≡ true)
      → IsBound (if a then Some (tested test o true y) else (if b then Some (tested test o false x) else None))
  by_sides test o x y true b f g = f refl
  by_sides test o x y false true f g = g refl
  by_sides test o x y false false f g = tt

  one_bound : (test : ℕ) (x : Expr-F Expr) → IsBound (tested_by var test x)
  one_bound test (Expr-F.Num n) = tt
  one_bound test (Expr-F.Var x line) = tt
  one_bound test (Expr-F.Read tensor at line) = tt
  one_bound test (Expr-F.Neg inner) = tt
  one_bound test (Expr-F.Two o x y) =
      by_sides test o x y (is_comparison o && (is_var var x && is_bound_of var y)) (is_comparison o && (is_var var y && is_bound_of var x))
      (last_true (is_comparison o) (is_var var x) (is_bound_of var y)) (last_true (is_comparison o) (is_var var y) (is_bound_of var x))

  and_bound : (o : Option Tested) (ts : List Tested) → IsBound o → AreBounds ts → AreBounds (and_tested o ts)
  and_bound None ts h k = k
  and_bound (Some t) ts h k = (h, k)

  pub all_bounds : (ts : List Test) → AreBounds (tested_among var ts)
  all_bounds [] = tt
  all_bounds (t ∷ ts) = and_bound (tested_in var t) (tested_among var ts) (one_bound t.test (out-Expr t.expr)) (all_bounds ts)
