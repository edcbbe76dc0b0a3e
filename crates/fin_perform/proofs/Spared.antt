-- Codes that spare what stays: steps that assign locals from a first one on, and an update in the box.
use Rattle.std.proofs.Common.{◌≡◌, ℕ, ◌≤◌, Bool, true, false, ◌||◌, List, [], ◌∷◌, ◌++◌, map, refl, sym, ap, ◌∙◌, subst, arith}
use Rattle.std.specs.Prelude.{not}
use Rattle.fin_base.specs.declared.reduce.Reduce.{Reduce}
use Rattle.fin_tensor.specs.declared.format.Level.{Level}
use Rattle.fin_tensor.specs.declared.format.Level.TheVariants as level
use Rattle.fin_ast.specs.declared.tree.Expr.{Expr}
use Rattle.fin_ast.specs.declared.tree.Expr.TheVariants as e
use Rattle.fin_ast.specs.declared.tree.Index.{Index}
use Rattle.fin_ir.specs.declared.code.Code.{Code}
use Rattle.fin_ir.specs.declared.code.Code.TheVariants.{Charge, Update}
use Rattle.fin_ir.specs.declared.expression.IExpr.{IExpr}
use Rattle.fin_ir.specs.Declares.{Tensors, some_of, declares_step, declares}
use Rattle.fin_ir.proofs.Nodes.{of_assign, of_charge, of_when, of_update}
use Rattle.fin_stage.proofs.Alive.{left, right, both}
use Rattle.fin_read.specs.declared.parts.Place.{Place}
use Rattle.fin_read.specs.Reads.{below, level_steps, levels_steps, last_step, place_of, in_box}
use Rattle.fin_read.specs.Steps.{Step, assign_of}
use Rattle.fin_read.specs.Values.{Heads, Lowered, is_shallow, rest_steps, rested, value_code, index_code, prelude, shape_of}
use Rattle.fin_read.proofs.ByKind.{Kinds, by_kind}
use Rattle.fin_read.proofs.Equations.{code_num, code_var, code_read, code_neg, code_two, code_grows, rested_grows}
use Rattle.fin_nest.specs.Sparing.{Staying, all_spare, spare_step, spares}
use Rattle.fin_perform.specs.Codes.{put_code, unpaid_update}

-- ---- steps that assign locals from one on

abbrev pub From : ℕ → List Step → Type 0
From n [] = Unit {0}
From n (s ∷ steps) = (n ≤ s.local) × From n steps

pub from_append : (n : ℕ) (steps more : List Step) → From n steps → From n more → From n (steps ++ more)
from_append n [] more f g = g
from_append n (s ∷ steps) more f g = (f.0, from_append n steps more f.1 g)

pub from_less : (n m : ℕ) → n ≤ m → (steps : List Step) → From m steps → From n steps
from_less n m le [] f = tt
from_less n m le (s ∷ steps) f = (let own = f.0 in omega (arith, le, own), from_less n m le steps f.1)

level_from : (p : Place) (l : Level) (n : ℕ) (x : IExpr) → From p.at (level_steps p l n x)
level_from p level.Dense n x = (omega arith, tt)
level_from p level.List n x = (omega arith, (omega arith, tt))
level_from p level.Dict n x = (omega arith, (omega arith, tt))
level_from p level.Runs n x = (omega arith, (omega arith, tt))
level_from p level.Band n x = (omega arith, (omega arith, tt))

pub levels_from : (p : Place) (ls : List Level) (ns : List ℕ) (xs : List IExpr) → From p.at (levels_steps p ls ns xs)
levels_from p [] ns xs = tt
levels_from p (l ∷ ls) [] xs = tt
levels_from p (l ∷ ls) (n ∷ ns) [] = tt
levels_from p (l ∷ ls) (n ∷ ns) (x ∷ xs) = from_append p.at (level_steps p l n x) (levels_steps (below p) ls ns xs) (level_from p l n x) (levels_from (below p) ls ns xs)

-- ---- the code of an expression

rest_from : (shallow : Bool) (value : IExpr) (next n : ℕ) → n ≤ next → From n (rest_steps shallow value next)
rest_from true value next n le = tt
rest_from false value next n le = (le, tt)

rested_from : (v : Lowered) (n : ℕ) → n ≤ v.next → From n v.steps → From n (rested v).steps
rested_from v n le f = from_append n v.steps (rest_steps (is_shallow v.depth) v.value v.next) f (rest_from (is_shallow v.depth) v.value v.next n le)

module _ (h : Heads) where
  abbrev CodeFrom : Expr → Type 0
  CodeFrom x = (next : ℕ) → From next (value_code h x next).steps

  by_code : (next : ℕ) (v w : Lowered) → v ≡ w → From next w.steps → From next v.steps
  by_code next v w same f = subst (λ (u : Lowered). From next u.steps) (sym same) f

  kinds : Kinds CodeFrom
  kinds = record {
    num = λ n next. by_code next (value_code h (e.Num n) next) _ (code_num h next n) tt;
    var = λ var line next. by_code next (value_code h (e.Var var line) next) _ (code_var h next var line) tt;
    read = λ tensor at line next. by_code next (value_code h (e.Read tensor at line) next) _ (code_read h next tensor at line)
        (omega arith, from_append next _ (last_step tensor _ next ∷ []) (levels_from (place_of tensor 0 next) _ _ _) (omega arith, tt));
    neg = λ x f next. by_code next (value_code h (e.Neg x) next) _ (code_neg h next x) (rested_from (value_code h x next) next (code_grows h x next) (f next));
    two = λ o x y f g next.
        let first = value_code h x next in
        let a = rested first in
        let b = value_code h y a.next in
        let grown : next ≤ a.next = omega (arith, code_grows h x next, rested_grows h first) in
        by_code next (value_code h (e.Two o x y) next) _ (code_two h next o x y)
        (from_append next a.steps b.steps (rested_from first next (code_grows h x next) (f next)) (from_less next a.next grown b.steps (g a.next)));
  }

  pub code_from : (x : Expr) → CodeFrom x
  code_from = by_kind CodeFrom kinds

-- ---- what spares

module _ (s : Staying) where
  abbrev pub Spared : List Code → Type 0
  Spared cs = all_spare (map (spares s) cs) ≡ true

  pub spared_append : (cs ds : List Code) → Spared cs → Spared ds → Spared (cs ++ ds)
  spared_append [] ds f g = g
  spared_append (c ∷ cs) ds f g =
      let own : spares s c ≡ true = left (spares s c) (all_spare (map (spares s) cs)) f in
      both (spares s c) (all_spare (map (spares s) (cs ++ ds))) own (spared_append cs ds (right (spares s c) (all_spare (map (spares s) cs)) f) g)

  pub steps_spare : (n : ℕ) → ((y : ℕ) → n ≤ y → s.locals y ≡ false) → (steps : List Step) → From n steps → Spared (map assign_of steps)
  steps_spare n free [] f = refl
  steps_spare n free (x ∷ steps) f =
      both (spares s (assign_of x)) (all_spare (map (spares s) (map assign_of steps))) (of_assign Bool (spare_step s) x.local x.value ∙ ap not (free x.local f.0))
      (steps_spare n free steps f.1)

  -- an update in the box, and behind the steps of its value
  pub put_spares : (h : Heads) (t : ℕ) (at : List Index) (by : Reduce) (value : IExpr) → s.tensors t ≡ false → spares s (put_code h t at by value) ≡ true
  put_spares h t at by value free =
      let xs = map index_code at in
      of_when Bool (spare_step s) (in_box (shape_of h t) xs) (Update t xs by value) ∙ of_update Bool (spare_step s) t xs by value ∙ ap not free

  pub unpaid_spares : (h : Heads) (t : ℕ) (at : List Index) (by : Reduce) (x : Expr) (next : ℕ) → ((y : ℕ) → next ≤ y → s.locals y ≡ false) → s.tensors t ≡ false
      → Spared (unpaid_update h t at by (value_code h x next))
  unpaid_spares h t at by x next own free =
      spared_append (map assign_of (value_code h x next).steps) (put_code h t at by (value_code h x next).value ∷ [])
      (steps_spare next own (value_code h x next).steps (code_from h x next))
      (both (spares s (put_code h t at by (value_code h x next).value)) true (put_spares h t at by (value_code h x next).value free) refl)

-- ---- what declares nothing

pub neither : (a b : Bool) → a ≡ false → b ≡ false → (a || b) ≡ false
neither false b e f = f
neither true b e f = cc

pub first_not : (a b : Bool) → (a || b) ≡ false → a ≡ false
first_not false b e = refl
first_not true b e = cc

pub second_not : (a b : Bool) → (a || b) ≡ false → b ≡ false
second_not false b e = e
second_not true b e = cc

pub some_append : (t : ℕ) (cs ds : List Code) → some_of (map declares cs) t ≡ false → some_of (map declares ds) t ≡ false → some_of (map declares (cs ++ ds)) t ≡ false
some_append t [] ds e f = f
some_append t (c ∷ cs) ds e f = neither (declares c t) (some_of (map declares (cs ++ ds)) t) (first_not (declares c t) _ e) (some_append t cs ds (second_not (declares c t) _ e) f)

pub steps_declare_none : (t : ℕ) (steps : List Step) → some_of (map declares (map assign_of steps)) t ≡ false
steps_declare_none t [] = refl
steps_declare_none t (x ∷ steps) = ap (λ (own : Tensors). own t || some_of (map declares (map assign_of steps)) t) (of_assign Tensors declares_step x.local x.value) ∙ steps_declare_none t steps

pub put_declares_none : (h : Heads) (t' : ℕ) (at : List Index) (by : Reduce) (value : IExpr) (t : ℕ) → declares (put_code h t' at by value) t ≡ false
put_declares_none h t' at by value t =
    let xs = map index_code at in
    ap (λ (own : Tensors). own t) (of_when Tensors declares_step (in_box (shape_of h t') xs) (Update t' xs by value))
    ∙ ap (λ (own : Tensors). own t) (of_update Tensors declares_step t' xs by value)

pub unpaid_declares_none : (h : Heads) (t' : ℕ) (at : List Index) (by : Reduce) (v : Lowered) (t : ℕ) → some_of (map declares (unpaid_update h t' at by v)) t ≡ false
unpaid_declares_none h t' at by v t =
    some_append t (map assign_of v.steps) (put_code h t' at by v.value ∷ []) (steps_declare_none t v.steps)
    (neither (declares (put_code h t' at by v.value) t) false (put_declares_none h t' at by v.value t) refl)
