-- The steps of an expression leave each local before its first free one as it was.
use Rattle.std.proofs.Common.{◌≡◌, ℕ, ◌+◌, ◌≤◌, Bool, true, false, List, [], ◌∷◌, ◌++◌, length, refl, sym, ◌∙◌, subst, ℤ, arith}
use Rattle.std.specs.Prelude.{slice_set}
use Rattle.std.proofs.lemmas.List.{length-set}
use Rattle.fin_tensor.specs.declared.format.Level.{Level}
use Rattle.fin_tensor.specs.declared.format.Level.TheVariants as level
use Rattle.fin_ast.specs.declared.tree.Expr.{Expr}
use Rattle.fin_ast.specs.declared.tree.Expr.TheVariants as e
use Rattle.fin_ir.specs.declared.expression.IExpr.{IExpr}
use Rattle.fin_ir.specs.Machine.{Tensor}
use Rattle.fin_ir.specs.Value.{value_of}
use Rattle.fin_read.specs.Steps.{Step, stepped, Agree}
use Rattle.fin_read.specs.Reads.{place_of, level_steps, levels_steps, last_step, read_steps}
use Rattle.fin_read.specs.Values.{Heads, Lowered, is_shallow, rested_where, rested, value_code}
use Rattle.fin_read.proofs.ByKind.{Kinds, by_kind}
use Rattle.fin_read.proofs.Equations.{code_num, code_var, code_read, code_neg, code_two, code_grows, rested_grows}
use Rattle.fin_read.proofs.Stepping.{agree_refl, agree_then, agree_set}

-- each step sets a local from that number on
abbrev pub AllFrom : ℕ → List Step → Type 0
AllFrom n [] = Unit {0}
AllFrom n (s ∷ steps) = (n ≤ s.local) × AllFrom n steps

from_both : (n : ℕ) (a b : List Step) → AllFrom n a → AllFrom n b → AllFrom n (a ++ b)
from_both n [] b f g = g
from_both n (s ∷ a) b f g = (f.0, from_both n a b f.1 g)

from_less : (m n : ℕ) (steps : List Step) → m ≤ n → AllFrom n steps → AllFrom m steps
from_less m n [] le f = tt
from_less m n (s ∷ steps) le f = (omega (arith, le, f.0), from_less m n steps le f.1)

-- ---- accesses

level_from : (tensor k at : ℕ) (l : Level) (n : ℕ) (x : IExpr) → AllFrom at (level_steps (place_of tensor k at) l n x)
level_from tensor k at level.Dense n x = (omega arith, tt)
level_from tensor k at level.List n x = (omega arith, (omega arith, tt))
level_from tensor k at level.Dict n x = (omega arith, (omega arith, tt))
level_from tensor k at level.Runs n x = (omega arith, (omega arith, tt))
level_from tensor k at level.Band n x = (omega arith, (omega arith, tt))

levels_from : (tensor k at : ℕ) (ls : List Level) (ns : List ℕ) (xs : List IExpr) → AllFrom at (levels_steps (place_of tensor k at) ls ns xs)
levels_from tensor k at [] ns xs = tt
levels_from tensor k at (l ∷ ls) [] xs = tt
levels_from tensor k at (l ∷ ls) (n ∷ ns) [] = tt
levels_from tensor k at (l ∷ ls) (n ∷ ns) (x ∷ xs) =
    from_both at (level_steps (place_of tensor k at) l n x) (levels_steps (place_of tensor (k + 1) at) ls ns xs) (level_from tensor k at l n x) (levels_from tensor (k + 1) at ls ns xs)

read_from : (tensor : ℕ) (levels : List Level) (shape : List ℕ) (fill : ℤ) (xs : List IExpr) (at : ℕ) → AllFrom at (read_steps tensor levels shape fill xs at)
read_from tensor levels shape fill xs at =
    (omega arith, from_both at (levels_steps (place_of tensor 0 at) levels shape xs) (last_step tensor fill at ∷ []) (levels_from tensor 0 at levels shape xs) (omega arith, tt))

-- ---- expressions

rest_from : (n : ℕ) (shallow : Bool) (v : Lowered) → n ≤ v.next → AllFrom n v.steps → AllFrom n (rested_where shallow v).steps
rest_from n true v le f = from_both n v.steps [] f tt
rest_from n false v le f = from_both n v.steps _ f (le, tt)

module _ (h : Heads) where
  abbrev From : Expr → Type 0
  From x = (next : ℕ) → AllFrom next (value_code h x next).steps

  by_code : (next : ℕ) (v w : Lowered) → v ≡ w → AllFrom next w.steps → AllFrom next v.steps
  by_code next v w same f = subst (λ (u : Lowered). AllFrom next u.steps) (sym same) f

  rested_from : (next : ℕ) (x : Expr) → From x → AllFrom next (rested (value_code h x next)).steps
  rested_from next x f = rest_from next (is_shallow (value_code h x next).depth) (value_code h x next) (code_grows h x next) (f next)

  kinds : Kinds From
  kinds = record {
    num = λ n next. by_code next (value_code h (e.Num n) next) _ (code_num h next n) tt;
    var = λ var line next. by_code next (value_code h (e.Var var line) next) _ (code_var h next var line) tt;
    read = λ tensor at line next. by_code next (value_code h (e.Read tensor at line) next) _ (code_read h next tensor at line) (read_from tensor _ _ _ _ next);
    neg = λ x f next. by_code next (value_code h (e.Neg x) next) _ (code_neg h next x) (rested_from next x f);
    two = λ op x y f g next.
        let a = rested (value_code h x next) in
        let le : next ≤ a.next = omega (arith, code_grows h x next, rested_grows h (value_code h x next)) in
        by_code next (value_code h (e.Two op x y) next) _ (code_two h next op x y) (from_both next a.steps (value_code h y a.next).steps (rested_from next x f) (from_less next a.next (value_code h y a.next).steps le (g a.next)));
  }

  pub code_from : (x : Expr) → From x
  code_from = by_kind From kinds

-- ---- what they leave

pub stepped_long : (ts : ℕ → Tensor) (steps : List Step) (ls : List ℤ) → length (stepped ts steps ls) ≡ length ls
stepped_long ts [] ls = refl
stepped_long ts (s ∷ steps) ls = stepped_long ts steps (slice_set ls s.local (value_of s.value ts ls)) ∙ length-set ls s.local (value_of s.value ts ls)

pub stepped_kept : (ts : ℕ → Tensor) (n : ℕ) (steps : List Step) (ls : List ℤ) → AllFrom n steps → Agree n (stepped ts steps ls) ls
stepped_kept ts n [] ls f = agree_refl n ls
stepped_kept ts n (s ∷ steps) ls f =
    let set : List ℤ = slice_set ls s.local (value_of s.value ts ls) in
    agree_then n (stepped ts steps set) set ls (stepped_kept ts n steps set f.1) (agree_set n s.local ls (value_of s.value ts ls) f.0)
