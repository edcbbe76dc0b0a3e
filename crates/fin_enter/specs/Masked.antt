-- The masks among what remains of a body's tests, with their bounds as expressions; and the bounds' code, one after
-- another.
use Rattle.std.specs.Prelude.{◌≡◌, ℕ, ◌+◌, ◌≤◌, Bool, true, false, ◌&&◌, if◌then◌else◌, List, [], ◌∷◌, ◌++◌, map, length, ℤ, Option, Some, None}
use Rattle.fin_base.specs.declared.terms.Op.{Op}
use Rattle.fin_ast.specs.declared.tree.Expr.{Expr, out-Expr}
use Rattle.fin_ast.specs.declared.tree.Expr.TheOpen.{Expr-F}
use Rattle.fin_ast.specs.Scope.{Scope, is_named_expr}
use Rattle.fin_ast.specs.Value.{Numbers, value_of}
use Rattle.fin_looplet.specs.View.{Store, value}
use Rattle.fin_read.specs.Steps.{Step, stepped, Agree}
use Rattle.fin_read.specs.Values.{Heads, value_code}
use Rattle.fin_simp.specs.Rest.{Test}
use Rattle.fin_simp.specs.Work.{Mask, is_comparison, is_var, is_bound_of, masks_among}
use Rattle.fin_enter.specs.Bounds.{HaveNumbers}

-- a test that compares a loop's variable with a bound
pub record Tested : Type 0 where
  pub test : ℕ
  pub op : Op
  pub bare_first : Bool
  pub bound : Expr

abbrev pub tested : ℕ → Op → Bool → Expr → Tested
tested test o bare_first bound = record { test = test; op = o; bare_first = bare_first; bound = bound }

abbrev pub tested_by : ℕ → ℕ → Expr-F Expr → Option Tested
tested_by var test (Expr-F.Two o left right) =
    if is_comparison o && (is_var var left && is_bound_of var right) then Some (tested test o true right)
    else (if is_comparison o && (is_var var right && is_bound_of var left) then Some (tested test o false left) else None)
tested_by var test _ = None

abbrev pub tested_in : ℕ → Test → Option Tested
tested_in var t = tested_by var t.test (out-Expr t.expr)

abbrev pub and_tested : Option Tested → List Tested → List Tested
and_tested None ms = ms
and_tested (Some m) ms = m ∷ ms

abbrev pub tested_among : ℕ → List Test → List Tested
tested_among var [] = []
tested_among var (t ∷ ts) = and_tested (tested_in var t) (tested_among var ts)

-- with the number that the bound has where the loop is entered
abbrev pub as_mask : Numbers → Tested → Mask
as_mask vars t = record { test = t.test; op = t.op; bare_first = t.bare_first; bound = value_of t.bound vars (λ tensor. None) }

-- they are the masks that the definition of work has
abbrev pub MasksAreTests : Type 0
MasksAreTests = (vars : Numbers) (var : ℕ) (tests : List Test) → masks_among vars var tests ≡ map (as_mask vars) (tested_among var tests)

-- ---- the code of their bounds, from a first free local on

abbrev pub bound_steps : Heads → List Tested → ℕ → List Step
bound_steps h [] next = []
bound_steps h (t ∷ ts) next = (value_code h t.bound next).steps ++ bound_steps h ts (value_code h t.bound next).next

abbrev pub behind_bounds : Heads → List Tested → ℕ → ℕ
behind_bounds h [] next = next
behind_bounds h (t ∷ ts) next = behind_bounds h ts (value_code h t.bound next).next

-- ---- what it leaves

-- each bound is named in the scope, and has neither reads nor names that the loop binds
pub record CanBound (sc : Scope) (var : ℕ) (t : Tested) : Type 0 where
  pub named : is_named_expr t.bound sc ≡ true
  pub bound : is_bound_of var t.bound ≡ true

abbrev pub AllCanBound : Scope → ℕ → List Tested → Type 0
AllCanBound sc var [] = Unit {0}
AllCanBound sc var (t ∷ ts) = CanBound sc var t × AllCanBound sc var ts

-- the bounds have their values
abbrev pub AreBounds : Store → List ℤ → Heads → Numbers → List Tested → ℕ → Type 0
AreBounds ts ls h vars [] next = Unit {0}
AreBounds ts ls h vars (t ∷ ts') next = (value_of t.bound vars (λ tensor. None) ≡ value ts ls (value_code h t.bound next).value) × AreBounds ts ls h vars ts' (value_code h t.bound next).next

-- the locals before the first are as they were, and the bounds have their values wherever these are kept
pub record AreBounded (ts : Store) (h : Heads) (vars : Numbers) (tests : List Tested) (next : ℕ) (ls : List ℤ) : Type 0 where
  pub long : length (stepped ts (bound_steps h tests next) ls) ≡ length ls
  pub kept : Agree next (stepped ts (bound_steps h tests next) ls) ls
  pub grows : next ≤ behind_bounds h tests next
  pub found : (ks : List ℤ) → Agree (behind_bounds h tests next) ks (stepped ts (bound_steps h tests next) ls) → AreBounds ts ks h vars tests next

abbrev pub AllBoundsMean : Type 0
AllBoundsMean = (ts : Store) (h : Heads) (sc : Scope) (vars : Numbers) (var : ℕ) (tests : List Tested) (next : ℕ) (ls : List ℤ)
    → AllCanBound sc var tests → var ≤ next → HaveNumbers sc var vars ls → behind_bounds h tests next + 1 ≤ length ls
    → AreBounded ts h vars tests next ls
