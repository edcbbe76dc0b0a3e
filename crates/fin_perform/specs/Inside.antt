-- The place inside a loop or a let: its variable's local has a number more.
use Rattle.std.specs.Prelude.{◌≡◌, ℕ, ◌<◌, false, Bool, ◌∷◌, length, slice_set, ℤ}
use Rattle.fin_ast.specs.declared.checked.Checked.{Checked}
use Rattle.fin_ast.specs.Scope.{Scope, within_loop, within_let}
use Rattle.fin_ast.specs.Value.{Numbers}
use Rattle.fin_ir.specs.declared.expression.IExpr.TheVariants.{Local}
use Rattle.fin_nest.specs.Performs.{Place}
use Rattle.fin_perform.specs.Bodies.{IsInside}
use Rattle.fin_perform.specs.Standing.{StandsIn}

-- inside, where the code binds fewer variables
abbrev pub place_inside : Place → (ℕ → Bool) → ℕ → ℤ → Place
place_inside p binds var z = record { facts = (Local var, z) ∷ p.facts; steady = p.steady; binds = binds; next = p.next }

-- it is a place inside, in the scope with the variable
pub record InsideStands (c : Checked) (sc : Scope) (vars : Numbers) (p : Place) (binds : ℕ → Bool) (var : ℕ) (z : ℤ) : Type 0 where
  pub inside : IsInside p (place_inside p binds var z) var z
  pub in_let : StandsIn c (within_let sc var) (slice_set vars var z) (place_inside p binds var z)
  pub in_loop : StandsIn c (within_loop sc var) (slice_set vars var z) (place_inside p binds var z)

-- where the body's code binds neither the variable nor what the code around doesn't bind
abbrev pub PlacesInside : Type 0
PlacesInside = (c : Checked) (sc : Scope) (vars : Numbers) (p : Place) (binds : ℕ → Bool) (var : ℕ) (z : ℤ)
    → StandsIn c sc vars p → var < p.next → var < length vars → binds var ≡ false
    → ((x : ℕ) → p.binds x ≡ false → binds x ≡ false) → InsideStands c sc vars p binds var z
