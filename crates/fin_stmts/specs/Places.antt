-- Where codes are made, and a loop there.
use Rattle.std.specs.Prelude.{◌≡◌, ℕ, ◌≤◌, ℤ, List, ◌∷◌, Option, Some, None, IfSome}
use Rattle.fin_ast.specs.declared.checked.Checked.{Checked}
use Rattle.fin_simp.specs.declared.facts.Bound.{Bound}
use Rattle.fin_simp.specs.declared.facts.Facts.{Facts}
use Rattle.fin_simp.specs.Facts.{marks}
use Rattle.fin_simp.specs.Numbered.{Here, here_at}
use Rattle.fin_simp.specs.Work.{Context}
use Rattle.fin_simp.specs.Wording.{KnowsWords}
use Rattle.fin_perform.specs.Layouts.{variables_in}
use Rattle.fin_stmts.specs.declared.place.Place.{Place}

-- ---- places

abbrev pub context_by : Option Facts → Context
context_by None = None
context_by (Some f) = Some (marks f)

abbrev pub context_of : Place → Context
context_of p = context_by p.known

abbrev pub here_of : Place → Here
here_of p = here_at p.read p.test

-- what is known there is words, and the first free local is behind those of the variables
pub record IsPlaced (c : Checked) (p : Place) : Type 0 where
  pub words : IfSome (context_of p) KnowsWords
  pub free : variables_in c ≤ p.next

-- where something is known, these are the variables that are bound, and one more
abbrev pub is_with : Option Facts → List Bound → ℕ → Option ℤ → Type 0
is_with known bound var number = IfSome known (λ (f : Facts). bound ≡ record { var = var; number = number } ∷ f.bound.now)
