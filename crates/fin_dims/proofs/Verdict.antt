-- From the classes to the verdict.
use Rattle.std.proofs.Common.{◌≡◌, subst, List, Option}
use Rattle.std.specs.Option.{option_or}
use Rattle.fin_base.specs.declared.refusal.Refusal.{Refusal}
use Rattle.fin_base.specs.declared.refusal.Fail.{Fail}
use Rattle.fin_base.specs.declared.refusal.Fail.TheVariants.{Memory, Refused}
use Rattle.fin_ast.specs.declared.place.Place.{Place}
use Rattle.fin_ast.specs.declared.place.Tie.{Tie}
use Rattle.fin_ast.specs.declared.program.Program.{Program}
use Rattle.fin_ast.specs.Ties.{Shapes, ties_of}
use Rattle.fin_ast.specs.Infer.{shapes_in, places_in, ties_in}
use Rattle.fin_dims.specs.Settled.{IfRefused}

pub in_program : (P : Shapes → List Tie → Type 0) (p : Program) (inputs shapes : Shapes) (places : List Place) → shapes ≡ shapes_in p inputs → places ≡ places_in p → P shapes (ties_of places) → P (shapes_in p inputs) (ties_in p)
in_program P p inputs shapes places es ep h = subst (λ (s : Shapes). P s (ties_in p)) es (subst (λ (ps : List Place). P shapes (ties_of ps)) ep h)

pub refused_then : (e : Fail) (P Q : Refusal → Type 0) → ((r : Refusal) → P r → Q r) → IfRefused e P → IfRefused e Q
refused_then (Memory e) P Q f h = tt
refused_then (Refused r) P Q f h = f r h

pub all_four : (a a' b b' c c' d d' : Option Refusal) → a ≡ a' → b ≡ b' → c ≡ c' → d ≡ d' → option_or a (option_or b (option_or c d)) ≡ option_or a' (option_or b' (option_or c' d'))
all_four a a' b b' c c' d d' ea eb ec ed = cc
