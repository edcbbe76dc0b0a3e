-- The rules on names in a whole text.
use Rattle.std.specs.Prelude.{◌≡◌, ℕ, List, [], ◌++◌, map, Some, None, Result, Ok, Err}
use Rattle.fin_base.specs.declared.refusal.Refusal.{Refusal}
use Rattle.fin_base.specs.declared.refusal.Fail.{Fail}
use Rattle.fin_base.specs.declared.refusal.Fail.TheVariants.{Refused, Memory}
use Rattle.fin_parse.specs.declared.trees.Text.{Text}
use Rattle.fin_parse.specs.Names.{Scope, facts_of, part_breaches, first_of}
use Rattle.fin_parse.specs.Leaves.{header_of}
use Rattle.fin_parse.specs.HeaderNames.{header_breaches, tensors_of}

-- outside all statements
abbrev pub outermost : Text → Scope
outermost trees = record { tensors = tensors_of [] (map header_of trees.headers); bound = []; begun = None }

-- the breaches of N1 to N3, in the order of the text
abbrev pub name_breaches : List ℕ → Text → List Refusal
name_breaches text trees = header_breaches text [] (map header_of trees.headers) ++ part_breaches 0 (map (facts_of text) trees.body) (outermost trees) (outermost trees)

-- there is none, or this is the first one
abbrev pub FirstBreach : List Refusal → Result (Unit {0}) Fail → Type 0
FirstBreach breaches (Ok u) = breaches ≡ []
FirstBreach breaches (Err (Refused r)) = Some r ≡ first_of breaches
FirstBreach breaches (Err (Memory a)) = Unit {0}
