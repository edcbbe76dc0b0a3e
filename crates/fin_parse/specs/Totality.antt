-- Each list of tokens has a verdict.
use Rattle.std.specs.Prelude.{◌⊎◌, ℕ, List, Err}
use Rattle.fin_base.specs.declared.refusal.Fail.TheVariants.{Refused}
use Rattle.fin_base.specs.declared.refusal.Refusal.{Refusal}
use Rattle.fin_ast.specs.declared.program.Program.{Program}
use Rattle.fin_lex.specs.declared.token.Token.{Token}
use Rattle.fin_parse.specs.Program.{StandsFor}
use Rattle.fin_parse.specs.Verdict.{Verdict}

-- tokens stand for a program, or break a rule of the grammar, of names or of forms on a line
abbrev pub StandsOrBreaks : List ℕ → List Token → ℕ → Type 0
StandsOrBreaks text tokens last =
    ((program : Program) × StandsFor text tokens last program) ⊎ ((refusal : Refusal) × Verdict text tokens last (Err (Refused refusal)))

abbrev pub ProgramOrBreach : Type 0
ProgramOrBreach = (text : List ℕ) (tokens : List Token) (last : ℕ) → StandsOrBreaks text tokens last
