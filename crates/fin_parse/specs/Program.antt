-- The program that a text stands for.
use Rattle.std.specs.Prelude.{◌≡◌, ℕ, List, [], map, Result, Ok, Err}
use Rattle.fin_base.specs.declared.refusal.Fail.{Fail}
use Rattle.fin_ast.specs.declared.program.Program.{Program}
use Rattle.fin_lex.specs.declared.token.Token.{Token}
use Rattle.fin_parse.specs.declared.trees.Text.{Text}
use Rattle.fin_parse.specs.Elaboration.{statements_of}
use Rattle.fin_parse.specs.HeaderNames.{tensors_of}
use Rattle.fin_parse.specs.HeaderTrees.{AreHeadersOf}
use Rattle.fin_parse.specs.Leaves.{header_of}
use Rattle.fin_parse.specs.Verdict.{IsAccepted, Verdict}

-- the headers and statements are those of the trees, and that is the line behind the text
pub record IsProgram (text : List ℕ) (trees : Text) (last : ℕ) (program : Program) : Type 0 where
  pub headers : AreHeadersOf text (map header_of trees.headers) program.headers
  pub body : program.body ≡ statements_of text (tensors_of [] (map header_of trees.headers)) trees.body
  pub behind : program.last ≡ last

-- the tokens stand for trees that break no rule, and these for the program
abbrev pub StandsFor : List ℕ → List Token → ℕ → Program → Type 0
StandsFor text tokens last program = (trees : Text) × IsAccepted text tokens trees × IsProgram text trees last program

abbrev pub Parsed : List ℕ → List Token → ℕ → Result Program Fail → Type 0
Parsed text tokens last (Ok program) = StandsFor text tokens last program
Parsed text tokens last (Err fail) = Verdict text tokens last (Err fail)

-- the tokens stand for no other program
abbrev pub OnlyProgram : List ℕ → List Token → ℕ → Program → Type 0
OnlyProgram text tokens last program = (other : Program) → StandsFor text tokens last other → other ≡ program
