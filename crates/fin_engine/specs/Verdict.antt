-- The verdict on a job: the first rule that it breaks, with its line, or what it is as a job that breaks none.
use Rattle.std.specs.Prelude.{◌≡◌, ℕ, ◌+◌, List, Some, None, Result, Ok, Err}
use Rattle.fin_base.specs.declared.refusal.Fail.{Fail}
use Rattle.fin_base.specs.declared.refusal.Fail.TheVariants.{Memory, Refused}
use Rattle.fin_base.specs.declared.refusal.Refusal.{Refusal}
use Rattle.fin_base.specs.declared.refusal.Rule.{Rule}
use Rattle.fin_base.specs.declared.refusal.Rule.TheVariants.{J2, S1}
use Rattle.fin_ast.specs.declared.checked.Dims.{Dims}
use Rattle.fin_ast.specs.declared.checked.Ways.{Ways}
use Rattle.fin_ast.specs.declared.program.Program.{Program}
use Rattle.fin_ast.specs.Infer.{IsFirstBreach, IsInferred}
use Rattle.fin_ast.specs.Insertion.{completed_program}
use Rattle.fin_ast.specs.Life.{life_in}
use Rattle.fin_ast.specs.Order.{order_in}
use Rattle.fin_ast.specs.Ties.{Shapes}
use Rattle.fin_lex.specs.declared.token.Token.{Token}
use Rattle.fin_lex.specs.Tokens.{AreTokens, BreaksAt}
use Rattle.fin_parcheck.specs.Safety.{parallel_in, ways_in}
use Rattle.fin_parse.specs.declared.trees.Text.{Text}
use Rattle.fin_parse.specs.Program.{StandsFor}
use Rattle.fin_parse.specs.Verdict.{IsAccepted, Verdict}
use Rattle.fin_text.specs.Reading.{ReadsTensors}
use Rattle.fin_engine.specs.declared.job.Job.{Job}
use Rattle.fin_engine.specs.Cut.{IsCut, IsEndless}
use Rattle.fin_engine.specs.Inputs.{Tensors, unmatched, inputs_of, shapes_of}
use Rattle.fin_engine.specs.Numbers.{told}

-- the program and the tensors of a job's text, which break no rule of their texts
pub record Reads (text : List ℕ) (program : Program) (given : Tensors) : Type 0 where
  pub body : List ℕ
  pub tensors : List ℕ
  pub last : ℕ
  pub cut : IsCut text body tensors last
  pub tokens : List Token
  pub lexed : AreTokens body 1 tokens
  pub stands : StandsFor body tokens last program
  pub read : ReadsTensors tensors (last + 1) (Ok given)

-- the program after insertion of freeze and thaw
pub record IsCompletion (program whole : Program) : Type 0 where
  pub headers : whole.headers ≡ program.headers
  pub body : whole.body ≡ completed_program program
  pub last : whole.last ≡ program.last

-- the first breach of a program after insertion, whose inputs have these shapes
pub data BreaksWhole (whole : Program) (shapes : Shapes) (r : Refusal) : Type 0 where
  life : life_in whole ≡ Some r → BreaksWhole whole shapes r
  extents : life_in whole ≡ None → IsFirstBreach whole shapes r → BreaksWhole whole shapes r
  order : (dims : Dims) → life_in whole ≡ None → IsInferred whole shapes dims → order_in whole ≡ Some r → BreaksWhole whole shapes r
  parallel : (dims : Dims) → life_in whole ≡ None → IsInferred whole shapes dims → order_in whole ≡ None → parallel_in whole ≡ Some r → BreaksWhole whole shapes r

-- a program after insertion that breaks no rule, with its extents
pub record KeepsWhole (whole : Program) (shapes : Shapes) (dims : Dims) : Type 0 where
  pub life : life_in whole ≡ None
  pub extents : IsInferred whole shapes dims
  pub order : order_in whole ≡ None
  pub parallel : parallel_in whole ≡ None

-- with its ways
abbrev pub ChecksWhole : Program → Shapes → Result (Dims × Ways) Fail → Type 0
ChecksWhole whole shapes (Ok found) = KeepsWhole whole shapes found.0 × (found.1 ≡ ways_in whole)
ChecksWhole whole shapes (Err (Refused refusal)) = BreaksWhole whole shapes refusal
ChecksWhole whole shapes (Err (Memory e)) = Unit {0}

-- the first breach of a program with its tensors
pub data BreaksLater (program : Program) (given : Tensors) (r : Refusal) : Type 0 where
  matching : unmatched program.headers given ≡ Some r → BreaksLater program given r
  behind : (whole : Program) → unmatched program.headers given ≡ None → IsCompletion program whole → BreaksWhole whole (shapes_of program.headers given) r → BreaksLater program given r

-- the job of a program with its tensors, which breaks no rule: the program after insertion, its extents and ways, and
-- its inputs
pub record IsJobOf (program : Program) (given : Tensors) (job : Job) : Type 0 where
  pub matched : unmatched program.headers given ≡ None
  pub completed : IsCompletion program job.checked.program
  pub kept : KeepsWhole job.checked.program (shapes_of program.headers given) job.checked.dims
  pub ways : job.checked.ways ≡ ways_in job.checked.program
  pub inputs : job.inputs ≡ inputs_of program.headers given

abbrev pub ChecksProgram : Program → Tensors → Result Job Fail → Type 0
ChecksProgram program given (Ok job) = IsJobOf program given job
ChecksProgram program given (Err (Refused refusal)) = BreaksLater program given refusal
ChecksProgram program given (Err (Memory e)) = Unit {0}

-- the job breaks this rule first, on this line
pub data Breaks (text : List ℕ) : Rule → ℕ → Type 0 where
  endless : IsEndless text → Breaks text J2 0
  no_token : (program tensors : List ℕ) (last line : ℕ) → IsCut text program tensors last → BreaksAt program 1 line → Breaks text S1 line
  no_program : (program tensors : List ℕ) (last : ℕ) (tokens : List Token) (refusal : Refusal) → IsCut text program tensors last
      → AreTokens program 1 tokens → Verdict program tokens last (Err (Refused refusal)) → Breaks text refusal.rule refusal.line
  no_tensors : (program tensors : List ℕ) (last : ℕ) (tokens : List Token) (trees : Text) (refusal : Refusal) → IsCut text program tensors last
      → AreTokens program 1 tokens → IsAccepted program tokens trees → ReadsTensors tensors (last + 1) (Err (Refused refusal)) → Breaks text refusal.rule refusal.line
  no_job : (program : Program) (given : Tensors) (refusal : Refusal) (reads : Reads text program given) → BreaksLater program given refusal → Breaks text (told reads.tokens refusal).rule (told reads.tokens refusal).line

-- the text is that of this job, which breaks no rule
abbrev pub IsJob : List ℕ → Job → Type 0
IsJob text job = (program : Program) × (given : Tensors) × Reads text program given × IsJobOf program given job

-- the job breaks no rule
abbrev pub Accepts : List ℕ → Type 0
Accepts text = (job : Job) × IsJob text job

abbrev pub Checks : List ℕ → Result Job Fail → Type 0
Checks text (Ok job) = IsJob text job
Checks text (Err (Refused refusal)) = Breaks text refusal.rule refusal.line
Checks text (Err (Memory e)) = Unit {0}
