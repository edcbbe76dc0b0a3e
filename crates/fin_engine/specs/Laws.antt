-- What is true of the texts of jobs.
use Rattle.std.specs.Prelude.{◌≡◌, ◌⊎◌, ℕ, List}
use Rattle.fin_base.specs.declared.refusal.Rule.{Rule}
use Rattle.fin_lex.specs.Tokens.{AreTokens}
use Rattle.fin_lex.specs.declared.token.Token.{Token}
use Rattle.fin_engine.specs.Cut.{IsCut, IsEndless}
use Rattle.fin_engine.specs.Verdict.{Accepts, Breaks, IsJob}
use Rattle.fin_engine.specs.declared.job.Job.{Job}

-- a text is cut into a program and tensors, or no line ends its program
abbrev pub CutOrEndless : Type 0
CutOrEndless = (text : List ℕ) → ((program : List ℕ) × (tensors : List ℕ) × (last : ℕ) × IsCut text program tensors last) ⊎ IsEndless text

-- a text with a program that has tokens, and tensors behind it
pub record IsLexed (text : List ℕ) : Type 0 where
  pub program : List ℕ
  pub tensors : List ℕ
  pub last : ℕ
  pub tokens : List Token
  pub cut : IsCut text program tensors last
  pub lexed : AreTokens program 1 tokens

-- a text breaks `J2` or `S1`, or its program has tokens
abbrev pub LexedOrBreach : Type 0
LexedOrBreach = (text : List ℕ) → ((rule : Rule) × (line : ℕ) × Breaks text rule line) ⊎ IsLexed text

-- the text is that of this job and of no other one, and breaks no rule
pub record IsOnlyJob (text : List ℕ) (job : Job) : Type 0 where
  pub is_job : IsJob text job
  pub only : (other : Job) → IsJob text other → job ≡ other
  pub unbroken : (rule : Rule) (line : ℕ) → ¬ Breaks text rule line

-- the text breaks this rule on this line and no other one, and is that of no job
pub record IsOnlyBreach (text : List ℕ) (rule : Rule) (line : ℕ) : Type 0 where
  pub breaks : Breaks text rule line
  pub only : (other : Rule) (place : ℕ) → Breaks text other place → (rule ≡ other) × (line ≡ place)
  pub unaccepted : ¬ Accepts text

-- a text is accepted with one job, or breaks one rule on one line
abbrev pub HasOneVerdict : List ℕ → Type 0
HasOneVerdict text = ((job : Job) × IsOnlyJob text job) ⊎ ((rule : Rule) × (line : ℕ) × IsOnlyBreach text rule line)

-- each text has one verdict
abbrev pub OneVerdict : Type 0
OneVerdict = (text : List ℕ) → HasOneVerdict text
