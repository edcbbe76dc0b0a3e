-- The verdict on a program's text: S2 and S3, then N1 to N3, then F1 and F2.
use Rattle.std.specs.Prelude.{◌≡◌, ◌⊎◌, ℕ, List, [], Some, Result, Ok, Err}
use Rattle.fin_base.specs.declared.refusal.Refusal.{Refusal}
use Rattle.fin_base.specs.declared.refusal.Fail.{Fail}
use Rattle.fin_base.specs.declared.refusal.Fail.TheVariants.{Refused, Memory}
use Rattle.fin_lex.specs.declared.token.Token.{Token}
use Rattle.fin_parse.specs.declared.trees.Text.{Text}
use Rattle.fin_parse.specs.Text.{IsWhole}
use Rattle.fin_parse.specs.Breaches.{limits, SyntaxBroken}
use Rattle.fin_parse.specs.Names.{first_of}
use Rattle.fin_parse.specs.TextNames.{name_breaches}
use Rattle.fin_parse.specs.TextForms.{form_breaches}

-- the tokens stand for the trees, and for no others, and these break no rule
pub record IsAccepted (text : List ℕ) (tokens : List Token) (trees : Text) : Type 0 where
  pub whole : IsWhole limits tokens trees
  pub names : name_breaches text trees ≡ []
  pub forms : form_breaches text trees ≡ []

-- the tokens stand for trees whose names have this first breach
pub record BreaksNames (text : List ℕ) (tokens : List Token) (r : Refusal) (trees : Text) : Type 0 where
  pub whole : IsWhole limits tokens trees
  pub names : Some r ≡ first_of (name_breaches text trees)

-- the tokens stand for trees whose names are right, and whose formats and fills have this first breach
pub record BreaksForms (text : List ℕ) (tokens : List Token) (r : Refusal) (trees : Text) : Type 0 where
  pub whole : IsWhole limits tokens trees
  pub names : name_breaches text trees ≡ []
  pub forms : Some r ≡ first_of (form_breaches text trees)

abbrev pub Verdict : List ℕ → List Token → ℕ → Result Text Fail → Type 0
Verdict text tokens last (Ok trees) = IsAccepted text tokens trees
Verdict text tokens last (Err (Refused r)) = SyntaxBroken tokens last r.rule r.line ⊎ (((trees : Text) × BreaksNames text tokens r trees) ⊎ ((trees : Text) × BreaksForms text tokens r trees))
Verdict text tokens last (Err (Memory a)) = Unit {0}
