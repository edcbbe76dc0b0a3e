-- Laws of tokens.
use Rattle.std.specs.Prelude.{◌≡◌, ◌⊎◌, ℕ, List}
use Rattle.fin_lex.specs.declared.token.Token.{Token}
use Rattle.fin_lex.specs.Tokens.{AreTokens, BreaksAt}

-- a text has at most one list of tokens
abbrev pub OneList : Type 0
OneList = (text : List ℕ) (first_line : ℕ) (a b : List Token) → AreTokens text first_line a → AreTokens text first_line b → a ≡ b

-- a text that has tokens breaks at no line
abbrev pub NeverBoth : Type 0
NeverBoth = (text : List ℕ) (first_line line : ℕ) (a : List Token) → AreTokens text first_line a → BreaksAt text first_line line → ⊥

-- a text breaks at one line at most
abbrev pub OneLine : Type 0
OneLine = (text : List ℕ) (first_line l m : ℕ) → BreaksAt text first_line l → BreaksAt text first_line m → l ≡ m

-- a text has tokens or breaks at a line
abbrev pub TokensOrBreach : Type 0
TokensOrBreach = (text : List ℕ) (first_line : ℕ) → ((a : List Token) × AreTokens text first_line a) ⊎ ((line : ℕ) × BreaksAt text first_line line)
