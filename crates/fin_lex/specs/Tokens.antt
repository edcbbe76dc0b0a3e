-- The tokens of a text, and where it has none.
use Rattle.std.specs.Prelude.{◌≡◌, ℕ, ◌+◌, List, [], ◌∷◌, take, drop, Result, Ok, Err, Vec}
use Rattle.std.specs.declared.alloc.Global.{Global}
use Rattle.fin_base.specs.declared.refusal.Rule.TheVariants.{S1}
use Rattle.fin_base.specs.declared.refusal.Fail.{Fail}
use Rattle.fin_base.specs.declared.refusal.Fail.TheVariants.{Refused, Memory}
use Rattle.fin_lex.specs.declared.token.TokenKind.{TokenKind}
use Rattle.fin_lex.specs.declared.token.Token.{Token}
use Rattle.fin_lex.specs.declared.piece.Piece.TheVariants as piece
use Rattle.fin_lex.specs.Piece.{cut, newlines}

-- the line of a place: the first one, and one more for each newline before it
abbrev pub line_at : List ℕ → ℕ → ℕ → ℕ
line_at text first_line at = first_line + newlines (take at text)

-- The tokens from a place on.
pub data TokensFrom (text : List ℕ) (first_line : ℕ) : ℕ → List Token → Type 0 where
  ended : {at : ℕ} → cut (drop at text) ≡ piece.End → TokensFrom text first_line at []
  blank : {at n : ℕ} {tokens : List Token} → cut (drop at text) ≡ piece.Blank n → TokensFrom text first_line (at + n) tokens → TokensFrom text first_line at tokens
  token : {at n : ℕ} {kind : TokenKind} {tokens : List Token} → cut (drop at text) ≡ piece.Token kind n → TokensFrom text first_line (at + n) tokens
      → TokensFrom text first_line at (record { kind = kind; from = at; to = at + n; line = line_at text first_line at } ∷ tokens)

-- From a place on, the first bytes that begin no token stand on a line.
pub data BreaksFrom (text : List ℕ) (first_line : ℕ) : ℕ → ℕ → Type 0 where
  bad : {at : ℕ} → cut (drop at text) ≡ piece.Bad → BreaksFrom text first_line at (line_at text first_line at)
  after_blank : {at n line : ℕ} → cut (drop at text) ≡ piece.Blank n → BreaksFrom text first_line (at + n) line → BreaksFrom text first_line at line
  after_token : {at n line : ℕ} {kind : TokenKind} → cut (drop at text) ≡ piece.Token kind n → BreaksFrom text first_line (at + n) line → BreaksFrom text first_line at line

-- the tokens of a text whose first line has that number
abbrev pub AreTokens : List ℕ → ℕ → List Token → Type 0
AreTokens text first_line tokens = TokensFrom text first_line 0 tokens

-- the line where a text first has no token
abbrev pub BreaksAt : List ℕ → ℕ → ℕ → Type 0
BreaksAt text first_line line = BreaksFrom text first_line 0 line

abbrev pub Outcome : List ℕ → ℕ → Result (Vec Token Global) Fail → Type 0
Outcome text first_line (Ok tokens) = AreTokens text first_line tokens.items
Outcome text first_line (Err (Refused refusal)) = (refusal.rule ≡ S1) × BreaksAt text first_line refusal.line
Outcome text first_line (Err (Memory a)) = Unit {0}
