use Rattle.std.proofs.Common.{◌≡◌, ◌-◌, ◌≤◌, ℕ, List, ◌++◌, length}
use Rattle.fin_lex.specs.declared.token.Token.{Token}
use Rattle.fin_lex.specs.Tokens.{TokensFrom, BreaksFrom, line_at}
use Rattle.fin_lex.proofs.tokens.lex.Given as goal

abbrev pub invariant-loop-tokens : goal.invariant-loop-tokens
invariant-loop-tokens l = record {
  within : l.at ≤ length l.text;
  few : length l.tokens.items ≤ l.at;
  lines : l.line ≡ line_at l.text l.first_line l.at;
  before : (tokens : List Token) → TokensFrom l.text l.first_line l.at tokens → TokensFrom l.text l.first_line 0 (l.tokens.items ++ tokens);
  broken : (line : ℕ) → BreaksFrom l.text l.first_line l.at line → BreaksFrom l.text l.first_line 0 line;
}

abbrev pub decreases-loop-tokens : goal.decreases-loop-tokens
decreases-loop-tokens l = length l.text - l.at
