-- The numbers of shapes, ranges and indices among the tokens of a program.
use Rattle.std.specs.Prelude.{ℕ, Bool, true, false, not, ◌&&◌, ◌||◌, ◌==◌, nat_lt, if◌then◌else◌, List, [], ◌∷◌, Option, Some, None, unwrap_or, Result, Ok, Err}
use Rattle.fin_base.specs.declared.refusal.Fail.{Fail}
use Rattle.fin_base.specs.declared.refusal.Fail.TheVariants.{Memory, Refused}
use Rattle.fin_base.specs.declared.refusal.Refusal.{Refusal}
use Rattle.fin_base.specs.declared.refusal.Rule.{Rule}
use Rattle.fin_base.specs.declared.refusal.Rule.TheVariants.{M5}
use Rattle.fin_lex.specs.declared.token.Token.{Token}
use Rattle.fin_lex.specs.declared.token.TokenKind.{TokenKind}
use Rattle.fin_lex.specs.declared.token.TokenKind.TheVariants as kind
use Rattle.fin_engine.specs.declared.job.Job.{Job}

-- `[` and `]` are the first two symbols; numbers between them are those of indices
abbrev pub inside_after : Bool → TokenKind → Bool
inside_after inside (kind.Symbol k) = k == 0 || (not (k == 1) && inside)
inside_after inside _ = inside

-- numbers behind `in` and `..` are those of ranges, and those behind `shape` those of a shape; they are the reserved words 0 and 4 and the symbol 21
abbrev pub expects_after : Bool → TokenKind → Bool
expects_after expects (kind.Number n) = expects
expects_after expects (kind.Reserved k) = k == 0 || k == 4
expects_after expects (kind.Symbol k) = k == 21
expects_after expects kind.Name = false

abbrev pub is_large_number : TokenKind → Bool
is_large_number (kind.Number n) = nat_lt 1099511627776 n
is_large_number _ = false

-- the line of the first such number over 2^40
abbrev pub large_line : Bool → Bool → List Token → Option ℕ
large_line inside expects [] = None
large_line inside expects (t ∷ ts) = if (inside || expects) && is_large_number t.kind then Some t.line else large_line (inside_after inside t.kind) (expects_after expects t.kind) ts

abbrev pub is_large_rule : Rule → Bool
is_large_rule M5 = true
is_large_rule _ = false

-- M5 is told with the line of the number; where the extents break it, there is one
abbrev pub told : List Token → Refusal → Refusal
told tokens r = if is_large_rule r.rule then record { rule = r.rule; line = unwrap_or (large_line false false tokens) r.line } else r

abbrev pub told_result : List Token → Result Job Fail → Result Job Fail
told_result tokens (Ok job) = Ok job
told_result tokens (Err (Refused r)) = Err (Refused (told tokens r))
told_result tokens (Err (Memory e)) = Err (Memory e)
