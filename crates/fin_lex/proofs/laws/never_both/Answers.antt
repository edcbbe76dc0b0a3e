use Rattle.fin_lex.proofs.Unique.{tokens_or_break}
use Rattle.fin_lex.proofs.laws.never_both.Goals as goal

pub returns : goal.returns
returns c = record { law = λ text first_line line a h k. tokens_or_break text first_line 0 line a h k }
