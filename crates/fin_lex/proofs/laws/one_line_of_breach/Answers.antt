use Rattle.fin_lex.proofs.Unique.{one_break}
use Rattle.fin_lex.proofs.laws.one_line_of_breach.Goals as goal

pub returns : goal.returns
returns c = record { law = λ text first_line l m h k. one_break text first_line 0 l m h k }
