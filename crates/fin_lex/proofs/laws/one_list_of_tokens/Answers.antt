use Rattle.fin_lex.proofs.Unique.{one_list}
use Rattle.fin_lex.proofs.laws.one_list_of_tokens.Goals as goal

pub returns : goal.returns
returns c = record { law = λ text first_line a b h k. one_list text first_line 0 a b h k }
