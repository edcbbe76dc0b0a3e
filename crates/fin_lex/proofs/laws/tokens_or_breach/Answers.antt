use Rattle.fin_lex.proofs.Totality.{tokens_or_breach}
use Rattle.fin_lex.proofs.laws.tokens_or_breach.Goals as goal

pub returns : goal.returns
returns c = record { law = tokens_or_breach }
