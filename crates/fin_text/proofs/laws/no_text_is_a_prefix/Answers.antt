use Rattle.fin_text.proofs.PrefixFree.{prefix_free}
use Rattle.fin_text.proofs.laws.no_text_is_a_prefix.Goals as goal

pub returns : goal.returns
returns c = prefix_free
