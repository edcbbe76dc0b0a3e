use Rattle.fin_text.proofs.Spellings.{value_is_spelling}
use Rattle.fin_text.proofs.words.read_values.Goals as goal

pub read_words-requires : goal.read_words-requires
read_words-requires c = value_is_spelling
