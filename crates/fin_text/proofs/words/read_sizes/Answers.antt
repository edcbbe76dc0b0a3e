use Rattle.fin_text.proofs.Spellings.{size_is_spelling}
use Rattle.fin_text.proofs.words.read_sizes.Goals as goal

pub read_words-requires : goal.read_words-requires
read_words-requires c = size_is_spelling
