use Rattle.fin_text.proofs.LevelWords.{level_is_spelling}
use Rattle.fin_text.proofs.words.read_levels.Goals as goal

pub read_words-requires : goal.read_words-requires
read_words-requires c = level_is_spelling
