use Rattle.std.proofs.Common.{◌≡◌, length}
use Rattle.fin_parse.specs.FormatWords.{stands_last}
use Rattle.fin_parse.proofs.format_words.stands_last.Given as goal

abbrev pub invariant-loop-words : goal.invariant-loop-words
invariant-loop-words l = stands_last l.place l.words ≡ stands_last l.place l.initial.words

abbrev pub decreases-loop-words : goal.decreases-loop-words
decreases-loop-words l = length l.words
