use Rattle.std.proofs.Common.{◌≡◌, ◌++◌, length}
use Rattle.fin_parse.specs.HeaderTrees.{levels_in}
use Rattle.fin_parse.proofs.formats.levels_in.Given as goal

abbrev pub invariant-loop-words : goal.invariant-loop-words
invariant-loop-words l = l.levels ++ levels_in l.words ≡ levels_in l.initial.words

abbrev pub decreases-loop-words : goal.decreases-loop-words
decreases-loop-words l = length l.words
