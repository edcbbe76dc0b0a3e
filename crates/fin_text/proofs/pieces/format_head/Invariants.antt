use Rattle.std.proofs.Common.{◌≡◌, ◌++◌, take, codes}
use Rattle.fin_text.specs.Numbers.{words}
use Rattle.fin_text.specs.Tensors.{level_word}
use Rattle.fin_text.proofs.pieces.format_head.Given as goal

abbrev pub invariant-loop-level : goal.invariant-loop-level
invariant-loop-level l = l.head.items ≡ codes "format" ++ words level_word (take l.level-index l.levels)
