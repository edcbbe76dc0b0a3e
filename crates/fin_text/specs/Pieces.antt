-- A line that is to be put: what precedes its numbers, and these.
use Rattle.std.specs.Prelude.{ℕ, List, [], ◌++◌}
use Rattle.fin_text.specs.declared.pieces.Line.{Line}
use Rattle.fin_text.specs.declared.pieces.Numbers.{Numbers}
use Rattle.fin_text.specs.declared.pieces.Numbers.TheVariants.{Nothing, Sizes, Values}
use Rattle.fin_text.specs.Numbers.{spaced, spaced_sizes}

abbrev pub numbers_text : Numbers → List ℕ
numbers_text Nothing = []
numbers_text (Sizes ns) = spaced_sizes ns.now
numbers_text (Values vs) = spaced vs.now

abbrev pub line_text : Line → List ℕ
line_text line = line.head.items ++ numbers_text line.numbers
