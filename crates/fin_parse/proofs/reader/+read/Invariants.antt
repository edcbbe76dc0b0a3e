use Rattle.std.proofs.Common.{◌≡◌, ◌+◌, ◌*◌, length, drop}
use Rattle.fin_parse.specs.declared.grammar.Symbol.TheVariants.{Many}
use Rattle.fin_parse.specs.Grammar.{row_of as row}
use Rattle.fin_parse.specs.Choices.{continues, row_continues, rank, weight, row_weight}
use Rattle.fin_parse.specs.Reading.{Along, Rows, Groups}
use Rattle.fin_parse.proofs.Symbols.{RowFrom, GroupFrom}
use Rattle.fin_parse.proofs.reader.+read.Given as goal

abbrev pub decreases-read_deeper : goal.decreases-read_deeper
decreases-read_deeper l = 100 * l.room.levels + 1

abbrev pub decreases-read_in_loop : goal.decreases-read_in_loop
decreases-read_in_loop l = 100 * l.room.levels + (4 * rank l.phrase + 5)

abbrev pub decreases-read_many : goal.decreases-read_many
decreases-read_many l = 100 * l.room.levels + (4 * rank l.phrase + 5)

abbrev pub decreases-read_maybe : goal.decreases-read_maybe
decreases-read_maybe l = 100 * l.room.levels + (4 * rank l.phrase + 5)

abbrev pub decreases-read_phrase : goal.decreases-read_phrase
decreases-read_phrase l = 100 * l.room.levels + (4 * rank l.phrase + 4)

abbrev pub decreases-read_row : goal.decreases-read_row
decreases-read_row l = 100 * l.room.levels + (4 * row_weight (row l.form) + 3)

abbrev pub decreases-read_symbol : goal.decreases-read_symbol
decreases-read_symbol l = 100 * l.room.levels + (4 * weight l.symbol + 2)

abbrev pub invariant-read_many-each : goal.invariant-read_many-each
invariant-read_many-each l = Along (Groups l.phrase) l.room (continues (Many l.phrase)) l.fn.cursor l.cursor (GroupFrom l.phrase l.parts)

abbrev pub decreases-read_many-each : goal.decreases-read_many-each
decreases-read_many-each l = length l.cursor

abbrev pub invariant-read_row-loop-symbol : goal.invariant-read_row-loop-symbol
invariant-read_row-loop-symbol l = record {
  symbols : l.symbols ≡ row l.fn.form;
  along : Along (Rows (row l.fn.form)) l.room (row_continues (row l.fn.form)) l.fn.cursor l.cursor (RowFrom l.parts (drop l.symbol-index l.symbols));
}
