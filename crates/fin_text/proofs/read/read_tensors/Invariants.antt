use Rattle.std.proofs.Common.{◌+◌, ◌≤◌, length}
use Rattle.fin_text.specs.Reading.{Reads}
use Rattle.fin_text.proofs.read.read_tensors.Given as goal

abbrev pub invariant-loop-bytes : goal.invariant-loop-bytes
invariant-loop-bytes l = record {
  reads : Reads l.text l.first_line l.rest l.line l.reader;
  bound : l.line + length l.rest ≤ l.first_line + length l.text;
}

abbrev pub decreases-loop-bytes : goal.decreases-loop-bytes
decreases-loop-bytes l = length l.rest
