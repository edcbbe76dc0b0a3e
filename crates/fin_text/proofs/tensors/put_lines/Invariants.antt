-- Of what waited and the lines so far a front was put, and the rest waits.
use Rattle.std.proofs.Common.{◌++◌, ◌≤◌, take, map}
use Rattle.fin_text.specs.Pieces.{line_text}
use Rattle.fin_text.specs.Putting.{Waits}
use Rattle.fin_text.specs.Text.{text_of_lines}
use Rattle.fin_text.proofs.tensors.put_lines.Given as goal

abbrev pub invariant-loop-line : goal.invariant-loop-line
invariant-loop-line g l = record {
  waits : Waits (g.K.Sink.taken l.initial.sink) (g.K.Sink.taken l.sink) (l.initial.waiting.items ++ text_of_lines (map line_text (take l.line-index l.lines))) l.waiting.items;
  counted : g.K.Sink.faults l.initial.sink ≤ g.K.Sink.faults l.sink;
  later : g.K.Sink.Later l.initial.sink l.sink;
}
