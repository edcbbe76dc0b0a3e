-- Of what waited and the values so far a front was put, and the rest waits.
use Rattle.std.proofs.Common.{◌++◌, ◌≤◌, take}
use Rattle.fin_text.specs.Numbers.{spaced}
use Rattle.fin_text.specs.Putting.{Waits}
use Rattle.fin_text.proofs.write.put_values.Given as goal

abbrev pub invariant-loop-value : goal.invariant-loop-value
invariant-loop-value g l = record {
  waits : Waits (g.K.Sink.taken l.initial.sink) (g.K.Sink.taken l.sink) (l.initial.waiting.items ++ spaced (take l.value-index l.values)) l.waiting.items;
  counted : g.K.Sink.faults l.initial.sink ≤ g.K.Sink.faults l.sink;
  later : g.K.Sink.Later l.initial.sink l.sink;
}
