-- Of what waited and the numbers so far a front was put, and the rest waits.
use Rattle.std.proofs.Common.{◌++◌, ◌≤◌, take}
use Rattle.fin_text.specs.Numbers.{spaced_sizes}
use Rattle.fin_text.specs.Putting.{Waits}
use Rattle.fin_text.proofs.tensors.put_sizes.Given as goal

abbrev pub invariant-loop-size : goal.invariant-loop-size
invariant-loop-size g l = record {
  waits : Waits (g.K.Sink.taken l.initial.sink) (g.K.Sink.taken l.sink) (l.initial.waiting.items ++ spaced_sizes (take l.size-index l.sizes)) l.waiting.items;
  counted : g.K.Sink.faults l.initial.sink ≤ g.K.Sink.faults l.sink;
  later : g.K.Sink.Later l.initial.sink l.sink;
}
