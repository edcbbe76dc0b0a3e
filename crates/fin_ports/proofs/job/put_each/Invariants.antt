-- What was put so far are the texts so far.
use Rattle.std.proofs.Common.{take, ◌≤◌}
use Rattle.std.specs.List.{flat_map}
use Rattle.std.specs.Io.KnownBytes.{Appends}
use Rattle.fin_ports.proofs.job.put_each.Given as goal

abbrev pub invariant-loop-text : goal.invariant-loop-text
invariant-loop-text g l = record {
  put : Appends (g.K.Sink.taken l.initial.sink) (g.K.Sink.taken l.sink) (flat_map (λ text. text.items) (take l.text-index l.texts));
  counted : g.K.Sink.faults l.initial.sink ≤ g.K.Sink.faults l.sink;
  later : g.K.Sink.Later l.initial.sink l.sink;
}
