-- What was put so far are the texts of the outputs so far.
use Rattle.std.proofs.Common.{take, ◌≤◌}
use Rattle.std.specs.Io.KnownBytes.{Appends}
use Rattle.fin_cli.specs.Due.{outputs_text}
use Rattle.fin_cli.proofs.outputs.write_outputs.Given as goal

abbrev pub invariant-loop-output : goal.invariant-loop-output
invariant-loop-output g l = record {
  put : Appends (g.O.Sink.taken l.initial.out) (g.O.Sink.taken l.out) (outputs_text l.headers (take l.output-index l.outputs));
  counted : g.O.Sink.faults l.initial.out ≤ g.O.Sink.faults l.out;
  later : g.O.Sink.Later l.initial.out l.out;
}
