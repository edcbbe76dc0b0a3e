-- What was taken so far are the bytes so far.
use Rattle.std.proofs.Common.{length, ◌-◌, ◌≤◌}
use Rattle.std.specs.Io.KnownBytes.{Consumes}
use Rattle.fin_ports.specs.Bytes.{most}
use Rattle.fin_ports.proofs.job.read_job.Given as goal

abbrev pub invariant-pieces : goal.invariant-pieces
invariant-pieces g l = record {
  within : length l.bytes.items ≤ most;
  read : Consumes (g.S.Source.left l.initial.source) (g.S.Source.left l.source) l.bytes.items;
  counted : g.S.Source.faults l.initial.source ≤ g.S.Source.faults l.source;
  later : g.S.Source.Later l.initial.source l.source;
}

abbrev pub decreases-pieces : goal.decreases-pieces
decreases-pieces g l = most - length l.bytes.items
