-- What is left of the list is told as the whole.
use Rattle.std.proofs.Common.{◌≡◌, ◌++◌, drop, map}
use Rattle.fin_read.specs.Steps.{assign_of}
use Rattle.fin_enter.specs.Pushed.{positions_in, behind_positions}
use Rattle.fin_enter.proofs.placing.push_positions.Given as goal

abbrev pub invariant-loop-access : goal.invariant-loop-access
invariant-loop-access l = record {
  code : l.into ++ map assign_of (positions_in l.body (drop l.access-index l.reads) l.next) ≡ l.fn.into ++ map assign_of (positions_in l.body l.reads l.at);
  next : behind_positions l.body (drop l.access-index l.reads) l.next ≡ behind_positions l.body l.reads l.at;
}
