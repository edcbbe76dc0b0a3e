-- What is left of the list is told as the whole.
use Rattle.std.proofs.Common.{◌≡◌, ◌≤◌, ◌++◌, drop}
use Rattle.fin_nest.specs.Entries.{looplets, numbers}
use Rattle.fin_enter.specs.Pushed.{behind_positions}
use Rattle.fin_enter.specs.PushedReads.{looplets_in, behind_looplets, read_numbers}
use Rattle.fin_enter.proofs.looplets.read_looplets.Given as goal

abbrev pub invariant-loop-access : goal.invariant-loop-access
invariant-loop-access l = record {
  looplets : looplets l.all ++ looplets_in l.body (drop l.access-index l.reads) l.place l.free ≡ looplets_in l.body l.reads l.at l.cursor;
  numbers : numbers l.all ++ read_numbers (drop l.access-index l.reads) ≡ read_numbers l.reads;
  places : behind_positions l.body (drop l.access-index l.reads) l.place ≡ behind_positions l.body l.reads l.at;
  own : l.cursor ≤ l.free;
  next : behind_looplets l.body (drop l.access-index l.reads) l.free ≡ behind_looplets l.body l.reads l.cursor;
}
