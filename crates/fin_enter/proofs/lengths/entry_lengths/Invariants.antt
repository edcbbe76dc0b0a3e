-- What is left of the list is told as the whole.
use Rattle.std.proofs.Common.{◌≡◌, ◌++◌, drop}
use Rattle.fin_enter.specs.PushedReads.{lengths_in}
use Rattle.fin_enter.proofs.lengths.entry_lengths.Given as goal

abbrev pub invariant-loop-access : goal.invariant-loop-access
invariant-loop-access l = l.lengths ++ lengths_in l.body (drop l.access-index l.reads) l.place ≡ lengths_in l.body l.reads l.at
