use Rattle.std.proofs.Common.{◌≡◌, take}
use Rattle.fin_enter.specs.PushedReads.{drives}
use Rattle.fin_enter.proofs.driving.drives.Given as goal

abbrev pub invariant-loop-access : goal.invariant-loop-access
invariant-loop-access l = l.all.items ≡ drives l.var (take l.access-index l.reads)
