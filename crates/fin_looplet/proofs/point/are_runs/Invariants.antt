use Rattle.std.proofs.Common.{◌≡◌, take, true}
use Rattle.std.specs.List.{list_all}
use Rattle.fin_looplet.specs.Weight.{is_run}
use Rattle.fin_looplet.proofs.point.are_runs.Given as goal

abbrev pub invariant-loop-looplet : goal.invariant-loop-looplet
invariant-loop-looplet l = list_all is_run (take l.looplet-index l.looplets) ≡ true
