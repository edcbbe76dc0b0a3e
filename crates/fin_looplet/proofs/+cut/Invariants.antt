use Rattle.std.proofs.Common.{◌≡◌, take, map}
use Rattle.fin_looplet.specs.Cut.{cut_case}
use Rattle.fin_looplet.proofs.+cut.Given as goal

abbrev pub invariant-cut::cut_cases-loop-case : goal.invariant-cut::cut_cases-loop-case
invariant-cut::cut_cases-loop-case l = l.all ≡ map (cut_case l.end) (take l.case-index l.cases)
