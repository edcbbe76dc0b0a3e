use Rattle.std.proofs.Common.{◌≡◌, take, map}
use Rattle.fin_looplet.specs.Moved.{moved_phase, moved_case}
use Rattle.fin_looplet.proofs.+moved.Given as goal

abbrev pub invariant-moved::moved_phases-loop-phase : goal.invariant-moved::moved_phases-loop-phase
invariant-moved::moved_phases-loop-phase l = l.all ≡ map (moved_phase l.by) (take l.phase-index l.phases)

abbrev pub invariant-moved::moved_cases-loop-case : goal.invariant-moved::moved_cases-loop-case
invariant-moved::moved_cases-loop-case l = l.all ≡ map (moved_case l.by) (take l.case-index l.cases)
