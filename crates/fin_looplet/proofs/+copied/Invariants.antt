use Rattle.std.proofs.Common.{◌≡◌, take}
use Rattle.fin_looplet.proofs.+copied.Given as goal

abbrev pub invariant-copy::copy_phases-loop-phase : goal.invariant-copy::copy_phases-loop-phase
invariant-copy::copy_phases-loop-phase l = l.copies ≡ take l.phase-index l.phases

abbrev pub invariant-copy::copy_cases-loop-case : goal.invariant-copy::copy_cases-loop-case
invariant-copy::copy_cases-loop-case l = l.copies ≡ take l.case-index l.cases
