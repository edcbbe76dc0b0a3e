use Rattle.std.proofs.Common.{◌≡◌, take}
use Rattle.fin_style_step.proofs.dividing.copies.Given as goal

abbrev pub invariant-loop-phase : goal.invariant-loop-phase
invariant-loop-phase l = l.copies ≡ take l.phase-index l.phases
