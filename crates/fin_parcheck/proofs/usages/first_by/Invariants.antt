use Rattle.std.proofs.Common.{◌≡◌, drop}
use Rattle.fin_parcheck.specs.Ways.{first_by}
use Rattle.fin_parcheck.proofs.usages.first_by.Given as goal

abbrev pub invariant-loop-deed : goal.invariant-loop-deed
invariant-loop-deed l = first_by l.tensor (drop l.deed-index l.deeds) ≡ first_by l.tensor l.deeds
