use Rattle.std.proofs.Common.{length}
use Rattle.fin_engine.proofs.inputs.+are_same_levels.Given as goal

abbrev pub decreases-are_same_levels : goal.decreases-are_same_levels
decreases-are_same_levels l = length l.a.now
