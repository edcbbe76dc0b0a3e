use Rattle.fin_build.proofs.Parting.{part_building, part_fits}
use Rattle.fin_build.proofs.builder.Builder.part.Goals as goal

pub invariant_of-result : goal.invariant_of-result
invariant_of-result c = part_building _ _ c.args.lo c.args.hi c.in_ok-format.format c.in_ok-function.function c.self.invariant c.self.view_is c.requires c.in_ok-format.ensures c.in_ok-function.ensures

pub returns-clause-fits : goal.returns-clause-fits
returns-clause-fits c = part_fits _ _ c.args.lo c.args.hi c.in_ok-format.format c.in_ok-function.function c.self.view_is c.in_ok-format.ensures c.in_ok-function.ensures
