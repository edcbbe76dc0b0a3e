use Rattle.fin_run.proofs.Clamping.{clamp_is}
use Rattle.fin_run.proofs.places.clamp.Goals as goal

pub returns : goal.returns
returns c = clamp_is c.args.stop c.args.at c.args.end c.min.result c.max.result c.ranges.stop c.ranges.at c.ranges.end c.min.type_inv c.max.type_inv c.requires c.min.ensures.value c.max.ensures.value
