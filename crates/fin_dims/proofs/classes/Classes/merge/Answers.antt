use Rattle.std.proofs.Common.{length-set}
use Rattle.fin_dims.proofs.Steps.{in_range_merged}
use Rattle.fin_dims.proofs.classes.Classes.merge.Goals as goal

pub returns-clause-range : goal.returns-clause-range
returns-clause-range c = in_range_merged c.args.self.now.anchors.items c.args.self.now.labels.items c.relabel.new.labels.items c.args.self.now.numbers.items _ c.args.from c.args.to c.requires.range c.requires.to c.relabel.ensures (length-set c.args.self.now.numbers.items c.args.to c.or.result)
