use Rattle.std.proofs.Common.{◌≡◌, map, take}
use Rattle.fin_parse.specs.Names.{counted, facts_of}
use Rattle.fin_parse.proofs.counts.Names.+counts.Given as goal

abbrev pub invariant-sum-loop-part : goal.invariant-sum-loop-part
invariant-sum-loop-part l = l.total ≡ counted (map (facts_of l.self.text.now) (take l.part-index l.parts))
