use Rattle.std.proofs.Common.{◌∙◌}
use Rattle.fin_parse.proofs.HeaderParts.{fill_found, fill_passed}
use Rattle.fin_parse.proofs.fills.+fills.Goals as goal

pub check_fills-returns-then-is_some : goal.check_fills-returns-then-is_some
check_fills-returns-then-is_some t c = record {
  first = fill_found c.args.text.now c.args.known.now c.args.parts.now c.loop-part.part-index c.part-item.result c.loop-part-test.true c.part-item.is c.in_ok-found.found c.if-is_some.ensures c.in_ok-found.ensures.first ∙ c.loop-part.invariant;
}

pub check_fills-loop-part-preserved : goal.check_fills-loop-part-preserved
check_fills-loop-part-preserved t c =
    fill_passed c.args.text.now c.args.known.now c.args.parts.now c.loop-part.part-index c.part-item.result c.loop-part-test.true c.part-item.is c.in_ok-found.found c.if-is_some.ensures c.in_ok-found.ensures.first ∙ c.loop-part.invariant
