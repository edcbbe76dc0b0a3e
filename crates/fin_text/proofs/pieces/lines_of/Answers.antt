use Rattle.std.proofs.Common.{arith}
use Rattle.fin_text.specs.Tensors.{first_lines}
use Rattle.fin_text.proofs.TensorLines.{part_more}
use Rattle.fin_text.proofs.pieces.lines_of.Goals as goal

pub loop-part-preserved : goal.loop-part-preserved
loop-part-preserved c = record {
  level = omega (arith, c.loop-part.invariant.level);
  lines =
      part_more (first_lines c.args.name.now c.args.storage.now) _ _ c.as_slice-part-items.result.now c.args.storage.now.parts c.loop-part.part-index c.loop-part.level c.part-item.result
      c.as_slice-part-items.ensures c.part-item.is c.loop-part-test.true c.loop-part.invariant.level c.loop-part.invariant.lines c.in_ok-push_part.ensures;
}
