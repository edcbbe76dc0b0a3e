use Rattle.std.proofs.Common.{arith}
use Rattle.fin_canon.proofs.Inside.{inside_by}
use Rattle.fin_parts_test.proofs.canonical.is_inside.Goals as goal

pub returns : goal.returns
returns c _ = inside_by c.args.shape.now c.args.at.now c.if-at-shape.false (λ j h. c.loop-i.invariant j (omega (arith, c.loop-i-test.false)))
