use Rattle.std.proofs.Common.{refl}
use Rattle.fin_text.proofs.Seconds.{no_part, reads_part_ok}
use Rattle.fin_text.proofs.forms.read_part.Goals as goal

pub returns-then-is_spelled_by : goal.returns-then-is_spelled_by
returns-then-is_spelled_by c = reads_part_ok c.args.number c.args.after.now _ _ c.ranges.number.fits c.in-Some.ensures (c.if-is_spelled_by.ensures.0 refl) _ c.read_sizes.ensures

pub returns-else-is_spelled_by : goal.returns-else-is_spelled_by
returns-else-is_spelled_by c = no_part c.args.number c.args.after.now _ _ c.ranges.number.fits c.in-Some.ensures (λ e. cc (c.if-is_spelled_by.ensures.1 e))
