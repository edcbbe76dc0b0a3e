use Rattle.fin_text.proofs.Digits.{zero_is_no_other}
use Rattle.fin_text.proofs.numbers.negative.Goals as goal

pub returns-then-magnitude-eq0 : goal.returns-then-magnitude-eq0
returns-then-magnitude-eq0 c = λ n. zero_is_no_other c.args.digits.now c.in-Some.magnitude n c.if-magnitude-eq0.true c.in-Some.ensures.1
