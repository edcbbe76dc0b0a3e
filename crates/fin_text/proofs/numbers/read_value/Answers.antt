use Rattle.fin_text.proofs.Digits.{by_magnitude}
use Rattle.fin_text.proofs.numbers.read_value.Goals as goal

pub returns : goal.returns
returns c = by_magnitude c.args.word.now c.negative.result c.if-word-ne45.false c.negative.ensures
