use Rattle.std.proofs.Common.{sym}
use Rattle.fin_run.proofs.Reading.{none_word}
use Rattle.fin_run.proofs.value.word_at.Goals as goal

pub returns-in-None : goal.returns-in-None
returns-in-None c = sym (none_word c.args.inputs.now c.args.tensors.now c.args.tensor (sym c.in-None.ensures) c.args.at)
