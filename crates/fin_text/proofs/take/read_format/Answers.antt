use Rattle.fin_text.proofs.LevelWords.{reads_format}
use Rattle.fin_text.proofs.take.read_format.Goals as goal

pub returns-in-Some : goal.returns-in-Some
returns-in-Some c = reads_format c.args.after.now c.in-Some.front.now c.in-Some.ensures.cases.0 c.in-Some.ensures.cases.1 _ c.read_levels.ensures
