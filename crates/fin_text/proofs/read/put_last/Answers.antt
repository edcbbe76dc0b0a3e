use Rattle.std.proofs.Common.{◌∙◌}
use Rattle.fin_text.proofs.NewNames.{put_new}
use Rattle.fin_text.proofs.read.put_last.Goals as goal

pub returns : goal.returns
returns c = c.in_ok-insert.ensures.entries ∙ put_new c.args.given.now c.args.name c.args.tensor c.requires
