use Rattle.std.proofs.Common.{sym, ◌∙◌}
use Rattle.fin_known.proofs.Lists.{none_told}
use Rattle.fin_known.proofs.telling.+fill_at.Goals as goal

pub returns-then-is_empty-2 : goal.returns-then-is_empty-2
returns-then-is_empty-2 t c = none_told c.args.drives.now c.args.reads.now c.args.number (sym c.is_empty-2.ensures ∙ c.if-is_empty-2.true)
