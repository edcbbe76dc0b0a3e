use Rattle.std.proofs.Common.{ap, ◌∙◌}
use Rattle.fin_enter.specs.PushedReads.{drives}
use Rattle.fin_stmts.proofs.Entering.{is_entered}
use Rattle.fin_stmts.proofs.entered.enter_loop.Goals as goal

pub returns-clause-entered : goal.returns-clause-entered
returns-clause-entered c =
    is_entered c.args.site.now c.args.rest.now c.in_ok-entrance.entrance c.in_ok-nest.nest c.requires.site c.requires.rest c.in_ok-entrance.ensures.entrance c.in_ok-nest.ensures
    c.in_ok-drives.drives (c.in_ok-drives.ensures ∙ ap (drives c.args.site.now.one.var) c.as_slice.ensures)
