use Rattle.fin_life.proofs.Around.{order_is}
use Rattle.fin_life.proofs.order.check_order.Goals as goal

pub returns-in-Some-clause-refused : goal.returns-in-Some-clause-refused
returns-in-Some-clause-refused c = let e = order_is c.args.program.now c.requires in cc

pub returns-in-None-clause-kept : goal.returns-in-None-clause-kept
returns-in-None-clause-kept c = let e = order_is c.args.program.now c.requires in cc
