use Rattle.fin_life.proofs.Behaviour.{life_is}
use Rattle.fin_life.proofs.life.check_life.Goals as goal

pub returns-in-Some-clause-refused : goal.returns-in-Some-clause-refused
returns-in-Some-clause-refused c = let e = life_is c.args.program.now in cc

pub returns-in-None-clause-kept : goal.returns-in-None-clause-kept
returns-in-None-clause-kept c = let e = life_is c.args.program.now in cc
