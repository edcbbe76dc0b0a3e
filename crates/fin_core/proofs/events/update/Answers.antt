use Rattle.fin_core.proofs.Holding.{follows_at}
use Rattle.fin_core.proofs.events.update.Goals as goal

pub update-requires-clause-follows : goal.update-requires-clause-follows
update-requires-clause-follows c = follows_at c.args.tensors.now.items c.args.effect.now.tensor c.index_mut-tensor.result.now c.as_slice.result.now c.requires.levels c.requires.lies.0 c.index_mut-tensor.ensures.value
