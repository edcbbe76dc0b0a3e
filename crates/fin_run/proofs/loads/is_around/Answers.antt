use Rattle.fin_run.proofs.Loading.{last_decides}
use Rattle.fin_run.proofs.loads.is_around.Goals as goal

pub returns : goal.returns
returns c = last_decides c.args.ptr.now c.args.from c.args.to c.last_begin-low.result c.requires.ptr c.last_begin-low.ensures.within c.last_begin-low.ensures.begins c.last_begin-low.ensures.last
