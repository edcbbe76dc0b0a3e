use Rattle.fin_run.proofs.Steps.{here_is, on_ok, set_same}
use Rattle.fin_run.proofs.statements.put_at.Goals as goal

pub put-requires : goal.put-requires
put-requires c = (c.requires.0, here_is c.args.tensors.now.items c.args.tensor c.index_mut.result.now _ c.index_mut.ensures.value c.requires.1, c.requires.2)

pub returns : goal.returns
returns c =
    on_ok c.put.result _ _ (λ p b e. set_same c.args.tensors.now.items c.args.tensor _ _ (p b (here_is c.args.tensors.now.items c.args.tensor c.index_mut.result.now _ c.index_mut.ensures.value e))) c.put.ensures
