use Rattle.std.proofs.Common.{rules}
use Rattle.fin_tensor.proofs.Fibres.{at_keys, at_runs, same_fibre}
use Rattle.fin_tensor.proofs.storage.child_of.Goals as goal

pub find_key-requires : goal.find_key-requires
find_key-requires c =
    same_fibre _ _ _ _ _ _ c.as_slice-in-Keys.ensures (search rules) (search rules) (at_keys c.args.extent c.args.part.now c.args.pos c.in-Keys.ptr c.in-Keys.idx c.requires.at c.in-Keys.is)

pub search_in-requires : goal.search_in-requires
search_in-requires c =
    same_fibre _ _ _ _ _ _ c.as_slice-in-Runs-2.ensures (search rules) (search rules) (at_runs c.args.extent c.args.part.now c.args.pos c.in-Runs.ptr c.in-Runs.stop c.requires.at c.in-Runs.is)
