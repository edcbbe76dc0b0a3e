use Rattle.std.proofs.Common.{◌∙◌, sym, ap, rules}
use Rattle.std.proofs.lemmas.Iterator.Consumers.{YieldsList-end}
use Rattle.std.proofs.lemmas.Iterator.Adapters.{YieldsList-from_vec}
use Rattle.std.proofs.lemmas.List.{map-id}
use Rattle.fin_core.specs.Cores.{listed}
use Rattle.fin_core.proofs.queue.queues.Goals as goal

pub returns : goal.returns
returns c =
    let whole = YieldsList-from_vec c.args.effects.items (search rules) (search rules) in
    let all = (YieldsList-end whole c.loop-list.yielded c.loop-list.list-iterator c.loop-list.yielded_by c.next.result c.next.new.self c.in-None.is c.next.ensures.steps).0 in
    c.loop-list.invariant ∙ ap listed (sym (map-id c.loop-list.yielded) ∙ all)
