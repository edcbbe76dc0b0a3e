use Rattle.std.proofs.Common.{ap, ◌∙◌, List, [], ◌∷◌, map, Bor}
use Rattle.std.proofs.lemmas.Option.{IfSome_then}
use Rattle.fin_tensor.specs.TensorFunction.{value_at}
use Rattle.fin_tensor.specs.Building.{Building}
use Rattle.fin_ir.specs.Machine.{Effect}
use Rattle.fin_core.specs.Effects.{State}
use Rattle.fin_core.specs.Interleaving.{states}
use Rattle.fin_core.specs.Cores.{values}
use Rattle.fin_events.specs.declared.chunks.Addend.{Addend}
use Rattle.fin_events.specs.Chunks.{lists_of}
use Rattle.fin_events.proofs.Running.{starts}
use Rattle.fin_events.proofs.orders.word_after.Goals as goal

pub returns : goal.returns
returns c =
    let at = c.args.at ∷ [] in
    let order = c.args.order.now in
    let first = c.in_ok-core.core in
    let qs = lists_of (map (λ (x : Bor (List Addend)). x.now) c.args.chunks.now) in
    let made = c.in_ok-core.ensures in
    let ends =
    c.in_ok-run.ensures.state
    ∙ ap (λ (ps : List (List Effect)). states order ps (values first.tensors.items)) made.effects
    ∙ ap (states order qs) (ap values made.tensors ∙ starts c.args.extent) in
    IfSome_then c.word.result c.word.ensures (λ v e. e ∙ ap (λ (b : Building). value_at b.function at) c.held.ensures ∙ ap (λ (s : State). s 0 at) ends)
