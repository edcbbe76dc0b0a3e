use Rattle.std.proofs.Common.{rules, ◌≡◌, subst, sym, List, [], ◌∷◌, map, Bor}
use Rattle.fin_tensor.specs.Building.{Building}
use Rattle.fin_ir.specs.Machine.{Effect}
use Rattle.fin_core.specs.Interleaving.{Settled}
use Rattle.fin_core.specs.Cores.{listed, AllLie}
use Rattle.fin_events.specs.declared.chunks.Addend.{Addend}
use Rattle.fin_events.specs.Chunks.{vector_of}
use Rattle.fin_events.proofs.Asked.{fitted, settled, lie}
use Rattle.fin_events.proofs.orders.core.Goals as goal

pub new-requires-clause-lie : goal.new-requires-clause-lie
new-requires-clause-lie c =
    let n = c.args.extent in
    let chunks = map (λ (x : Bor (List Addend)). x.now) c.args.chunks.now in
    let ts : c.push.new.self.items ≡ vector_of n ∷ [] = search rules in
    subst (λ (bs : List Building). AllLie bs (listed c.in_ok-effects.effects.items)) (sym ts)
    (subst (λ (qs : List (List Effect)). AllLie (vector_of n ∷ []) qs) (sym c.in_ok-effects.ensures) (lie n chunks (fitted n c.args.chunks.now c.requires)))

pub new-requires-clause-settled : goal.new-requires-clause-settled
new-requires-clause-settled c =
    let chunks = map (λ (x : Bor (List Addend)). x.now) c.args.chunks.now in
    subst (λ (qs : List (List Effect)). Settled qs) (sym c.in_ok-effects.ensures) (settled c.args.extent chunks (fitted c.args.extent c.args.chunks.now c.requires))
