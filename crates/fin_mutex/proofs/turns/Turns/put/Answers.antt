use Rattle.std.proofs.Common.{ap, ◌∙◌, subst, arith, to_z, of_z}
use Rattle.std.proofs.lemmas.Int.{to_z-of_z}
use Rattle.std.specs.Int.{w64}
use Rattle.fin_base.specs.Words.{IsWord, apply as applied}
use Rattle.fin_seats.specs.Codes.{code, decode}
use Rattle.fin_mutex.proofs.Steps.{writes}
use Rattle.fin_mutex.proofs.turns.Turns.put.Goals as goal

pub store-requires : goal.store-requires
store-requires g c =
    let wide = c.args.self.now.wide in
    let b = wide.1 in
    let k = c.requires.view.1 in
    let by = c.args.self.now.by in
    let read_is = to_z-of_z w64 c.read.result (record { sfits = c.read.type_inv }) ∙ c.read.ensures.word in
    let v_is = to_z-of_z w64 c.args.v c.ranges.v ∙ c.requires.value in
    let applied_is = c.apply.ensures ∙ ap (λ z. applied by z (to_z w64 (of_z w64 c.args.v))) read_is ∙ ap (applied by (decode by c.args.found)) v_is in
    let new_is = c.stored-new.ensures.code ∙ ap (code by) (to_z-of_z w64 c.apply.result (record { sfits = c.apply.type_inv }) ∙ applied_is) ∙ ap (λ r. code r (applied r (decode r c.args.found) g.B.Value.value)) c.args.self.now.by_is.0 in
    (c.requires.table, omega arith, writes c.args.self.now.table.shared.key _ _ c.args.seat.now.me c.args.k c.args.found g.B.Value.value _ c.requires.view.0 c.requires.view.2 (subst (λ z. IsWord z) c.requires.value c.ranges.v) new_is)
