use Rattle.std.proofs.Common.{◌+◌, ◌/◌, ◌<◌, Some, ap, sym, ◌∙◌, subst, arith, rules, to_z, of_z}
use Rattle.std.specs.Int.{w64}
use Rattle.fin_mutex.specs.Turns.{reading, written}
use Rattle.fin_mutex.proofs.Steps.{loads, gives_at}
use Rattle.fin_mutex.proofs.turns.Turns.change.Goals as goal

pub load-found-requires : goal.load-found-requires
load-found-requires g c =
    let t = c.take.ensures in
    let wide = c.args.self.now.wide.1 in
    let k = c.requires.table.1 in
    (t.table ∙ c.requires.table.0, omega arith, loads c.args.self.now.table.shared.key _ _ c.take.new.seat.me c.args.k k (subst (λ m. 0 < m.0.book.standing.stands) (sym t.view) c.requires.view.0) (ap (λ m. m.0.held) t.view ∙ ap (λ p. Some (c.args.k / p)) c.args.self.now.per_is.0))

pub store-requires : goal.store-requires
store-requires g c =
    let t = c.take.ensures in
    let l = c.load-found.ensures in
    let p = c.put.ensures in
    let wide = c.args.self.now.wide in
    let a = wide.0 in
    let b = wide.1 in
    let key = c.args.self.now.table.shared.key in
    let position = c.args.k / c.args.self.now.per in
    let in_range : position < key.positions = search rules in
    let read_view = l.2.1 ∙ ap (λ m. reading m.0 c.args.k c.load-found.result) t.view in
    let view = ap (λ m. m.0) p.view ∙ ap (λ v. written v c.args.k (to_z w64 (of_z w64 c.args.v))) read_view in
    (p.table ∙ l.0 ∙ t.table ∙ c.requires.table.0, omega arith, gives_at key _ _ c.put.new.seat.me position _ (ap (λ n. n + position) a) (subst (λ v. 0 < v.book.standing.stands) (sym view) c.requires.view.0) (ap (λ v. v.held) view) (ap (λ v. v.note) view))
