use Rattle.std.proofs.Common.{◌+◌, ◌<◌, ap, sym, ◌∙◌, subst, refl, arith}
use Rattle.fin_mutex.specs.Turns.{holding}
use Rattle.fin_mutex.proofs.Steps.{takes_at, won, lost}
use Rattle.fin_mutex.proofs.turns.Turns.take.Goals as goal

pub overflow_add-turn : goal.overflow_add-turn
overflow_add-turn g c = let a = c.args.self.now.small.1 in let p = c.requires.table.1 in record { fits = omega arith }

pub compare_exchange-requires : goal.compare_exchange-requires
compare_exchange-requires g c =
    let i = c.loop.invariant in
    let v = c.requires.view in
    let wide = c.args.self.now.wide in
    let a = wide.0 in
    let b = wide.1 in
    let p = c.requires.table.1 in
    (i.0 ∙ c.requires.table.0, omega arith, takes_at c.args.self.now.table.shared.key _ _ c.loop.seat.me c.args.position _ c.args.number (omega arith) (v.4 ∙ ap (λ m. m.0.number) (sym i.1)) p (subst (λ m. 0 < m.0.book.standing.stands) (sym i.1) v.0) (ap (λ m. m.0.held) i.1 ∙ v.1) (ap (λ m. m.0.note) i.1 ∙ v.2) (ap (λ m. m.0.base) i.1 ∙ v.3))

pub returns-then-compare_exchange-eq0-clause-view : goal.returns-then-compare_exchange-eq0-clause-view
returns-then-compare_exchange-eq0-clause-view g c =
    let i = c.loop.invariant in
    let e = c.compare_exchange.ensures in
    let a = c.args.self.now.wide.0 in
    let now = won c.loop.seat.me c.compare_exchange.new.seat.me c.args.position _ c.args.self.now.count c.compare_exchange.result 0 c.args.number refl (ap (λ m. m.0.base) i.1 ∙ c.requires.view.3 ∙ sym a) e.2 c.if-compare_exchange-eq0.true in
    now ∙ ap (λ m. (holding m.0 c.args.position, m.1)) i.1

pub loop-preserved : goal.loop-preserved
loop-preserved g c =
    let i = c.loop.invariant in
    let e = c.compare_exchange.ensures in
    (e.0 ∙ i.0, lost c.loop.seat.me c.compare_exchange.new.seat.me c.compare_exchange.result 0 (c.args.self.now.count + c.args.position) c.args.number e.2 c.if-compare_exchange-eq0.false ∙ i.1)
