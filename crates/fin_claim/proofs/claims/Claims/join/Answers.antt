use Rattle.std.proofs.Common.{ap, ◌∙◌, arith}
use Rattle.fin_claim.proofs.Moves.{joins, weighs}
use Rattle.fin_claim.proofs.claims.Claims.join.Goals as goal

pub join_seat-requires : goal.join_seat-requires
join_seat-requires c =
    let seated = c.args.seat.now.unspent in
    let same = c.args.seat.now.counts in
    let a = same.0 in
    let b = seated.0 in
    (c.requires.seats.0.0, c.requires.seats.1.0, c.args.other.no_slot, (let w = c.args.self.now.one_word.0 in omega arith), joins c.args.self.now.table.shared.key _ _ _ _ (omega arith))

pub load-requires : goal.load-requires
load-requires c =
    let a = c.args.seat.now.counts.0 in
    let b = c.args.seat.now.unspent.0 in
    let e = c.join_seat.ensures in
    let both = ap (λ m. m.0.standing.stands) e.2 in
    (e.0 ∙ c.requires.seats.0.0, (let w = c.args.self.now.one_word.0 in omega arith), weighs c.args.self.now.table.shared.key _ _ c.join_seat.new.seat.me (omega arith))
