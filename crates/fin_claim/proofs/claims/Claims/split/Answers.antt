use Rattle.std.proofs.Common.{arith}
use Rattle.fin_claim.proofs.Moves.{splits}
use Rattle.fin_claim.proofs.claims.Claims.split.Goals as goal

pub split_seat-new-requires : goal.split_seat-new-requires
split_seat-new-requires c =
    let a = c.args.seat.now.counts.0 in
    let b = c.args.seat.now.unspent.0 in
    (c.requires.seat.0, (let w = c.args.self.now.one_word.0 in omega arith), splits c.args.self.now.table.shared.key _ _ (omega arith) c.requires.count.0 c.requires.count.1)
