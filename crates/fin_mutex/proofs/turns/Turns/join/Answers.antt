use Rattle.std.proofs.Common.{arith}
use Rattle.fin_mutex.proofs.Joining.{joins}
use Rattle.fin_mutex.proofs.turns.Turns.join.Goals as goal

pub join_seat-requires : goal.join_seat-requires
join_seat-requires c = (c.requires.seats.0.0, c.requires.seats.1.0, c.args.other.no_slot, (let w = c.args.self.now.wide in let a = w.0 in let b = w.1 in let n = c.args.self.now.small.0 in omega arith), joins c.args.self.now.table.shared.key _ _ _ _ c.args.seat.now.unspent c.args.other.idle.0 c.args.other.idle.1)
