use Rattle.std.proofs.Common.{arith}
use Rattle.fin_mutex.proofs.Joining.{splits}
use Rattle.fin_mutex.proofs.turns.Turns.split.Goals as goal

pub split_seat-new-requires : goal.split_seat-new-requires
split_seat-new-requires c = (c.requires.seat.0, (let w = c.args.self.now.wide in let a = w.0 in let b = w.1 in let n = c.args.self.now.small.0 in omega arith), splits c.args.self.now.table.shared.key _ _ c.args.seat.now.unspent c.requires.count.0 c.requires.count.1)
