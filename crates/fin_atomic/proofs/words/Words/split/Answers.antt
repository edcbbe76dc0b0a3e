use Rattle.fin_atomic.proofs.Moves.{splits}
use Rattle.fin_atomic.proofs.words.Words.split.Goals as goal

pub split_seat-new-requires : goal.split_seat-new-requires
split_seat-new-requires c = (c.requires.seat.0, c.args.self.now.wide.1, splits c.args.self.now.table.shared.key _ _ c.args.seat.now.unspent c.requires.count.0 c.requires.count.1)
