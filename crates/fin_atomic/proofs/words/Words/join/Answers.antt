use Rattle.fin_atomic.proofs.Moves.{joins}
use Rattle.fin_atomic.proofs.words.Words.join.Goals as goal

pub join_seat-requires : goal.join_seat-requires
join_seat-requires c = (c.requires.seats.0.0, c.requires.seats.1.0, c.args.other.no_slot, c.args.self.now.wide.1, joins c.args.self.now.table.shared.key _ _ _ _ c.args.seat.now.unspent)
