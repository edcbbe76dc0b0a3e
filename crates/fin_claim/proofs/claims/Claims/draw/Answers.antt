use Rattle.std.proofs.Common.{arith}
use Rattle.fin_claim.proofs.Moves.{draws}
use Rattle.fin_claim.proofs.claims.Claims.draw.Goals as goal

pub fetch_add-n-requires : goal.fetch_add-n-requires
fetch_add-n-requires c = (c.requires.seat.0, (let w = c.args.self.now.one_word.0 in omega arith), draws c.args.self.now.table.shared.key _ _ c.args.seat.now.seat.me c.requires.undone)
