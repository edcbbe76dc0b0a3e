use Rattle.fin_loops.proofs.TopsJumpless.{tops_hold_no_jumpers as law}
use Rattle.fin_loops.proofs.laws.tops_hold_no_jumpers.Goals as goal

pub returns : goal.returns
returns c = law
