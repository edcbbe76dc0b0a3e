use Rattle.fin_work.proofs.Soundness.{pieced_is_sound as law}
use Rattle.fin_work.proofs.laws.pieced_is_sound.Goals as goal

pub returns : goal.returns
returns c = law
