use Rattle.fin_stage.proofs.Soundness.{accepted_is_sound as law}
use Rattle.fin_stage.proofs.laws.accepted_is_sound.Goals as goal

pub returns : goal.returns
returns c = law
