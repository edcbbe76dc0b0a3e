use Rattle.fin_lower.proofs.Whole.{accepted_is_lowered as law}
use Rattle.fin_lower.proofs.laws.accepted_is_lowered.Goals as goal

pub returns : goal.returns
returns c = law c.begun_machines_stand.ensures c.programs_stand.ensures c.accepted_is_sound.ensures c.pieced_is_sound.ensures
