use Rattle.fin_descend.proofs.Composing.{frames_compose as law}
use Rattle.fin_descend.proofs.laws.frames_compose.Goals as goal

pub returns : goal.returns
returns c = law
