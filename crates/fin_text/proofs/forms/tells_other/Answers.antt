use Rattle.fin_text.proofs.Seconds.{tells_other, told_other}
use Rattle.fin_text.proofs.forms.tells_other.Goals as goal

pub returns-in-Some : goal.returns-in-Some
returns-in-Some c = (λ t. tells_other _ _ _ _ c.in-Some.ensures (c.is_other.ensures.0 t), λ h. c.is_other.ensures.1 (told_other _ _ _ _ c.in-Some.ensures h))
