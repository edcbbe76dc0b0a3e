use Rattle.fin_descend.proofs.Later.{parts_come_later as law}
use Rattle.fin_descend.proofs.laws.parts_come_later.Goals as goal

pub returns : goal.returns
returns c = law
