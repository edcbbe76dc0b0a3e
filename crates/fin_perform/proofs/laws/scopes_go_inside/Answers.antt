use Rattle.fin_perform.proofs.Naming.{scopes_go_inside as law}
use Rattle.fin_perform.proofs.laws.scopes_go_inside.Goals as goal

pub returns : goal.returns
returns c = law
