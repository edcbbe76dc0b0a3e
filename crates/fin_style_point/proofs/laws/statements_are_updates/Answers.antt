use Rattle.fin_style_point.proofs.Statements.{statements_are_updates as law}
use Rattle.fin_style_point.proofs.laws.statements_are_updates.Goals as goal

pub returns : goal.returns
returns c = law
