use Rattle.std.proofs.Common.{rules}
use Rattle.std.proofs.lemmas.Int.{wraps}
use Rattle.fin_base.proofs.operators.negate.Goals as goal

pub returns : goal.returns
returns c = search (rules, wraps)
