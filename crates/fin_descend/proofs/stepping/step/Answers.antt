use Rattle.std.proofs.Common.{IfOk, subst}
use Rattle.fin_style_point.specs.declared.nest.Nest.{Nest}
use Rattle.fin_descend.specs.declared.stepping.Split.{Split}
use Rattle.fin_descend.specs.Promises.{StaySeparate}
use Rattle.fin_descend.proofs.stepping.step.Goals as goal

-- the copy that is stepped is the nest
pub returns-clause-separate : goal.returns-clause-separate
returns-clause-separate c = subst (λ (n : Nest). IfOk c.step_along.result (λ (p : Split). StaySeparate p n)) c.in_ok-copy.ensures c.step_along.ensures.separate
