use Rattle.fin_run.proofs.Running.{ends_leave, ends_within, ends_spent, ends_turns}
use Rattle.fin_run.proofs.whole.run_code.Goals as goal

pub returns-clause-leaves : goal.returns-clause-leaves
returns-clause-leaves g c = ends_leave c.args.budget _ _ c.run.result c.run.ensures

pub returns-clause-within : goal.returns-clause-within
returns-clause-within g c = ends_within c.args.budget _ _ c.run.result c.run.ensures

pub returns-clause-spent : goal.returns-clause-spent
returns-clause-spent g c = ends_spent c.args.budget _ _ c.run.result c.run.ensures

pub returns-clause-turns : goal.returns-clause-turns
returns-clause-turns g c = ends_turns c.args.budget _ _ c.run.result c.run.ensures
