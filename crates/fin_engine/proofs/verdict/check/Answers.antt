use Rattle.fin_engine.proofs.Fitted.{accepted_result, inputs_result, safe_result}
use Rattle.fin_engine.proofs.verdict.check.Goals as goal

pub returns-clause-accepted : goal.returns-clause-accepted
returns-clause-accepted c = accepted_result c.args.text.now c.check_text.result c.check_text.ensures.verdict

pub returns-clause-inputs : goal.returns-clause-inputs
returns-clause-inputs c = inputs_result c.args.text.now c.check_text.result c.check_text.ensures.verdict

pub returns-clause-safe : goal.returns-clause-safe
returns-clause-safe c = safe_result c.args.text.now c.check_text.result c.check_text.ensures.verdict
