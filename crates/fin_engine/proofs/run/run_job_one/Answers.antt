use Rattle.fin_engine.proofs.Wordy.{jobs_are_wordy}
use Rattle.fin_engine.proofs.run.run_job_one.Goals as goal

pub run_plan-requires-clause-wordy : goal.run_plan-requires-clause-wordy
run_plan-requires-clause-wordy c = jobs_are_wordy c.args.job.now
