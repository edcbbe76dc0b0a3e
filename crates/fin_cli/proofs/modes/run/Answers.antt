use Rattle.std.proofs.Common.{◌≡◌, ℕ, refl, subst}
use Rattle.fin_cli.specs.Due.{Due, IsDueRun, IsRun, due_outputs, due_run, work_text}
use Rattle.fin_cli.specs.Ends.{over}
use Rattle.fin_cli.specs.Stops.{Comes}
use Rattle.fin_cli.proofs.Comings.{comes_as, comes_spent}
use Rattle.fin_cli.proofs.modes.run.Goals as goal

pub write_run-requires : goal.write_run-requires
write_run-requires g c = record { stored = c.in-Ok.ensures.stored }

pub returns-in-Ok-clause-comes : goal.returns-in-Ok-clause-comes
returns-in-Ok-clause-comes g c = λ source text is.
    let job = c.args.job.now in
    let done = c.in-Ok.ensures in
    let outputs = c.in-Ok.done.outputs in
    let asked = c.args.asked.now in
    let out = over g.O.Sink.taken g.O.Sink.faults c.args.out.now c.write_run.new.out in
    let run : IsRun job.checked job.inputs asked.budget outputs = record { within = done.within; stored = done.stored } in
    let came = subst (λ (work : ℕ). Comes source out (λ (d : Due). d ≡ due_outputs job outputs (work_text asked.stats work)) c.write_run.result) done.work (c.write_run.ensures.comes source) in
    comes_as (due_run asked job outputs) (IsDueRun asked text) source out c.write_run.result (IsDueRun.whole job outputs is run) came

pub returns-in-Err-clause-comes : goal.returns-in-Err-clause-comes
returns-in-Err-clause-comes g c = λ source text is.
    comes_spent c.args.asked.now text c.args.job.now source _ c.in-Err.spent c.failed.result is c.in-Err.ensures c.failed.ensures refl
