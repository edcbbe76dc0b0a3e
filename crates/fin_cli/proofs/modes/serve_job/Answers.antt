use Rattle.std.proofs.Common.{Err, refl, subst}
use Rattle.fin_engine.specs.Verdict.{Checks, IsJob}
use Rattle.fin_cli.specs.Due.{IsDueThen}
use Rattle.fin_cli.proofs.Comings.{comes_failed, comes_then}
use Rattle.fin_cli.proofs.modes.serve_job.Goals as goal

pub returns-in-Err-clause-comes : goal.returns-in-Err-clause-comes
returns-in-Err-clause-comes g c = λ source.
    let text = c.args.text.items in
    let verdict = subst (λ t. Checks t (Err c.in-Err.fail)) c.deref.ensures.value c.in-Err.ensures.verdict in
    comes_failed text (IsDueThen c.args.asked.now c.args.asked.now.mode text) source _ c.in-Err.fail c.failed.result c.requires.job verdict c.failed.ensures refl

pub returns-clause-comes : goal.returns-clause-comes
returns-clause-comes g c = λ source.
    let text = c.args.text.items in
    let is = subst (λ t. IsJob t c.in-Ok.job) c.deref.ensures.value c.in-Ok.ensures.verdict in
    comes_then text (IsDueThen c.args.asked.now c.args.asked.now.mode text) source _ c.serve_accepted.result c.requires.job (c.in-Ok.job, is) (c.serve_accepted.ensures.comes source text is)
