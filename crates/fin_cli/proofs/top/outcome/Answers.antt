use Rattle.std.proofs.Common.{ap, refl, subst, sym, [], IsOk, Bool}
use Rattle.fin_base.specs.declared.refusal.Rule.TheVariants.{S2}
use Rattle.fin_words.specs.declared.mode.Mode.{Mode}
use Rattle.fin_cli.specs.Due.{IsDueMode, reads_job}
use Rattle.fin_cli.specs.Ends.{Reads, across, over}
use Rattle.fin_cli.proofs.Comings.{comes_of_mode, refuses_comes}
use Rattle.fin_cli.proofs.Jobs.{job_of, no_job}
use Rattle.fin_cli.proofs.top.outcome.Goals as goal

pub returns-in-Gen-clause-comes : goal.returns-in-Gen-clause-comes
returns-in-Gen-clause-comes g c =
    let left = g.S.Source.left c.args.source.now in
    let faults = g.S.Source.faults c.args.source.now in
    let source = across left left faults faults in
    let mode = c.args.asked.now.mode in
    let job = job_of left [] in (
      job,
      subst (λ (b : Bool). Reads source b job (IsOk c.refused.result)) (sym (ap reads_job c.in-Gen.is)) (no_job source (IsOk c.refused.result) refl),
      refuses_comes (record { rule = S2; line = 0 }) c.refused.result source _ (IsDueMode c.args.asked.now mode job) c.refused.ensures refl
          (subst (λ (m : Mode). IsDueMode c.args.asked.now m job _) (sym c.in-Gen.is) refl),
    )

pub returns-in_default-clause-comes : goal.returns-in_default-clause-comes
returns-in_default-clause-comes g c =
    let source = over g.S.Source.left g.S.Source.faults c.args.source.now c.read_and_serve.new.source in
    let out = over g.O.Sink.taken g.O.Sink.faults c.args.out.now c.read_and_serve.new.out in
    let came = c.read_and_serve.ensures.comes in
    comes_of_mode c.args.asked.now c.args.asked.now.mode source out came.0 c.read_and_serve.result c.in_default.not-Gen came.1 came.2
