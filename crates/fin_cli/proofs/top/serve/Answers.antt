use Rattle.std.proofs.Common.{◌≡◌, ◌∙◌, ◌≤◌, refl, sym, subst, [], arith, map}
use Rattle.std.specs.Prelude.{Some, None, Option, string_bytes, IsOk}
use Rattle.std.proofs.KnownBytes.{Appends-nil}
use Rattle.fin_words.specs.Reading.{reading}
use Rattle.fin_words.specs.declared.mode.Asked.{Asked}
use Rattle.fin_cli.specs.Due.{IsDue, reads, unread}
use Rattle.fin_cli.specs.Ends.{Ends, FailsWithin, Reads, across, over}
use Rattle.fin_cli.proofs.Endings.{ends_told}
use Rattle.fin_cli.proofs.Jobs.{finished_by, job_of, no_job}
use Rattle.fin_cli.proofs.Serving.{serves_memory}
use Rattle.fin_cli.proofs.top.serve.Goals as goal

pub returns-in-Ok-Some-clause-serves : goal.returns-in-Ok-Some-clause-serves
returns-in-Ok-Some-clause-serves g c =
    let left = g.S.Source.left in let faults = g.S.Source.faults in
    let old = c.args.source.now in let new = c.outcome.new.source in
    let source = over left faults old new in
    let out = over g.O.Sink.taken g.O.Sink.faults c.args.out.now c.outcome.new.out in
    let err = over g.E.Sink.taken g.E.Sink.faults c.args.err.now c.report.new.err in
    let within = FailsWithin g.E.Sink.taken g.E.Sink.faults g.E.Sink.Later c.args.err.now c.report.new.err in
    let asked = c.in-Ok-Some.asked in
    let is : Some asked ≡ reading (map string_bytes c.args.words.now) = sym c.in-Ok-Some.field-0-is ∙ c.in-Ok-Some.ensures.value in
    let came = c.outcome.ensures.comes in
    let job = came.0 in (
      job,
      subst (λ (o : Option Asked). Reads source (reads o) job (c.report.result ≤ 2)) is
          (finished_by source (reads (Some asked)) job (IsOk c.outcome.result) (c.report.result ≤ 2) (c.report.ensures.finished source out asked asked.mode job came.2) came.1),
      subst (λ (o : Option Asked). Ends source out err within (IsDue o job) c.report.result) is (c.report.ensures.ends source out asked asked.mode job came.2),
    )

pub returns-in-Ok-None-clause-serves : goal.returns-in-Ok-None-clause-serves
returns-in-Ok-None-clause-serves g c =
    let left = g.S.Source.left c.args.source.now in let faults = g.S.Source.faults c.args.source.now in
    let source = across left left faults faults in
    let took = g.O.Sink.taken c.args.out.now in let out_faults = g.O.Sink.faults c.args.out.now in
    let out = across took took out_faults out_faults in
    let err = over g.E.Sink.taken g.E.Sink.faults c.args.err.now c.tell.new.err in
    let within = FailsWithin g.E.Sink.taken g.E.Sink.faults g.E.Sink.Later c.args.err.now c.tell.new.err in
    let is : None ≡ reading (map string_bytes c.args.words.now) = sym c.in-Ok-None.field-0-is ∙ c.in-Ok-None.ensures.value in
    let job = job_of left [] in (
      job,
      subst (λ (o : Option Asked). Reads source (reads o) job (c.tell.result ≤ 2)) is (no_job source (c.tell.result ≤ 2) refl),
      subst (λ (o : Option Asked). Ends source out err within (IsDue o job) c.tell.result) is
          (ends_told source out err within (IsDue None job) unread _ 2 c.tell.result refl (omega arith) refl refl (Appends-nil took) c.tell.ensures.tells),
    )

pub returns-in-Err-clause-serves : goal.returns-in-Err-clause-serves
returns-in-Err-clause-serves g c =
    let left = g.S.Source.left c.args.source.now in let faults = g.S.Source.faults c.args.source.now in
    let took = g.O.Sink.taken c.args.out.now in let out_faults = g.O.Sink.faults c.args.out.now in
    let err = over g.E.Sink.taken g.E.Sink.faults c.args.err.now c.try_to_tell.new.err in
    let within = FailsWithin g.E.Sink.taken g.E.Sink.faults g.E.Sink.Later c.args.err.now c.try_to_tell.new.err in
    serves_memory (reading (map string_bytes c.args.words.now)) (across left left faults faults) (across took took out_faults out_faults) err within refl refl c.try_to_tell.ensures.tries
