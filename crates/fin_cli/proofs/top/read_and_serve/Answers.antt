use Rattle.std.proofs.Common.{◌<◌, inl, refl, sym, subst, length, arith}
use Rattle.fin_base.specs.declared.refusal.Rule.TheVariants.{J1}
use Rattle.std.proofs.KnownBytes.{Appends-nil}
use Rattle.fin_ports.specs.Bytes.{most}
use Rattle.fin_cli.specs.Due.{IsDueRead, IsDueThen}
use Rattle.fin_cli.specs.Ends.{over}
use Rattle.fin_cli.specs.Stops.{Comes}
use Rattle.fin_cli.proofs.Comings.{refuses_comes}
use Rattle.fin_cli.proofs.Jobs.{all_job, job_of, length_job, long_job, part_read, whole_job}
use Rattle.fin_cli.proofs.top.read_and_serve.Goals as goal

pub returns-in-Ok-clause-comes : goal.returns-in-Ok-clause-comes
returns-in-Ok-clause-comes g c =
    let left = g.S.Source.left in let faults = g.S.Source.faults in
    let old = c.args.source.now in let new = c.read_job.new.source in
    let source = over left faults old new in
    let out = over g.O.Sink.taken g.O.Sink.faults c.args.out.now c.serve_job.new.out in
    let bytes = c.in-Ok.job.items in
    let took = c.in-Ok.ensures.bytes in
    let is = sym (all_job (left old) (left new) bytes took.0 took.1) in (
      job_of (left old) bytes,
      whole_job source bytes _ took.0 took.1 took.2,
      subst (λ job. Comes source out (IsDueRead job (IsDueThen c.args.asked.now c.args.asked.now.mode job)) c.serve_job.result) is (c.serve_job.ensures.comes source),
    )

pub returns-in-Err-TooLong-clause-comes : goal.returns-in-Err-TooLong-clause-comes
returns-in-Err-TooLong-clause-comes g c =
    let left = g.S.Source.left in let faults = g.S.Source.faults in
    let old = c.args.source.now in let new = c.read_job.new.source in
    let source = over left faults old new in
    let took = rw c.in-Err-TooLong.field-0-is at c.in-Err-TooLong.ensures.bytes in
    let bytes = took.0 in
    let job = job_of (left old) bytes in
    let many : most < length job = omega (arith, length_job (left old) (left new) bytes took.1, took.2) in (
      job,
      long_job source bytes _ took.1 took.2,
      refuses_comes (record { rule = J1; line = 0 }) c.refused.result source _ (IsDueRead job (IsDueThen c.args.asked.now c.args.asked.now.mode job)) c.refused.ensures refl (IsDueRead.too_long many),
    )

pub returns-in-Err-Fault-clause-comes : goal.returns-in-Err-Fault-clause-comes
returns-in-Err-Fault-clause-comes g c =
    let left = g.S.Source.left in let faults = g.S.Source.faults in
    let old = c.args.source.now in let new = c.read_job.new.source in
    let source = over left faults old new in
    let took = rw c.in-Err-Fault.field-0-is at c.in-Err-Fault.ensures.bytes in
    (job_of (left old) took.0, part_read source took.0 _ took.1 took.2 (λ e. cc), (c.in-Err-Fault.ensures.cause c.in-Err-Fault.field-0-is, Appends-nil (g.O.Sink.taken c.args.out.now)))

pub returns-in-Err-Memory-clause-comes : goal.returns-in-Err-Memory-clause-comes
returns-in-Err-Memory-clause-comes g c =
    let left = g.S.Source.left in let faults = g.S.Source.faults in
    let old = c.args.source.now in let new = c.read_job.new.source in
    let source = over left faults old new in
    let took = rw c.in-Err-Memory.field-0-is at c.in-Err-Memory.ensures.bytes in
    (job_of (left old) took.0, part_read source took.0 _ took.1 took.2 (λ e. cc), inl (Appends-nil (g.O.Sink.taken c.args.out.now)))
