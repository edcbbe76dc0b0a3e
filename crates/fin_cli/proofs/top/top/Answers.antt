use Rattle.std.proofs.Common.{map, refl}
use Rattle.std.specs.Prelude.{string_bytes}
use Rattle.fin_words.specs.Reading.{reading}
use Rattle.fin_words.specs.declared.mode.Mode.TheVariants.{Run, Plain}
use Rattle.fin_cli.specs.Ends.{FailsWithin, over}
use Rattle.fin_cli.proofs.Answered.{answers_whole}
use Rattle.fin_cli.proofs.Promised.{completes, has_causes, is_silent, tells_exactly, uses_exactly, writes_exactly}
use Rattle.fin_cli.proofs.top.top.Goals as goal

pub returns-clause-promises : goal.returns-clause-promises
returns-clause-promises g c =
    let asked = reading (map string_bytes c.args.words.now) in
    let source = over g.S.Source.left g.S.Source.faults c.args.source.now c.serve.new.source in
    let out = over g.O.Sink.taken g.O.Sink.faults c.args.out.now c.serve.new.out in
    let err = over g.E.Sink.taken g.E.Sink.faults c.args.err.now c.serve.new.err in
    let within = FailsWithin g.E.Sink.taken g.E.Sink.faults g.E.Sink.Later c.args.err.now c.serve.new.err in
    let serves = c.serve.ensures.serves in record {
      headline = writes_exactly Run asked source out err within c.serve.result refl serves;
      plain = writes_exactly Plain asked source out err within c.serve.result refl serves;
      answers = answers_whole asked source out err within c.serve.result serves;
      completeness = completes asked source out err within c.serve.result serves;
      usage = uses_exactly asked source out err within c.serve.result serves c.serve.ensures.unasked;
      causes = has_causes asked source out err within c.serve.result serves;
      silent = is_silent asked source out err within c.serve.result serves;
      telling = tells_exactly asked source out err within c.serve.result serves;
      serves = serves;
    }
