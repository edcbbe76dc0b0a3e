use Rattle.std.proofs.Common.{map, refl}
use Rattle.std.specs.Prelude.{string_bytes}
use Rattle.fin_words.specs.Reading.{reading}
use Rattle.fin_cli.specs.Ends.{FailsWithin, across, over}
use Rattle.fin_cli.proofs.Serving.{serves_memory}
use Rattle.fin_cli.proofs.top.finch.Goals as goal

pub returns-in-Err-clause-serves : goal.returns-in-Err-clause-serves
returns-in-Err-clause-serves g c =
    let left = g.S.Source.left c.args.source.now in let faults = g.S.Source.faults c.args.source.now in
    let took = g.O.Sink.taken c.args.out.now in let out_faults = g.O.Sink.faults c.args.out.now in
    let err = over g.E.Sink.taken g.E.Sink.faults c.args.err.now c.try_to_tell.new.err in
    let within = FailsWithin g.E.Sink.taken g.E.Sink.faults g.E.Sink.Later c.args.err.now c.try_to_tell.new.err in
    serves_memory (reading (map string_bytes c.args.words.now)) (across left left faults faults) (across took took out_faults out_faults) err within refl refl c.try_to_tell.ensures.tries
