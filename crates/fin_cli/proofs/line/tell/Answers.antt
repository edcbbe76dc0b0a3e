use Rattle.std.proofs.Common.{refl, inr}
use Rattle.fin_cli.specs.Due.{write_fault}
use Rattle.fin_cli.specs.Ends.{over}
use Rattle.fin_cli.proofs.Endings.{rose_on, tried}
use Rattle.fin_cli.proofs.line.tell.Goals as goal

pub returns-in-Err-clause-tells : goal.returns-in-Err-clause-tells
returns-in-Err-clause-tells g c =
    let first = c.in-Err.ensures in
    let moment = c.put_all.new.sink in
    let rest = over g.E.Sink.taken g.E.Sink.faults moment c.try_to_tell.new.err in
    inr (
      refl,
      rose_on _ _ _ first.cause.failed c.try_to_tell.ensures.counted,
      (moment, first.later, c.try_to_tell.ensures.later, first.cause.failed, first.bytes, tried rest write_fault c.try_to_tell.ensures.tries),
    )
