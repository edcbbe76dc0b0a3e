use Rattle.std.proofs.Common.{subst, sym}
use Rattle.fin_cli.specs.Due.{IsDueThen}
use Rattle.fin_cli.specs.Ends.{over}
use Rattle.fin_cli.specs.Stops.{Comes}
use Rattle.fin_cli.proofs.modes.serve_accepted.Goals as goal

pub returns-in-Run-clause-comes : goal.returns-in-Run-clause-comes
returns-in-Run-clause-comes g c = λ source text is.
    let out = over g.O.Sink.taken g.O.Sink.faults c.args.out.now c.run.new.out in
    subst (λ m. Comes source out (IsDueThen c.args.asked.now m text) c.run.result) (sym c.in-Run.is) (c.run.ensures.comes source text is)

pub returns-in-Plain-clause-comes : goal.returns-in-Plain-clause-comes
returns-in-Plain-clause-comes g c = λ source text is.
    let out = over g.O.Sink.taken g.O.Sink.faults c.args.out.now c.evaluate.new.out in
    subst (λ m. Comes source out (IsDueThen c.args.asked.now m text) c.evaluate.result) (sym c.in-Plain.is) (c.evaluate.ensures.comes source text is)

pub returns-in-Check-clause-comes : goal.returns-in-Check-clause-comes
returns-in-Check-clause-comes g c = λ source text is.
    let out = over g.O.Sink.taken g.O.Sink.faults c.args.out.now c.accept.new.out in
    subst (λ m. Comes source out (IsDueThen c.args.asked.now m text) c.accept.result) (sym c.in-Check.is) (c.accept.ensures.comes c.args.asked.now source text)
