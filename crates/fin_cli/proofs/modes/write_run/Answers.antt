use Rattle.std.proofs.Common.{◌≡◌, ℕ, List, inl, subst}
use Rattle.std.proofs.KnownBytes.{Appends-nil}
use Rattle.fin_cli.specs.Due.{Due, due_outputs}
use Rattle.fin_cli.specs.Ends.{over}
use Rattle.fin_cli.specs.Stops.{Comes}
use Rattle.fin_cli.proofs.modes.write_run.Goals as goal

pub returns-in-Ok-clause-comes : goal.returns-in-Ok-clause-comes
returns-in-Ok-clause-comes g c = λ source.
    let out = over g.O.Sink.taken g.O.Sink.faults c.args.out.now c.write.new.out in
    subst (λ (told : List ℕ). Comes source out (λ (d : Due). d ≡ due_outputs c.args.job.now c.args.done.now.outputs told) c.write.result) c.in-Ok.ensures
    (c.write.ensures.comes source)

pub returns-in-Err-clause-comes : goal.returns-in-Err-clause-comes
returns-in-Err-clause-comes g c = λ source. inl (Appends-nil (g.O.Sink.taken c.args.out.now))
