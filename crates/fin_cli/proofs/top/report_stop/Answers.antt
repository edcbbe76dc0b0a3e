use Rattle.std.proofs.Common.{subst}
use Rattle.std.specs.Prelude.{Err}
use Rattle.fin_cli.specs.Due.{IsDueMode}
use Rattle.fin_cli.specs.Stops.{Comes}
use Rattle.fin_cli.proofs.Endings.{ends_write}
use Rattle.fin_cli.proofs.top.report_stop.Goals as goal

pub returns-in-WriteFault-clause-ends : goal.returns-in-WriteFault-clause-ends
returns-in-WriteFault-clause-ends g c = λ source out asked mode job comes.
    let h = subst (λ s. Comes source out (IsDueMode asked mode job) (Err s)) c.in-WriteFault.is comes in
    ends_write source out _ _ (IsDueMode asked mode job) h.0 h.1 c.try_to_tell.ensures.tries
