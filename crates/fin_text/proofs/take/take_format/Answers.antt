use Rattle.std.proofs.Common.{subst}
use Rattle.fin_tensor.specs.Placement.{IsPlaced}
use Rattle.fin_tensor.specs.declared.format.Wrap.TheVariants.{Bare}
use Rattle.fin_text.specs.DueLines.{misformed}
use Rattle.fin_text.proofs.Seconds.{none_of, some_of}
use Rattle.fin_text.proofs.take.take_format.Goals as goal

pub returns-in_default : goal.returns-in_default
returns-in_default c = misformed (λ h. h) (λ h. none_of _ _ _ c.in_ok-levels.ensures c.in_default.is h.0 h.1)

pub returns-then-not-keeps_placement : goal.returns-then-not-keeps_placement
returns-then-not-keeps_placement c =
    let read = some_of _ _ _ _ c.in_ok-levels.ensures c.in-Some.is in
    misformed (λ h. h) (λ h. cc (c.if-not-keeps_placement.ensures.1 (subst (λ ls. IsPlaced ls Bare) (read.1 h.0 h.1) h.2)))
