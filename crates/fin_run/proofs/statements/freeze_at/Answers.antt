use Rattle.std.proofs.Common.{ap, ◌∙◌}
use Rattle.std.specs.Prelude.{Err}
use Rattle.fin_ir.proofs.Freezing.{allowed_not_large, refused_is_large, canon_is}
use Rattle.fin_run.proofs.Steps.{freeze_does, freeze_over, set_twice}
use Rattle.fin_run.proofs.statements.freeze_at.Goals as goal

pub returns-in-Ok : goal.returns-in-Ok
returns-in-Ok c = λ inputs budget within few. (
  λ n. freeze_does inputs c.args.state.now n c.set_held.new.tensors.items c.args.tensor c.take_builder-builder.result c.in-Ok.storage c.take_builder-builder.ensures.builder
      (allowed_not_large c.take_builder-builder.result c.in-Ok.ensures.allowed) (canon_is c.take_builder-builder.result c.in-Ok.storage c.in-Ok.ensures.canon)
      (set_twice c.args.state.now.tensors.items c.args.tensor _ _ _ _ c.take_builder-builder.ensures.taken c.set_held.ensures),
  within,
)

pub returns-in-Err-Large : goal.returns-in-Err-Large
returns-in-Err-Large c = λ inputs budget within few n.
    freeze_over inputs c.args.state.now n c.args.tensor budget c.take_builder-builder.result c.take_builder-builder.ensures.builder
    (refused_is_large c.take_builder-builder.result (λ a. c.freeze.ensures.large (c.in-Err-Large.is ∙ ap Err c.in-Err-Large.field-0-is) a)) few
