use Rattle.std.proofs.Common.{◌∙◌, ap, arith, if◌then◌else◌}
use Rattle.fin_ast.specs.declared.mode.Mode.TheVariants.{Read}
use Rattle.fin_ast.specs.Kinds.{is_input}
use Rattle.fin_life.specs.Passage.{ModeOf, turned}
use Rattle.fin_life.proofs.Headers.{led_next}
use Rattle.fin_life.proofs.modes.Modes.at_start.Goals as goal

pub loop-tensor-preserved : goal.loop-tensor-preserved
loop-tensor-preserved c =
    c.start.ensures
    ∙ ap (λ (m : ModeOf). if is_input c.index-headers-tensor.result.kind then turned m c.loop-tensor.tensor Read else m) c.loop-tensor.invariant
    ∙ led_next c.args.headers.now c.loop-tensor.tensor c.index-headers-tensor.result (omega arith) c.index-headers-tensor.is
