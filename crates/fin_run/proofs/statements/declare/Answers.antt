use Rattle.std.proofs.Common.{ap, ◌∙◌, List, [], ℕ}
use Rattle.fin_tensor.specs.declared.format.Format.{Format}
use Rattle.fin_tensor.specs.Building.{no_format, started}
use Rattle.fin_ir.specs.Machine.{format_at}
use Rattle.fin_tensor.proofs.Walk.{got}
use Rattle.fin_run.proofs.Steps.{declare_builds, declare_does}
use Rattle.fin_run.proofs.statements.declare.Goals as goal

pub new-requires : goal.new-requires
new-requires c = declare_builds c.args.layout.now c.args.tensor c.get.result.now c.get-2.result.now c.requires c.get.ensures c.get-2.ensures

pub returns : goal.returns
returns c = λ inputs budget within. (
  λ n. declare_does inputs c.args.state.now n c.set_held.new.tensors.items c.args.layout.now c.args.tensor c.in_ok-builder.builder c.requires
      (c.in_ok-builder.ensures ∙ ap (λ (f : Format). started f c.get-2.result.now) (got c.args.layout.now.formats c.args.tensor no_format _ c.get.ensures) ∙ ap (λ (ns : List ℕ). started (format_at c.args.layout.now c.args.tensor) ns) (got c.args.layout.now.shapes c.args.tensor [] _ c.get-2.ensures))
      c.set_held.ensures,
  within,
)
