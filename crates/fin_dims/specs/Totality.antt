-- Each program has extents or a first breach.
use Rattle.std.specs.Prelude.{◌⊎◌}
use Rattle.fin_base.specs.declared.refusal.Refusal.{Refusal}
use Rattle.fin_ast.specs.declared.program.Program.{Program}
use Rattle.fin_ast.specs.declared.checked.Dims.{Dims}
use Rattle.fin_ast.specs.Infer.{IsFirstBreach, IsInferred}
use Rattle.fin_ast.specs.Ties.{Shapes}

-- the extents are inferred, or a rule on extents is broken
abbrev pub IsInferredOrBroken : Program → Shapes → Type 0
IsInferredOrBroken program inputs = ((dims : Dims) × IsInferred program inputs dims) ⊎ ((refusal : Refusal) × IsFirstBreach program inputs refusal)

abbrev pub InferredOrBreach : Type 0
InferredOrBreach = (program : Program) (inputs : Shapes) → IsInferredOrBroken program inputs
