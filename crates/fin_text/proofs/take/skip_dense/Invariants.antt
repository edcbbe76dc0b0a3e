use Rattle.std.proofs.Common.{◌≡◌, ◌-◌, ◌≤◌, length}
use Rattle.fin_text.specs.DueLines.{with_dense}
use Rattle.fin_text.proofs.take.skip_dense.Given as goal

abbrev pub invariant-loop-draft : goal.invariant-loop-draft
invariant-loop-draft l = record {
  format : l.draft.format ≡ l.initial.draft.format;
  shape : l.draft.shape ≡ l.initial.draft.shape;
  parts : with_dense l.initial.draft.format l.draft.parts ≡ with_dense l.initial.draft.format l.initial.draft.parts;
  within : length l.draft.parts ≤ length l.draft.format.levels;
}

abbrev pub decreases-loop-draft : goal.decreases-loop-draft
decreases-loop-draft l = length l.draft.format.levels - length l.draft.parts
