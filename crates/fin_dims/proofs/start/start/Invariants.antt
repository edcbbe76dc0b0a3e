use Rattle.std.proofs.Common.{◌≡◌, None}
use Rattle.std.specs.Prelude.{replicate}
use Rattle.fin_dims.specs.Start.{HasDimensions}
use Rattle.fin_dims.proofs.start.start.Given as goal

abbrev pub invariant-loop-dimension : goal.invariant-loop-dimension
invariant-loop-dimension l = record {
  anchors : l.classes.anchors.items ≡ replicate l.loops None;
  dimensions : HasDimensions l.shapes l.dimension l.classes;
}
