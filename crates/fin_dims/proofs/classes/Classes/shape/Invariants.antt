use Rattle.std.proofs.Common.{◌≡◌, ◌+◌, drop, []}
use Rattle.fin_ast.specs.Sizes.{shape_from}
use Rattle.fin_dims.specs.Settled.{extent_of}
use Rattle.fin_dims.proofs.classes.Classes.shape.Given as goal

abbrev pub invariant-loop-level : goal.invariant-loop-level
invariant-loop-level l = record {
  dimension : l.at ≡ l.dimension + l._level-index;
  rest : shape_from (extent_of l.self) l.at (drop l._level-index l.levels) l.shape ≡ shape_from (extent_of l.self) l.dimension l.levels [];
}
