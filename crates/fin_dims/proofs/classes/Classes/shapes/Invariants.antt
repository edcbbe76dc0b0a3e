use Rattle.std.proofs.Common.{◌≡◌, drop, []}
use Rattle.fin_ast.specs.Sizes.{shapes_from}
use Rattle.fin_dims.specs.Settled.{extent_of}
use Rattle.fin_dims.proofs.classes.Classes.shapes.Given as goal

abbrev pub invariant-loop-tensor : goal.invariant-loop-tensor
invariant-loop-tensor l = shapes_from (extent_of l.self) l.tensor (drop l.tensor l.headers) l.shapes ≡ shapes_from (extent_of l.self) 0 l.headers []
