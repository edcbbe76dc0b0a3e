use Rattle.std.proofs.Common.{◌≡◌, drop}
use Rattle.fin_ast.specs.Sizes.{first_from, unknown_in_header}
use Rattle.fin_dims.specs.Settled.{extent_of}
use Rattle.fin_dims.proofs.classes.Classes.unknown_in_headers.Given as goal

abbrev pub invariant-loop-tensor : goal.invariant-loop-tensor
invariant-loop-tensor l = first_from (unknown_in_header (extent_of l.self)) l.tensor (drop l.tensor l.headers) ≡ first_from (unknown_in_header (extent_of l.self)) 0 l.headers
