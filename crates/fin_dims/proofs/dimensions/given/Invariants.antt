use Rattle.std.proofs.Common.{◌≡◌, drop, []}
use Rattle.fin_ast.specs.Infer.{given}
use Rattle.fin_dims.proofs.dimensions.given.Given as goal

abbrev pub invariant-loop-k : goal.invariant-loop-k
invariant-loop-k l = given (drop l.k l.headers) (drop l.k l.shapes) l.given.items ≡ given l.headers l.shapes []
