use Rattle.std.proofs.Common.{◌≡◌, ◌*◌, ◌+◌, drop}
use Rattle.fin_ast.specs.Places.{uses_of}
use Rattle.fin_ast.proofs.gather.gather_uses.Given as goal

abbrev pub invariant-loop-index : goal.invariant-loop-index
invariant-loop-index l = record {
  at : l.dimension ≡ 8 * l.tensor + l.index-index;
  rest : uses_of l.line l.dimension (drop l.index-index l.at) l.into.items ≡ uses_of l.line (8 * l.tensor) l.at l.fn.into.items;
}
