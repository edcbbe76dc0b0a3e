use Rattle.std.proofs.Common.{◌≡◌, drop}
use Rattle.std.specs.List.{list_any}
use Rattle.fin_ast.specs.Sizes.{is_large}
use Rattle.fin_dims.proofs.large.any_large.Given as goal

abbrev pub invariant-loop-n : goal.invariant-loop-n
invariant-loop-n l = list_any is_large (drop l.n-index l.numbers) ≡ list_any is_large l.numbers
