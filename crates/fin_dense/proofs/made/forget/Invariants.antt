use Rattle.std.proofs.Common.{◌≡◌, take}
use Rattle.fin_ast.specs.Dense.{kept}
use Rattle.fin_dense.proofs.made.forget.Given as goal

abbrev pub invariant-loop-i : goal.invariant-loop-i
invariant-loop-i l = l.made.items ≡ kept (take l.i l.before) l.initial.made.items
