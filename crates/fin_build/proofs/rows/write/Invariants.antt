use Rattle.std.proofs.Common.{◌≡◌, drop}
use Rattle.fin_build.specs.Shifts.{written}
use Rattle.fin_build.proofs.rows.write.Given as goal

abbrev pub invariant-loop-entry : goal.invariant-loop-entry
invariant-loop-entry l = record {
  rest : written l.shift (drop l.entry-index l.entries) l.function ≡ written l.shift l.entries l.fn.function;
  shape : l.function.shape ≡ l.fn.function.shape;
}
