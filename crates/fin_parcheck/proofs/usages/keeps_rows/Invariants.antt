use Rattle.std.proofs.Common.{◌≡◌, drop}
use Rattle.std.specs.List.{list_all}
use Rattle.fin_parcheck.specs.Ways.{keeps_row}
use Rattle.fin_parcheck.proofs.usages.keeps_rows.Given as goal

abbrev pub invariant-loop-deed : goal.invariant-loop-deed
invariant-loop-deed l = list_all (keeps_row l.var l.tensor) (drop l.deed-index l.deeds) ≡ list_all (keeps_row l.var l.tensor) l.deeds
