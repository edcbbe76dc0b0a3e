use Rattle.std.proofs.Common.{◌≡◌, drop}
use Rattle.std.specs.List.{list_any}
use Rattle.fin_simp.specs.Work.{names_var}
use Rattle.fin_stmts.proofs.fixed.name_var.Given as goal

abbrev pub invariant-loop-index : goal.invariant-loop-index
invariant-loop-index l = list_any (names_var l.var) (drop l.index-index l.indices) ≡ list_any (names_var l.var) l.indices
