use Rattle.std.proofs.Common.{◌≡◌, drop}
use Rattle.fin_simp.specs.Work.{is_in}
use Rattle.fin_stmts.proofs.fixed.has_var.Given as goal

abbrev pub invariant-loop-one : goal.invariant-loop-one
invariant-loop-one l = is_in (drop l.one-index l.vars) l.var ≡ is_in l.vars l.var
