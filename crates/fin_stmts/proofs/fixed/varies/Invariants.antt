use Rattle.std.proofs.Common.{◌≡◌, drop}
use Rattle.fin_stmts.specs.Varying.{varies_at}
use Rattle.fin_stmts.proofs.fixed.varies.Given as goal

abbrev pub invariant-loop-i : goal.invariant-loop-i
invariant-loop-i l = varies_at (drop l.i l.drives) (drop l.i l.reads) l.number ≡ varies_at l.drives l.reads l.number
