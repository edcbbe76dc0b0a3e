use Rattle.std.proofs.Common.{◌≡◌, drop}
use Rattle.fin_simp.specs.Facts.{test_in}
use Rattle.fin_stmts.proofs.place.is_told.Given as goal

abbrev pub invariant-loop-one : goal.invariant-loop-one
invariant-loop-one l = test_in (drop l.one-index l.known) l.test ≡ test_in l.known l.test
