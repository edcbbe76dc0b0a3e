-- What is gathered of a body as it is written, statement by statement.
use Rattle.std.proofs.Common.{◌≡◌, drop, map}
use Rattle.fin_simp.specs.Numbered.{past_stmt, past_all, here_at}
use Rattle.fin_simp.specs.Rest.{beside}
use Rattle.fin_simp.specs.Gathered.{as_rest, written_of_all}
use Rattle.fin_simp.proofs.written.+written.Given as goal

abbrev pub invariant-written_of_all-loop-s : goal.invariant-written_of_all-loop-s
invariant-written_of_all-loop-s l = record {
  found : beside (as_rest l.found) (written_of_all (drop l.s-index l.body) (here_at l.next_read l.next_test)) ≡ written_of_all l.body (here_at l.fn.read l.fn.test);
  past : past_all (map past_stmt (drop l.s-index l.body)) (here_at l.next_read l.next_test) ≡ past_all (map past_stmt l.body) (here_at l.fn.read l.fn.test);
}
