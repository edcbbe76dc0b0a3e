-- What is gathered of a body, statement by statement.
use Rattle.std.proofs.Common.{◌≡◌, drop, map}
use Rattle.fin_simp.specs.Numbered.{past_stmt, past_all, here_at}
use Rattle.fin_simp.specs.Facts.{marks_of}
use Rattle.fin_simp.specs.Rest.{beside}
use Rattle.fin_simp.specs.Gathered.{as_rest, rest_of_all}
use Rattle.fin_simp.proofs.rest.+stmt_rests.Given as goal

abbrev pub invariant-rest_of_all-loop-s : goal.invariant-rest_of_all-loop-s
invariant-rest_of_all-loop-s l =
    let m = marks_of l.facts.gaps.now l.facts.known.now l.facts.bound.now in
    record {
      found : beside (as_rest l.found) (rest_of_all (drop l.s-index l.body) (here_at l.next_read l.next_test) m) ≡ rest_of_all l.body (here_at l.fn.read l.fn.test) m;
      past : past_all (map past_stmt (drop l.s-index l.body)) (here_at l.next_read l.next_test) ≡ past_all (map past_stmt l.body) (here_at l.fn.read l.fn.test);
    }
