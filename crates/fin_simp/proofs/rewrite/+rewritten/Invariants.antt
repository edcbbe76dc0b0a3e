use Rattle.std.proofs.Common.{◌≡◌, ◌++◌, drop, map}
use Rattle.fin_simp.specs.Numbered.{past_stmt, past_all, here_at}
use Rattle.fin_simp.specs.Simplified.{simplified_all}
use Rattle.fin_simp.specs.Facts.{marks_of}
use Rattle.fin_simp.proofs.rewrite.+rewritten.Given as goal

abbrev pub invariant-simplify_all-loop-s : goal.invariant-simplify_all-loop-s
invariant-simplify_all-loop-s l = record {
  statements : l.statements ++ simplified_all (drop l.s-index l.body) (here_at l.next_read l.next_test) (marks_of l.facts.gaps.now l.facts.known.now l.facts.bound.now) ≡ simplified_all l.body (here_at l.fn.read l.fn.test) (marks_of l.facts.gaps.now l.facts.known.now l.facts.bound.now);
  past : past_all (map past_stmt (drop l.s-index l.body)) (here_at l.next_read l.next_test) ≡ past_all (map past_stmt l.body) (here_at l.fn.read l.fn.test);
}
