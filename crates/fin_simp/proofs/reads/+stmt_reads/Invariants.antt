use Rattle.std.proofs.Common.{◌≡◌, ◌&&◌, ◌++◌, drop, map}
use Rattle.fin_simp.specs.Numbered.{past_stmt, past_all, here_at}
use Rattle.fin_simp.specs.Reads.{reads_of_all}
use Rattle.fin_simp.specs.Facts.{marks_of}
use Rattle.fin_simp.proofs.reads.+stmt_reads.Given as goal

abbrev pub invariant-reads_of_all-loop-s : goal.invariant-reads_of_all-loop-s
invariant-reads_of_all-loop-s l =
    let rest = reads_of_all (drop l.s-index l.body) (here_at l.next_read l.next_test) (marks_of l.facts.gaps.now l.facts.known.now l.facts.bound.now) in
    let whole = reads_of_all l.body (here_at l.fn.read l.fn.test) (marks_of l.facts.gaps.now l.facts.known.now l.facts.bound.now) in
    record {
      nothing : (l.nothing && rest.nothing) ≡ whole.nothing;
      reads : l.reads ++ rest.reads ≡ whole.reads;
      past : past_all (map past_stmt (drop l.s-index l.body)) (here_at l.next_read l.next_test) ≡ past_all (map past_stmt l.body) (here_at l.fn.read l.fn.test);
    }
