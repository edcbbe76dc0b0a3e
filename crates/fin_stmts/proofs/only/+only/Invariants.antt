-- Nothing is left of the statements so far, and what is all that is left of the others is all that is left of the body.
use Rattle.std.proofs.Common.{◌+◌, ◌*◌, drop}
use Rattle.fin_simp.specs.Facts.{marks_of}
use Rattle.fin_simp.specs.Numbered.{here_at}
use Rattle.fin_perform.proofs.Leaving.{Are}
use Rattle.fin_perform.proofs.Weights.{weight, weights}
use Rattle.fin_stmts.proofs.OnlyLeft.{Goes}
use Rattle.fin_stmts.proofs.only.+only.Given as goal

abbrev pub decreases-only_update : goal.decreases-only_update
decreases-only_update l = 2 * weights l.body.now + 1

abbrev pub decreases-only_one : goal.decreases-only_one
decreases-only_one l = 2 * weight l.s.now

abbrev pub invariant-only_update-loop-s : goal.invariant-only_update-loop-s
invariant-only_update-loop-s l =
    let m = marks_of l.at.facts.gaps.now l.at.facts.known.now l.at.facts.bound.now in
    let here = here_at l.read l.test in
    record {
      one : Are m (drop l.s-index l.body) here;
      goes : Goes m (drop l.s-index l.body) here l.body (here_at l.fn.at.read l.fn.at.test);
    }
