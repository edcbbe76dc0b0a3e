-- Nothing is left of the statements so far, and what codes mean for the others they mean for the body.
use Rattle.std.proofs.Common.{◌≡◌, ◌+◌, ◌*◌, drop}
use Rattle.fin_simp.specs.Facts.{marks_of}
use Rattle.fin_simp.specs.Numbered.{here_at}
use Rattle.fin_perform.proofs.Leaving.{Are, Whole}
use Rattle.fin_perform.proofs.Weights.{weight, weights}
use Rattle.fin_perform.proofs.once.+once.Given as goal

abbrev pub decreases-push_once : goal.decreases-push_once
decreases-push_once l = 2 * weights l.body.now + 1

abbrev pub decreases-push_one : goal.decreases-push_one
decreases-push_one l = 2 * weight l.s.now

abbrev pub invariant-push_once-loop-s : goal.invariant-push_once-loop-s
invariant-push_once-loop-s l =
    let m = marks_of l.at.facts.gaps.now l.at.facts.known.now l.at.facts.bound.now in
    let here = here_at l.read l.test in
    record {
      same : l.into ≡ l.fn.into;
      one : Are m (drop l.s-index l.body) here;
      goes : Whole l.at.next m (drop l.s-index l.body) here l.body (here_at l.fn.at.read l.fn.at.test);
    }
