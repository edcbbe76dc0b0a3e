-- What is gathered of statements, kind by kind, and of a body, statement by statement.
use Rattle.std.proofs.Common.{◌+◌, drop, map, ◌∙◌}
use Rattle.std.proofs.lemmas.Result.{IfOk-weaker}
use Rattle.fin_simp.specs.Numbered.{here_at, past_all, past_stmt}
use Rattle.fin_simp.specs.Facts.{marks, marks_of}
use Rattle.fin_simp.specs.Gathered.{as_rest, rest_of_all}
use Rattle.fin_simp.specs.declared.rest.RestWalk.{RestWalk}
use Rattle.fin_simp.proofs.Gathering.{next_is, next_past, next_rest}
use Rattle.fin_simp.proofs.GatheredKinds.{gathers_loop, gathers_cond, gathers_bind, block_rests, loop_rests, cond_rests, bind_rests}
use Rattle.fin_simp.proofs.rest.+stmt_rests.Goals as goal

pub rest_of-returns-in-Block-clause-found : goal.rest_of-returns-in-Block-clause-found
rest_of-returns-in-Block-clause-found t c =
    IfOk-weaker _ _ _ (λ (w : RestWalk) e. block_rests c.args.s.now c.in-Block.body c.as_slice.result.now c.in-Block.line c.in-Block.last (here_at c.args.read c.args.test) (marks c.args.facts.now)
    (as_rest w.found) c.in-Block.is c.as_slice.ensures e) c.rest_of_all.ensures.found

pub rest_of-returns-in-Loop-clause-found : goal.rest_of-returns-in-Loop-clause-found
rest_of-returns-in-Loop-clause-found t c =
    IfOk-weaker _ _ _ (λ (w : RestWalk) e. loop_rests c.args.s.now c.in-Loop.var c.in-Loop.range c.in-Loop.par c.in-Loop.body c.as_slice-in-Loop.result.now c.in-Loop.line c.in-Loop.last
    (here_at c.args.read c.args.test)
    (marks c.args.facts.now) (as_rest w.found) c.in-Loop.is c.as_slice-in-Loop.ensures e) c.rest_of_loop.ensures.found

pub rest_of-returns-in-Cond-clause-found : goal.rest_of-returns-in-Cond-clause-found
rest_of-returns-in-Cond-clause-found t c =
    IfOk-weaker _ _ _ (λ (w : RestWalk) e. cond_rests c.args.s.now c.in-Cond.test c.in-Cond.body c.as_slice-in-Cond.result.now c.in-Cond.line c.in-Cond.last (here_at c.args.read c.args.test)
    (marks c.args.facts.now) (as_rest w.found) c.in-Cond.is c.as_slice-in-Cond.ensures e) c.rest_of_cond.ensures.found

pub rest_of-returns-in-Bind-clause-found : goal.rest_of-returns-in-Bind-clause-found
rest_of-returns-in-Bind-clause-found t c =
    IfOk-weaker _ _ _ (λ (w : RestWalk) e. bind_rests c.args.s.now c.in-Bind.var c.in-Bind.value c.in-Bind.body c.as_slice-in-Bind.result.now c.in-Bind.line c.in-Bind.last
    (here_at c.args.read c.args.test)
    (marks c.args.facts.now) (as_rest w.found) c.in-Bind.is c.as_slice-in-Bind.ensures e) c.rest_of_bind.ensures.found

pub rest_of_loop-returns-clause-found : goal.rest_of_loop-returns-clause-found
rest_of_loop-returns-clause-found t c =
    let f = c.args.at.now.facts in
    gathers_loop c.args.var c.args.body.now (here_at c.args.at.now.read c.args.at.now.test) f.gaps.now f.known.now f.bound.now c.as_slice.result.now c.in_ok-bound.bound.items c.no_expr.result
    c.new.result c.in_ok-body.body.found c.walking.result.found c.in_ok-bound.ensures c.as_slice.ensures.value c.no_expr.ensures c.new.ensures c.in_ok-body.ensures.found
    (c.walking.ensures.found ∙ c.in_ok-found.ensures)

pub rest_of_cond-returns-clause-found : goal.rest_of_cond-returns-clause-found
rest_of_cond-returns-clause-found t c =
    let at = c.args.at.now in
    let f = at.facts in
    gathers_cond c.args.condition.now c.args.body.now at.read at.test c.in_ok-next.next c.in_ok-value.value.next f.gaps.now f.known.now f.bound.now c.in_ok-value.value.found c.test_of.result
    c.settled-told.result c.in_ok-left.left.left c.into_expr.result c.testing-own.result c.in_ok-body.body.found c.walking.result.found
    c.in_ok-value.ensures.found c.in_ok-value.ensures.next c.in_ok-left.ensures.left c.into_expr.ensures c.testing-own.ensures.test c.testing-own.ensures.expr c.test_of.ensures
    c.settled-told.ensures c.in_ok-next.ensures c.in_ok-body.ensures.found (c.walking.ensures.found ∙ c.in_ok-found.ensures)

pub rest_of_bind-returns-clause-found : goal.rest_of_bind-returns-clause-found
rest_of_bind-returns-clause-found t c =
    let at = c.args.at.now in
    let f = at.facts in
    gathers_bind c.args.var c.args.value.now c.args.body.now at.read at.test c.in_ok-value.value.next f.gaps.now f.known.now f.bound.now c.as_slice.result.now c.in_ok-bound.bound.items
    c.in_ok-value.value.found c.in_ok-body.body.found c.walking.result.found c.in_ok-value.ensures.found c.in_ok-value.ensures.next c.in_ok-bound.ensures c.as_slice.ensures.value
    c.in_ok-body.ensures.found
    (c.walking.ensures.found ∙ c.in_ok-found.ensures)

pub rest_of_all-loop-s-preserved : goal.rest_of_all-loop-s-preserved
rest_of_all-loop-s-preserved t c =
    let f = c.args.facts.now in
    let m = marks_of f.gaps.now f.known.now f.bound.now in
    let body = c.args.body.now in
    let i = c.loop-s.s-index in
    let x = c.s-item.result in
    let here = here_at c.loop-s.next_read c.loop-s.next_test in
    let behind = here_at c.in_ok-one.one.read c.in_ok-one.one.test in
    let outset = here_at c.args.read c.args.test in
    let is = next_is body i x c.loop-s-test.true c.s-item.is in
    record {
      found = next_rest x (drop (i + 1) body) (drop i body) here behind m c.loop-s.found c.in_ok-one.one.found c.in_ok-found.found (rest_of_all body outset m) is c.in_ok-one.ensures.past
          c.loop-s.invariant.found c.in_ok-one.ensures.found
          c.in_ok-found.ensures;
      past = next_past x (drop (i + 1) body) (drop i body) here behind (past_all (map past_stmt body) outset) is c.in_ok-one.ensures.past c.loop-s.invariant.past;
    }
