use Rattle.std.proofs.Common.{◌∙◌}
use Rattle.fin_simp.specs.Numbered.{here_at}
use Rattle.fin_simp.specs.Facts.{marks}
use Rattle.fin_simp.proofs.Rewriting.{block_left, loop_left, cond_left, bind_left}
use Rattle.fin_simp.proofs.rewrite.+rewritten.Goals as goal

pub simplify_stmt-returns-in_ok-statements-in-Block-clause-left : goal.simplify_stmt-returns-in_ok-statements-in-Block-clause-left
simplify_stmt-returns-in_ok-statements-in-Block-clause-left t c =
    block_left c.args.s.now c.in-Block.body c.as_slice.result.now c.in-Block.line c.in-Block.last (here_at c.args.read c.args.test) (marks c.args.facts.now) c.in_ok-left-in-Block.left.statements c.rewriting.result.statements
    c.in-Block.is c.as_slice.ensures c.in_ok-left-in-Block.ensures.left (c.rewriting.ensures.left ∙ c.in_ok-statements-in-Block.ensures)

pub simplify_stmt-returns-in_ok-statements-in-Loop-clause-left : goal.simplify_stmt-returns-in_ok-statements-in-Loop-clause-left
simplify_stmt-returns-in_ok-statements-in-Loop-clause-left t c =
    loop_left c.args.s.now c.in-Loop.var c.in-Loop.range c.in-Loop.par c.in-Loop.body c.as_slice-in-Loop-2.result.now c.in-Loop.line c.in-Loop.last (here_at c.args.read c.args.test) c.args.facts.now.gaps.now c.args.facts.now.known.now c.args.facts.now.bound.now
    c.as_slice-in-Loop.result.now c.in_ok-bound-in-Loop.bound.items c.in_ok-left-in-Loop.left.statements c.rewriting-in-Loop.result.statements c.is_empty-is_none.result
    c.in-Loop.is c.as_slice-in-Loop-2.ensures c.in_ok-bound-in-Loop.ensures c.as_slice-in-Loop.ensures.value c.in_ok-left-in-Loop.ensures.left c.is_empty-is_none.ensures (c.rewriting-in-Loop.ensures.left ∙ c.in_ok-statements-in-Loop.ensures)

pub simplify_stmt-returns-in_ok-statements-in-Cond-clause-left : goal.simplify_stmt-returns-in_ok-statements-in-Cond-clause-left
simplify_stmt-returns-in_ok-statements-in-Cond-clause-left t c =
    cond_left c.args.s.now c.in-Cond.condition c.in-Cond.body c.as_slice-in-Cond.result.now c.in-Cond.line c.in-Cond.last c.args.read c.args.test c.in_ok-next-in-Cond.next c.in_ok-value-in-Cond.value.next c.args.facts.now.gaps.now c.args.facts.now.known.now c.args.facts.now.bound.now
    c.in_ok-value-in-Cond.value.left c.settled-told.result c.test_of.result c.in_ok-body-in-Cond.body.statements c.rewriting-in-Cond.result.statements
    c.in-Cond.is c.as_slice-in-Cond.ensures c.in_ok-value-in-Cond.ensures.left c.in_ok-value-in-Cond.ensures.next c.test_of.ensures c.settled-told.ensures c.in_ok-next-in-Cond.ensures c.in_ok-body-in-Cond.ensures.left (c.rewriting-in-Cond.ensures.left ∙ c.in_ok-statements-in-Cond.ensures)

pub simplify_stmt-returns-in_ok-statements-in-Bind-clause-left : goal.simplify_stmt-returns-in_ok-statements-in-Bind-clause-left
simplify_stmt-returns-in_ok-statements-in-Bind-clause-left t c =
    bind_left c.args.s.now c.in-Bind.var c.in-Bind.value c.in-Bind.body c.as_slice-in-Bind-2.result.now c.in-Bind.line c.in-Bind.last c.args.read c.args.test c.in_ok-value-in-Bind.value.next c.args.facts.now.gaps.now c.args.facts.now.known.now c.args.facts.now.bound.now
    c.as_slice-in-Bind.result.now c.in_ok-bound-in-Bind.bound.items c.in_ok-value-in-Bind.value.left c.in_ok-body-in-Bind.body.statements c.rewriting-in-Bind.result.statements
    c.in-Bind.is c.as_slice-in-Bind-2.ensures c.in_ok-value-in-Bind.ensures.left c.in_ok-value-in-Bind.ensures.next c.in_ok-bound-in-Bind.ensures c.as_slice-in-Bind.ensures.value c.in_ok-body-in-Bind.ensures.left (c.rewriting-in-Bind.ensures.left ∙ c.in_ok-statements-in-Bind.ensures)
