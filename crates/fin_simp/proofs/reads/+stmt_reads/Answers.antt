use Rattle.std.proofs.lemmas.Result.{IfOk-weaker}
use Rattle.fin_simp.specs.Numbered.{here_at}
use Rattle.fin_simp.specs.Facts.{marks}
use Rattle.fin_simp.specs.declared.reads.StmtWalk.{StmtWalk}
use Rattle.fin_simp.proofs.Reading.{block_reads, loop_reads, cond_reads, bind_reads}
use Rattle.fin_simp.proofs.reads.+stmt_reads.Goals as goal

pub reads_of-returns-in-Block-clause-found : goal.reads_of-returns-in-Block-clause-found
reads_of-returns-in-Block-clause-found t c =
    IfOk-weaker _ _ _ (λ (w : StmtWalk) e. block_reads c.args.s.now c.in-Block.body c.as_slice.result.now c.in-Block.line c.in-Block.last (here_at c.args.read c.args.test) (marks c.args.facts.now) w.found c.in-Block.is c.as_slice.ensures e) c.reads_of_all.ensures.found

pub reads_of-returns-in_ok-body-in-Loop-clause-found : goal.reads_of-returns-in_ok-body-in-Loop-clause-found
reads_of-returns-in_ok-body-in-Loop-clause-found t c =
    IfOk-weaker _ _ _ (λ (w : StmtWalk) e. loop_reads c.args.s.now c.in-Loop.var c.in-Loop.range c.in-Loop.par c.in-Loop.body c.as_slice-in-Loop-2.result.now c.in-Loop.line c.in-Loop.last (here_at c.args.read c.args.test)
    c.args.facts.now.gaps.now c.args.facts.now.known.now c.args.facts.now.bound.now c.as_slice-in-Loop.result.now c.in_ok-bound-in-Loop.bound.items c.new.result c.in_ok-body-in-Loop.body.found w.found
    c.in-Loop.is c.as_slice-in-Loop-2.ensures c.in_ok-bound-in-Loop.ensures c.as_slice-in-Loop.ensures.value c.new.ensures c.in_ok-body-in-Loop.ensures.found e) c.within.ensures.found

pub reads_of-returns-in_ok-body-in-Cond-clause-found : goal.reads_of-returns-in_ok-body-in-Cond-clause-found
reads_of-returns-in_ok-body-in-Cond-clause-found t c =
    IfOk-weaker _ _ _ (λ (w : StmtWalk) e. cond_reads c.args.s.now c.in-Cond.condition c.in-Cond.body c.as_slice-in-Cond.result.now c.in-Cond.line c.in-Cond.last c.args.read c.args.test c.in_ok-next-in-Cond.next c.in_ok-value-in-Cond.value.next
    c.args.facts.now.gaps.now c.args.facts.now.known.now c.args.facts.now.bound.now c.in_ok-value-in-Cond.value.found c.test_of.result c.settled-told.result c.unless_known-own.result c.fails.result c.in_ok-body-in-Cond.body.found w.found
    c.in-Cond.is c.as_slice-in-Cond.ensures c.in_ok-value-in-Cond.ensures.found c.in_ok-value-in-Cond.ensures.next c.test_of.ensures c.settled-told.ensures c.in_ok-next-in-Cond.ensures c.in_ok-body-in-Cond.ensures.found
    c.unless_known-own.ensures c.fails.ensures e) c.within-in-Cond.ensures.found

pub reads_of-returns-in_ok-body-in-Bind-clause-found : goal.reads_of-returns-in_ok-body-in-Bind-clause-found
reads_of-returns-in_ok-body-in-Bind-clause-found t c =
    IfOk-weaker _ _ _ (λ (w : StmtWalk) e. bind_reads c.args.s.now c.in-Bind.var c.in-Bind.value c.in-Bind.body c.as_slice-in-Bind-2.result.now c.in-Bind.line c.in-Bind.last c.args.read c.args.test c.in_ok-value-in-Bind.value.next
    c.args.facts.now.gaps.now c.args.facts.now.known.now c.args.facts.now.bound.now c.as_slice-in-Bind.result.now c.in_ok-bound-in-Bind.bound.items c.in_ok-value-in-Bind.value.found c.in_ok-body-in-Bind.body.found w.found
    c.in-Bind.is c.as_slice-in-Bind-2.ensures c.in_ok-value-in-Bind.ensures.found c.in_ok-value-in-Bind.ensures.next c.in_ok-bound-in-Bind.ensures c.as_slice-in-Bind.ensures.value c.in_ok-body-in-Bind.ensures.found e) c.within-in-Bind.ensures.found
