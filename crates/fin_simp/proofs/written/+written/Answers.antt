-- What is gathered of statements as they are written, kind by kind.
use Rattle.std.proofs.lemmas.Result.{IfOk-weaker}
use Rattle.fin_simp.specs.Numbered.{here_at}
use Rattle.fin_simp.specs.Gathered.{as_rest}
use Rattle.fin_simp.specs.declared.rest.RestWalk.{RestWalk}
use Rattle.fin_simp.proofs.Writing.{block_writes, loop_writes, cond_writes, bind_writes}
use Rattle.fin_simp.proofs.written.+written.Goals as goal

pub written_of-returns-in-Block-clause-found : goal.written_of-returns-in-Block-clause-found
written_of-returns-in-Block-clause-found t c =
    IfOk-weaker _ _ _ (λ (w : RestWalk) e. block_writes c.args.s.now c.in-Block.body c.as_slice.result.now c.in-Block.line c.in-Block.last (here_at c.args.read c.args.test) (as_rest w.found)
    c.in-Block.is c.as_slice.ensures e) c.written_of_all.ensures.found

pub written_of-returns-in-Loop-clause-found : goal.written_of-returns-in-Loop-clause-found
written_of-returns-in-Loop-clause-found t c =
    IfOk-weaker _ _ _ (λ (w : RestWalk) e. loop_writes c.args.s.now c.in-Loop.var c.in-Loop.range c.in-Loop.par c.in-Loop.body c.as_slice-in-Loop.result.now c.in-Loop.line c.in-Loop.last
    (here_at c.args.read c.args.test) (as_rest w.found) c.in-Loop.is c.as_slice-in-Loop.ensures e) c.written_of_all-in-Loop.ensures.found

pub written_of-returns-in-Cond-clause-found : goal.written_of-returns-in-Cond-clause-found
written_of-returns-in-Cond-clause-found t c =
    IfOk-weaker _ _ _ (λ (w : RestWalk) e. cond_writes c.args.s.now c.in-Cond.condition c.in-Cond.body c.as_slice-in-Cond.result.now c.in-Cond.line c.in-Cond.last (here_at c.args.read c.args.test)
    (as_rest w.found) c.in-Cond.is c.as_slice-in-Cond.ensures e) c.written_of_cond.ensures.found

pub written_of-returns-in-Bind-clause-found : goal.written_of-returns-in-Bind-clause-found
written_of-returns-in-Bind-clause-found t c =
    IfOk-weaker _ _ _ (λ (w : RestWalk) e. bind_writes c.args.s.now c.in-Bind.var c.in-Bind.value c.in-Bind.body c.as_slice-in-Bind.result.now c.in-Bind.line c.in-Bind.last
    (here_at c.args.read c.args.test) (as_rest w.found) c.in-Bind.is c.as_slice-in-Bind.ensures e) c.written_of_bind.ensures.found
