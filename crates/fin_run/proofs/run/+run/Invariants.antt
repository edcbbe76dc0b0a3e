use Rattle.std.proofs.Common.{◌≡◌, ◌≤◌, ◌+◌, ◌-◌, drop, map}
use Rattle.fin_ir.specs.Declares.{declares}
use Rattle.fin_ir.specs.Value.{value_in}
use Rattle.fin_ir.specs.Meaning.{span, meaning, meaning_all, step_loop, for_loop, chunks, chunk_locals, chunks_of}
use Rattle.fin_run.specs.States.{machine}
use Rattle.fin_run.specs.Ends.{evaluated}
use Rattle.fin_run.specs.Chunks.{IsCut, left_of}
use Rattle.fin_run.proofs.Sizes.{size, sizes}
use Rattle.fin_run.proofs.run.+run.Given as goal

-- what is left to do makes the whole
abbrev pub invariant-run_all-loop-code : goal.invariant-run_all-loop-code
invariant-run_all-loop-code g l = record {
  left : meaning_all l.layout l.all (machine l.inputs l.initial.state l.initial.steps) ≡ meaning_all l.layout (drop l.code-index l.all) (machine l.inputs l.state l.steps);
  work : l.state.work ≤ l.budget;
}

abbrev pub invariant-run_steps-loop-alloc : goal.invariant-run_steps-loop-alloc
invariant-run_steps-loop-alloc g l = record {
  left : step_loop l.var l.until (λ m. value_in m l.stop) (meaning l.layout l.body) (evaluated l.inputs l.initial.state l.lo) (evaluated l.inputs l.initial.state l.hi) (machine l.inputs l.initial.state l.initial.steps) ≡ step_loop l.var l.until (λ m. value_in m l.stop) (meaning l.layout l.body) l.place.at (evaluated l.inputs l.initial.state l.hi) (machine l.inputs l.state l.steps);
  work : l.state.work ≤ l.budget;
  end : l.place.end ≡ evaluated l.inputs l.initial.state l.hi;
}

abbrev pub decreases-run_steps-loop-alloc : goal.decreases-run_steps-loop-alloc
decreases-run_steps-loop-alloc g l = span l.place.at l.place.end

abbrev pub invariant-run_each-loop-alloc : goal.invariant-run_each-loop-alloc
invariant-run_each-loop-alloc g l = record {
  left : for_loop l.var (meaning l.layout l.body) (evaluated l.inputs l.initial.state l.lo) (evaluated l.inputs l.initial.state l.hi) (machine l.inputs l.initial.state l.initial.steps) ≡ for_loop l.var (meaning l.layout l.body) l.place.at (evaluated l.inputs l.initial.state l.hi) (machine l.inputs l.state l.steps);
  work : l.state.work ≤ l.budget;
  end : l.place.end ≡ evaluated l.inputs l.initial.state l.hi;
}

abbrev pub decreases-run_each-loop-alloc : goal.decreases-run_each-loop-alloc
decreases-run_each-loop-alloc g l = span l.place.at l.place.end

abbrev pub invariant-run_chunks-loop-alloc : goal.invariant-run_chunks-loop-alloc
invariant-run_chunks-loop-alloc g l = record {
  left : chunks (declares l.body) (meaning l.layout l.body) (map (chunk_locals l.from l.to l.initial.state.locals) (chunks_of l.lo l.hi)) (machine l.inputs l.initial.state l.initial.steps) ≡ chunks (declares l.body) (meaning l.layout l.body) (map (chunk_locals l.from l.to l.initial.state.locals) (left_of l.chunks)) (machine l.inputs l.state l.steps);
  work : l.state.work ≤ l.budget;
  cut : IsCut l.lo l.hi l.chunks;
}

abbrev pub decreases-run_chunks-loop-alloc : goal.decreases-run_chunks-loop-alloc
decreases-run_chunks-loop-alloc g l = l.chunks.count - l.chunks.next

abbrev pub decreases-run : goal.decreases-run
decreases-run g l = size l.code.now

abbrev pub decreases-run_all : goal.decreases-run_all
decreases-run_all g l = sizes l.all.now

abbrev pub decreases-run_steps : goal.decreases-run_steps
decreases-run_steps g l = 1 + size l.body.now

abbrev pub decreases-run_each : goal.decreases-run_each
decreases-run_each g l = 1 + size l.body.now

abbrev pub decreases-run_chunks : goal.decreases-run_chunks
decreases-run_chunks g l = 1 + size l.body.now
