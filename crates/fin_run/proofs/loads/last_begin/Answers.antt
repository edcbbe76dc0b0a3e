use Rattle.std.proofs.Common.{arith}
use Rattle.fin_run.proofs.Loading.{middle_rises}
use Rattle.fin_run.proofs.loads.last_begin.Goals as goal

pub loop-high-preserved : goal.loop-high-preserved
loop-high-preserved c = record {
  order = omega arith;
  within = omega arith;
  begins = c.loop-high.invariant.begins;
  last = λ p le lt. middle_rises c.args.ptr.now c.args.from _ p c.requires.ptr c.if-ptr-middle.false le lt;
}
