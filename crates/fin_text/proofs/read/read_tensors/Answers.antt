use Rattle.std.proofs.Common.{arith}
use Rattle.fin_text.specs.Reading.{begin}
use Rattle.fin_text.proofs.Lines.{refused, unended_is, reads_next, shorter}
use Rattle.fin_text.proofs.NewNames.{reads_new}
use Rattle.fin_text.proofs.read.read_tensors.Goals as goal

pub loop-bytes-init : goal.loop-bytes-init
loop-bytes-init c = record {
  reads = begin _ (c.new.ensures.empty, tt);
  bound = omega arith;
}

pub returns-in-Err : goal.returns-in-Err
returns-in-Err c = refused _ _ _ _ _ c.loop-bytes.invariant.reads _ _ c.in-Some.ensures.0 c.in-Some.ensures.1 _ c.in-Err.ensures _ c.fail_at.ensures

pub loop-bytes-preserved : goal.loop-bytes-preserved
loop-bytes-preserved c = record {
  reads = reads_next _ _ _ _ _ c.loop-bytes.invariant.reads _ _ _ c.in-Some.ensures.0 c.in-Some.ensures.1 c.in-Ok.ensures;
  bound = omega (arith, c.loop-bytes.invariant.bound, shorter c.loop-bytes.rest.now c.in-Some.bytes.now c.in-Some.behind.now c.in-Some.ensures.0);
}

pub returns-then-not-skips : goal.returns-then-not-skips
returns-then-not-skips c = unended_is _ _ _ _ _ c.loop-bytes.invariant.reads c.in_default.ensures (λ h. cc (c.if-not-skips.ensures.1 h)) _ c.fail_at-then-not-skips.ensures

pub take-requires : goal.take-requires
take-requires c = reads_new _ _ _ _ _ c.loop-bytes.invariant.reads
