use Rattle.std.proofs.Common.{sym, subst, arith}
use Rattle.std.specs.Io.KnownBytes.{Appends}
use Rattle.std.proofs.KnownBytes.{Appends-trans}
use Rattle.std.proofs.Math.Seq.{take-add}
use Rattle.std.proofs.lemmas.List.{take_rest}
use Rattle.fin_ports.proofs.job.put_all.Goals as goal

pub loop-at-preserved : goal.loop-at-preserved
loop-at-preserved g c =
    let bytes = c.args.bytes.now in
    let n = c.in_ok-at.field-0 in
    record {
      within = omega (arith, c.in_ok-at.ensures.bound);
      put = subst (Appends _ _) (sym (take-add c.loop-at.at n bytes)) (Appends-trans _ _ _ _ _ c.loop-at.invariant.put (rw (take_rest bytes c.loop-at.at) at c.in_ok-at.ensures.bytes));
      counted = omega (arith, c.in_ok-at.ensures.cause.later);
      later = g.met.K.Sink.later_trans _ _ _ c.loop-at.invariant.later c.in_ok-at.ensures.later;
    }
