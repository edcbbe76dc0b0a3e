use Rattle.std.proofs.Common.{arith, ◌+◌, ◌++◌, drop, take}
use Rattle.std.specs.Fmt.{decimal}
use Rattle.fin_text.specs.Numbers.{spaced_sizes}
use Rattle.fin_text.specs.Putting.{Waits}
use Rattle.fin_text.proofs.Waiting.{at_failure, front_put, part_put, some_put, some_words}
use Rattle.fin_text.proofs.TensorLines.{size_waits, other_sizes}
use Rattle.fin_text.proofs.tensors.put_sizes.Goals as goal

pub returns-in_err-push_size-clause-bytes : goal.returns-in_err-push_size-clause-bytes
returns-in_err-push_size-clause-bytes g c =
    at_failure _ c.from_residual.result c.from_residual.ensures.0
    (front_put _ _ _ _ _ _ (other_sizes c.args.waiting.now.items c.args.sizes.now c.loop-size.size-index)
    (some_words decimal c.args.sizes.now c.loop-size.size-index (omega arith)) c.loop-size.invariant.waits)

pub returns-in_err-put_piece-clause-bytes : goal.returns-in_err-put_piece-clause-bytes
returns-in_err-put_piece-clause-bytes g c =
    let text = c.args.waiting.now.items in let ns = c.args.sizes.now in let i = c.loop-size.size-index in
    let waits : Waits (g.K.Sink.taken c.args.sink.now) (g.K.Sink.taken c.loop-size.sink) (text ++ spaced_sizes (take (i + 1) ns)) c.push_size.new.text.items =
    size_waits _ _ text _ _ ns i _ (omega arith) c.loop-size.invariant.waits c.in_ok-push_size.ensures in
    at_failure _ c.from_residual-in_err-put_piece.result c.from_residual-in_err-put_piece.ensures.0
    (part_put _ _ _ _ _ (spaced_sizes (drop (i + 1) ns)) _ (other_sizes text ns (i + 1)) waits c.in_err-put_piece.ensures.bytes)

pub loop-size-preserved : goal.loop-size-preserved
loop-size-preserved g c =
    let text = c.args.waiting.now.items in let ns = c.args.sizes.now in let i = c.loop-size.size-index in
    let waits : Waits (g.K.Sink.taken c.args.sink.now) (g.K.Sink.taken c.loop-size.sink) (text ++ spaced_sizes (take (i + 1) ns)) c.push_size.new.text.items =
    size_waits _ _ text _ _ ns i _ (omega arith) c.loop-size.invariant.waits c.in_ok-push_size.ensures in
    record {
      waits = some_put _ _ _ _ _ _ waits c.in_ok-put_piece.ensures.bytes;
      counted = omega (arith, c.in_ok-put_piece.ensures.counted);
      later = g.met.K.Sink.later_trans _ _ _ c.loop-size.invariant.later c.in_ok-put_piece.ensures.later;
    }
