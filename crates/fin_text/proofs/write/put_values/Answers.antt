use Rattle.std.proofs.Common.{arith, rules, ◌+◌, ◌++◌, drop, take}
use Rattle.fin_text.specs.Numbers.{spaced, spelled}
use Rattle.fin_text.specs.Putting.{Waits}
use Rattle.fin_text.proofs.Waiting.{at_failure, front_put, part_put, some_put, some_words, value_waits, other_values}
use Rattle.fin_text.proofs.write.put_values.Goals as goal

pub returns-in_err-push_value-clause-bytes : goal.returns-in_err-push_value-clause-bytes
returns-in_err-push_value-clause-bytes g c =
    at_failure _ c.from_residual.result c.from_residual.ensures.0
    (front_put _ _ _ _ _ _ (other_values c.args.waiting.now.items c.args.values.now c.loop-value.value-index)
    (some_words spelled c.args.values.now c.loop-value.value-index (omega arith)) c.loop-value.invariant.waits)

pub returns-in_err-put_piece-clause-bytes : goal.returns-in_err-put_piece-clause-bytes
returns-in_err-put_piece-clause-bytes g c =
    let text = c.args.waiting.now.items in let vs = c.args.values.now in let i = c.loop-value.value-index in
    let waits : Waits (g.K.Sink.taken c.args.sink.now) (g.K.Sink.taken c.loop-value.sink) (text ++ spaced (take (i + 1) vs)) c.push_value.new.text.items =
    value_waits _ _ text _ _ vs i (omega arith) (search rules) c.loop-value.invariant.waits c.in_ok-push_value.ensures in
    at_failure _ c.from_residual-in_err-put_piece.result c.from_residual-in_err-put_piece.ensures.0
    (part_put _ _ _ _ _ (spaced (drop (i + 1) vs)) _ (other_values text vs (i + 1)) waits c.in_err-put_piece.ensures.bytes)

pub returns-in_err-put_piece-clause-later : goal.returns-in_err-put_piece-clause-later
returns-in_err-put_piece-clause-later g c = g.met.K.Sink.later_trans _ _ _ c.loop-value.invariant.later c.in_err-put_piece.ensures.later

pub loop-value-preserved : goal.loop-value-preserved
loop-value-preserved g c =
    let text = c.args.waiting.now.items in let vs = c.args.values.now in let i = c.loop-value.value-index in
    let waits : Waits (g.K.Sink.taken c.args.sink.now) (g.K.Sink.taken c.loop-value.sink) (text ++ spaced (take (i + 1) vs)) c.push_value.new.text.items =
    value_waits _ _ text _ _ vs i (omega arith) (search rules) c.loop-value.invariant.waits c.in_ok-push_value.ensures in
    record {
      waits = some_put _ _ _ _ _ _ waits c.in_ok-put_piece.ensures.bytes;
      counted = omega (arith, c.in_ok-put_piece.ensures.counted);
      later = g.met.K.Sink.later_trans _ _ _ c.loop-value.invariant.later c.in_ok-put_piece.ensures.later;
    }
