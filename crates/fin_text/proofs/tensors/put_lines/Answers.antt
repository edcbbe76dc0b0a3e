use Rattle.std.proofs.Common.{◌++◌, arith, ap, ◌∙◌}
use Rattle.fin_text.proofs.Waiting.{at_failure, front_put}
use Rattle.fin_text.proofs.TensorLines.{other_lines, head_waits, line_waits, numbers_part, numbers_waits, some_lines}
use Rattle.fin_text.proofs.tensors.put_lines.Goals as goal

pub returns-in_err-extend_from_slice-clause-bytes : goal.returns-in_err-extend_from_slice-clause-bytes
returns-in_err-extend_from_slice-clause-bytes g c =
    at_failure _ c.from_residual.result c.from_residual.ensures.0
    (front_put _ _ _ _ _ _ (other_lines c.args.waiting.now.items c.args.lines.now c.loop-line.line-index)
    (some_lines c.args.lines.now c.loop-line.line-index (omega arith)) c.loop-line.invariant.waits)

pub returns-in_err-put_numbers-clause-bytes : goal.returns-in_err-put_numbers-clause-bytes
returns-in_err-put_numbers-clause-bytes g c =
    let text = c.args.waiting.now.items in let ls = c.args.lines.now in let i = c.loop-line.line-index in let l = c.line-item.result in
    let waits = head_waits _ text ls i l c.line-item.is (omega arith) _ _ _ c.loop-line.invariant.waits (c.in_ok-extend_from_slice.ensures.items ∙ ap (λ t. c.loop-line.waiting.items ++ t) c.deref.ensures.value) in
    at_failure _ c.from_residual-in_err-put_numbers.result c.from_residual-in_err-put_numbers.ensures.0
    (numbers_part _ text ls i l c.line-item.is (omega arith) _ _ _ waits c.in_err-put_numbers.ensures.bytes)

pub returns-in_err-extend_from_slice-2-clause-bytes : goal.returns-in_err-extend_from_slice-2-clause-bytes
returns-in_err-extend_from_slice-2-clause-bytes g c =
    let text = c.args.waiting.now.items in let ls = c.args.lines.now in let i = c.loop-line.line-index in let l = c.line-item.result in
    let waits = head_waits _ text ls i l c.line-item.is (omega arith) _ _ _ c.loop-line.invariant.waits (c.in_ok-extend_from_slice.ensures.items ∙ ap (λ t. c.loop-line.waiting.items ++ t) c.deref.ensures.value) in
    at_failure _ c.from_residual-in_err-extend_from_slice-2.result c.from_residual-in_err-extend_from_slice-2.ensures.0
    (numbers_waits _ text ls i l c.line-item.is (omega arith) _ _ _ _ waits c.in_ok-put_numbers.ensures.bytes)

pub loop-line-preserved : goal.loop-line-preserved
loop-line-preserved g c =
    let text = c.args.waiting.now.items in let ls = c.args.lines.now in let i = c.loop-line.line-index in let l = c.line-item.result in
    let waits = head_waits _ text ls i l c.line-item.is (omega arith) _ _ _ c.loop-line.invariant.waits (c.in_ok-extend_from_slice.ensures.items ∙ ap (λ t. c.loop-line.waiting.items ++ t) c.deref.ensures.value) in
    record {
      waits = line_waits _ text ls i l c.line-item.is (omega arith) _ _ _ _ _ waits c.in_ok-put_numbers.ensures.bytes c.in_ok-extend_from_slice-2.ensures.items;
      counted = omega (arith, c.in_ok-put_numbers.ensures.counted);
      later = g.met.K.Sink.later_trans _ _ _ c.loop-line.invariant.later c.in_ok-put_numbers.ensures.later;
    }
