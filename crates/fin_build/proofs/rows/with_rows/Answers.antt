use Rattle.std.proofs.Common.{◌∙◌, ap, rules, FitsSigned, w64}
use Rattle.std.proofs.lemmas.Int.{to_z-of_z}
use Rattle.fin_tensor.specs.TensorFunction.{TensorFunction}
use Rattle.fin_build.specs.declared.rows.Shift.TheVariants.{Outside, Up}
use Rattle.fin_build.specs.Shifts.{written}
use Rattle.fin_build.proofs.Writing.{written_shape}
use Rattle.fin_build.proofs.Rowing.{small_as, all_outside, all_up, rows_put}
use Rattle.fin_build.proofs.rows.with_rows.Goals as goal

pub write-requires-clause-land : goal.write-requires-clause-land
write-requires-clause-land c =
    all_outside c.args.function.now c.is_tensor.ensures c.args.lo c.args.hi c.new-whole.result.shape c.as_slice.result.now
    (ap (λ (g : TensorFunction). g.shape) c.new-whole.ensures ∙ c.in_ok-shape.ensures ∙ c.extents.ensures) (c.as_slice.ensures.value ∙ c.in_ok-own.ensures)

pub write-requires-2-clause-small : goal.write-requires-2-clause-small
write-requires-2-clause-small c =
    small_as _ c.args.function.now.shape
    (ap (λ (g : TensorFunction). g.shape) c.in_ok-write.ensures ∙ written_shape (Outside c.args.lo c.args.hi) c.as_slice.result.now c.new-whole.result ∙ ap (λ (g : TensorFunction). g.shape) c.new-whole.ensures ∙ c.in_ok-shape.ensures ∙ c.extents.ensures)
    c.requires.small

pub write-requires-2-clause-land : goal.write-requires-2-clause-land
write-requires-2-clause-land c =
    all_up c.args.part.now c.is_tensor-2.ensures c.args.lo c.args.hi c.write.new.function.shape c.args.function.now.shape c.as_slice-2.result.now
    (ap (λ (g : TensorFunction). g.shape) c.in_ok-write.ensures ∙ written_shape (Outside c.args.lo c.args.hi) c.as_slice.result.now c.new-whole.result ∙ ap (λ (g : TensorFunction). g.shape) c.new-whole.ensures ∙ c.in_ok-shape.ensures ∙ c.extents.ensures)
    c.requires.shape c.requires.order c.requires.within (c.as_slice-2.ensures.value ∙ c.in_ok-theirs.ensures)

pub returns : goal.returns
returns c =
    let z : FitsSigned w64 c.fill.result = search rules in
    rows_put c.args.function.now c.args.part.now c.is_tensor.ensures c.is_tensor-2.ensures c.args.lo c.args.hi c.requires.order c.requires.fill _ c.as_slice.result.now c.as_slice-2.result.now c.in_ok-shape.shape _ c.requires.rows c.is_tensor-3.ensures
    c.requires.shape (c.in_ok-shape.ensures ∙ c.extents.ensures) (to_z-of_z w64 c.fill.result z ∙ c.fill.ensures) (c.as_slice.ensures.value ∙ c.in_ok-own.ensures) (c.as_slice-2.ensures.value ∙ c.in_ok-theirs.ensures)
    (c.in_ok-write-2.ensures ∙ ap (λ (g : TensorFunction). written (Up c.args.lo) c.as_slice-2.result.now g) (c.in_ok-write.ensures ∙ ap (λ (g : TensorFunction). written (Outside c.args.lo c.args.hi) c.as_slice.result.now g) c.new-whole.ensures))
