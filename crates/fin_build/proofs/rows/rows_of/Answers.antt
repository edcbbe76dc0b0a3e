use Rattle.std.proofs.Common.{◌∙◌, ap, rules, FitsSigned, w64, List, ℕ}
use Rattle.std.proofs.lemmas.Int.{to_z-of_z}
use Rattle.fin_tensor.specs.TensorFunction.{TensorFunction}
use Rattle.fin_build.specs.declared.rows.Shift.TheVariants.{Down}
use Rattle.fin_build.specs.Parts.{rows_shape}
use Rattle.fin_build.specs.Shifts.{written}
use Rattle.fin_build.proofs.Rowing.{rows_small, small_as, all_down, rows_are}
use Rattle.fin_build.proofs.rows.rows_of.Goals as goal

pub write-requires-clause-small : goal.write-requires-clause-small
write-requires-clause-small c =
    let f = c.args.function.now in
    small_as _ (rows_shape c.args.lo c.args.hi f.shape) (ap (λ (g : TensorFunction). g.shape) c.new-rows.ensures ∙ c.in_ok-shape.ensures ∙ ap (λ (ns : List ℕ). rows_shape c.args.lo c.args.hi ns) c.extents.ensures)
    (rows_small c.args.lo c.args.hi f.shape c.requires.order c.requires.within c.requires.small)

pub write-requires-clause-land : goal.write-requires-clause-land
write-requires-clause-land c =
    let f = c.args.function.now in
    all_down f c.is_tensor.ensures c.args.lo c.args.hi c.new-rows.result.shape c.as_slice.result.now (ap (λ (g : TensorFunction). g.shape) c.new-rows.ensures ∙ c.in_ok-shape.ensures ∙ ap (λ (ns : List ℕ). rows_shape c.args.lo c.args.hi ns) c.extents.ensures)
    (c.as_slice.ensures.value ∙ c.in_ok-entries.ensures)

pub returns : goal.returns
returns c =
    let f = c.args.function.now in
    let z : FitsSigned w64 c.fill.result = search rules in
    rows_are f c.is_tensor.ensures c.args.lo c.args.hi c.write.new.function c.as_slice.result.now c.in_ok-shape.shape _ c.requires.rows c.is_tensor-2.ensures
    (c.in_ok-shape.ensures ∙ ap (λ (ns : List ℕ). rows_shape c.args.lo c.args.hi ns) c.extents.ensures) (to_z-of_z w64 c.fill.result z ∙ c.fill.ensures)
    (c.as_slice.ensures.value ∙ c.in_ok-entries.ensures) (c.in_ok-write.ensures ∙ ap (λ (g : TensorFunction). written (Down c.args.lo c.args.hi) c.as_slice.result.now g) c.new-rows.ensures)
