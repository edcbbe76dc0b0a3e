use Rattle.std.proofs.Common.{◌≡◌, ◌<◌, ℕ, List, [], length, true, sym, ap, ◌∙◌, arith, Some}
use Rattle.std.specs.Prelude.{◌&&◌}
use Rattle.std.proofs.lemmas.Option.{slice_get-get_or}
use Rattle.fin_tensor.specs.TensorFunction.{is_in_box}
use Rattle.fin_tensor.specs.Building.{follows}
use Rattle.fin_code_test.proofs.regularity.can_update.Goals as goal

pub returns-then-is_in_box : goal.returns-then-is_in_box
returns-then-is_in_box c = λ t.
    let lt : c.args.tensor < length c.args.state.now.tensors.items = omega (arith, c.if-t-len.false, c.len.ensures) in
    let b = c.in-Building.b in
    let inside : is_in_box b.function.shape [] ≡ true = ap (λ (ns : List ℕ). is_in_box ns []) (sym (c.as_slice.ensures ∙ c.shape.ensures)) ∙ sym c.is_in_box.ensures ∙ c.if-is_in_box.true in
    (b, slice_get-get_or c.args.state.now.tensors.items c.args.tensor c.index.result.now lt ∙ ap Some (sym c.index.ensures ∙ c.in-Building.is), ap (λ x. x && follows b []) inside ∙ sym c.follows.ensures ∙ t)
