use Rattle.std.proofs.Common.{◌≤◌, ◌^◌, ℕ, List, sym, ◌∙◌, subst, arith}
use Rattle.fin_tensor.specs.declared.format.Level.{Level}
use Rattle.fin_tensor.specs.Lines.{IsShape}
use Rattle.fin_tensor.specs.Extents.{dense_size}
use Rattle.fin_code_test.proofs.Trying.{declares_by}
use Rattle.fin_code_test.proofs.regularity.can_declare.Goals as goal

pub returns : goal.returns
returns c = λ t.
    let shape = c.is_shape.ensures.0 c.if-not-is_shape.false in
    let small = c.has_small_dense_size.ensures.0 t in
    declares_by c.args.layout.now c.args.tensor c.get-format.result.now c.get-shape.result.now
    (sym c.is_made.ensures ∙ c.if-not-is_made.false) (omega (arith, c.if-t-len.false, c.len.ensures)) (omega (arith, c.if-t-len-2.false, c.len-else-t-len.ensures)) c.get-format.ensures c.get-shape.ensures
    (c.keeps_placement.ensures.0 c.if-not-keeps_placement.false)
    (subst (λ (ls : List Level). IsShape ls c.get-shape.result.now) c.as_slice.ensures (subst (λ (ns : List ℕ). IsShape c.as_slice.result.now ns) c.as_slice-else-not-keeps_placement.ensures shape))
    (subst (λ (ls : List Level). dense_size ls c.get-shape.result.now ≤ 2 ^ 24) c.as_slice-2.ensures (subst (λ (ns : List ℕ). dense_size c.as_slice-2.result.now ns ≤ 2 ^ 24) c.as_slice-3.ensures small))
