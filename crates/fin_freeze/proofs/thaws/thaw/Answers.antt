use Rattle.std.proofs.Common.{◌∙◌, ap, sym, subst, List, ℕ}
use Rattle.fin_tensor.specs.TensorFunction.{TensorFunction}
use Rattle.fin_tensor.specs.declared.format.Format.{Format}
use Rattle.fin_tensor.specs.Lines.{IsShape}
use Rattle.fin_freeze.proofs.Filling.{stands_shape, stands_fill, shape_of}
use Rattle.fin_freeze.proofs.thaws.thaw.Goals as goal

pub holding-requires-clause-shape : goal.holding-requires-clause-shape
holding-requires-clause-shape c =
    let s = c.args.storage.now in
    subst (λ (fm : Format). IsShape fm.levels c.in_ok-function.function.shape) (sym c.in_ok-format.ensures)
    (subst (λ (ns : List ℕ). IsShape s.format.levels ns) (sym (ap (λ (f : TensorFunction). f.shape) c.in_ok-function.ensures ∙ stands_shape s)) (shape_of s))

pub holding-requires-clause-fill : goal.holding-requires-clause-fill
holding-requires-clause-fill c =
    let s = c.args.storage.now in
    ap (λ (f : TensorFunction). f.fill) c.in_ok-function.ensures ∙ stands_fill s ∙ ap (λ (fm : Format). fm.fill) (sym c.in_ok-format.ensures)
