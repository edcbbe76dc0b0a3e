use Rattle.std.proofs.Common.{◌≡◌, ◌∙◌, sym, subst, arith, List, ℕ, [], length, rules, FitsSigned, w64}
use Rattle.std.proofs.lemmas.Int.{to_z-of_z}
use Rattle.fin_tensor.specs.declared.storage.Storage.{Storage}
use Rattle.fin_tensor.specs.TensorFunction.{TensorFunction}
use Rattle.fin_freeze.specs.Thawing.{Holds, values_below}
use Rattle.fin_freeze.proofs.Filling as filling
use Rattle.fin_freeze.proofs.thaws.function_of.Goals.{then-len-gt0+in_ok-fill_below+in-Heap-1, then-len-gt0+in_ok-fill_below+in-Inline-1, else-len-gt0}
use Rattle.fin_freeze.proofs.thaws.function_of.Goals as goal

pub fill_below-requires-clause-blank : goal.fill_below-requires-clause-blank
fill_below-requires-clause-blank c =
    let s = c.args.storage.now in
    let f : FitsSigned w64 s.format.fill = search rules in
    filling.blank_start s c.new-function.result c.new-at.result c.in_ok-shape.shape _ c.in_ok-shape.ensures (to_z-of_z w64 s.format.fill f) c.new-function.ensures

whole : (s : Storage) (f g : TensorFunction) (at : List ℕ) → at ≡ [] → f ≡ g → Holds s at (values_below s (length at) 0) g → Holds s [] (values_below s 0 0) f
whole s f g at e ef h = subst (λ (x : TensorFunction). Holds s [] (values_below s 0 0) x) (sym ef) (subst (λ (x : List ℕ). Holds s x (values_below s (length x) 0) g) e h)

pub returns : goal.returns
returns c =
    let s = c.args.storage.now in
    let z : FitsSigned w64 s.format.fill = search rules in
    let f = c.if-len-gt0.function in
    filling.whole_is s f c.is_tensor.ensures (elim c.if-len-gt0.branch [
      | then-len-gt0+in_ok-fill_below+in-Heap-1 w ↦ whole s f w.fill_below.new.function w.new-at.result w.new-at.ensures w.function-is w.in_ok-fill_below.ensures.filled
      | then-len-gt0+in_ok-fill_below+in-Inline-1 w ↦ whole s f w.fill_below.new.function w.new-at.result w.new-at.ensures w.function-is w.in_ok-fill_below.ensures.filled
      | else-len-gt0 w ↦ filling.empty_whole s f (omega (arith, w.if-len-gt0.false, c.len.ensures)) (filling.blank_start s f [] c.in_ok-shape.shape _ c.in_ok-shape.ensures (to_z-of_z w64 s.format.fill z) (w.function-is ∙ c.new-function.ensures))
    ])
