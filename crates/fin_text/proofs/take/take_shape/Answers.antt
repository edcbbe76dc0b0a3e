use Rattle.std.proofs.Common.{◌≡◌, ℕ, List, refl, subst, sym}
use Rattle.fin_tensor.specs.Lines.{IsShape}
use Rattle.fin_tensor.specs.declared.format.Level.{Level}
use Rattle.fin_text.specs.DueLines.{misformed, misspelled, invalid}
use Rattle.fin_text.proofs.Seconds.{none_of, some_of, unfit_sizes}
use Rattle.fin_text.proofs.take.take_shape.Goals as goal

both : {ls ls' : List Level} {ns ns' : List ℕ} → ls' ≡ ls → ns' ≡ ns → IsShape ls ns → IsShape ls' ns'
both {ls} {ls'} {ns} {ns'} p q h = subst (λ l. IsShape l ns') (sym p) (subst (IsShape ls) (sym q) h)

pub returns-then-not-has_no_empty_word : goal.returns-then-not-has_no_empty_word
returns-then-not-has_no_empty_word c = misformed (λ h. h) (λ h. cc (c.if-not-has_no_empty_word.ensures.1 h))

pub returns-in_default : goal.returns-in_default
returns-in_default c = misspelled (λ h. h) (c.if-not-has_no_empty_word.ensures.0 refl) (λ h. none_of _ _ _ c.in_ok-shape.ensures c.in_default.is h.0 h.1.1 h.1.0)

pub returns-then-not-is_shape : goal.returns-then-not-is_shape
returns-then-not-is_shape c =
    let read = some_of _ _ _ _ c.in_ok-shape.ensures c.in-Some.is in
    invalid (λ h. h) (c.if-not-has_no_empty_word.ensures.0 refl) (_, (read.0, read.1))
    (unfit_sizes c.args.after.now c.in-Some.shape (IsShape c.args.head.format.levels) (read.0, read.1) (λ h. cc (c.if-not-is_shape.ensures.1 (both c.as_slice.ensures c.as_slice-2.ensures h))))
