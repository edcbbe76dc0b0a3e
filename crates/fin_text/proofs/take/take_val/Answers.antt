use Rattle.std.proofs.Common.{refl, subst, sym}
use Rattle.fin_tensor.specs.Lines.{IsVal}
use Rattle.fin_text.specs.DueLines.{misformed, misspelled, invalid}
use Rattle.fin_text.proofs.Seconds.{none_of, some_of, unfit_values}
use Rattle.fin_text.proofs.take.take_val.Goals as goal

pub returns-then-not-has_no_empty_word : goal.returns-then-not-has_no_empty_word
returns-then-not-has_no_empty_word c = misformed (λ h. h) (λ h. cc (c.if-not-has_no_empty_word.ensures.1 h))

pub returns-in_default : goal.returns-in_default
returns-in_default c = misspelled (λ h. h) (c.if-not-has_no_empty_word.ensures.0 refl) (λ h. none_of _ _ _ c.in_ok-val.ensures c.in_default.is h.0 h.1.1 h.1.0)

pub returns-then-not-is_val : goal.returns-then-not-is_val
returns-then-not-is_val c =
    let read = some_of _ _ _ _ c.in_ok-val.ensures c.in-Some.is in
    invalid (λ h. h) (c.if-not-has_no_empty_word.ensures.0 refl) (_, (read.0, read.1))
    (unfit_values c.args.after.now c.in-Some.val (IsVal c.args.at.draft.shape c.args.at.draft.parts) (read.0, read.1) (λ h. cc (c.if-not-is_val.ensures.1 (subst (IsVal c.args.at.draft.shape c.args.at.draft.parts) (sym c.as_slice.ensures) h))))
