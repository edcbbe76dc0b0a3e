use Rattle.std.proofs.Common.{refl, subst, sym, arith}
use Rattle.fin_tensor.specs.Levels.{IsPtr}
use Rattle.fin_tensor.specs.Lines.{due}
use Rattle.fin_text.specs.DueLines.{other_level, misformed, misspelled, invalid}
use Rattle.fin_text.proofs.Seconds.{not_other, no_parts, some_parts, unfit_part}
use Rattle.fin_text.proofs.take.take_ptr.Goals as goal

pub returns-then-tells_other : goal.returns-then-tells_other
returns-then-tells_other c = other_level (rw c.len-number.ensures at (c.if-tells_other.ensures.0 refl))

pub returns-then-not-has_words : goal.returns-then-not-has_words
returns-then-not-has_words c = misformed (not_other _ _ _ c.len-number.ensures (λ h. cc (c.if-tells_other.ensures.1 h))) (λ h. cc (c.if-not-has_words.ensures.1 h))

pub returns-in_default : goal.returns-in_default
returns-in_default c =
    misspelled (not_other _ _ _ c.len-number.ensures (λ h. cc (c.if-tells_other.ensures.1 h))) (c.if-not-has_words.ensures.0 refl)
    (no_parts _ _ c.args.after.now _ c.len-number.ensures c.in_ok-ptr.ensures c.in_default.is)

pub returns-then-not-is_ptr : goal.returns-then-not-is_ptr
returns-then-not-is_ptr c =
    let told = some_parts _ _ c.args.after.now _ _ c.len-number.ensures c.in_ok-ptr.ensures c.in-Some.is in
    let P = IsPtr (due c.args.at.draft.shape c.args.at.draft.parts) in
    invalid (not_other _ _ _ c.len-number.ensures (λ h. cc (c.if-tells_other.ensures.1 h))) (c.if-not-has_words.ensures.0 refl) (_, told)
    (unfit_part _ c.args.after.now c.in-Some.ptr P (omega (arith, c.args.at.within, c.args.at.draft.placed.few)) told (λ h. cc (c.if-not-is_ptr.ensures.1 (subst P (sym c.as_slice.ensures) h))))
