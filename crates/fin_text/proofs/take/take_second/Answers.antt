use Rattle.std.proofs.Common.{refl, subst, sym, arith}
use Rattle.std.specs.Prelude.{slice_index, length}
use Rattle.fin_tensor.specs.Lines.{due}
use Rattle.fin_text.specs.DueLines.{IsSecond, due_level, other_level, misformed, misspelled, invalid}
use Rattle.fin_text.proofs.Seconds.{not_other, no_parts, some_parts, unfit_part}
use Rattle.fin_text.proofs.take.take_second.Goals as goal

pub returns-then-tells_other : goal.returns-then-tells_other
returns-then-tells_other c = other_level (rw c.len-number.ensures at (c.if-tells_other.ensures.0 refl))

pub returns-then-not-has_words : goal.returns-then-not-has_words
returns-then-not-has_words c = misformed (not_other _ _ _ c.len-number.ensures (λ h. cc (c.if-tells_other.ensures.1 h))) (λ h. cc (c.if-not-has_words.ensures.1 h))

pub returns-in_default : goal.returns-in_default
returns-in_default c =
    misspelled (not_other _ _ _ c.len-number.ensures (λ h. cc (c.if-tells_other.ensures.1 h))) (c.if-not-has_words.ensures.0 refl)
    (no_parts _ _ c.args.after.now _ c.len-number.ensures c.in_ok-numbers.ensures c.in_default.is)

pub returns-then-not-is_second : goal.returns-then-not-is_second
returns-then-not-is_second c =
    let told = some_parts _ _ c.args.after.now _ _ c.len-number.ensures c.in_ok-numbers.ensures c.in-Some.is in
    let d = c.args.below.draft in let P = IsSecond (due_level d) (slice_index d.shape (length d.parts)) (due d.shape d.parts) c.args.below.ptr in
    invalid (not_other _ _ _ c.len-number.ensures (λ h. cc (c.if-tells_other.ensures.1 h))) (c.if-not-has_words.ensures.0 refl) (_, told)
    (unfit_part _ c.args.after.now c.in-Some.numbers P (omega (arith, c.args.below.within, c.args.below.draft.placed.few)) told (λ h. cc (c.if-not-is_second.ensures.1 (subst P (sym c.as_slice.ensures) h))))
