use Rattle.std.proofs.Common.{refl}
use Rattle.fin_text.specs.Reading.{unknown, other, skipped}
use Rattle.fin_text.proofs.Lines.{rest_is_line}
use Rattle.fin_text.proofs.read.Reader.take.Goals as goal

pub returns-then-skips : goal.returns-then-skips
returns-then-skips c = skipped (c.if-skips.ensures.0 refl)

pub returns-then-not-is_known : goal.returns-then-not-is_known
returns-then-not-is_known c = (λ h. cc (c.if-skips.ensures.1 h), unknown _ _ c.split_word.ensures (λ h. cc (c.if-not-is_known.ensures.1 h)))

pub returns-then-not-begins_with : goal.returns-then-not-begins_with
returns-then-not-begins_with c = (λ h. cc (c.if-skips.ensures.1 h), other _ _ c.split_word.ensures (c.if-not-is_known.ensures.0 refl) (λ h. cc (c.if-not-begins_with.ensures.1 h)))

pub returns : goal.returns
returns c =
    rest_is_line c.args.self c.args.line c.args.bytes.now _ _ c.split_word.ensures (c.if-not-is_known.ensures.0 refl) (c.if-not-begins_with.ensures.0 refl) (λ h. cc (c.if-skips.ensures.1 h)) _ c.take_rest.ensures
