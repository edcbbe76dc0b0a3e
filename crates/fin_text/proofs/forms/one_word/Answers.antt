use Rattle.std.proofs.Common.{arith, refl}
use Rattle.fin_text.proofs.Seconds.{one_word_is}
use Rattle.fin_text.proofs.forms.one_word.Goals as goal

pub returns-then-has_bytes : goal.returns-then-has_bytes
returns-then-has_bytes c = λ h.
    let k = one_word_is c.args.after.now c.in-Some.word.now c.in-Some.rest.now c.in-Some.ensures h in
    let long = c.if-has_bytes.ensures.0 refl in
    omega (arith, k.1, long)
