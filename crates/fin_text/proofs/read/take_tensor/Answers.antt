use Rattle.std.proofs.Common.{refl, sym, subst}
use Rattle.std.specs.Prelude.{Contains}
use Rattle.indexmap.specs.IndexMap.{keys}
use Rattle.fin_text.specs.DueLines.{misformed}
use Rattle.fin_text.proofs.Lines.{given_before}
use Rattle.fin_text.proofs.read.take_tensor.Goals as goal

pub returns-in_default : goal.returns-in_default
returns-in_default c = misformed (λ h. h) (λ h. c.in_default.ensures h.0 h.2 h.1)

pub returns-then-is_given : goal.returns-then-is_given
returns-then-is_given c = given_before (keys c.args.given.now) c.args.after.now c.in-Some.word.now c.in_ok-name.name c.in-Some.ensures.0 c.in-Some.ensures.1 c.in_ok-name.ensures (c.if-is_given.ensures.0 refl)

pub returns : goal.returns
returns c =
    let word = c.in-Some.word.now in
    let new : Contains (keys c.args.given.now) word → ⊥ = λ h. cc (c.if-is_given.ensures.1 (subst (Contains (keys c.args.given.now)) (sym c.in_ok-name.ensures) h)) in
    ((word, c.in-Some.ensures.0, c.in-Some.ensures.1), (word, c.in-Some.ensures.0, new, c.in_ok-name.ensures))
