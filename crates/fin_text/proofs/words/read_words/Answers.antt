use Rattle.std.proofs.Common.{◌≡◌, ◌∷◌, ap, ◌∙◌, subst, sym}
use Rattle.fin_text.proofs.Reading.{Reached, further, no_number, no_space, finish}
use Rattle.fin_text.proofs.words.read_words.Goals as goal

pub returns-then-first-ne32 : goal.returns-then-first-ne32
returns-then-first-ne32 g c = no_space _ _ c.requires c.loop-first.invariant c.in-Some.ensures.cases.0 c.if-first-ne32.true

pub returns-in_default-read : goal.returns-in_default-read
returns-in_default-read g c =
    let space : c.loop-first.left.now ≡ 32 ∷ c.in-Some.behind.now = c.in-Some.ensures.cases.0 ∙ ap (λ b. b ∷ c.in-Some.behind.now) c.if-first-ne32.false in
    no_number _ _ c.requires c.loop-first.invariant space c.split_word.ensures c.in_default-read.ensures

pub loop-first-preserved : goal.loop-first-preserved
loop-first-preserved g c =
    let space : c.loop-first.left.now ≡ 32 ∷ c.in-Some.behind.now = c.in-Some.ensures.cases.0 ∙ ap (λ b. b ∷ c.in-Some.behind.now) c.if-first-ne32.false in
    let next = further g.T.Spelled.word g.T.Spelled.Fits c.requires c.loop-first.invariant space c.split_word.ensures c.in-Some-read.ensures.0 c.in-Some-read.ensures.1 in
    subst (λ l. Reached g.T.Spelled.word g.T.Spelled.Fits c.args.line.now c.split_word.result.1.now l) (sym c.in_ok-push.ensures.ok) next

pub returns : goal.returns
returns g c = finish _ _ c.requires c.loop-first.invariant c.in_default.ensures.cases
