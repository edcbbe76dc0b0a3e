use Rattle.std.proofs.Common.{◌≡◌, ap, ◌∙◌}
use Rattle.fin_simp.specs.Left.{Marks}
use Rattle.fin_simp.specs.Numbered.{here_at}
use Rattle.fin_simp.specs.Remaining.{are_nothing}
use Rattle.fin_known.proofs.Lists.{told_marks}
use Rattle.fin_known.proofs.nothing.is_nothing_along.Goals as goal

pub returns : goal.returns
returns c =
    let a = c.args in
    let gaps_are = c.as_slice-3.ensures.value in
    let known_are = c.as_slice-4.ensures.value in
    let gaps : c.as_slice-3.result.now ≡ c.in_ok-gaps.gaps.items = cc in
    let known : c.as_slice-4.result.now ≡ c.in_ok-known.known.items = cc in
    c.in_ok-seen.ensures.nothing ∙ ap (λ (m : Marks). are_nothing a.body.now.stmts.now (here_at a.body.now.read a.body.now.test) m)
    (told_marks a.around.now a.drives.now a.nest.now c.as_slice.result.now c.as_slice-2.result.now c.as_slice-3.result.now c.as_slice-4.result.now c.as_slice.ensures
    c.as_slice-2.ensures (gaps ∙ c.in_ok-gaps.ensures) (known ∙ c.in_ok-known.ensures))
