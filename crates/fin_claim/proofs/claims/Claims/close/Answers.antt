use Rattle.std.proofs.Common.{ap, ◌∙◌, arith}
use Rattle.fin_claim.proofs.claims.Claims.close.Goals as goal
use Rattle.std.specs.Prelude.{slice_index}
use Rattle.fin_seats.proofs.Places.{word_is}
use Rattle.fin_claim.specs.Claims.{once_below}
use Rattle.fin_claim.proofs.Moves.{closes, reached, at_most}

pub returns-clause-each_once : goal.returns-clause-each_once
returns-clause-each_once c =
    let f = c.close_with-closed.ensures.values.2 in
    let is = ap (λ ws. slice_index ws 0) f.2 ∙ word_is _ 0 _ c.word-answer.ensures in
    λ x. closes c.args.self.table.shared.key _ _ f.0 f.1.0 f.1.1 c.requires.gathered x ∙ ap (once_below x) is

pub returns-clause-reached : goal.returns-clause-reached
returns-clause-reached c d =
    let f = c.close_with-closed.ensures.values.2 in
    let is = ap (λ ws. slice_index ws 0) f.2 ∙ word_is _ 0 _ c.word-answer.ensures in
    let r = reached c.args.self.table.shared.key _ _ f.0 f.1.0 f.1.1 d in
    omega arith

pub returns-clause-most : goal.returns-clause-most
returns-clause-most c =
    let f = c.close_with-closed.ensures.values.2 in
    let is = ap (λ ws. slice_index ws 0) f.2 ∙ word_is _ 0 _ c.word-answer.ensures in
    let r = at_most c.args.self.table.shared.key _ _ f.0 f.1.0 f.1.1 c.requires.gathered in
    omega arith
