-- The literal that is left, by either definition.
use Rattle.std.proofs.Common.{◌≡◌, Option, Some, None, ap, sym, ◌∙◌}
use Rattle.std.specs.Prelude.{IfSome}
use Rattle.fin_simp.specs.declared.facts.Facts.{Facts}
use Rattle.fin_simp.specs.Facts.{marks}
use Rattle.fin_simp.specs.Remaining.{literal_of}
use Rattle.fin_simp.proofs.Literals.{rest_literal}
use Rattle.fin_perform.specs.Working.{literal_at}
use Rattle.fin_stmts.specs.Places.{context_by, here_of}
use Rattle.fin_stmts.proofs.place.literal_there.Goals as goal

same_facts : (o : Option Facts) (f g : Facts) → o ≡ Some f → IfSome o (λ k. g ≡ k) → g ≡ f
same_facts None f g is e = cc
same_facts (Some k) f g is e = cc

pub returns-in-Some-clause-literal : goal.returns-in-Some-clause-literal
returns-in-Some-clause-literal c =
    let x = c.args.e.now in
    let read = c.args.place.now.read in
    let f = c.in-Some.field-0 in
    let same = same_facts c.args.place.now.known f c.facts_in-facts.result c.in-Some.is c.facts_in-facts.ensures.some in
    c.in_ok-found.ensures.literal ∙ ap (λ (k : Facts). literal_of x read (marks k)) same ∙ sym (rest_literal x read (marks f))
    ∙ ap (λ (o : Option Facts). literal_at x (here_of c.args.place.now) (context_by o)) (sym c.in-Some.is)
