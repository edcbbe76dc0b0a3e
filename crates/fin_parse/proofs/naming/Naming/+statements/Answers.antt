use Rattle.std.proofs.Common.{refl}
use Rattle.fin_parse.specs.Elaboration.{Elaboration, elaboration_of, naming_of}
use Rattle.fin_parse.proofs.Elaborations.{absent_adds}
use Rattle.fin_parse.proofs.naming.Naming.+statements.Goals as goal

pub statements_at-returns-in-None-clause-statements : goal.statements_at-returns-in-None-clause-statements
statements_at-returns-in-None-clause-statements t c =
    let self = c.args.self.now in
    let s = naming_of self.tensors.now self.bound.now in
    absent_adds (elaboration_of self.text.now) c.args.parts.now c.args.place (λ (u : Elaboration). u.stmts c.args.lead s c.args.next) c.args.into.now c.in-None.ensures.lookup.3 refl
