use Rattle.std.proofs.Common.{refl}
use Rattle.fin_parse.specs.Elaboration.{Elaboration, elaboration_of, naming_of}
use Rattle.fin_parse.proofs.Elaborations.{absent_adds}
use Rattle.fin_parse.proofs.naming.Naming.+lists.Goals as goal

pub indices_at-returns-in-None : goal.indices_at-returns-in-None
indices_at-returns-in-None t c =
    let self = c.args.self.now in
    let s = naming_of self.tensors.now self.bound.now in
    record { ok = absent_adds (elaboration_of self.text.now) c.args.parts.now c.args.place (λ (u : Elaboration). u.indices s) c.args.into.now c.in-None.ensures.lookup.3 refl }
