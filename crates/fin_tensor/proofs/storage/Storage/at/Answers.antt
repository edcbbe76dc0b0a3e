use Rattle.std.proofs.Common.{rules, ◌∙◌, sym, FitsSigned, w64}
use Rattle.std.proofs.lemmas.Int.{to_z-of_z}
use Rattle.fin_tensor.proofs.Tabulated.{stands_at}
use Rattle.fin_tensor.proofs.storage.Storage.at.Goals as goal

pub returns-clause-value : goal.returns-clause-value
returns-clause-value c =
    let fits : FitsSigned w64 c.value.result = search rules in
    to_z-of_z w64 c.value.result fits ∙ c.value.ensures ∙ sym (stands_at c.args.self.now c.args.coords.now c.requires)
