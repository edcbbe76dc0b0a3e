use Rattle.std.proofs.Common.{◌<◌, length, sym, ap, ◌∙◌, arith, Some}
use Rattle.std.proofs.lemmas.Option.{slice_get-get_or}
use Rattle.fin_code_test.proofs.regularity.is_built.Goals as goal

pub returns-in-Building : goal.returns-in-Building
returns-in-Building c = λ t.
    let lt : c.args.tensor < length c.args.state.now.tensors.items = omega (arith, c.if-t-len.false, c.len.ensures) in
    (c.in-Building.field-0, slice_get-get_or c.args.state.now.tensors.items c.args.tensor c.index.result.now lt ∙ ap Some (sym c.index.ensures ∙ c.in-Building.is))
