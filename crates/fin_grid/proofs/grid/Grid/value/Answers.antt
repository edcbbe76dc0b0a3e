use Rattle.std.proofs.Common.{rules, ◌∙◌, sym, ap, unwrap_or, FitsSigned, w64, Option, ℤ}
use Rattle.std.proofs.lemmas.Int.{to_z-of_z}
use Rattle.fin_tensor.specs.TensorFunction.{TensorFunction, value_at}
use Rattle.fin_tensor.proofs.Functions.{held}
use Rattle.fin_grid.proofs.grid.Grid.value.Goals as goal

pub returns-in-Some : goal.returns-in-Some
returns-in-Some c =
    let f : FitsSigned w64 c.in-Some.value.now = search rules in
    to_z-of_z w64 c.in-Some.value.now f
    ∙ ap (λ (o : Option ℤ). unwrap_or o c.self.inside.fill) (c.in-Some.ensures.value ∙ sym (held c.self.inside.cells.entries c.args.at.now))
    ∙ ap (λ (t : TensorFunction). value_at t c.args.at.now) c.self.view_is

pub returns-in-None : goal.returns-in-None
returns-in-None c =
    let f : FitsSigned w64 c.self.inside.fill = search rules in
    to_z-of_z w64 c.self.inside.fill f
    ∙ ap (λ (o : Option ℤ). unwrap_or o c.self.inside.fill) (c.in-None.ensures.value ∙ sym (held c.self.inside.cells.entries c.args.at.now))
    ∙ ap (λ (t : TensorFunction). value_at t c.args.at.now) c.self.view_is
