use Rattle.std.proofs.Common.{rules, ◌≡◌, ◌∙◌, sym, ap, List, ℕ, map, Some, None, w64, FitsSigned}
use Rattle.std.proofs.lemmas.Int.{to_z-of_z}
use Rattle.fin_tensor.specs.TensorFunction.{value_at}
use Rattle.fin_tensor.specs.Stands.{stands}
use Rattle.fin_ast.specs.Value.{coordinates, place}
use Rattle.fin_dense.proofs.Stored.{inside_gives, outside_gives}
use Rattle.fin_dense.proofs.reads.read_stored.Goals as goal

pub returns-in-Some : goal.returns-in-Some
returns-in-Some c =
    let f : FitsSigned w64 c.at.result = search rules in
    let e : Some c.in-Some.cs ≡ coordinates c.args.storage.now.shape (map (place c.args.vars.now) c.args.at.now) =
    sym c.in-Some.is ∙ c.in_ok-cs.ensures.value ∙ ap (λ (shape : List ℕ). coordinates shape (map (place c.args.vars.now) c.args.at.now)) c.as_slice.ensures in
    to_z-of_z w64 _ f ∙ inside_gives c.args.storage.now _ c.in-Some.cs c.at.result e (c.at.ensures.value ∙ ap (value_at (stands c.args.storage.now)) c.as_slice-in-Some.ensures)

pub returns-in-None : goal.returns-in-None
returns-in-None c =
    let f : FitsSigned w64 c.args.storage.now.format.fill = search rules in
    let e : None ≡ coordinates c.args.storage.now.shape (map (place c.args.vars.now) c.args.at.now) =
    sym c.in-None.is ∙ c.in_ok-cs.ensures.value ∙ ap (λ (shape : List ℕ). coordinates shape (map (place c.args.vars.now) c.args.at.now)) c.as_slice.ensures in
    to_z-of_z w64 _ f ∙ outside_gives c.args.storage.now _ e
