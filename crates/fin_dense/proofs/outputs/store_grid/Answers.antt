use Rattle.std.proofs.Common.{◌∙◌, subst, IfOk}
use Rattle.std.specs.Prelude.{IsErrOf}
use Rattle.fin_tensor.specs.TensorFunction.{TensorFunction}
use Rattle.fin_tensor.specs.Canon.{IsCanon, IsAllowedIn}
use Rattle.fin_canon.specs.Entries.{undecorated}
use Rattle.fin_dense.specs.declared.halt.Halt.TheVariants.{Spent}
use Rattle.fin_dense.proofs.Storing.{entries_are, entries_give}
use Rattle.fin_dense.proofs.outputs.store_grid.Goals as goal

pub store_entries-requires-clause-entries : goal.store_entries-requires-clause-entries
store_entries-requires-clause-entries c = entries_are c.args.grid.now c.is_tensor.ensures _ _ (c.in_ok-shape.ensures ∙ c.shape.ensures) (c.as_slice.ensures.value ∙ c.in_ok-entries.ensures)

pub returns-clause-canon : goal.returns-clause-canon
returns-clause-canon c =
    let same = entries_give c.args.grid.now c.is_tensor.ensures _ _ _ (c.in_ok-shape.ensures ∙ c.shape.ensures) c.requires.fill (c.as_slice.ensures.value ∙ c.in_ok-entries.ensures) in
    subst (λ (f : TensorFunction). IfOk c.store_entries.result (λ s. IsCanon (undecorated c.args.format.now) f s)) same c.store_entries.ensures.canon

pub returns-clause-large : goal.returns-clause-large
returns-clause-large c =
    let same = entries_give c.args.grid.now c.is_tensor.ensures _ _ _ (c.in_ok-shape.ensures ∙ c.shape.ensures) c.requires.fill (c.as_slice.ensures.value ∙ c.in_ok-entries.ensures) in
    subst (λ (f : TensorFunction). IsErrOf c.store_entries.result Spent → IsAllowedIn (undecorated c.args.format.now) f → ⊥) same c.store_entries.ensures.large
