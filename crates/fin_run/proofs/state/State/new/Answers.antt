use Rattle.std.proofs.Common.{List, sym, ap, subst, ◌∙◌, ℤ, ℕ}
use Rattle.fin_tensor.specs.declared.storage.Storage.{Storage}
use Rattle.fin_ir.specs.Machine.{Tensor}
use Rattle.fin_ir.specs.Start.{started}
use Rattle.fin_ir.specs.Regular.{Fits}
use Rattle.fin_ir.proofs.Fitting.{started_fits}
use Rattle.fin_run.specs.declared.state.Held.{Held}
use Rattle.fin_run.specs.States.{tensors_of, lent_from}
use Rattle.fin_run.proofs.Reading.{lent_is}
use Rattle.fin_run.proofs.state.State.new.Goals as goal

pub returns-clause-start : goal.returns-clause-start
returns-clause-start c = λ (inputs : List Storage).
    ap (λ (ls : List ℤ). record (started c.args.layout.now inputs) { locals = ls; tensors = tensors_of inputs c.in_ok-tensors.tensors.items }) c.in_ok-locals.ensures
    ∙ ap (λ (ts : List Tensor). record (started c.args.layout.now inputs) { tensors = ts }) (ap (λ (hs : List Held). tensors_of inputs hs) (c.in_ok-tensors.ensures ∙ ap (λ (ks : List ℕ). lent_from 0 ks) c.as_slice.ensures) ∙ lent_is inputs 0 c.args.layout.now.kinds)

pub returns-clause-fits : goal.returns-clause-fits
returns-clause-fits c = λ inputs h. subst (Fits c.args.layout.now) (sym (returns-clause-start c inputs)) (started_fits c.args.layout.now inputs h)
