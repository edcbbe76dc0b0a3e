use Rattle.std.proofs.Common.{◌∙◌, ◌+◌, ap, arith, sym, subst, List}
use Rattle.fin_tensor.specs.declared.storage.Storage.{Storage}
use Rattle.fin_run.specs.Storages.{storage_in}
use Rattle.fin_engine.specs.Run.{IsFront, IsHeld}
use Rattle.fin_engine.proofs.Taking.{front_more, front_same, held_behind, held_still, taken_is}
use Rattle.fin_engine.proofs.run.add_output.Goals as goal

pub returns-then-not-is_output-clause-held : goal.returns-then-not-is_output-clause-held
returns-then-not-is_output-clause-held c = held_behind c.args.job.now.checked c.args.job.now.inputs c.args.tensor c.args.tensors.now.items c.requires.held

pub returns-then-not-is_output-clause-front : goal.returns-then-not-is_output-clause-front
returns-then-not-is_output-clause-front c =
    front_same c.args.job.now.checked c.args.job.now.inputs c.args.tensor c.args.header.now c.args.into.now c.requires.header (sym c.is_output.ensures ∙ c.if-not-is_output.true) c.requires.front

pub take-requires : goal.take-requires
take-requires c =
    let is : IsHeld c.args.job.now.checked c.args.job.now.inputs c.args.tensors.now.items c.args.tensor c.args.header.now = c.requires.held c.args.tensor c.args.header.now (omega arith) c.requires.header (sym c.is_output.ensures ∙ c.if-not-is_output.false) in
    (is.0, ap (λ (y : List Storage). storage_in y c.args.tensors.now.items c.args.tensor) c.as_slice.ensures ∙ is.1)

pub returns-clause-held : goal.returns-clause-held
returns-clause-held c = held_still c.args.job.now.checked c.args.job.now.inputs c.args.tensor c.args.tensors.now.items c.take.new.tensors.items c.take.ensures.others c.requires.held

pub returns-clause-front : goal.returns-clause-front
returns-clause-front c =
    let job = c.args.job.now in
    let output = sym c.is_output.ensures ∙ c.if-not-is_output.false in
    let is : IsHeld job.checked job.inputs c.args.tensors.now.items c.args.tensor c.args.header.now = c.requires.held c.args.tensor c.args.header.now (omega arith) c.requires.header output in
    let canon = taken_is job.checked job.inputs c.args.tensor c.args.header.now c.args.tensors.now.items c.as_slice.result.now c.in_ok-storage.storage c.as_slice.ensures is c.in_ok-storage.ensures.storage in
    subst (IsFront job.checked job.inputs (c.args.tensor + 1)) (sym c.in_ok-push.ensures.ok) (front_more job.checked job.inputs c.args.tensor c.args.header.now c.in_ok-storage.storage c.args.into.now c.requires.header output canon c.requires.front)
