use Rattle.std.proofs.Common.{ap, ◌∙◌}
use Rattle.fin_run.specs.Storages.{storage_in}
use Rattle.fin_run.proofs.Steps.{thaw_does}
use Rattle.fin_run.proofs.statements.thaw_at.Goals as goal

pub thawed-requires : goal.thawed-requires
thawed-requires c = (c.requires.storage.0, ap (λ hs. storage_in c.args.inputs.now hs c.args.tensor) c.as_slice.ensures.value ∙ c.requires.storage.1)

pub returns : goal.returns
returns c = λ layout budget made within.
    let st = c.requires.storage.0 in (
      λ n. thaw_does c.args.inputs.now c.args.state.now n c.set_held.new.tensors.items layout c.args.tensor c.in_ok-builder.builder st made c.requires.storage.1
          (c.in_ok-builder.ensures st (ap (λ hs. storage_in c.args.inputs.now hs c.args.tensor) c.as_slice.ensures.value ∙ c.requires.storage.1)) c.set_held.ensures,
      within,
    )
