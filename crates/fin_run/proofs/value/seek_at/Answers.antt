use Rattle.std.proofs.Common.{sym, ◌∙◌, w64}
use Rattle.std.proofs.lemmas.Int.{to_z-of_z}
use Rattle.fin_run.proofs.Reading.{none_place, seek_told}
use Rattle.fin_run.proofs.value.seek_at.Goals as goal

pub returns-in-None : goal.returns-in-None
returns-in-None c =
    to_z-of_z w64 c.args.from c.ranges.from
    ∙ sym (none_place c.args.inputs.now c.args.tensors.now c.args.tensor (sym c.in-None.ensures) c.args.level c.args.from c.args.to c.args.key)

pub returns-in-Some : goal.returns-in-Some
returns-in-Some c =
    to_z-of_z w64 c.seek.result (record { sfits = c.seek.type_inv })
    ∙ seek_told c.args.inputs.now c.args.tensors.now c.args.tensor c.in-Some.storage.now (sym c.in-Some.ensures) c.args.level c.args.from c.args.to c.args.key c.seek.result c.ranges.from c.ranges.to c.ranges.key c.seek.ensures
