use Rattle.std.proofs.Common.{◌∙◌}
use Rattle.fin_freeze.proofs.Freezing.{entries_are, names, canon_as, allowed_as, large_as}
use Rattle.fin_freeze.proofs.freezes.freeze.Goals as goal

pub store-requires-clause-entries : goal.store-requires-clause-entries
store-requires-clause-entries c = entries_are c.args.builder c.is_building.ensures c.shape.result.now c.as_slice.result.now c.shape.ensures (c.as_slice.ensures.value ∙ c.in-Ok.ensures.map)

pub returns-in-Ok-clause-canon : goal.returns-in-Ok-clause-canon
returns-in-Ok-clause-canon c =
    canon_as c.format.result.now c.args.builder.format _ c.args.builder.function c.store.result c.format.ensures
    (names c.args.builder c.is_building.ensures c.shape.result.now c.as_slice.result.now c.shape.ensures (c.as_slice.ensures.value ∙ c.in-Ok.ensures.map) c.format.result.now c.format.ensures) c.store.ensures.canon

pub returns-in-Ok-clause-allowed : goal.returns-in-Ok-clause-allowed
returns-in-Ok-clause-allowed c = allowed_as c.args.builder.format c.args.builder.function c.store.result (returns-in-Ok-clause-canon c)

pub returns-in-Ok-clause-large : goal.returns-in-Ok-clause-large
returns-in-Ok-clause-large c is_large =
    large_as c.format.result.now c.args.builder.format _ c.args.builder.function c.format.ensures
    (names c.args.builder c.is_building.ensures c.shape.result.now c.as_slice.result.now c.shape.ensures (c.as_slice.ensures.value ∙ c.in-Ok.ensures.map) c.format.result.now c.format.ensures) (c.store.ensures.large.0 is_large)
