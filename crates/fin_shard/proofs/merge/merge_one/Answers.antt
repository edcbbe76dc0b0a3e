use Rattle.std.proofs.Common.{◌∙◌, ap}
use Rattle.std.specs.FinMap as finite
use Rattle.std.proofs.lemmas.Result.{IfOk-weaker}
use Rattle.fin_tensor.specs.Building.{Building}
use Rattle.fin_build.proofs.Joining.{joined_format}
use Rattle.fin_shard.proofs.merge.merge_one.Goals as goal

pub returns-clause-format : goal.returns-clause-format
returns-clause-format c =
    let shard = c.args.shard.now in
    IfOk-weaker c.merge.result _ _ (λ _ e. ap (λ (b : Building). b.format) e ∙ joined_format shard.by (finite.entries shard.builder.function.cells) c.args.whole.now) c.merge.ensures.ok
