use Rattle.std.proofs.Common.{◌∙◌, ap, subst, List}
use Rattle.std.proofs.lemmas.Result.{IfOk-weaker}
use Rattle.fin_tensor.specs.Building.{Building}
use Rattle.fin_build.specs.Entries.{Entry}
use Rattle.fin_build.specs.Merging.{joined}
use Rattle.fin_build.specs.Builders.{IsBuilding}
use Rattle.fin_build.proofs.Joining.{all_inside, joined_merges}
use Rattle.fin_build.proofs.builder.Builder.merge.Goals as goal

pub join-requires-clause-inside : goal.join-requires-clause-inside
join-requires-clause-inside c = all_inside c.args.other.now.function c.args.self.now.function.shape c.as_slice.result.now c.is_building.ensures.tensor c.requires.shape (c.as_slice.ensures.value ∙ c.in_ok-entries.ensures.map)

pub returns-clause-merged : goal.returns-clause-merged
returns-clause-merged c =
    IfOk-weaker c.join.result _ _ (λ _ e. joined_merges c.args.by c.args.self.now c.join.new.self c.args.other.now.function (subst (λ (b : Building). IsBuilding b) c.self.view_is c.self.invariant) c.requires.identity
    (e ∙ ap (λ (es : List Entry). joined c.args.by es c.args.self.now) (c.as_slice.ensures.value ∙ c.in_ok-entries.ensures.map))) c.join.ensures.ok
