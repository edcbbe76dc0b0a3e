use Rattle.std.proofs.Common.{rules, [], ◌∷◌, subst, ℤ, FitsSigned, w64}
use Rattle.std.proofs.lemmas.Int.{to_z-of_z}
use Rattle.std.proofs.lemmas.Result.{IfOk-weaker}
use Rattle.fin_shard.specs.Steps.{Takes}
use Rattle.fin_events.proofs.shards.append.Goals as goal

pub returns-clause-took : goal.returns-clause-took
returns-clause-took c =
    let a = c.args.addend in
    let word : FitsSigned w64 a.value = search rules in
    IfOk-weaker c.append.result _ _ (λ _ took. subst (λ (z : ℤ). Takes (a.at ∷ [], z) c.args.shard.now c.append.new.self) (to_z-of_z w64 a.value word) took) c.append.ensures.took
