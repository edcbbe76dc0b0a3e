use Rattle.std.proofs.Common.{refl, to_z, of_z, w64}
use Rattle.std.proofs.lemmas.Int.{to_z-of_z}
use Rattle.std.proofs.lemmas.Result.{IfOk-weaker}
use Rattle.fin_build.proofs.Joining.{always_follows}
use Rattle.fin_shard.proofs.Merges.{took_more}
use Rattle.fin_shard.proofs.shard.Shard.append.Goals as goal

pub update-requires-clause-follows : goal.update-requires-clause-follows
update-requires-clause-follows c = let self = c.args.self.now in always_follows self.builder self.builder.format.levels c.args.coords.now refl self.levels

pub returns-clause-took : goal.returns-clause-took
returns-clause-took c =
    let self = c.args.self.now in
    IfOk-weaker c.update.result _ _ (λ _ e. took_more self.by self.builder c.update.new.self (c.args.coords.now, c.args.v) (to_z w64 (of_z w64 c.args.v)) c.ranges.v (to_z-of_z w64 c.args.v c.ranges.v) e) c.update.ensures.ok
