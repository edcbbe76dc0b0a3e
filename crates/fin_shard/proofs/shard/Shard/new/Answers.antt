use Rattle.std.proofs.Common.{◌∙◌, sym, ap, Some, w64}
use Rattle.std.proofs.lemmas.Int.{to_z-of_z}
use Rattle.fin_shard.proofs.Reducing.{identity_word}
use Rattle.fin_shard.proofs.Merges.{took_none}
use Rattle.fin_shard.proofs.shard.Shard.new.Goals as goal

pub returns-clause-took : goal.returns-clause-took
returns-clause-took c =
    let e = c.start.result in
    took_none c.args.by c.in_ok-builder.builder _ _ c.in_ok-builder.ensures (c.start.ensures ∙ ap Some (sym (to_z-of_z w64 e (identity_word c.args.by e c.start.ensures))))
