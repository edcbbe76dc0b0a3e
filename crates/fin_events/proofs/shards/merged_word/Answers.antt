use Rattle.std.proofs.Common.{◌∙◌, List, map, Bor}
use Rattle.std.proofs.lemmas.Option.{IfSome_then}
use Rattle.fin_events.specs.declared.chunks.Addend.{Addend}
use Rattle.fin_events.proofs.Taking.{summed}
use Rattle.fin_events.proofs.shards.merged_word.Goals as goal

pub returns : goal.returns
returns c =
    let chunks = map (λ (x : Bor (List Addend)). x.now) c.args.chunks.now in
    let into = c.in_ok-vector.field-0 in
    let all = summed c.args.extent chunks c.in_ok-shards.shards.items into c.in_ok-merged.merged c.args.at c.in_ok-vector.ensures c.in_ok-shards.ensures.took c.in_ok-merged.ensures.merged in
    IfSome_then c.word.result c.word.ensures (λ v e. e ∙ all)
