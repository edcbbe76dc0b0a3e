use Rattle.std.proofs.Common.{List, [], map, subst, arith, Bor}
use Rattle.std.proofs.lemmas.List.{take_all}
use Rattle.fin_events.specs.declared.chunks.Addend.{Addend}
use Rattle.fin_events.specs.Totals.{HaveTaken}
use Rattle.fin_events.proofs.Taking.{taken_more}
use Rattle.fin_events.proofs.shards.shards.Goals as goal

abbrev none : Bor (List Addend)
none = record { ref_ptr = (0, 0); now = [] }

pub shard-requires : goal.shard-requires
shard-requires c = c.requires c.loop-chunk.chunk-index none c.loop-chunk-test.true

pub loop-chunk-preserved : goal.loop-chunk-preserved
loop-chunk-preserved c =
    let inv = c.loop-chunk.invariant in
    let made = c.in_ok-shard.ensures in
    let old = c.loop-chunk.shards.items in
    let new = c.push.new.self.items in
    taken_more c.args.extent c.args.chunks.now c.loop-chunk.chunk-index none old new c.in_ok-shard.field-0
    c.loop-chunk-test.true c.in_ok-push.ensures.items inv.0 inv.1 made.by made.shape made.took

pub returns : goal.returns
returns c =
    let inv = c.loop-chunk.invariant in
    let all = take_all c.loop-chunk.chunk-index c.args.chunks.now (omega (arith, c.loop-chunk-test.false)) in
    record {
      shapes = inv.0;
      took = subst (λ (cs : List (Bor (List Addend))). HaveTaken c.loop-chunk.shards.items (map (λ (c : Bor (List Addend)). c.now) cs)) all inv.1;
    }
