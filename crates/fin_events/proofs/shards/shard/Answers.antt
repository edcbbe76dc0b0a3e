use Rattle.std.proofs.Common.{◌∙◌, List, take, sym, subst, arith, pos}
use Rattle.std.proofs.lemmas.List.{map_more, take_all}
use Rattle.fin_build.specs.Entries.{Entry}
use Rattle.fin_shard.specs.Steps.{HasTaken}
use Rattle.fin_events.specs.declared.chunks.Addend.{Addend}
use Rattle.fin_events.specs.Totals.{entry_of, entries_of}
use Rattle.fin_events.proofs.Asked.{lies_in}
use Rattle.fin_events.proofs.shards.shard.Goals as goal

abbrev none : Addend
none = record { at = 0; value = pos 0 }

pub append-requires : goal.append-requires
append-requires c = lies_in c.args.extent c.args.chunk.now c.loop-addend.addend-index none _ c.requires c.loop-addend-test.true c.loop-addend.invariant.0.1

pub loop-addend-preserved : goal.loop-addend-preserved
loop-addend-preserved c =
    let done = c.in_ok-append.ensures in
    let inv = c.loop-addend.invariant in
    let k = c.loop-addend.addend-index in
    let chunk = c.args.chunk.now in
    let listed = sym (map_more entry_of chunk k none c.loop-addend-test.true) in
    ((done.by ∙ inv.0.0, done.shape ∙ inv.0.1), subst (λ (es : List Entry). HasTaken c.append.new.shard es) listed (done.took (entries_of (take k chunk)) inv.1))

pub returns : goal.returns
returns c =
    let inv = c.loop-addend.invariant in
    record {
      by = inv.0.0;
      shape = inv.0.1;
      took = subst (λ (added : List Addend). HasTaken c.loop-addend.shard (entries_of added)) (take_all c.loop-addend.addend-index c.args.chunk.now (omega (arith, c.loop-addend-test.false))) inv.1;
    }
