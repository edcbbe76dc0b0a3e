-- All that is made one after another is the whole.
use Rattle.std.proofs.Common.{◌++◌, map, refl, ap, ◌∙◌}
use Rattle.fin_simp.specs.Gathered.{as_access, as_test}
use Rattle.fin_enter.specs.declared.body.LoopBody.{LoopBody}
use Rattle.fin_enter.specs.Together.{Around}
use Rattle.fin_enter.specs.LoopEntry.{looplets_by}
use Rattle.fin_enter.proofs.MadeEntry.{around_is, code_with, bounds_are, cursors_are, cursors_after, code_made, looplets_made, tests_numbered, reads_numbered}
use Rattle.fin_enter.proofs.entrance.enter.Goals as goal

pub read_looplets-requires : goal.read_looplets-requires
read_looplets-requires c =
    let body : LoopBody = record { heads = c.args.head.heads; var = c.args.head.var; changed = c.as_slice.result } in
    let reads = c.as_slice-reads.result.now in
    let tests = c.as_slice-2.result.now in
    record {
      below = cursors_after body c.args.rest.now reads tests c.as_slice-reads.ensures c.as_slice-2.ensures c.args.next
          c.in_ok-behind.behind c.in_ok-bounds.bounds c.in_ok-masks.masks.next c.in_ok-cursors.cursors
          c.in_ok-behind.ensures.next c.in_ok-bounds.ensures c.in_ok-masks.ensures.next c.in_ok-cursors.ensures;
    }

pub returns-clause-code : goal.returns-clause-code
returns-clause-code c =
    let head = c.args.head in
    let body : LoopBody = record { heads = head.heads; var = head.var; changed = c.as_slice.result } in
    let rest = c.args.rest.now in
    let reads = c.as_slice-reads.result.now in
    let tests = c.as_slice-2.result.now in
    let old = c.args.into.now in
    let next = c.args.next in
    let made =
    code_made body rest reads tests c.as_slice-reads.ensures c.as_slice-2.ensures
    old c.push_positions.new.into c.push_masks.new.into c.push_charge.new.into
    head.chunks next c.in_ok-behind.behind c.in_ok-bounds.bounds c.driven_count.result c.len.result c.in_ok-known.known c.in_ok-masks.masks.masks
    c.in_ok-behind.ensures.code c.in_ok-behind.ensures.next c.in_ok-bounds.ensures c.in_ok-masks.ensures.code c.in_ok-masks.ensures.masks
    c.driven_count.ensures c.len.ensures c.in_ok-known.ensures c.in_ok-push_charge.ensures in
    made ∙ ap (λ (l : Around). old ++ code_with l (map as_access rest.reads) (map as_test rest.tests) head.chunks next) (around_is body head rest refl refl c.as_slice.ensures)

pub returns-clause-looplets : goal.returns-clause-looplets
returns-clause-looplets c =
    let head = c.args.head in
    let body : LoopBody = record { heads = head.heads; var = head.var; changed = c.as_slice.result } in
    let rest = c.args.rest.now in
    let reads = c.as_slice-reads.result.now in
    let tests = c.as_slice-2.result.now in
    let next = c.args.next in
    let begin = c.in_ok-bounds.bounds in
    let all_reads = c.as_slice-reads.ensures in
    let all_tests = c.as_slice-2.ensures in
    let bounds = bounds_are body rest reads tests all_reads all_tests next c.in_ok-behind.behind begin c.in_ok-behind.ensures.next c.in_ok-bounds.ensures in
    let cursors =
    cursors_are body rest reads tests all_reads all_tests next begin c.in_ok-masks.masks.next c.in_ok-cursors.cursors
    bounds c.in_ok-masks.ensures.next c.in_ok-cursors.ensures in
    let made =
    looplets_made body rest reads tests all_reads all_tests next begin c.in_ok-cursors.cursors c.in_ok-looplets.looplets c.in_ok-masks.masks.masks
    bounds cursors c.in_ok-looplets.ensures.looplets c.in_ok-masks.ensures.masks in
    made ∙ ap (λ (l : Around). looplets_by l (map as_access rest.reads) (map as_test rest.tests) next) (around_is body head rest refl refl c.as_slice.ensures)

pub returns-clause-reads : goal.returns-clause-reads
returns-clause-reads c =
    reads_numbered c.as_slice-reads.result.now c.args.rest.now.reads c.in_ok-looplets.looplets c.as_slice-reads.ensures c.in_ok-looplets.ensures.numbers

pub returns-clause-masks : goal.returns-clause-masks
returns-clause-masks c =
    let body : LoopBody = record { heads = c.args.head.heads; var = c.args.head.var; changed = c.as_slice.result } in
    tests_numbered body c.args.rest.now c.as_slice-reads.result.now c.as_slice-2.result.now c.as_slice-reads.ensures c.as_slice-2.ensures
    c.in_ok-bounds.bounds c.in_ok-masks.masks.masks c.in_ok-masks.ensures.masks
