use Rattle.std.proofs.Common.{◌+◌, ◌-◌, ◌∙◌, ap, sym, arith, ℕ, List, length, slice_index}
use Rattle.std.specs.Prelude.{nat_eq, if◌then◌else◌}
use Rattle.fin_tensor.proofs.Walk.{got}
use Rattle.fin_freeze.proofs.Placing.{key_place_at, run_place_at, block_place_at}
use Rattle.fin_freeze.proofs.spans.span_of.Goals as goal

pub get-requires : goal.get-requires
get-requires c = (key_place_at c.args.extent c.args.pos c.args.place c.args.part.now c.in-Keys.ptr c.in-Keys.idx c.in-Keys.is c.requires.at c.requires.low c.requires.high).within

pub one-requires-in-Keys : goal.one-requires-in-Keys
one-requires-in-Keys c =
    let k = key_place_at c.args.extent c.args.pos c.args.place c.args.part.now c.in-Keys.ptr c.in-Keys.idx c.in-Keys.is c.requires.at c.requires.low c.requires.high in
    omega (arith, got c.in-Keys.idx c.args.place 0 _ c.get.ensures, k.small)

pub returns-in-Keys : goal.returns-in-Keys
returns-in-Keys c =
    let k = key_place_at c.args.extent c.args.pos c.args.place c.args.part.now c.in-Keys.ptr c.in-Keys.idx c.in-Keys.is c.requires.at c.requires.low c.requires.high in
    k.span _ _ (c.one-in-Keys.ensures.from ∙ got c.in-Keys.idx c.args.place 0 _ c.get.ensures) (c.one-in-Keys.ensures.to ∙ ap (λ x. x + 1) (sym c.one-in-Keys.ensures.from))

pub run_start-requires-clause-low : goal.run_start-requires-clause-low
run_start-requires-clause-low c =
    let k = run_place_at c.args.extent c.args.pos c.args.place c.args.part.now c.in-Runs.ptr c.in-Runs.stop c.in-Runs.is c.requires.at c.requires.low c.requires.high in
    omega (arith, got c.in-Runs.ptr c.args.pos 0 _ c.get-in-Runs.ensures, k.low)

pub run_start-requires-clause-high : goal.run_start-requires-clause-high
run_start-requires-clause-high c =
    let k = run_place_at c.args.extent c.args.pos c.args.place c.args.part.now c.in-Runs.ptr c.in-Runs.stop c.in-Runs.is c.requires.at c.requires.low c.requires.high in
    omega (arith, ap (length {A = ℕ}) c.as_slice.ensures, k.within)

pub get-requires-in-Runs-2 : goal.get-requires-in-Runs-2
get-requires-in-Runs-2 c = (run_place_at c.args.extent c.args.pos c.args.place c.args.part.now c.in-Runs.ptr c.in-Runs.stop c.in-Runs.is c.requires.at c.requires.low c.requires.high).within

pub returns-in-Runs : goal.returns-in-Runs
returns-in-Runs c =
    let k = run_place_at c.args.extent c.args.pos c.args.place c.args.part.now c.in-Runs.ptr c.in-Runs.stop c.in-Runs.is c.requires.at c.requires.low c.requires.high in
    k.span _ _
    (c.run_start.ensures
    ∙ ap (λ (xs : List ℕ). if nat_eq c.args.place c.get-in-Runs.result.now then 0 else slice_index xs (c.args.place - 1)) c.as_slice.ensures
    ∙ ap (λ (x : ℕ). if nat_eq c.args.place x then 0 else slice_index c.in-Runs.stop (c.args.place - 1)) (got c.in-Runs.ptr c.args.pos 0 _ c.get-in-Runs.ensures))
    (got c.in-Runs.stop c.args.place 0 _ c.get-in-Runs-2.ensures)

pub overflow_sub-place-in-Band : goal.overflow_sub-place-in-Band
overflow_sub-place-in-Band c =
    let k = block_place_at c.args.extent c.args.pos c.args.place c.args.part.now c.in-Band.ptr c.in-Band.start c.in-Band.is c.requires.at c.requires.low c.requires.high in
    omega (arith, got c.in-Band.ptr c.args.pos 0 _ c.get-in-Band-2.ensures, k.low)

pub one-requires-in-Band : goal.one-requires-in-Band
one-requires-in-Band c =
    let k = block_place_at c.args.extent c.args.pos c.args.place c.args.part.now c.in-Band.ptr c.in-Band.start c.in-Band.is c.requires.at c.requires.low c.requires.high in
    omega (arith, got c.in-Band.ptr c.args.pos 0 _ c.get-in-Band-2.ensures, got c.in-Band.start c.args.pos 0 _ c.get-in-Band.ensures, k.small)

pub overflow_add-get : goal.overflow_add-get
overflow_add-get c =
    let k = block_place_at c.args.extent c.args.pos c.args.place c.args.part.now c.in-Band.ptr c.in-Band.start c.in-Band.is c.requires.at c.requires.low c.requires.high in
    omega (arith, got c.in-Band.ptr c.args.pos 0 _ c.get-in-Band-2.ensures, got c.in-Band.start c.args.pos 0 _ c.get-in-Band.ensures, k.small)

pub returns-in-Band : goal.returns-in-Band
returns-in-Band c =
    let k = block_place_at c.args.extent c.args.pos c.args.place c.args.part.now c.in-Band.ptr c.in-Band.start c.in-Band.is c.requires.at c.requires.low c.requires.high in
    let e = got c.in-Band.ptr c.args.pos 0 _ c.get-in-Band-2.ensures in
    let f = got c.in-Band.start c.args.pos 0 _ c.get-in-Band.ensures in
    k.span _ _
    (c.one-in-Band.ensures.from ∙ ap (λ x. x + (c.args.place - c.get-in-Band-2.result.now)) f ∙ ap (λ x. slice_index c.in-Band.start c.args.pos + (c.args.place - x)) e)
    (c.one-in-Band.ensures.to ∙ ap (λ x. x + 1) (sym c.one-in-Band.ensures.from))
