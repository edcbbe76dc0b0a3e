use Rattle.std.proofs.Common.{refl, ◌≡◌, ◌<◌, ⊎_elim, ℕ, ap, arith}
use Rattle.std.proofs.lemmas.Bool.{cases_lt}
use Rattle.fin_tensor.specs.TensorFunction.{value_at}
use Rattle.fin_tensor.specs.Canon.{Slice}
use Rattle.fin_canon.specs.Entries.{named}
use Rattle.fin_canon.specs.Counts.{count}
use Rattle.fin_canon.proofs.Naming.{named_told}
use Rattle.fin_canon.proofs.Counting.{count_allowed, allowed_counts}
use Rattle.fin_canon.proofs.counts.is_allowed.Goals as goal

pub count_below-requires-clause-told : goal.count_below-requires-clause-told
count_below-requires-clause-told c = (value_at (named c.args.shape.now c.args.format.now.fill c.args.entries.now), named_told c.args.shape.now c.args.format.now.fill c.args.entries.now c.requires.entries)

pub returns-then-count_below-eq-LIMIT : goal.returns-then-count_below-eq-LIMIT
returns-then-count_below-eq-LIMIT c =
    let ls = c.args.format.now.levels in
    let fill = c.args.format.now.fill in
    let ns = c.args.shape.now in
    let f : Slice = value_at (named ns fill c.args.entries.now) in
    (λ e. cc, λ a. absurd (omega (arith, c.if-count_below-eq-LIMIT.true, c.count_below.ensures f (named_told ns fill c.args.entries.now c.requires.entries), count_allowed c.loop-k.k ls fill ns f (omega (arith, c.loop-k-test.true, c.requires.shape)) a)))

pub loop-k-preserved : goal.loop-k-preserved
loop-k-preserved c j h =
    let ls = c.args.format.now.levels in
    let fill = c.args.format.now.fill in
    let ns = c.args.shape.now in
    let f : Slice = value_at (named ns fill c.args.entries.now) in
    ⊎_elim (λ (l : j < c.loop-k.k). c.loop-k.invariant j l)
    (λ l. let e : j ≡ c.loop-k.k = omega arith in omega (arith, ap (λ (x : ℕ). count ls fill ns x f) e, c.count_below.ensures f (named_told ns fill c.args.entries.now c.requires.entries), c.if-count_below-eq-LIMIT.false))
    (cases_lt j c.loop-k.k)

pub returns : goal.returns
returns c =
    let ls = c.args.format.now.levels in
    let fill = c.args.format.now.fill in
    let ns = c.args.shape.now in
    let f : Slice = value_at (named ns fill c.args.entries.now) in
    (λ _. allowed_counts ls fill ns f c.requires.shape (λ k x. c.loop-k.invariant k (omega (arith, c.loop-k-test.false, c.requires.shape))), λ _. refl)
