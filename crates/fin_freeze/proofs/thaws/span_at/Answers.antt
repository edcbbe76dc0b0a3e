use Rattle.std.proofs.Common.{◌∙◌, ◌≡◌, ℕ, ap, subst, arith, slice_index}
use Rattle.std.specs.Prelude.{slice_index_or}
use Rattle.fin_tensor.specs.declared.part.Part.{Part}
use Rattle.fin_tensor.specs.declared.part.Part.TheVariants as part
use Rattle.fin_tensor.specs.Levels.{fibre_from, fibre_to}
use Rattle.fin_tensor.proofs.Walk.{got, same_at, level_at, stored_lengths}
use Rattle.fin_freeze.specs.Thawing.{IsSpan}
use Rattle.fin_freeze.proofs.thaws.span_at.Goals as goal

pub get-extent-requires : goal.get-extent-requires
get-extent-requires c = let s = c.args.storage.now in omega (arith, stored_lengths 1 s.format.levels s.shape s.parts s.val s.valid, c.requires.deep)

pub span_of-requires-clause-at : goal.span_of-requires-clause-at
span_of-requires-clause-at c =
    let s = c.args.storage.now in
    same_at _ _ _ _ _ (got s.shape c.args.level 0 _ c.get-extent.ensures) (got s.parts c.args.level part.Dense _ c.get.ensures) (level_at c.args.level 1 s.format.levels s.shape s.parts s.val c.args.pos s.valid c.requires.deep c.requires.within)

pub span_of-requires-clause-low : goal.span_of-requires-clause-low
span_of-requires-clause-low c =
    let s = c.args.storage.now in
    let e : fibre_from c.get-extent.result.now c.get.result.now c.args.pos ≡ fibre_from (slice_index s.shape c.args.level) (slice_index_or s.parts c.args.level part.Dense) c.args.pos = ap (λ n. fibre_from n c.get.result.now c.args.pos) (got s.shape c.args.level 0 _ c.get-extent.ensures) ∙ ap (λ p. fibre_from (slice_index s.shape c.args.level) p c.args.pos) (got s.parts c.args.level part.Dense _ c.get.ensures) in
    omega (arith, e, c.requires.low)

pub span_of-requires-clause-high : goal.span_of-requires-clause-high
span_of-requires-clause-high c =
    let s = c.args.storage.now in
    let e : fibre_to c.get-extent.result.now c.get.result.now c.args.pos ≡ fibre_to (slice_index s.shape c.args.level) (slice_index_or s.parts c.args.level part.Dense) c.args.pos = ap (λ n. fibre_to n c.get.result.now c.args.pos) (got s.shape c.args.level 0 _ c.get-extent.ensures) ∙ ap (λ p. fibre_to (slice_index s.shape c.args.level) p c.args.pos) (got s.parts c.args.level part.Dense _ c.get.ensures) in
    omega (arith, e, c.requires.high)

pub returns : goal.returns
returns c =
    let s = c.args.storage.now in
    let e = got s.shape c.args.level 0 _ c.get-extent.ensures in
    let f = got s.parts c.args.level part.Dense _ c.get.ensures in
    subst (λ (n : ℕ). IsSpan n (slice_index_or s.parts c.args.level part.Dense) c.args.pos c.args.place c.span_of.result.from c.span_of.result.to) e
    (subst (λ (p : Part). IsSpan c.get-extent.result.now p c.args.pos c.args.place c.span_of.result.from c.span_of.result.to) f c.span_of.ensures)
