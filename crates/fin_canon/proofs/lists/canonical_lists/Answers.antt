use Rattle.std.proofs.Common.{◌≡◌, ◌∙◌, ◌+◌, ◌<◌, ◌++◌, ◌∷◌, [], List, ℕ, ap, sym, subst, arith, drop, length, map, ℤ}
use Rattle.std.proofs.lemmas.List.{drop_more}
use Rattle.std.specs.Prelude.{slice_index, slice_index_or, if◌then◌else◌}
use Rattle.fin_tensor.specs.declared.format.Level.{Level}
use Rattle.fin_tensor.specs.declared.part.Part.{Part}
use Rattle.fin_tensor.specs.declared.format.Level.TheVariants as level
use Rattle.fin_tensor.specs.TensorFunction.{value_at}
use Rattle.fin_tensor.specs.Canon.{Slice}
use Rattle.fin_canon.specs.declared.entry.Range.{Range}
use Rattle.fin_canon.specs.Entries.{Entry, named}
use Rattle.fin_canon.specs.Nothing.{leads_to_nothing}
use Rattle.fin_canon.specs.Ranges.{AllTold, MakesLevel, FitsLevel, value_of}
use Rattle.fin_canon.proofs.Naming.{named_told}
use Rattle.fin_canon.proofs.Nothing.{store_needed}
use Rattle.fin_canon.proofs.Storing.{SoFar, store_none, store_more, store_parts, store_values, told_fits, told_within, nothing_below}
use Rattle.fin_canon.proofs.lists.canonical_lists.Goals as goal

-- what is left of the slices where nothing is stored for them
kept_so_far : (es : List Entry) (fill : ℤ) (ls ls' : List Level) (shape : List ℕ) (f : Slice) (k : ℕ) (parts : List Part) (slices kept : List Range) → ls' ≡ ls → kept ≡ (if leads_to_nothing (drop k ls') (drop k shape) then [] else slices)
    → SoFar es fill ls shape f k parts slices → SoFar es fill ls shape f k parts kept
kept_so_far es fill ls ls' shape f k parts slices kept same e so =
    subst (SoFar es fill ls shape f k parts) (sym (e ∙ ap (λ (l : List Level). if leads_to_nothing (drop k l) (drop k shape) then [] else slices) same)) (store_needed es fill ls shape f k parts slices so)

pub loop-k-init : goal.loop-k-init
loop-k-init c =
    let es = c.args.entries.now in
    let fill = c.args.format.now.fill in
    let ns = c.args.shape.now in
    let f : Slice = value_at (named ns fill es) in
    let r : Range = record { from = 0; to = length es } in
    let p : c.push.new.self ≡ r ∷ [] = c.in_ok-push.ensures.ok ∙ ap (λ (l : List Range). l ++ r ∷ []) c.new-slices.ensures in
    subst (λ (l : List Part). SoFar es fill c.args.format.now.levels ns f 0 l c.push.new.self) (sym c.new-parts.ensures) (store_none es fill c.args.format.now.levels ns f r c.push.new.self p (named_told ns fill es c.requires.entries))

pub make_level-requires : goal.make_level-requires
make_level-requires c = record {
  fits = λ k d lt.
      let es = c.args.entries.now in
      let fill = c.args.format.now.fill in
      let shape = c.args.shape.now in
      let ls = c.args.format.now.levels in
      let i = c.loop-k.k in
      let so = kept_so_far es fill c.args.format.now.levels c.as_slice-levels.result.now shape (value_at (named shape fill es)) i c.loop-k.parts c.loop-k.slices c.needed-kept.result c.as_slice-levels.ensures c.needed-kept.ensures c.loop-k.invariant in
      let here : i < length ls = subst (λ (l : List Level). i < length l) c.as_slice-levels.ensures c.loop-k-test.true in
      let told = subst (λ (l : List ℕ). AllTold es fill l i so.gs c.needed-kept.result) (drop_more shape i 0 (omega (arith, c.requires.shape))) so.told in
      let l = slice_index_or ls i level.Dense in
      let fits = told_fits es fill l (slice_index shape i) (drop (i + 1) shape) i so.gs c.as_slice.result.now (nothing_below ls shape i here c.requires.shape c.requires.placed.runs) (subst (AllTold es fill (slice_index shape i ∷ drop (i + 1) shape) i so.gs) (sym c.as_slice.ensures) told) k d lt in
      subst (λ (x : List Level). FitsLevel (slice_index_or x i level.Dense) es i (slice_index shape i) (slice_index_or c.as_slice.result.now k d)) (sym c.as_slice-levels.ensures) fits;
}

pub loop-k-preserved : goal.loop-k-preserved
loop-k-preserved c =
    let es = c.args.entries.now in
    let fill = c.args.format.now.fill in
    let shape = c.args.shape.now in
    let ls = c.args.format.now.levels in
    let i = c.loop-k.k in
    let f : Slice = value_at (named shape fill es) in
    let here : i < length ls = subst (λ (l : List Level). i < length l) c.as_slice-levels.ensures c.loop-k-test.true in
    let so = kept_so_far es fill ls c.as_slice-levels.result.now shape f i c.loop-k.parts c.loop-k.slices c.needed-kept.result c.as_slice-levels.ensures c.needed-kept.ensures c.loop-k.invariant in
    let makes = subst (λ (x : List Level). MakesLevel (slice_index_or x i level.Dense) es fill i (slice_index shape i) c.needed-kept.result c.in_ok-made.made.part c.in_ok-made.made.next) c.as_slice-levels.ensures
    (subst (λ (l : List Range). MakesLevel (slice_index_or c.as_slice-levels.result.now i level.Dense) es fill i (slice_index shape i) l c.in_ok-made.made.part c.in_ok-made.made.next) c.as_slice.ensures c.in_ok-made.ensures) in
    subst (λ (l : List Part). SoFar es fill ls shape f (i + 1) l c.in_ok-made.made.next) (sym c.in_ok-push-2.ensures.ok)
    (store_more es fill ls shape f i c.loop-k.parts c.needed-kept.result c.in_ok-made.made.next c.in_ok-made.made.part here c.requires.shape c.requires.placed.runs so makes)

pub values-requires : goal.values-requires
values-requires c = record {
  within = λ k d lt. told_within c.args.entries.now c.args.format.now.fill (drop c.loop-k.k c.args.shape.now) c.loop-k.k c.loop-k.invariant.gs c.as_slice-2.result.now
      (subst (AllTold c.args.entries.now c.args.format.now.fill (drop c.loop-k.k c.args.shape.now) c.loop-k.k c.loop-k.invariant.gs) (sym c.as_slice-2.ensures) c.loop-k.invariant.told) k d lt;
}

pub returns-clause-values : goal.returns-clause-values
returns-clause-values c =
    let fill = c.args.format.now.fill in
    let shape = c.args.shape.now in
    let f : Slice = value_at (named shape fill c.args.entries.now) in
    let v = c.in_ok-val.ensures ∙ ap (map (value_of c.args.entries.now fill)) c.as_slice-2.ensures in
    store_values c.args.entries.now fill c.args.format.now.levels shape f c.loop-k.k c.loop-k.parts c.loop-k.slices c.in_ok-val.val (omega (arith, c.loop-k-test.false, ap (λ (l : List Level). length l) c.as_slice-levels.ensures)) c.requires.shape c.loop-k.invariant v

pub returns-clause-parts : goal.returns-clause-parts
returns-clause-parts c =
    let fill = c.args.format.now.fill in
    let shape = c.args.shape.now in
    let f : Slice = value_at (named shape fill c.args.entries.now) in
    store_parts c.args.entries.now fill c.args.format.now.levels shape f c.loop-k.k c.loop-k.parts c.loop-k.slices (omega (arith, c.loop-k-test.false, ap (λ (l : List Level). length l) c.as_slice-levels.ensures)) c.loop-k.invariant
