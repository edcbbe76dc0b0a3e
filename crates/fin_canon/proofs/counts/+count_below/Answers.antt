use Rattle.std.proofs.Common.{◌≡◌, ◌∙◌, ◌+◌, ◌-◌, ◌<◌, ◌∷◌, List, ℕ, min, refl, ap, sym, subst, arith, drop, length}
use Rattle.std.specs.Prelude.{slice_index, slice_index_or}
use Rattle.fin_tensor.specs.declared.format.Level.{Level}
use Rattle.fin_tensor.specs.declared.format.Level.TheVariants as level
use Rattle.fin_tensor.specs.Canon.{slice_at}
use Rattle.fin_canon.specs.Ranges.{head_of, Tells}
use Rattle.fin_canon.specs.Counts.{total, count}
use Rattle.fin_canon.proofs.Storing.{nothing_below}
use Rattle.fin_canon.proofs.Below.{kept_list, fits_here, told_here, count_here, runs_here}
use Rattle.fin_canon.proofs.Counting.{Limit}
use Rattle.fin_canon.proofs.Tallying.{counted_none, counted_more, cut_told, counted_list, counted_dense, counted_band}
use Rattle.fin_canon.proofs.counts.+count_below.Goals as goal

pub count_runs-requires-clause-fits : goal.count_runs-requires-clause-fits
count_runs-requires-clause-fits t c =
    let es = c.args.entries.now in
    let fill = c.args.format.now.fill in
    let ls = c.args.format.now.levels in
    let shape = c.args.shape.now in
    let d = c.args.depth in
    let here : d < length ls = omega (arith, c.requires.deep, c.if-k-eq0.false) in
    let is : slice_index_or ls d level.Dense ≡ level.Runs = subst (λ (l : List Level). slice_index_or l d level.Dense ≡ level.Runs) c.as_slice.ensures c.in-Runs.is in
    (fits_here ls shape d here c.requires.shape es fill c.requires.told.0 c.args.slice level.Runs c.requires.placed.runs is c.requires.told.1).fits

pub count_runs-requires-clause-strict : goal.count_runs-requires-clause-strict
count_runs-requires-clause-strict t c =
    let es = c.args.entries.now in
    let fill = c.args.format.now.fill in
    let ls = c.args.format.now.levels in
    let shape = c.args.shape.now in
    let d = c.args.depth in
    let here : d < length ls = omega (arith, c.requires.deep, c.if-k-eq0.false) in
    let is : slice_index_or ls d level.Dense ≡ level.Runs = subst (λ (l : List Level). slice_index_or l d level.Dense ≡ level.Runs) c.as_slice.ensures c.in-Runs.is in
    (fits_here ls shape d here c.requires.shape es fill c.requires.told.0 c.args.slice level.Runs c.requires.placed.runs is c.requires.told.1).strict refl

pub returns-in-Runs : goal.returns-in-Runs
returns-in-Runs t c f told =
    let es = c.args.entries.now in
    let fill = c.args.format.now.fill in
    let ls = c.args.format.now.levels in
    let shape = c.args.shape.now in
    let d = c.args.depth in
    let here : d < length ls = omega (arith, c.requires.deep, c.if-k-eq0.false) in
    let is : slice_index_or ls d level.Dense ≡ level.Runs = subst (λ (l : List Level). slice_index_or l d level.Dense ≡ level.Runs) c.as_slice.ensures c.in-Runs.is in
    let last = nothing_below ls shape d here c.requires.shape c.requires.placed.runs is in
    let tells = (told_here ls shape d here c.requires.shape es fill f c.args.slice told).tells in
    let alone = subst (λ (ns : List ℕ). Tells es fill (slice_index shape d ∷ ns) d c.args.slice.from c.args.slice.to f) last tells in
    runs_here ls shape d here c.requires.shape fill f c.args.k c.count_runs.result c.if-k-eq0.false c.requires.deep c.requires.placed.runs is (c.count_runs.ensures f alone)

pub loop-at-init : goal.loop-at-init
loop-at-init t c =
    let es = c.args.entries.now in
    let fill = c.args.format.now.fill in
    let ls = c.args.format.now.levels in
    let shape = c.args.shape.now in
    let d = c.args.depth in
    let here : d < length ls = omega (arith, c.requires.deep, c.if-k-eq0.false) in
    let ns = drop (d + 1) shape in
    let n = slice_index shape d in
    let g = c.first_kept-first.ensures in
    counted_none es (drop (d + 1) ls) fill n ns d c.args.slice c.first_kept-first.result (c.args.k - 1) g.low g.high g.skipped g.other

pub count_below-below-requires : goal.count_below-below-requires
count_below-below-requires t c =
    let es = c.args.entries.now in
    let fill = c.args.format.now.fill in
    let ls = c.args.format.now.levels in
    let shape = c.args.shape.now in
    let d = c.args.depth in
    let here : d < length ls = omega (arith, c.requires.deep, c.if-k-eq0.false) in
    let ns = drop (d + 1) shape in
    let n = slice_index shape d in
    let fits = (fits_here ls shape d here c.requires.shape es fill c.requires.told.0 c.args.slice (slice_index_or ls d level.Dense) c.requires.placed.runs refl c.requires.told.1).fits in
    let g = c.group_end-end.ensures in (
      omega (arith, c.decreases, c.if-k-eq0.false),
      (
        c.requires.placed,
        (
          c.requires.shape,
          (
            omega (arith, c.requires.deep, c.if-k-eq0.false),
            (slice_at c.requires.told.0 (head_of es d c.loop-at.at), cut_told es (drop (d + 1) ls) fill n ns d c.args.slice c.first_kept-first.result c.loop-at.last c.loop-at.at c.group_end-end.result (c.args.k - 1) c.loop-at.groups c.loop-at.total c.loop-at.invariant g.low g.high g.same g.next fits.rise c.requires.told.0 (told_here ls shape d here c.requires.shape es fill c.requires.told.0 c.args.slice c.requires.told.1)),
          ),
        ),
      ),
    )

pub capped_sum-total-requires-clause-b : goal.capped_sum-total-requires-clause-b
capped_sum-total-requires-clause-b t c =
    let es = c.args.entries.now in
    let fill = c.args.format.now.fill in
    let ls = c.args.format.now.levels in
    let shape = c.args.shape.now in
    let d = c.args.depth in
    let here : d < length ls = omega (arith, c.requires.deep, c.if-k-eq0.false) in
    let ns = drop (d + 1) shape in
    let n = slice_index shape d in
    let fits = (fits_here ls shape d here c.requires.shape es fill c.requires.told.0 c.args.slice (slice_index_or ls d level.Dense) c.requires.placed.runs refl c.requires.told.1).fits in
    let g = c.group_end-end.ensures in
    let q = cut_told es (drop (d + 1) ls) fill n ns d c.args.slice c.first_kept-first.result c.loop-at.last c.loop-at.at c.group_end-end.result (c.args.k - 1) c.loop-at.groups c.loop-at.total c.loop-at.invariant g.low g.high g.same g.next fits.rise c.requires.told.0 (told_here ls shape d here c.requires.shape es fill c.requires.told.0 c.args.slice c.requires.told.1) in
    omega (arith, c.count_below-below.ensures (slice_at c.requires.told.0 (head_of es d c.loop-at.at)) q)

pub loop-at-preserved : goal.loop-at-preserved
loop-at-preserved t c =
    let es = c.args.entries.now in
    let fill = c.args.format.now.fill in
    let ls = c.args.format.now.levels in
    let shape = c.args.shape.now in
    let d = c.args.depth in
    let here : d < length ls = omega (arith, c.requires.deep, c.if-k-eq0.false) in
    let ns = drop (d + 1) shape in
    let n = slice_index shape d in
    let fits = (fits_here ls shape d here c.requires.shape es fill c.requires.told.0 c.args.slice (slice_index_or ls d level.Dense) c.requires.placed.runs refl c.requires.told.1).fits in
    let g = c.group_end-end.ensures in
    let s = c.first_kept-at.ensures in
    counted_more es (drop (d + 1) ls) fill n ns d c.args.slice c.first_kept-first.result c.loop-at.last c.loop-at.at c.group_end-end.result (c.args.k - 1) c.loop-at.groups c.loop-at.total c.loop-at.invariant g.low g.high g.same g.next fits.rise c.first_kept-at.result c.count_below-below.result c.capped_sum-total.result s.low s.high s.skipped s.other c.count_below-below.ensures c.capped_sum-total.ensures

pub width-width-requires-clause-order : goal.width-width-requires-clause-order
width-width-requires-clause-order t c nz =
    let es = c.args.entries.now in
    let fill = c.args.format.now.fill in
    let ls = c.args.format.now.levels in
    let shape = c.args.shape.now in
    let d = c.args.depth in
    let here : d < length ls = omega (arith, c.requires.deep, c.if-k-eq0.false) in
    let fits = (fits_here ls shape d here c.requires.shape es fill c.requires.told.0 c.args.slice (slice_index_or ls d level.Dense) c.requires.placed.runs refl c.requires.told.1).fits in
    let x = c.loop-at.invariant.ends nz in
    fits.rise c.first_kept-first.result c.loop-at.last x.2 x.3 (omega (arith, x.4, c.loop-at.invariant.high))

pub width-width-requires-clause-small : goal.width-width-requires-clause-small
width-width-requires-clause-small t c nz =
    let es = c.args.entries.now in
    let fill = c.args.format.now.fill in
    let ls = c.args.format.now.levels in
    let shape = c.args.shape.now in
    let d = c.args.depth in
    let here : d < length ls = omega (arith, c.requires.deep, c.if-k-eq0.false) in
    let fits = (fits_here ls shape d here c.requires.shape es fill c.requires.told.0 c.args.slice (slice_index_or ls d level.Dense) c.requires.placed.runs refl c.requires.told.1).fits in
    let x = c.loop-at.invariant.ends nz in
    let small = c.type_inv.shape d in
    (slice_index shape d, omega (arith, small.fits), fits.below c.loop-at.last (omega (arith, x.2, x.3)) (omega (arith, x.4, c.loop-at.invariant.high)))

pub returns-in-Dense : goal.returns-in-Dense
returns-in-Dense t c f told =
    let es = c.args.entries.now in
    let fill = c.args.format.now.fill in
    let ls = c.args.format.now.levels in
    let shape = c.args.shape.now in
    let d = c.args.depth in
    let here : d < length ls = omega (arith, c.requires.deep, c.if-k-eq0.false) in
    let ns = drop (d + 1) shape in
    let n = slice_index shape d in
    let is : slice_index_or ls d level.Dense ≡ level.Dense = subst (λ (l : List Level). slice_index_or l d level.Dense ≡ level.Dense) c.as_slice.ensures c.in-Dense.is in
    counted_dense es (drop (d + 1) ls) fill n ns d c.args.slice c.first_kept-first.result c.loop-at.last c.loop-at.at (c.args.k - 1) c.loop-at.groups c.loop-at.total c.loop-at.invariant c.loop-at-test.false f (told_here ls shape d here c.requires.shape es fill f c.args.slice told) c.count_empty-empty.result c.capped_rest.result c.count_empty-empty.ensures c.capped_rest.ensures
    ∙ ap (min Limit) (sym (count_here ls shape d here c.requires.shape level.Dense fill f c.args.k c.if-k-eq0.false is))

pub returns-in-Band : goal.returns-in-Band
returns-in-Band t c f told =
    let es = c.args.entries.now in
    let fill = c.args.format.now.fill in
    let ls = c.args.format.now.levels in
    let shape = c.args.shape.now in
    let d = c.args.depth in
    let here : d < length ls = omega (arith, c.requires.deep, c.if-k-eq0.false) in
    let ns = drop (d + 1) shape in
    let n = slice_index shape d in
    let is : slice_index_or ls d level.Dense ≡ level.Band = subst (λ (l : List Level). slice_index_or l d level.Dense ≡ level.Band) c.as_slice.ensures c.in-Band.is in
    counted_band es (drop (d + 1) ls) fill n ns d c.args.slice c.first_kept-first.result c.loop-at.last c.loop-at.at (c.args.k - 1) c.loop-at.groups c.loop-at.total c.loop-at.invariant c.loop-at-test.false f (told_here ls shape d here c.requires.shape es fill f c.args.slice told) c.width-width.result c.count_empty-empty.result c.capped_rest-in-Band.result c.width-width.ensures.none c.width-width.ensures.some c.count_empty-empty.ensures c.capped_rest-in-Band.ensures
    ∙ ap (min Limit) (sym (count_here ls shape d here c.requires.shape level.Band fill f c.args.k c.if-k-eq0.false is))

pub returns-in_default-level : goal.returns-in_default-level
returns-in_default-level t c f told =
    let es = c.args.entries.now in
    let fill = c.args.format.now.fill in
    let ls = c.args.format.now.levels in
    let shape = c.args.shape.now in
    let d = c.args.depth in
    let here : d < length ls = omega (arith, c.requires.deep, c.if-k-eq0.false) in
    let ns = drop (d + 1) shape in
    let n = slice_index shape d in
    let l = slice_index_or ls d level.Dense in
    let e : slice_index_or c.as_slice.result.now d level.Dense ≡ l = ap (λ (x : List Level). slice_index_or x d level.Dense) c.as_slice.ensures in
    let same = kept_list l fill n ns f (λ x. c.in_default-level.not-Dense (e ∙ x)) (λ x. c.in_default-level.not-Band (e ∙ x)) (λ x. c.in_default.not-Runs (e ∙ x)) in
    counted_list es (drop (d + 1) ls) fill n ns d c.args.slice c.first_kept-first.result c.loop-at.last c.loop-at.at (c.args.k - 1) c.loop-at.groups c.loop-at.total c.loop-at.invariant c.loop-at-test.false f (told_here ls shape d here c.requires.shape es fill f c.args.slice told)
    ∙ ap (λ (x : List ℕ). min Limit (total (λ i. count (drop (d + 1) ls) fill ns (c.args.k - 1) (slice_at f i)) x)) (sym same)
    ∙ ap (min Limit) (sym (count_here ls shape d here c.requires.shape l fill f c.args.k c.if-k-eq0.false refl))
