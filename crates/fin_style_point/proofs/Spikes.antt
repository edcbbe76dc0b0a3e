-- The step of spikes: each is cut at its region's end.
use Rattle.std.proofs.Common.{◌≡◌, ◌<◌, inl, inr, ⊎_elim, List, [], ◌∷◌, true, ℤ, pos, ◌+ℤ◌, ◌≤ℤ◌, ◌<ℤ◌, arith}
use Rattle.std.specs.Prelude.{map}
use Rattle.fin_ir.specs.declared.expression.IExpr.{IExpr}
use Rattle.fin_ir.specs.declared.code.Code.{Code}
use Rattle.fin_ir.specs.declared.layout.Layout.{Layout}
use Rattle.fin_ir.specs.Meaning.{meaning}
use Rattle.fin_looplet.specs.declared.looplet.Looplet.{Looplet}
use Rattle.fin_looplet.specs.declared.looplet.Looplet.TheVariants.{Run, Spike, Lookup, Sequence', Stepper', Jumper', Switch', Shift'}
use Rattle.fin_looplet.specs.View.{value}
use Rattle.fin_looplet.specs.Sound.{Near}
use Rattle.fin_looplet.specs.Cut.{before, cap, cut}
use Rattle.fin_looplet.specs.Like.{AllLike}
use Rattle.fin_looplet.specs.Lists.{views}
use Rattle.fin_looplet.specs.Weight.{weight, weights}
use Rattle.fin_looplet.proofs.Bridges.{weight_phase, weight_no_phase}
use Rattle.fin_looplet.proofs.Weights.{cut_light, cut_all_light}
use Rattle.fin_looplet.proofs.Lists.{cut_views, cut_all_sound, cut_all_free, cut_all_loads, cut_all_owns, cut_all_shift_names, cut_all_separate}
use Rattle.fin_nest.specs.Nests.{Nest, Sense, views_of, Separate, Fits, Means}
use Rattle.fin_nest.proofs.Means.{near_in, reshaped}
use Rattle.fin_nest.proofs.Jumping.{cut_from, mapped_from, jumps_reshaped}
use Rattle.fin_style_point.specs.Steps.{Has, is_spike, spike_nest}
use Rattle.fin_style_point.specs.Laws.{weight_in, SpikeSplits}
use Rattle.fin_style_point.proofs.Within.{Within, separate_within, fits_within}

-- where a code means the nest with its spikes cut, it means the nest
spike_means : {S : Type 0} (layout : Layout) (sense : Sense S) (n : Nest S) (c : Code) → Means layout sense c (spike_nest n) → Means layout sense c n
spike_means layout sense n c mean = record {
  does = λ ts s m fits jumps r.
      let Hi = value ts m.locals n.hi in
      let Lo = value ts m.locals n.lo in
      let near = (λ (z : ℤ) (h : Near z). h) in
      let f : Fits layout ts m (spike_nest n) = fits_within layout ts m n (map (cut n.hi) n.reads) fits
      (λ i low lt. cut_all_sound Near near ts m.locals n.reads n.hi i (λ j. j <ℤ Hi) (near_in Lo Hi i fits.bounds low lt) lt (fits.sound i low lt)) in
      let like : (i : ℤ) → value ts m.locals n.lo ≤ℤ i → i <ℤ value ts m.locals n.hi
      → AllLike ((i +ℤ pos 1) <ℤ value ts m.locals n.hi) (views ts m.locals (map (cut n.hi) n.reads) (value ts m.locals n.hi) i) (views_of ts m.locals n i) =
      (λ i low lt. cut_views Near near ts m.locals n.reads n.hi Hi i (λ j. j <ℤ Hi) ((i +ℤ pos 1) <ℤ Hi) (λ q. q) (near_in Lo Hi i fits.bounds low lt) lt (fits.sound i low lt)) in
      reshaped sense n (map (cut n.hi) n.reads) (λ x o. cut_all_owns x n.reads n.hi o) ts s m (meaning layout c m) like
      (mean.does ts s m f (jumps_reshaped sense ts m.locals n (map (cut n.hi) n.reads) (mapped_from (cut n.hi) (cut_from n.hi) n.reads) like jumps) r);
}

-- ---- weights

one_lighter : (e : IExpr) (l : Looplet) → is_spike l ≡ true → weight (cut e l) < weight l
one_lighter e (Run l) h = absurd (cc)
one_lighter e (Spike b t) h =
    omega (arith, weight_phase (record { stop = before (cap e); child = Run b }) (record { stop = cap e; child = Run t } ∷ []), weight_phase (record { stop = cap e; child = Run t }) [], weight_no_phase)
one_lighter e (Lookup c l) h = absurd (cc)
one_lighter e (Sequence' n ps) h = absurd (cc)
one_lighter e (Stepper' p w) h = absurd (cc)
one_lighter e (Jumper' p w) h = absurd (cc)
one_lighter e (Switch' n cs) h = absurd (cc)
one_lighter e (Shift' by p c) h = absurd (cc)

all_lighter : (e : IExpr) (rs : List Looplet) → Has is_spike rs → weights (map (cut e) rs) < weights rs
all_lighter e [] h = absurd h
all_lighter e (l ∷ rest) (inl h) = omega (arith, one_lighter e l h, cut_all_light e rest)
all_lighter e (l ∷ rest) (inr h) = omega (arith, cut_light e l, all_lighter e rest h)

spike_lighter : {S : Type 0} (n : Nest S) → Has is_spike n.reads → weight_in (spike_nest n) < weight_in n
spike_lighter n h = omega (arith, all_lighter n.hi n.reads h)

-- ---- locals and tensors

spike_within : {S : Type 0} (n : Nest S) → Separate n → Within n (map (cut n.hi) n.reads)
spike_within n s =
    let own = cut_all_separate n.reads n.hi (λ x o h. (s.hi x h).no_own o) s.own in
    record {
      owns = λ x o. cut_all_owns x n.reads n.hi o;
      free = λ x f. ⊎_elim (s.hi x) (s.reads x) (cut_all_free x n.reads n.hi f);
      loads = λ t f. ⊎_elim (s.hi_loads t) (s.loads t) (cut_all_loads t n.reads n.hi f);
      shifts = λ x f. cut_all_shift_names x n.reads n.hi f;
      nested = own.nested;
      apart = own.apart;
    }

pub spike_splits : {S : Type 0} (layout : Layout) (sense : Sense S) (n : Nest S) → SpikeSplits layout sense n
spike_splits layout sense n = record {
  means = spike_means layout sense n;
  lighter = spike_lighter n;
  separate = λ s. separate_within n (map (cut n.hi) n.reads) (spike_within n s) n.next (omega arith) s;
}
