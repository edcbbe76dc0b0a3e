-- The groups, and the runs, counted so far.
use Rattle.std.proofs.Common.{◌≡◌, ◌≢◌, ℕ, ◌+◌, ◌-◌, ◌*◌, ◌<◌, ◌≤◌, min, List, [], ◌∷◌, ◌++◌, length, refl, sym, ap, ◌∙◌, subst, ◌⊎◌, ⊎_elim, arith, ℤ}
use Rattle.std.specs.Prelude.{slice_index, filter}
use Rattle.std.specs.List.{range_with_len}
use Rattle.std.proofs.lemmas.Bool.{cases_lt, cases_eq}
use Rattle.std.proofs.lemmas.List.{length_push, length-map, get_or_append_left, get_or_at}
use Rattle.fin_tensor.specs.declared.format.Level.{Level}
use Rattle.fin_tensor.specs.declared.format.Level.TheVariants as level
use Rattle.fin_tensor.specs.Canon.{Slice, slice_at, ends_run, span_of, kept}
use Rattle.fin_canon.specs.declared.entry.Range.{Range}
use Rattle.fin_canon.specs.declared.runs.Spot.{Spot}
use Rattle.fin_canon.specs.declared.runs.Run.{Run}
use Rattle.fin_canon.specs.Entries.{Entry, word_of}
use Rattle.fin_canon.specs.Ranges.{head_of, IsCut, Tells, Told}
use Rattle.fin_canon.specs.Runs.{IsRun}
use Rattle.fin_canon.specs.Counts.{total, count, empty_count, Counts}
use Rattle.fin_canon.proofs.Kept.{IsRising, Place}
use Rattle.fin_canon.proofs.Standing.{rising_lt}
use Rattle.fin_canon.proofs.Spanning.{spans}
use Rattle.fin_canon.proofs.Running.{RunsSoFar, runs_none, runs_more, runs_are_kept}
use Rattle.fin_canon.proofs.Grouping.{AreGroups, groups_none, groups_more, groups_are_kept, gap_more, keys_rise, gone, cut_tells}
use Rattle.fin_canon.proofs.Counting.{Limit, total_push, total_split, capped, count_blank}

nothing_in : (ks : List ℕ) → length ks ≡ 0 → ks ≡ []
nothing_in [] e = refl
nothing_in (k ∷ ks) e = absurd (omega arith)

-- ---- the groups
pub record CountedSoFar (es : List Entry) (ls : List Level) (fill : ℤ) (n : ℕ) (ns : List ℕ) (d : ℕ) (slice : Range) (first last at k groups c : ℕ) : Type 0 where
  pub ks : List ℕ
  pub rs : List Range
  pub low : slice.from ≤ at
  pub high : at ≤ slice.to
  pub other : at < slice.to → word_of es at ≢ fill
  pub small : c ≤ Limit
  pub many : length ks ≡ groups
  pub few : groups + slice.from ≤ at
  pub are : AreGroups es fill d slice.from at ks rs
  pub gap : (i j : ℕ) → slice.from ≤ i → i < at → word_of es i ≢ fill → at ≤ j → j < slice.to → head_of es d i < head_of es d j
  pub sum_is : (f : Slice) → Told es fill (n ∷ ns) d f slice → c ≡ min Limit (total (λ i. count ls fill ns k (slice_at f i)) ks)
  pub begins : groups ≡ 0 → at ≡ first
  pub ends : groups ≢ 0 → (slice_index ks 0 ≡ head_of es d first) × (slice_index ks (groups - 1) ≡ head_of es d last) × (slice.from ≤ first) × (first ≤ last) × (last < at)

pub counted_none : (es : List Entry) (ls : List Level) (fill : ℤ) (n : ℕ) (ns : List ℕ) (d : ℕ) (slice : Range) (first k : ℕ) → slice.from ≤ first → first ≤ slice.to → ((i : ℕ) → slice.from ≤ i → i < first → word_of es i ≡ fill) → (first < slice.to → word_of es first ≢ fill) →
    CountedSoFar es ls fill n ns d slice first first first k 0 0
counted_none es ls fill n ns d slice first k low high all other = record {
  ks = [];
  rs = [];
  low = low;
  high = high;
  other = other;
  small = omega arith;
  many = refl;
  few = omega arith;
  are = groups_none es fill d slice.from first all;
  gap = λ i j x y ne z w. absurd (ne (all i x y));
  sum_is = λ f t. omega arith;
  begins = λ _. refl;
  ends = λ ne. absurd (ne refl);
}

module _ (es : List Entry) (ls : List Level) (fill : ℤ) (n : ℕ) (ns : List ℕ) (d : ℕ) (slice : Range) (first last at e k groups c : ℕ) (so : CountedSoFar es ls fill n ns d slice first last at k groups c) (lt : at < e) (hi : e ≤ slice.to)
    (same : (i : ℕ) → at ≤ i → i < e → head_of es d i ≡ head_of es d at) (stops : e < slice.to → head_of es d e ≢ head_of es d at) (rise : (i j : ℕ) → slice.from ≤ i → i ≤ j → j < slice.to → head_of es d i ≤ head_of es d j) where
  after : (j : ℕ) → e ≤ j → j < slice.to → head_of es d at < head_of es d j
  after j x y = omega (arith, rise at e so.low (omega arith) (omega arith), rise e j (omega (arith, so.low)) x y, stops (omega arith))

  cut : IsCut es fill d slice.from slice.to (head_of es d at) (record { from = at; to = e })
  cut = record {
    low = so.low;
    order = omega arith;
    high = hi;
    has = λ j x y ne h. (⊎_elim (λ (l : j < at). absurd (omega (arith, so.gap j at x l ne (omega arith) (omega arith)))) (λ (l : at ≤ j). l) (cases_lt j at), ⊎_elim (λ (l : j < e). l) (λ (l : e ≤ j). absurd (omega (arith, after j l y))) (cases_lt j e));
    all = same;
  }

  pub cut_told : (f : Slice) → Told es fill (n ∷ ns) d f slice → Told es fill ns (d + 1) (slice_at f (head_of es d at)) (record { from = at; to = e })
  cut_told f t = record { order = omega arith; within = omega (arith, t.within); tells = cut_tells es fill n ns d slice.from slice.to f t.tells (head_of es d at) (record { from = at; to = e }) cut }

  pub counted_more : (e' below c' : ℕ) → e ≤ e' → e' ≤ slice.to → ((i : ℕ) → e ≤ i → i < e' → word_of es i ≡ fill) → (e' < slice.to → word_of es e' ≢ fill) → Counts es ls fill ns (d + 1) (record { from = at; to = e }) k below → c' ≡ min Limit (c + below) →
      CountedSoFar es ls fill n ns d slice first at e' k (groups + 1) c'
  counted_more e' below c' le hi' skipped next_other counts sum =
      let key = head_of es d at in
      let zero_or : (groups ≡ 0) ⊎ (groups ≢ 0) = cases_eq groups 0 in
      record {
        ks = so.ks ++ key ∷ [];
        rs = so.rs ++ record { from = at; to = e } ∷ [];
        low = omega (arith, so.low);
        high = hi';
        other = next_other;
        small = omega (arith, sum);
        many = omega (arith, length_push so.ks key, so.many);
        few = omega (arith, so.few);
        are = groups_more es fill d slice.from at e e' so.low lt le same (so.other (omega arith)) skipped (λ j x y ne. so.gap j at x y ne (omega arith) (omega arith)) so.ks so.rs so.are;
        gap = gap_more es fill d slice.from slice.to at e e' lt le hi' same stops skipped next_other rise so.low so.gap;
        sum_is = λ f t.
            let T : ℕ → ℕ = λ i. count ls fill ns k (slice_at f i) in
            omega (arith, sum, so.sum_is f t, counts (slice_at f key) (cut_told f t), total_push T so.ks key);
        begins = λ z. absurd (omega (arith, z));
        ends = λ _. ⊎_elim
            (λ (z : groups ≡ 0).
            let f0 : at ≡ first = so.begins z in
            let l0 : length so.ks ≡ 0 = omega (arith, so.many, z) in
            let g0 : groups + 1 - 1 ≡ 0 = omega (arith, z) in
            let v : slice_index (so.ks ++ key ∷ []) 0 ≡ key = get_or_at so.ks key [] 0 0 l0 in
            (v ∙ ap (head_of es d) f0, ap (slice_index (so.ks ++ key ∷ [])) g0 ∙ v, omega (arith, so.low, f0), omega (arith, f0), omega arith))
            (λ (nz : groups ≢ 0).
            let x = so.ends nz in
            let g0 : groups + 1 - 1 ≡ groups = omega arith in
            (get_or_append_left so.ks (key ∷ []) 0 0 (omega (arith, so.many, nz)) ∙ x.0, ap (slice_index (so.ks ++ key ∷ [])) g0 ∙ get_or_at so.ks key [] 0 groups so.many, x.2, omega (arith, x.3, x.4), omega arith))
            zero_or;
      }

module _ (es : List Entry) (ls : List Level) (fill : ℤ) (n : ℕ) (ns : List ℕ) (d : ℕ) (slice : Range) (first last at k groups c : ℕ) (so : CountedSoFar es ls fill n ns d slice first last at k groups c) (done : slice.to ≤ at) (f : Slice) (t : Told es fill (n ∷ ns) d f slice) where
  groups_all : AreGroups es fill d slice.from slice.to so.ks so.rs
  groups_all = let e : at ≡ slice.to = omega (arith, so.high) in subst (λ (x : ℕ). AreGroups es fill d slice.from x so.ks so.rs) e so.are

  T : ℕ → ℕ
  T i = count ls fill ns k (slice_at f i)

  keys : so.ks ≡ kept level.List fill n ns f
  keys = groups_are_kept es fill n ns d slice.from slice.to f t.tells so.ks so.rs groups_all

  rising : IsRising 0 n so.ks
  rising = keys_rise es fill n ns d slice.from slice.to f t.tells so.ks so.rs groups_all

  pub counted_list : c ≡ min Limit (total (λ i. count ls fill ns k (slice_at f i)) (kept level.List fill n ns f))
  counted_list = so.sum_is f t ∙ ap (λ (x : List ℕ). min Limit (total (λ i. count ls fill ns k (slice_at f i)) x)) keys

  others : (i : ℕ) → (Place so.ks i → ⊥) → count ls fill ns k (slice_at f i) ≡ empty_count ls ns k
  others i out = count_blank k ls fill ns (slice_at f i) (gone es fill n ns d slice.from slice.to f t.tells i (λ j x y ne e. let w = groups_all.place j x y ne in out (record { j = w.0; within = w.1; is = w.2 ∙ e })))

  counted_range : (lo m empty r : ℕ) → IsRising lo (lo + m) so.ks → empty ≡ min Limit (empty_count ls ns k) → r ≡ min Limit (c + min Limit ((m - groups) * empty)) → r ≡ min Limit (total (λ i. count ls fill ns k (slice_at f i)) (range_with_len lo m))
  counted_range lo m empty r rise e p =
      let E = empty_count ls ns k in
      let split = total_split (λ i. count ls fill ns k (slice_at f i)) E lo m so.ks rise (λ i x y out. others i out) in
      let z : (m - groups) * empty ≡ (m - length so.ks) * min Limit E = ap (λ (x : ℕ). (m - x) * empty) (sym so.many) ∙ ap (λ (x : ℕ). (m - length so.ks) * x) e in
      omega (arith, p, so.sum_is f t, split.1, ap (min Limit) z, capped (m - length so.ks) E)

  pub counted_dense : (empty r : ℕ) → empty ≡ min Limit (empty_count ls ns k) → r ≡ min Limit (c + min Limit ((n - groups) * empty)) → r ≡ min Limit (total (λ i. count ls fill ns k (slice_at f i)) (kept level.Dense fill n ns f))
  counted_dense empty r e p = counted_range 0 n empty r (let z : n ≡ 0 + n = omega arith in subst (λ (x : ℕ). IsRising 0 x so.ks) z rising) e p

  at_least : (j : ℕ) → j < length so.ks → slice_index so.ks 0 ≤ slice_index so.ks j
  at_least j h = ⊎_elim (λ (z : j ≡ 0). omega (arith, ap (slice_index so.ks) z)) (λ nz. omega (arith, rising_lt 0 n so.ks rising 0 j (omega (arith, nz)) h)) (cases_eq j 0)

  at_most : (j : ℕ) → j < length so.ks → slice_index so.ks j ≤ slice_index so.ks (groups - 1)
  at_most j h = ⊎_elim (λ (z : j < groups - 1). omega (arith, rising_lt 0 n so.ks rising j (groups - 1) z (omega (arith, so.many, h)))) (λ (z : groups - 1 ≤ j). let e : j ≡ groups - 1 = omega (arith, so.many, h) in omega (arith, ap (slice_index so.ks) e)) (cases_lt j (groups - 1))

  band_some : (width empty r : ℕ) → groups ≢ 0 → width ≡ head_of es d last + 1 - head_of es d first → empty ≡ min Limit (empty_count ls ns k) → r ≡ min Limit (c + min Limit ((width - groups) * empty)) → r ≡ min Limit (total (λ i. count ls fill ns k (slice_at f i)) (span_of so.ks))
  band_some width empty r nz w e p =
      let x = so.ends nz in
      let lo = slice_index so.ks 0 in
      let hi = slice_index so.ks (groups - 1) in
      let some : 0 < length so.ks = omega (arith, so.many, nz) in
      let up : lo ≤ hi = at_most 0 some in
      let w' : width ≡ hi + 1 - lo = omega (arith, w, x.0, x.1) in
      let rise : IsRising lo (lo + width) so.ks = record { low = at_least; high = λ j h. omega (arith, at_most j h, w', up); rises = rising.rises } in
      let span : span_of so.ks ≡ range_with_len lo (hi + 1 - lo) = spans n lo hi so.ks rising (record { j = 0; within = some; is = refl }) (record { j = groups - 1; within = omega (arith, so.many, nz); is = refl })
      (λ i q. (omega (arith, at_least q.j q.within, q.is), omega (arith, at_most q.j q.within, q.is))) in
      counted_range lo width empty r rise e p ∙ ap (λ (m : ℕ). min Limit (total (λ i. count ls fill ns k (slice_at f i)) (range_with_len lo m))) w' ∙ ap (λ (z : List ℕ). min Limit (total (λ i. count ls fill ns k (slice_at f i)) z)) (sym span)

  band_nothing : (width empty r : ℕ) → groups ≡ 0 → width ≡ 0 → r ≡ min Limit (c + min Limit ((width - groups) * empty)) → r ≡ min Limit (total (λ i. count ls fill ns k (slice_at f i)) (span_of so.ks))
  band_nothing width empty r z w p =
      let nil : so.ks ≡ [] = nothing_in so.ks (so.many ∙ z) in
      let m : (width - groups) * empty ≡ 0 * empty = ap (λ (x : ℕ). x * empty) (let y : width - groups ≡ 0 = omega (arith, w, z) in y) in
      let m0 : 0 * empty ≡ 0 = omega arith in
      let s : c ≡ min Limit (total (λ i. count ls fill ns k (slice_at f i)) []) = so.sum_is f t ∙ ap (λ (x : List ℕ). min Limit (total (λ i. count ls fill ns k (slice_at f i)) x)) nil in
      omega (arith, p, m, m0, s) ∙ ap (λ (x : List ℕ). min Limit (total (λ i. count ls fill ns k (slice_at f i)) (span_of x))) (sym nil)

  pub counted_band : (width empty r : ℕ) → (groups ≡ 0 → width ≡ 0) → (groups ≢ 0 → width ≡ head_of es d last + 1 - head_of es d first) → empty ≡ min Limit (empty_count ls ns k) → r ≡ min Limit (c + min Limit ((width - groups) * empty)) → r ≡ min Limit (total (λ i. count ls fill ns k (slice_at f i)) (kept level.Band fill n ns f))
  counted_band width empty r none some e p =
      ⊎_elim (λ (z : groups ≡ 0). band_nothing width empty r z (none z) p) (λ (nz : groups ≢ 0). band_some width empty r nz (some nz) e p) (cases_eq groups 0)
      ∙ ap (λ (x : List ℕ). min Limit (total (λ i. count ls fill ns k (slice_at f i)) (span_of x))) keys

-- ---- the runs
pub record RunsCounted (es : List Entry) (fill : ℤ) (d n a b : ℕ) (s : Spot) (c : ℕ) : Type 0 where
  pub stop : List ℕ
  pub next : List Range
  pub so : RunsSoFar es fill d n a b s [] stop [] next
  pub many : c ≡ min Limit (length stop)

pub runs_counted_none : (es : List Entry) (fill : ℤ) (d n a b : ℕ) (s : Spot) → s.entry ≡ a → s.at ≡ 0 → a ≤ b → RunsCounted es fill d n a b s 0
runs_counted_none es fill d n a b s e z le = record { stop = []; next = []; so = runs_none es fill d n a b s [] [] e z le; many = omega arith }

pub runs_counted_more : (es : List Entry) (fill : ℤ) (d n a b : ℕ) (s : Spot) (run : Run) (c c' : ℕ) → RunsCounted es fill d n a b s c → IsRun es fill d n a b s run → c' ≡ min Limit (c + 1) → RunsCounted es fill d n a b run.end c'
runs_counted_more es fill d n a b s run c c' x r e = record {
  stop = x.stop ++ run.end.at ∷ [];
  next = x.next ++ record { from = run.last; to = run.end.entry } ∷ [];
  so = runs_more es fill d n a b s run [] x.stop (x.stop ++ run.end.at ∷ []) [] x.next (x.next ++ record { from = run.last; to = run.end.entry } ∷ []) x.so r refl refl;
  many = omega (arith, e, x.many, length_push x.stop run.end.at);
}

pub runs_counted : (es : List Entry) (fill : ℤ) (d n a b : ℕ) (s : Spot) (c : ℕ) → RunsCounted es fill d n a b s c → n ≤ s.at → (f : Slice) → Tells es fill (n ∷ []) d a b f → c ≡ min Limit (length (filter (ends_run n f) (range_with_len 0 n)))
runs_counted es fill d n a b s c x le f t = x.many ∙ ap (λ (z : List ℕ). min Limit (length z)) x.so.stop_is ∙ ap (min Limit) (length-map x.so.ks (λ i. i + 1)) ∙ ap (λ (z : List ℕ). min Limit (length z)) (runs_are_kept es fill d n a b s [] x.stop [] x.next x.so le f t)

total_one : (ks : List ℕ) → total (λ _. 1) ks ≡ length ks
total_one [] = refl
total_one (k ∷ ks) = omega (arith, total_one ks)

-- below runs there is no coordinate
pub runs_total : (ls : List Level) (fill : ℤ) (n : ℕ) (ns : List ℕ) (k : ℕ) (f : Slice) (c : ℕ) → k ≡ 0 → c ≡ min Limit (length (filter (ends_run n f) (range_with_len 0 n))) → c ≡ min Limit (total (λ i. count ls fill ns k (slice_at f i)) (kept level.Runs fill n ns f))
runs_total ls fill n ns k f c z e =
    let K = filter (ends_run n f) (range_with_len 0 n) in
    e ∙ ap (min Limit) (sym (total_one K)) ∙ ap (λ (x : ℕ). min Limit (total (λ i. count ls fill ns x (slice_at f i)) K)) (sym z)
