-- Groups of entries are the kept coordinates of a list level.
use Rattle.std.proofs.Common.{◌≡◌, ◌≢◌, ℕ, ◌+◌, ◌<◌, ◌≤◌, List, [], ◌∷◌, ◌++◌, length, drop, refl, sym, ap, ◌∙◌, subst, inl, inr, ◌⊎◌, ⊎_elim, arith, ℤ, IsTrue, true, false}
use Rattle.std.specs.Prelude.{slice_index, filter, not}
use Rattle.std.specs.List.{range_with_len}
use Rattle.std.specs.Ordering.{int_eq}
use Rattle.std.proofs.lemmas.Bool.{cases_lt}
use Rattle.std.proofs.lemmas.Int.{ints}
use Rattle.std.proofs.lemmas.List.{append-nil, get_or_append_left, get_or_at, length_push}
use Rattle.std.proofs.Common.{append_assoc}
use Rattle.fin_tensor.specs.TensorFunction.{is_in_box, box}
use Rattle.fin_tensor.specs.declared.format.Level.TheVariants as level
use Rattle.fin_tensor.specs.Canon.{Slice, slice_at, is_fill_at, has_value, kept}
use Rattle.fin_canon.specs.declared.entry.Range.{Range}
use Rattle.fin_canon.specs.Entries.{Entry, coords, word_of}
use Rattle.fin_canon.specs.Ranges.{head_of, range_at, IsCut, IsGroup, IsBefore, Tells, Added}
use Rattle.fin_canon.proofs.Kept.{IsRising, Place, filter_rising, filter_has, blank}
use Rattle.fin_canon.proofs.Rising.{same_rising, filter_sound, all_fill, all_box, split_entry, place_or_not}

-- ---- integers are equal or not
same_or_not : (v w : ℤ) → (v ≡ w) ⊎ (v ≢ w)
same_or_not v w = elim (int_eq v w) as (λ t. int_eq v w ≡ t → (v ≡ w) ⊎ (v ≢ w)) [
  | true ↦ λ e. inl (grind (arith, ints))
  | false ↦ λ e. inr (λ s. grind (arith, ints))
] refl

-- ---- the groups of the entries a..b
pub record AreGroups (es : List Entry) (fill : ℤ) (d a b : ℕ) (ks : List ℕ) (rs : List Range) : Type 0 where
  pub long : length rs ≡ length ks
  pub group : (j : ℕ) → j < length ks → IsGroup es fill d a b (slice_index ks j) (range_at rs j)
  pub rises : (j : ℕ) → j + 1 < length ks → slice_index ks j < slice_index ks (j + 1)
  pub place : (k : ℕ) → a ≤ k → k < b → word_of es k ≢ fill → (j : ℕ) × (j < length ks) × (slice_index ks j ≡ head_of es d k)

pub groups_none : (es : List Entry) (fill : ℤ) (d a at : ℕ) → ((k : ℕ) → a ≤ k → k < at → word_of es k ≡ fill) → AreGroups es fill d a at [] []
groups_none es fill d a at all = record { long = refl; group = λ j h. absurd (omega arith); rises = λ j h. absurd (omega arith); place = λ k x y ne. absurd (ne (all k x y)) }

-- one group more, and entries with the fill behind it
module _ (es : List Entry) (fill : ℤ) (d a at e e' : ℕ) (low : a ≤ at) (lt : at < e) (le : e ≤ e') (same : (k : ℕ) → at ≤ k → k < e → head_of es d k ≡ head_of es d at) (other : word_of es at ≢ fill)
    (skipped : (k : ℕ) → e ≤ k → k < e' → word_of es k ≡ fill) (gap : (j : ℕ) → a ≤ j → j < at → word_of es j ≢ fill → head_of es d j < head_of es d at) where
  old_below : (key : ℕ) (r : Range) → IsGroup es fill d a at key r → key < head_of es d at
  old_below key r g = omega (arith, gap r.from g.cut.low (omega (arith, g.some, g.cut.high)) g.other, g.cut.all r.from (omega arith) g.some)

  old_group : (key : ℕ) (r : Range) → IsGroup es fill d a at key r → IsGroup es fill d a e' key r
  old_group key r g = record {
    cut = record {
      low = g.cut.low;
      order = g.cut.order;
      high = omega (arith, g.cut.high);
      has = λ k x y ne h. ⊎_elim (λ (l : k < at). g.cut.has k x l ne h)
          (λ (l : at ≤ k). ⊎_elim (λ (m : k < e). absurd (omega (arith, same k l m, old_below key r g))) (λ (m : e ≤ k). absurd (ne (skipped k m y))) (cases_lt k e))
          (cases_lt k at);
      all = g.cut.all;
    };
    some = g.some;
    other = g.other;
  }

  pub new_cut : IsCut es fill d a e' (head_of es d at) (record { from = at; to = e })
  new_cut = record {
    low = low;
    order = omega arith;
    high = le;
    has = λ k x y ne h. (⊎_elim (λ (l : k < at). absurd (omega (arith, gap k x l ne))) (λ (l : at ≤ k). l) (cases_lt k at), ⊎_elim (λ (l : k < e). l) (λ (l : e ≤ k). absurd (ne (skipped k l y))) (cases_lt k e));
    all = λ k x y. same k x y;
  }

  pub groups_more : (ks : List ℕ) (rs : List Range) → AreGroups es fill d a at ks rs → AreGroups es fill d a e' (ks ++ head_of es d at ∷ []) (rs ++ record { from = at; to = e } ∷ [])
  groups_more ks rs g =
      let key = head_of es d at in
      let r : Range = record { from = at; to = e } in
      let here : (j : ℕ) → j < length ks → slice_index (ks ++ key ∷ []) j ≡ slice_index ks j = (λ j h. get_or_append_left ks (key ∷ []) 0 j h) in
      let last : slice_index (ks ++ key ∷ []) (length ks) ≡ key = get_or_at ks key [] 0 (length ks) refl in
      let rhere : (j : ℕ) → j < length ks → range_at (rs ++ r ∷ []) j ≡ range_at rs j = (λ j h. get_or_append_left rs (r ∷ []) (record { from = 0; to = 0 }) j (omega (arith, g.long))) in
      let rlast : range_at (rs ++ r ∷ []) (length ks) ≡ r = get_or_at rs r [] (record { from = 0; to = 0 }) (length ks) g.long in
      let new : IsGroup es fill d a e' key r = record { cut = new_cut; some = lt; other = other } in
      let long = length_push ks key in
      record {
        long = omega (arith, g.long, length_push ks key, length_push rs r);
        group = λ j h. ⊎_elim
            (λ (l : j < length ks). subst (λ (x : ℕ). IsGroup es fill d a e' x (range_at (rs ++ r ∷ []) j)) (sym (here j l)) (subst (IsGroup es fill d a e' (slice_index ks j)) (sym (rhere j l)) (old_group (slice_index ks j) (range_at rs j) (g.group j l))))
            (λ (l : length ks ≤ j). let e'' : length ks ≡ j = omega arith in
            subst (λ (x : ℕ). IsGroup es fill d a e' (slice_index (ks ++ key ∷ []) x) (range_at (rs ++ r ∷ []) x)) e'' (subst (λ (x : ℕ). IsGroup es fill d a e' x (range_at (rs ++ r ∷ []) (length ks))) (sym last) (subst (IsGroup es fill d a e' key) (sym rlast) new)))
            (cases_lt j (length ks));
        rises = λ j h. ⊎_elim
            (λ (l : j + 1 < length ks). omega (arith, here j (omega arith), here (j + 1) l, g.rises j l))
            (λ (l : length ks ≤ j + 1). let e'' : j + 1 ≡ length ks = omega arith in omega (arith, here j (omega arith), ap (slice_index (ks ++ key ∷ [])) e'', last, old_below (slice_index ks j) (range_at rs j) (g.group j (omega arith))))
            (cases_lt (j + 1) (length ks));
        place = λ k x y ne. ⊎_elim
            (λ (l : k < at). let p = g.place k x l ne in (p.0, omega (arith, p.1), here p.0 p.1 ∙ p.2))
            (λ (l : at ≤ k). ⊎_elim (λ (m : k < e). (length ks, omega arith, last ∙ sym (same k l m))) (λ (m : e ≤ k). absurd (ne (skipped k m y))) (cases_lt k e))
            (cases_lt k at);
      }

in_group : (i j : ℕ) (is js : List ℕ) → i ≡ j → IsBefore (i ∷ is) (j ∷ js) → IsBefore is js
in_group i j is js e (inl l) = absurd (omega arith)
in_group i j is js e (inr l) = l.1

-- ---- what a function is where no entry with another value than the fill is
module _ (es : List Entry) (fill : ℤ) (n : ℕ) (ns : List ℕ) (d a b : ℕ) (f : Slice) (t : Tells es fill (n ∷ ns) d a b f) where
  pub missed : (cs : List ℕ) → ((k : ℕ) → a ≤ k → k < b → word_of es k ≢ fill → drop d (coords es k) ≢ cs) → f cs ≡ fill
  missed cs out =
      ⊎_elim (λ (e : f cs ≡ fill). e)
      (λ (ne : f cs ≢ fill). t.miss cs (λ k x y e. out k x y (λ s. ne (ap f (sym e) ∙ t.hit k x y ∙ s)) e))
      (same_or_not (f cs) fill)

  pub gone : (i : ℕ) → ((k : ℕ) → a ≤ k → k < b → word_of es k ≢ fill → head_of es d k ≢ i) → (cs : List ℕ) → f (i ∷ cs) ≡ fill
  gone i out cs = missed (i ∷ cs) (λ k x y ne e.
      let s = split_entry n ns d (coords es k) (t.inside k x y) in
      out k x y ne (ap (λ (l : List ℕ). slice_index l 0) (sym s.1 ∙ e)))

  pub below_extent : (k : ℕ) → a ≤ k → k < b → head_of es d k < n
  below_extent k x y = (split_entry n ns d (coords es k) (t.inside k x y)).2

  pub has_at : (k : ℕ) → a ≤ k → k < b → word_of es k ≢ fill → has_value fill ns f (head_of es d k) ≡ true
  has_at k x y ne =
      let s = split_entry n ns d (coords es k) (t.inside k x y) in
      let i = head_of es d k in
      let v : f (i ∷ drop (d + 1) (coords es k)) ≡ word_of es k = ap f (sym s.1) ∙ t.hit k x y in
      elim (is_fill_at fill (slice_at f i) (box ns)) as (λ z. is_fill_at fill (slice_at f i) (box ns) ≡ z → not z ≡ true) [
        | true ↦ λ e. absurd (ne (sym v ∙ blank ns fill (slice_at f i) (drop (d + 1) (coords es k)) e s.3))
        | false ↦ λ _. refl
      ] refl

  pub blank_at : (i : ℕ) → ((k : ℕ) → a ≤ k → k < b → word_of es k ≢ fill → head_of es d k ≢ i) → has_value fill ns f i ≡ false
  blank_at i out = ap not (all_fill fill (slice_at f i) ns (box ns) (all_box ns) (λ cs _. gone i out cs))

  pub cut_tells : (key : ℕ) (rg : Range) → IsCut es fill d a b key rg → Tells es fill ns (d + 1) rg.from rg.to (slice_at f key)
  cut_tells key rg r =
      let s : (k : ℕ) → rg.from ≤ k → k < rg.to → (d < length (coords es k)) × (drop d (coords es k) ≡ head_of es d k ∷ drop (d + 1) (coords es k)) × (head_of es d k < n) × IsTrue (is_in_box ns (drop (d + 1) (coords es k))) = (λ k x y. split_entry n ns d (coords es k) (t.inside k (omega (arith, r.low)) (omega (arith, r.high)))) in
      record {
        hit = λ k x y. ap (λ (z : ℕ). f (z ∷ drop (d + 1) (coords es k))) (sym (r.all k x y)) ∙ ap f (sym (s k x y).1) ∙ t.hit k (omega (arith, r.low)) (omega (arith, r.high));
        miss = λ cs out. missed (key ∷ cs) (λ k x y ne e.
            let p = split_entry n ns d (coords es k) (t.inside k x y) in
            let q : head_of es d k ∷ drop (d + 1) (coords es k) ≡ key ∷ cs = sym p.1 ∙ e in
            let w = r.has k x y ne (ap (λ (l : List ℕ). slice_index l 0) q) in
            out k w.0 w.1 (ap (drop 1) q));
        inside = λ k x y. (s k x y).3;
        before = λ k m x y z. in_group (head_of es d k) (head_of es d m) (drop (d + 1) (coords es k)) (drop (d + 1) (coords es m)) (r.all k x (omega arith) ∙ sym (r.all m (omega arith) z))
            (subst (λ (l : List ℕ). IsBefore (head_of es d k ∷ drop (d + 1) (coords es k)) l) (s m (omega arith) z).1 (subst (λ (l : List ℕ). IsBefore l (drop d (coords es m))) (s k x (omega arith)).1 (t.before k m (omega (arith, r.low)) y (omega (arith, r.high)))));
      }

  module _ (ks : List ℕ) (rs : List Range) (g : AreGroups es fill d a b ks rs) where
    pub keys_rise : IsRising 0 n ks
    keys_rise = record {
      low = λ j h. omega arith;
      high = λ j h. let r = g.group j h in omega (arith, below_extent (range_at rs j).from r.cut.low (omega (arith, r.some, r.cut.high)), r.cut.all (range_at rs j).from (omega arith) r.some);
      rises = g.rises;
    }

    kept_has : (i : ℕ) → Place ks i → Place (filter (has_value fill ns f) (range_with_len 0 n)) i
    kept_has i p =
        let r = g.group p.j p.within in
        let k = (range_at rs p.j).from in
        let up : k < b = omega (arith, r.some, r.cut.high) in
        let e : head_of es d k ≡ i = r.cut.all k (omega arith) r.some ∙ p.is in
        filter_has (has_value fill ns f) 0 n i (omega arith) (omega (arith, below_extent k r.cut.low up)) (subst (λ (x : ℕ). has_value fill ns f x ≡ true) e (has_at k r.cut.low up r.other))

    kept_only : (i : ℕ) → Place (filter (has_value fill ns f) (range_with_len 0 n)) i → Place ks i
    kept_only i p =
        ⊎_elim (λ (q : Place ks i). q)
        (λ (out : Place ks i → ⊥).
        let has = filter_sound (has_value fill ns f) 0 n i p in
        let e : has_value fill ns f i ≡ false = blank_at i (λ k x y ne same. let w = g.place k x y ne in out (record { j = w.0; within = w.1; is = w.2 ∙ same })) in
        let x : true ≡ false = sym has ∙ e in
        absurd (cc))
        (place_or_not ks i)

    pub groups_are_kept : ks ≡ kept level.List fill n ns f
    groups_are_kept = same_rising 0 n ks (filter (has_value fill ns f) (range_with_len 0 n)) keys_rise (filter_rising (has_value fill ns f) 0 n n (omega arith)) kept_has kept_only

-- ---- the groups so far
pub record GroupedSoFar (es : List Entry) (fill : ℤ) (d a b at : ℕ) (idx idx' : List ℕ) (next next' : List Range) : Type 0 where
  pub ks : List ℕ
  pub rs : List Range
  pub idx_is : idx' ≡ idx ++ ks
  pub next_is : next' ≡ next ++ rs
  pub groups : AreGroups es fill d a at ks rs
  pub low : a ≤ at
  pub high : at ≤ b
  pub other : at < b → word_of es at ≢ fill
  pub gap : (j k : ℕ) → a ≤ j → j < at → word_of es j ≢ fill → at ≤ k → k < b → head_of es d j < head_of es d k

pub grouped_none : (es : List Entry) (fill : ℤ) (d a b at : ℕ) (idx : List ℕ) (next : List Range) → a ≤ at → at ≤ b → ((k : ℕ) → a ≤ k → k < at → word_of es k ≡ fill) → (at < b → word_of es at ≢ fill) → GroupedSoFar es fill d a b at idx idx next next
grouped_none es fill d a b at idx next low high all other = record {
  ks = [];
  rs = [];
  idx_is = sym (append-nil idx);
  next_is = sym (append-nil next);
  groups = groups_none es fill d a at all;
  low = low;
  high = high;
  other = other;
  gap = λ j k x y ne z w. absurd (ne (all j x y));
}

module _ (es : List Entry) (fill : ℤ) (d a b at e e' : ℕ) (lt : at < e) (le : e ≤ e') (hi : e' ≤ b) (same : (k : ℕ) → at ≤ k → k < e → head_of es d k ≡ head_of es d at) (ends : e < b → head_of es d e ≢ head_of es d at)
    (skipped : (k : ℕ) → e ≤ k → k < e' → word_of es k ≡ fill) (next_other : e' < b → word_of es e' ≢ fill) (rise : (j k : ℕ) → a ≤ j → j ≤ k → k < b → head_of es d j ≤ head_of es d k) where
  pub gap_more : a ≤ at → ((j k : ℕ) → a ≤ j → j < at → word_of es j ≢ fill → at ≤ k → k < b → head_of es d j < head_of es d k) →
      (j k : ℕ) → a ≤ j → j < e' → word_of es j ≢ fill → e' ≤ k → k < b → head_of es d j < head_of es d k
  gap_more low gap j k x y ne z w =
      ⊎_elim (λ (l : j < at). gap j k x l ne (omega arith) w)
      (λ (l : at ≤ j). ⊎_elim
      (λ (m : j < e). omega (arith, same j l m, rise at e low (omega arith) (omega arith), rise e k (omega arith) (omega arith) w, ends (omega arith)))
      (λ (m : e ≤ j). absurd (ne (skipped j m y))) (cases_lt j e))
      (cases_lt j at)

  pub grouped_more : (idx0 idx idx' : List ℕ) (next0 next next' : List Range) → GroupedSoFar es fill d a b at idx0 idx next0 next → idx' ≡ idx ++ head_of es d at ∷ [] → next' ≡ next ++ record { from = at; to = e } ∷ [] → GroupedSoFar es fill d a b e' idx0 idx' next0 next'
  grouped_more idx0 idx idx' next0 next next' g p q = record {
    ks = g.ks ++ head_of es d at ∷ [];
    rs = g.rs ++ record { from = at; to = e } ∷ [];
    idx_is = p ∙ ap (λ (l : List ℕ). l ++ head_of es d at ∷ []) g.idx_is ∙ append_assoc idx0 g.ks (head_of es d at ∷ []);
    next_is = q ∙ ap (λ (l : List Range). l ++ record { from = at; to = e } ∷ []) g.next_is ∙ append_assoc next0 g.rs (record { from = at; to = e } ∷ []);
    groups = groups_more es fill d a at e e' g.low lt le same (g.other (omega arith)) skipped (λ j x y ne. g.gap j at x y ne (omega arith) (omega arith)) g.ks g.rs g.groups;
    low = omega (arith, g.low);
    high = hi;
    other = next_other;
    gap = gap_more g.low g.gap;
  }

pub grouped_all : (es : List Entry) (fill : ℤ) (d a b at : ℕ) (idx idx' : List ℕ) (next next' : List Range) → b ≤ at → GroupedSoFar es fill d a b at idx idx' next next' → (n : ℕ) → Added level.List es fill d n a b idx idx' next next'
grouped_all es fill d a b at idx idx' next next' le g n =
    let e : at ≡ b = omega (arith, g.high) in
    let groups : AreGroups es fill d a b g.ks g.rs = subst (λ (x : ℕ). AreGroups es fill d a x g.ks g.rs) e g.groups in
    record {
      ks = g.ks;
      rs = g.rs;
      numbers_are = g.idx_is;
      next_is = g.next_is;
      keeps = record { long = g.groups.long; kept_are = λ ns f _ t. groups_are_kept es fill n ns d a b f t g.ks g.rs groups; cut = λ j h. (groups.group j h).cut };
    }
