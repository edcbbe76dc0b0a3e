-- The block of a slice is what a band level keeps.
use Rattle.std.proofs.Common.{◌≡◌, ◌≢◌, ℕ, ◌+◌, ◌-◌, ◌<◌, ◌≤◌, List, [], ◌∷◌, ◌++◌, length, refl, sym, ap, ◌∙◌, subst, ⊎_elim, arith, ℤ, true, false}
use Rattle.std.specs.Prelude.{slice_index, filter}
use Rattle.std.specs.List.{range_with_len}
use Rattle.std.proofs.lemmas.Bool.{cases_lt}
use Rattle.std.proofs.lemmas.List.{append-nil}
use Rattle.std.proofs.lemmas.List.FromFn.{length-range_with_len, get_or-range_with_len}
use Rattle.fin_tensor.specs.declared.format.Level.TheVariants as level
use Rattle.fin_tensor.specs.Canon.{Slice, has_value, last_of, span_of, kept}
use Rattle.fin_canon.specs.declared.entry.Range.{Range}
use Rattle.fin_canon.specs.Entries.{Entry, word_of}
use Rattle.fin_canon.specs.Ranges.{head_of, range_at, Fits, IsCut, AllCut, Tells, Added}
use Rattle.fin_canon.proofs.Kept.{IsRising, Place, filter_rising, filter_has}
use Rattle.fin_canon.proofs.Rising.{first_least, filter_sound}
use Rattle.fin_canon.proofs.Standing.{rising_lt, last_is}
use Rattle.fin_canon.proofs.Grouping.{has_at, blank_at, below_extent}

-- a list that rises from low to high, both in it, spans what lies between them
pub spans : (b low high : ℕ) (ks : List ℕ) → IsRising 0 b ks → Place ks low → Place ks high → ((i : ℕ) → Place ks i → (low ≤ i) × (i ≤ high)) → span_of ks ≡ range_with_len low (high + 1 - low)
spans b low high [] r p q between = absurd (omega (arith, p.within))
spans b low high (x ∷ xs) r p q between =
    let first = between x (record { j = 0; within = omega arith; is = refl }) in
    let least = first_least 0 b x xs r low p in
    let y = slice_index (x ∷ xs) (length xs) in
    let end = between y (record { j = length xs; within = omega arith; is = refl }) in
    let most : high ≤ y = ⊎_elim
    (λ (l : q.j < length xs). omega (arith, q.is, rising_lt 0 b (x ∷ xs) r q.j (length xs) l (omega arith)))
    (λ (l : length xs ≤ q.j). let e : q.j ≡ length xs = omega (arith, q.within) in omega (arith, q.is, ap (slice_index (x ∷ xs)) e))
    (cases_lt q.j (length xs)) in
    let a : x ≡ low = omega (arith, first.0) in
    let z : last_of x xs + 1 - x ≡ high + 1 - low = omega (arith, last_is x xs, end.1) in
    ap (λ (k : ℕ). range_with_len k (last_of x xs + 1 - x)) a ∙ ap (range_with_len low) z

pub spans_nothing : (b : ℕ) (ks : List ℕ) → ((i : ℕ) → Place ks i → ⊥) → span_of ks ≡ []
spans_nothing b [] out = refl
spans_nothing b (x ∷ xs) out = absurd (out x (record { j = 0; within = omega arith; is = refl }))

pub block_none : (es : List Entry) (fill : ℤ) (d n a b : ℕ) (start start' : List ℕ) (next : List Range) → ((k : ℕ) → a ≤ k → k < b → word_of es k ≡ fill) → start' ≡ start ++ 0 ∷ [] → Added level.Band es fill d n a b start start' next next
block_none es fill d n a b start start' next all e = record {
  ks = [];
  rs = [];
  numbers_are = e;
  next_is = sym (append-nil next);
  keeps = record {
    long = refl;
    kept_are = λ ns f _ t. sym (spans_nothing n (filter (has_value fill ns f) (range_with_len 0 n)) (λ i p.
        let x : true ≡ false = sym (filter_sound (has_value fill ns f) 0 n i p) ∙ blank_at es fill n ns d a b f t i (λ k lo hi ne. absurd (ne (all k lo hi))) in
        absurd (cc)));
    cut = λ j h. absurd (omega arith);
  };
}

module _ (es : List Entry) (fill : ℤ) (d n a b first end low : ℕ) (fits : Fits es d n (record { from = a; to = b })) (lo : a ≤ first) (lt : first < end) (hi : end ≤ b) (before : (k : ℕ) → a ≤ k → k < first → word_of es k ≡ fill) (behind : (k : ℕ) → end ≤ k → k < b → word_of es k ≡ fill)
    (other : word_of es first ≢ fill) (other_last : word_of es (end - 1) ≢ fill) (low_is : low ≡ head_of es d first) where
  high : ℕ
  high = head_of es d (end - 1)

  pub block_order : low ≤ head_of es d (end - 1) + 1
  block_order = omega (arith, low_is, fits.rise first (end - 1) lo (omega arith) (omega arith))

  inside : (k : ℕ) → a ≤ k → k < b → word_of es k ≢ fill → (first ≤ k) × (k < end)
  inside k x y ne = (⊎_elim (λ (l : k < first). absurd (ne (before k x l))) (λ (l : first ≤ k). l) (cases_lt k first), ⊎_elim (λ (l : k < end). l) (λ (l : end ≤ k). absurd (ne (behind k l y))) (cases_lt k end))

  wider : (key : ℕ) (r : Range) → IsCut es fill d first end key r → IsCut es fill d a b key r
  wider key r c = record { low = omega (arith, c.low); order = c.order; high = omega (arith, c.high); has = λ k x y ne h. let w = inside k x y ne in c.has k w.0 w.1 ne h; all = c.all }

  block_is_kept : (ns : List ℕ) (f : Slice) → Tells es fill (n ∷ ns) d a b f → range_with_len low (head_of es d (end - 1) + 1 - low) ≡ kept level.Band fill n ns f
  block_is_kept ns f t =
      let K = filter (has_value fill ns f) (range_with_len 0 n) in
      let has : (k : ℕ) → a ≤ k → k < b → word_of es k ≢ fill → Place K (head_of es d k) = (λ k x y ne. filter_has (has_value fill ns f) 0 n (head_of es d k) (omega arith) (omega (arith, below_extent es fill n ns d a b f t k x y)) (has_at es fill n ns d a b f t k x y ne)) in
      let between : (i : ℕ) → Place K i → (low ≤ i) × (i ≤ head_of es d (end - 1)) = (λ i p.
      let no_blank : ((k : ℕ) → a ≤ k → k < b → word_of es k ≢ fill → head_of es d k ≢ i) → ⊥ = (λ out. let x : true ≡ false = sym (filter_sound (has_value fill ns f) 0 n i p) ∙ blank_at es fill n ns d a b f t i out in absurd (cc)) in (
        ⊎_elim (λ (l : i < low). absurd (no_blank (λ k x y ne e. let w = inside k x y ne in omega (arith, low_is, fits.rise first k lo w.0 y)))) (λ (l : low ≤ i). l) (cases_lt i low),
        ⊎_elim (λ (l : head_of es d (end - 1) < i). absurd (no_blank (λ k x y ne e. let w = inside k x y ne in omega (arith, fits.rise k (end - 1) x (omega (arith, w.1)) (omega arith))))) (λ (l : i ≤ head_of es d (end - 1)). l) (cases_lt (head_of es d (end - 1)) i),
      )) in
      sym (spans n low (head_of es d (end - 1)) K (filter_rising (has_value fill ns f) 0 n n (omega arith)) (subst (Place K) (sym low_is) (has first lo (omega arith) other)) (has (end - 1) (omega arith) (omega arith) other_last) between)

  pub block_all : (m : ℕ) (start start' : List ℕ) (next next' : List Range) → m ≡ head_of es d (end - 1) + 1 - low → start' ≡ start ++ low ∷ [] → AllCut es fill d first end low m next next' → Added level.Band es fill d n a b start start' next next'
  block_all m start start' next next' em e c =
      let some : 0 < m = omega (arith, em, low_is, fits.rise first (end - 1) lo (omega arith) (omega arith)) in
      let long = length-range_with_len low m in
      let at : (j : ℕ) → j < m → slice_index (range_with_len low m) j ≡ low + j = (λ j h. get_or-range_with_len low m j 0 h) in
      record {
        ks = range_with_len low m;
        rs = c.rs;
        numbers_are = e ∙ ap (λ (x : ℕ). start ++ x ∷ []) (let z = at 0 some in omega (arith, z));
        next_is = c.next_is;
        keeps = record {
          long = omega (arith, c.long, long);
          kept_are = λ ns f _ t. ap (range_with_len low) em ∙ block_is_kept ns f t;
          cut = λ j h. let l : j < m = omega (arith, long) in wider (slice_index (range_with_len low m) j) (range_at c.rs j) (subst (λ (x : ℕ). IsCut es fill d first end x (range_at c.rs j)) (sym (at j l)) (c.cut j l));
        };
      }
