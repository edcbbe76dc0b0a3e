-- The runs of a slice are what a runs level keeps.
use Rattle.std.proofs.Common.{◌≡◌, ◌≢◌, ℕ, ◌+◌, ◌-◌, ◌<◌, ◌≤◌, List, [], ◌∷◌, ◌++◌, length, drop, refl, sym, ap, ◌∙◌, subst, inl, inr, ◌⊎◌, ⊎_elim, arith, append_assoc, ℤ, IsTrue, Bool, true, false, map, Option, Some, None}
use Rattle.std.specs.Prelude.{slice_index, nat_lt, nat_eq, ◌&&◌, ◌||◌, not, filter}
use Rattle.std.specs.List.{range_with_len}
use Rattle.std.specs.Ordering.{int_eq}
use Rattle.std.proofs.lemmas.Bool.{cases_lt, cases_eq, lt-ltb}
use Rattle.std.proofs.lemmas.Bool.Decides.{nat_tests}
use Rattle.std.proofs.lemmas.Int.{ints}
use Rattle.std.proofs.lemmas.List.{append-nil, get_or_append_left, get_or_at, length_push, map-append}
use Rattle.fin_tensor.specs.TensorFunction.{is_in_box}
use Rattle.fin_tensor.specs.Levels.{below}
use Rattle.fin_tensor.specs.declared.format.Level.TheVariants as level
use Rattle.fin_tensor.specs.Canon.{Slice, ends_run}
use Rattle.fin_canon.specs.declared.entry.Range.{Range}
use Rattle.fin_canon.specs.declared.runs.Spot.{Spot}
use Rattle.fin_canon.specs.declared.runs.Run.{Run}
use Rattle.fin_canon.specs.Entries.{Entry, coords, word_of}
use Rattle.fin_canon.specs.Ranges.{head_of, range_at, Fits, IsStrict, IsCut, Tells, Added}
use Rattle.fin_canon.specs.Runs.{IsSplit, IsStep, IsRun, found_in, value_in}
use Rattle.fin_canon.proofs.Kept.{IsRising, Place, filter_rising, filter_has}
use Rattle.fin_canon.proofs.Rising.{same_rising, filter_sound, split_entry}
use Rattle.fin_canon.proofs.Grouping.{gone}

-- ---- the value at a coordinate
pub found_here : (es : List Entry) (d b : ℕ) (s : Spot) → s.entry < b → head_of es d s.entry ≡ s.at → found_in es d b s ≡ Some s.entry
found_here es d b s lt e =
    let x : nat_lt s.entry b ≡ true = lt-ltb s.entry b lt in
    let y : nat_eq (head_of es d s.entry) s.at ≡ true = grind (arith, nat_tests) in
    rw (x, y) refl

pub found_past : (es : List Entry) (d b : ℕ) (s : Spot) → b ≤ s.entry → found_in es d b s ≡ None
found_past es d b s le =
    let x : nat_lt s.entry b ≡ false = grind (arith, nat_tests) in
    rw x refl

and_false : (t : Bool) → (t && false) ≡ false
and_false true = refl
and_false false = refl

pub found_other : (es : List Entry) (d b : ℕ) (s : Spot) → head_of es d s.entry ≢ s.at → found_in es d b s ≡ None
found_other es d b s ne =
    let y : nat_eq (head_of es d s.entry) s.at ≡ false = grind (arith, nat_tests) in
    let z : (nat_lt s.entry b && nat_eq (head_of es d s.entry) s.at) ≡ false = ap (λ (t : Bool). nat_lt s.entry b && t) y ∙ and_false (nat_lt s.entry b) in
    rw z refl

pub nothing_left : (cs : List ℕ) → IsTrue (is_in_box [] cs) → cs ≡ []
nothing_left [] h = refl
nothing_left (c ∷ cs) h = cc

module _ (es : List Entry) (fill : ℤ) (d n a b : ℕ) (f : Slice) (t : Tells es fill (n ∷ []) d a b f) where
  value_here : (k : ℕ) → a ≤ k → k < b → f (head_of es d k ∷ []) ≡ word_of es k
  value_here k x y =
      let s = split_entry n [] d (coords es k) (t.inside k x y) in
      let e : drop (d + 1) (coords es k) ≡ [] = nothing_left (drop (d + 1) (coords es k)) s.3 in
      ap (λ (l : List ℕ). f (head_of es d k ∷ l)) (sym e) ∙ ap f (sym s.1) ∙ t.hit k x y

  gap_value : (s : Spot) → IsSplit es d a b s → (i : ℕ) → s.at ≤ i → ((k : ℕ) → s.entry ≤ k → k < b → i < head_of es d k) → f (i ∷ []) ≡ fill
  gap_value s sp i lo out = gone es fill n [] d a b f t i (λ k x y _ e. ⊎_elim (λ (l : k < s.entry). omega (arith, sp.before k x l)) (λ (l : s.entry ≤ k). omega (arith, out k l y)) (cases_lt k s.entry)) []

  -- up to the next entry
  pub gap_same : (s : Spot) → IsSplit es d a b s → (i : ℕ) → s.at ≤ i → ((k : ℕ) → s.entry ≤ k → k < b → i < head_of es d k) → f (i ∷ []) ≡ value_in es fill d b s
  gap_same s sp i lo out =
      gap_value s sp i lo out
      ∙ sym (⊎_elim (λ (l : s.entry < b). ap (λ (o : Option ℕ). below o (word_of es) fill) (found_other es d b s (λ e. absurd (omega (arith, out s.entry (omega arith) l)))))
      (λ (l : b ≤ s.entry). ap (λ (o : Option ℕ). below o (word_of es) fill) (found_past es d b s l)) (cases_lt s.entry b))

  pub entry_same : (s : Spot) → IsSplit es d a b s → s.entry < b → head_of es d s.entry ≡ s.at → f (s.at ∷ []) ≡ value_in es fill d b s
  entry_same s sp lt e =
      ap (λ (i : ℕ). f (i ∷ [])) (sym e) ∙ value_here s.entry sp.low lt ∙ sym (ap (λ (o : Option ℕ). below o (word_of es) fill) (found_here es d b s lt e))

-- ---- a step
module _ (es : List Entry) (fill : ℤ) (d n a b : ℕ) (s : Spot) (fits : Fits es d n (record { from = a; to = b })) (sp : IsSplit es d a b s) (lt : s.at < n) where
  pub step_out : b ≤ s.entry → IsStep es fill d n a b s (record { last = s.entry; end = record { entry = s.entry; at = n } })
  step_out le = record {
    low = lt;
    high = omega arith;
    split = record { low = sp.low; high = sp.high; before = λ k x y. omega (arith, sp.before k x y); after = λ k x y. absurd (omega arith) };
    last = record {
      low = sp.low;
      order = omega arith;
      high = sp.high;
      has = λ k x y _ e. absurd (omega (arith, sp.before k x (omega arith)));
      all = λ k x y. absurd (omega arith);
    };
    same = λ f t i x y. gap_same es fill d n a b f t s sp i x (λ k z w. absurd (omega arith));
  }

  rise_from : s.entry < b → (k : ℕ) → s.entry ≤ k → k < b → head_of es d s.entry ≤ head_of es d k
  rise_from l k x y = fits.rise s.entry k sp.low x y

  pub step_gap : (h : ℕ) → s.entry < b → h ≡ head_of es d s.entry → h ≢ s.at → IsStep es fill d n a b s (record { last = s.entry; end = record { entry = s.entry; at = h } })
  step_gap h l e ne =
      let up : s.at < h = omega (arith, sp.after s.entry (omega arith) l) in
      record {
        low = up;
        high = omega (arith, fits.below s.entry sp.low l);
        split = record { low = sp.low; high = sp.high; before = λ k x y. omega (arith, sp.before k x y); after = λ k x y. omega (arith, rise_from l k x y) };
        last = record {
          low = sp.low;
          order = omega arith;
          high = sp.high;
          has = λ k x y _ q. ⊎_elim (λ (z : k < s.entry). absurd (omega (arith, sp.before k x z))) (λ (z : s.entry ≤ k). absurd (omega (arith, rise_from l k z y))) (cases_lt k s.entry);
          all = λ k x y. absurd (omega arith);
        };
        same = λ f t i x y. gap_same es fill d n a b f t s sp i x (λ k z w. omega (arith, rise_from l k z w));
      }

  pub step_entry : IsStrict es d (record { from = a; to = b }) → (h : ℕ) → s.entry < b → h ≡ head_of es d s.entry → h ≡ s.at → IsStep es fill d n a b s (record { last = s.entry; end = record { entry = s.entry + 1; at = h + 1 } })
  step_entry strict h l e q = record {
    low = omega arith;
    high = omega (arith, fits.below s.entry sp.low l);
    split = record {
      low = omega (arith, sp.low);
      high = omega arith;
      before = λ k x y. ⊎_elim (λ (z : k < s.entry). omega (arith, sp.before k x z)) (λ (z : s.entry ≤ k). let w : k ≡ s.entry = omega arith in omega (arith, ap (head_of es d) w)) (cases_lt k s.entry);
      after = λ k x y. omega (arith, strict s.entry k sp.low (omega arith) y);
    };
    last = record {
      low = sp.low;
      order = omega arith;
      high = omega arith;
      has = λ k x y _ p. (⊎_elim (λ (z : k < s.entry). absurd (omega (arith, sp.before k x z))) (λ (z : s.entry ≤ k). z) (cases_lt k s.entry), ⊎_elim (λ (z : k < s.entry + 1). z) (λ (z : s.entry + 1 ≤ k). absurd (omega (arith, strict s.entry k sp.low (omega arith) y))) (cases_lt k (s.entry + 1)));
      all = λ k x y. let w : k ≡ s.entry = omega arith in omega (arith, ap (head_of es d) w);
    };
    same = λ f t i x y. let w : s.at ≡ i = omega arith in ap (λ (z : ℕ). f (z ∷ [])) (sym w) ∙ entry_same es fill d n a b f t s sp l (sym e ∙ q);
  }

-- ---- steps in a row
pub step_more : (es : List Entry) (fill : ℤ) (d n a b : ℕ) (s : Spot) (r r' : Run) → IsStep es fill d n a b s r → value_in es fill d b s ≡ value_in es fill d b r.end → IsStep es fill d n a b r.end r' → IsStep es fill d n a b s r'
step_more es fill d n a b s r r' x e y = record {
  low = omega (arith, x.low, y.low);
  high = y.high;
  split = y.split;
  last = y.last;
  same = λ f t i lo hi. ⊎_elim (λ (l : i < r.end.at). x.same f t i lo l) (λ (l : r.end.at ≤ i). y.same f t i l hi ∙ sym e) (cases_lt i r.end.at);
}

-- the value at a coordinate inside the extent
split_value : (es : List Entry) (fill : ℤ) (d n a b : ℕ) (f : Slice) → Tells es fill (n ∷ []) d a b f → (s : Spot) → IsSplit es d a b s → Fits es d n (record { from = a; to = b }) → f (s.at ∷ []) ≡ value_in es fill d b s
split_value es fill d n a b f t s sp fits =
    ⊎_elim
    (λ (l : s.entry < b). ⊎_elim
    (λ (e : head_of es d s.entry ≡ s.at). entry_same es fill d n a b f t s sp l e)
    (λ (ne : head_of es d s.entry ≢ s.at). gap_same es fill d n a b f t s sp s.at (omega arith) (λ k x y. omega (arith, ne, sp.after s.entry (omega arith) l, fits.rise s.entry k sp.low x y)))
    (cases_eq (head_of es d s.entry) s.at))
    (λ (le : b ≤ s.entry). gap_same es fill d n a b f t s sp s.at (omega arith) (λ k x y. absurd (omega arith)))
    (cases_lt s.entry b)

pub run_at_end : (es : List Entry) (fill : ℤ) (d n a b : ℕ) (s : Spot) (r : Run) → IsStep es fill d n a b s r → n ≤ r.end.at → IsRun es fill d n a b s r
run_at_end es fill d n a b s r x le = record { step = x; ends = λ f t lt. absurd (omega arith) }

pub run_ends : (es : List Entry) (fill : ℤ) (d n a b : ℕ) (s : Spot) (r : Run) → Fits es d n (record { from = a; to = b }) → IsStep es fill d n a b s r → value_in es fill d b s ≢ value_in es fill d b r.end → IsRun es fill d n a b s r
run_ends es fill d n a b s r fits x ne = record { step = x; ends = λ f t lt e. ne (sym e ∙ split_value es fill d n a b f t r.end x.split fits) }

-- ---- the runs so far
pub record RunsSoFar (es : List Entry) (fill : ℤ) (d n a b : ℕ) (s : Spot) (stop stop' : List ℕ) (next next' : List Range) : Type 0 where
  pub ks : List ℕ
  pub rs : List Range
  pub stop_is : stop' ≡ stop ++ map (λ i. i + 1) ks
  pub next_is : next' ≡ next ++ rs
  pub long : length rs ≡ length ks
  pub split : IsSplit es d a b s
  pub within : s.at ≤ n
  pub rising : IsRising 0 s.at ks
  pub cut : (j : ℕ) → j < length ks → IsCut es fill d a b (slice_index ks j) (range_at rs j)
  pub ends : (f : Slice) → Tells es fill (n ∷ []) d a b f → (i : ℕ) → Place ks i → i + 1 < n → f (i ∷ []) ≢ f ((i + 1) ∷ [])
  pub inner : (f : Slice) → Tells es fill (n ∷ []) d a b f → (i : ℕ) → i < s.at → Place ks i ⊎ ((f (i ∷ []) ≡ f ((i + 1) ∷ [])) × (i + 1 < s.at))

pub runs_none : (es : List Entry) (fill : ℤ) (d n a b : ℕ) (s : Spot) (stop : List ℕ) (next : List Range) → s.entry ≡ a → s.at ≡ 0 → a ≤ b → RunsSoFar es fill d n a b s stop stop next next
runs_none es fill d n a b s stop next e z le = record {
  ks = [];
  rs = [];
  stop_is = sym (append-nil stop);
  next_is = sym (append-nil next);
  long = refl;
  split = record { low = omega (arith, e); high = omega (arith, e); before = λ k x y. absurd (omega (arith, e)); after = λ k x y. omega (arith, z) };
  within = omega (arith, z);
  rising = record { low = λ j h. absurd (omega arith); high = λ j h. absurd (omega arith); rises = λ j h. absurd (omega arith) };
  cut = λ j h. absurd (omega arith);
  ends = λ f t i p lt. absurd (omega (arith, p.within));
  inner = λ f t i lt. absurd (omega (arith, z));
}

place_push : (ks : List ℕ) (x i : ℕ) → Place ks i → Place (ks ++ x ∷ []) i
place_push ks x i p = record { j = p.j; within = omega (arith, p.within, length_push ks x); is = get_or_append_left ks (x ∷ []) 0 p.j p.within ∙ p.is }

place_last : (ks : List ℕ) (x : ℕ) → Place (ks ++ x ∷ []) x
place_last ks x = record { j = length ks; within = omega (arith, length_push ks x); is = get_or_at ks x [] 0 (length ks) refl }

place_back : (ks : List ℕ) (x i : ℕ) → Place (ks ++ x ∷ []) i → Place ks i ⊎ (i ≡ x)
place_back ks x i p =
    ⊎_elim
    (λ (l : p.j < length ks). inl (record { j = p.j; within = l; is = sym (get_or_append_left ks (x ∷ []) 0 p.j l) ∙ p.is }))
    (λ (le : length ks ≤ p.j). let e : length ks ≡ p.j = omega (arith, p.within, length_push ks x) in inr (sym (sym (get_or_at ks x [] 0 p.j e) ∙ p.is)))
    (cases_lt p.j (length ks))

rising_push : (a b c x : ℕ) (ks : List ℕ) → a ≤ b → IsRising a b ks → b ≤ x → x < c → IsRising a c (ks ++ x ∷ [])
rising_push a b c x ks le r lo hi =
    let long = length_push ks x in
    let here : (j : ℕ) → j < length ks → slice_index (ks ++ x ∷ []) j ≡ slice_index ks j = (λ j h. get_or_append_left ks (x ∷ []) 0 j h) in
    let last : (j : ℕ) → length ks ≡ j → slice_index (ks ++ x ∷ []) j ≡ x = (λ j e. get_or_at ks x [] 0 j e) in
    record {
      low = λ j h. ⊎_elim (λ (l : j < length ks). omega (arith, here j l, r.low j l)) (λ (l : length ks ≤ j). omega (arith, last j (omega arith))) (cases_lt j (length ks));
      high = λ j h. ⊎_elim (λ (l : j < length ks). omega (arith, here j l, r.high j l)) (λ (l : length ks ≤ j). omega (arith, last j (omega arith))) (cases_lt j (length ks));
      rises = λ j h. ⊎_elim (λ (l : j + 1 < length ks). omega (arith, here j (omega arith), here (j + 1) l, r.rises j l))
          (λ (l : length ks ≤ j + 1). omega (arith, here j (omega arith), last (j + 1) (omega arith), r.high j (omega arith)))
          (cases_lt (j + 1) (length ks));
    }

module _ (es : List Entry) (fill : ℤ) (d n a b : ℕ) (s : Spot) (run : Run) (stop0 stop stop' : List ℕ) (next0 next next' : List Range) where
  pub runs_more : RunsSoFar es fill d n a b s stop0 stop next0 next → IsRun es fill d n a b s run → stop' ≡ stop ++ run.end.at ∷ [] → next' ≡ next ++ record { from = run.last; to = run.end.entry } ∷ [] → RunsSoFar es fill d n a b run.end stop0 stop' next0 next'
  runs_more so r p q =
      let x = run.end.at - 1 in
      let rg : Range = record { from = run.last; to = run.end.entry } in
      let x1 : run.end.at ≡ x + 1 = omega (arith, r.step.low) in
      let one : (f : Slice) → Tells es fill (n ∷ []) d a b f → (i : ℕ) → s.at ≤ i → i + 1 < run.end.at → f (i ∷ []) ≡ f ((i + 1) ∷ []) = (λ f t i lo hi. r.step.same f t i lo (omega arith) ∙ sym (r.step.same f t (i + 1) (omega arith) hi)) in
      record {
        ks = so.ks ++ x ∷ [];
        rs = so.rs ++ rg ∷ [];
        stop_is = p ∙ ap (λ (l : List ℕ). l ++ run.end.at ∷ []) so.stop_is ∙ append_assoc stop0 (map (λ i. i + 1) so.ks) (run.end.at ∷ []) ∙ ap (λ (z : ℕ). stop0 ++ (map (λ i. i + 1) so.ks ++ z ∷ [])) x1 ∙ ap (λ (l : List ℕ). stop0 ++ l) (sym (map-append (λ i. i + 1) so.ks (x ∷ [])));
        next_is = q ∙ ap (λ (l : List Range). l ++ rg ∷ []) so.next_is ∙ append_assoc next0 so.rs (rg ∷ []);
        long = omega (arith, so.long, length_push so.ks x, length_push so.rs rg);
        split = r.step.split;
        within = r.step.high;
        rising = rising_push 0 s.at run.end.at x so.ks (omega arith) so.rising (omega (arith, r.step.low)) (omega (arith, r.step.low));
        cut = λ j h. ⊎_elim
            (λ (l : j < length so.ks). subst (λ (z : ℕ). IsCut es fill d a b z (range_at (so.rs ++ rg ∷ []) j)) (sym (get_or_append_left so.ks (x ∷ []) 0 j l)) (subst (IsCut es fill d a b (slice_index so.ks j)) (sym (get_or_append_left so.rs (rg ∷ []) (record { from = 0; to = 0 }) j (omega (arith, so.long)))) (so.cut j l)))
            (λ (l : length so.ks ≤ j). let e : length so.ks ≡ j = omega (arith, length_push so.ks x) in subst (λ (z : ℕ). IsCut es fill d a b z (range_at (so.rs ++ rg ∷ []) j)) (sym (get_or_at so.ks x [] 0 j e)) (subst (IsCut es fill d a b x) (sym (get_or_at so.rs rg [] (record { from = 0; to = 0 }) j (omega (arith, so.long, e)))) r.step.last))
            (cases_lt j (length so.ks));
        ends = λ f t i pl lt. ⊎_elim (λ (o : Place so.ks i). so.ends f t i o lt)
            (λ (e : i ≡ x) same.
            let e1 : i + 1 ≡ run.end.at = omega arith in
            r.ends f t (omega arith) (ap (λ (z : ℕ). f (z ∷ [])) (sym e1) ∙ sym same ∙ r.step.same f t i (omega (arith, r.step.low)) (omega arith)))
            (place_back so.ks x i pl);
        inner = λ f t i lt. ⊎_elim
            (λ (l : i < s.at). ⊎_elim (λ (o : Place so.ks i). inl (place_push so.ks x i o)) (λ (o : (f (i ∷ []) ≡ f ((i + 1) ∷ [])) × (i + 1 < s.at)). inr (o.0, omega (arith, o.1, r.step.low))) (so.inner f t i l))
            (λ (l : s.at ≤ i). ⊎_elim (λ (m : i + 1 < run.end.at). inr (one f t i l m, m)) (λ (m : run.end.at ≤ i + 1). let e : x ≡ i = omega arith in inl (subst (Place (so.ks ++ x ∷ [])) e (place_last so.ks x))) (cases_lt (i + 1) run.end.at))
            (cases_lt i s.at);
      }

-- ---- all of them
differ : (v w : ℤ) → v ≢ w → not (int_eq v w) ≡ true
differ v w ne = elim (int_eq v w) as (λ z. int_eq v w ≡ z → not z ≡ true) [
  | true ↦ λ e. absurd (ne (grind (arith, ints)))
  | false ↦ λ _. refl
] refl

pub agree : (v w : ℤ) → v ≡ w → not (int_eq v w) ≡ false
agree v w e = let x : int_eq v w ≡ true = grind (arith, ints) in ap not x

or_true : (t : Bool) → (t || true) ≡ true
or_true true = refl
or_true false = refl

ends_yes : (n : ℕ) (f : Slice) (i : ℕ) → i < n → (i + 1 < n → f (i ∷ []) ≢ f ((i + 1) ∷ [])) → ends_run n f i ≡ true
ends_yes n f i lt ne =
    ⊎_elim
    (λ (e : i + 1 ≡ n). let x : nat_eq (i + 1) n ≡ true = grind (arith, nat_tests) in ap (λ (t : Bool). t || not (int_eq (f (i ∷ [])) (f ((i + 1) ∷ [])))) x)
    (λ (o : i + 1 ≢ n). ap (λ (t : Bool). nat_eq (i + 1) n || t) (differ (f (i ∷ [])) (f ((i + 1) ∷ [])) (ne (omega (arith, o)))) ∙ or_true (nat_eq (i + 1) n))
    (cases_eq (i + 1) n)

ends_no : (n : ℕ) (f : Slice) (i : ℕ) → i + 1 < n → f (i ∷ []) ≡ f ((i + 1) ∷ []) → ends_run n f i ≡ false
ends_no n f i lt e =
    let x : nat_eq (i + 1) n ≡ false = grind (arith, nat_tests) in
    ap (λ (t : Bool). t || not (int_eq (f (i ∷ [])) (f ((i + 1) ∷ [])))) x ∙ agree (f (i ∷ [])) (f ((i + 1) ∷ [])) e

module _ (es : List Entry) (fill : ℤ) (d n a b : ℕ) (s : Spot) (stop stop' : List ℕ) (next next' : List Range) (so : RunsSoFar es fill d n a b s stop stop' next next') (le : n ≤ s.at) where
  rising_all : IsRising 0 n so.ks
  rising_all = let e : s.at ≡ n = omega (arith, so.within) in subst (λ (z : ℕ). IsRising 0 z so.ks) e so.rising

  pub runs_are_kept : (f : Slice) → Tells es fill (n ∷ []) d a b f → so.ks ≡ filter (ends_run n f) (range_with_len 0 n)
  runs_are_kept f t =
      let r = filter_rising (ends_run n f) 0 n n (omega arith) in
      let has : (i : ℕ) → Place so.ks i → Place (filter (ends_run n f) (range_with_len 0 n)) i = (λ i p. let lt : i < n = omega (arith, rising_all.high p.j p.within, p.is) in filter_has (ends_run n f) 0 n i (omega arith) (omega arith) (ends_yes n f i lt (so.ends f t i p))) in
      let only : (i : ℕ) → Place (filter (ends_run n f) (range_with_len 0 n)) i → Place so.ks i = (λ i p.
      let lt : i < n = omega (arith, r.high p.j p.within, p.is) in
      ⊎_elim (λ (o : Place so.ks i). o)
      (λ (o : (f (i ∷ []) ≡ f ((i + 1) ∷ [])) × (i + 1 < s.at)).
      let x : true ≡ false = sym (filter_sound (ends_run n f) 0 n i p) ∙ ends_no n f i (omega (arith, o.1, so.within)) o.0 in
      absurd (cc))
      (so.inner f t i (omega arith))) in
      same_rising 0 n so.ks (filter (ends_run n f) (range_with_len 0 n)) rising_all r has only

  pub runs_all : Added level.Runs es fill d n a b stop stop' next next'
  runs_all = record {
    ks = so.ks;
    rs = so.rs;
    numbers_are = so.stop_is;
    next_is = so.next_is;
    keeps = record {
      long = so.long;
      kept_are = λ ns f last t. let e = last refl in runs_are_kept f (subst (λ (z : List ℕ). Tells es fill (n ∷ z) d a b f) e t);
      cut = so.cut;
    };
  }
