-- A canonical storage keeps no more than a valid storage of its function.
use Rattle.std.proofs.Common.{◌≡◌, ◌≢◌, ℕ, zero, suc, ◌+◌, ◌-◌, ◌*◌, ◌^◌, ◌<◌, ◌≤◌, List, [], ◌∷◌, ◌++◌, map, length, refl, sym, ap, ◌∙◌, subst, ⊎_elim, arith, cond, ℤ, IsTrue, Bool, true, false, Option, Some, None, unwrap_or, if◌then◌else◌}
use Rattle.std.specs.Prelude.{slice_index, filter, not, nat_lt, nat_eq, ◌&&◌, ◌||◌}
use Rattle.std.specs.List.{range_with_len}
use Rattle.std.specs.Ordering.{int_eq}
use Rattle.std.proofs.lemmas.Bool.{cases_lt, ltb-true, lt-ltb}
use Rattle.std.proofs.lemmas.Bool.Decides.{nat_tests}
use Rattle.std.proofs.lemmas.Int.{ints}
use Rattle.std.proofs.lemmas.List.FromFn.{length-range_with_len, get_or-range_with_len}
use Rattle.fin_tensor.specs.declared.format.Level.{Level}
use Rattle.fin_tensor.specs.declared.format.Level.TheVariants as level
use Rattle.fin_tensor.specs.declared.part.Part.{Part}
use Rattle.fin_tensor.specs.declared.part.Part.TheVariants as part
use Rattle.fin_tensor.specs.TensorFunction.{is_in_box, box, value_at}
use Rattle.fin_tensor.specs.Levels.{AreSmall, IsLevel, IsStored, IsPtr, IsIdx, IsStop, positions, fibre_from, fibre_to, first_from, key_in, block_in, child_in, below, value_from}
use Rattle.fin_tensor.specs.Stands.{stands}
use Rattle.fin_tensor.specs.Canon.{Slice, slice_at, is_fill_at, has_value, ends_run, last_of, span_of, kept, next, IsAllowed}
use Rattle.fin_tensor.proofs.Fibres.{first_place, ptr_rises, fibre_of_level}
use Rattle.fin_tensor.proofs.Tabulated.{AllIn, all_box, stands_at, tabulated_fill, tabulated_shape}
use Rattle.fin_tensor.proofs.Walk.{run_below, stored_extents, stored_levels}
use Rattle.fin_canon.specs.Laws.{CanonicalStaysValid}
use Rattle.fin_canon.proofs.Canonical.{canonical}
use Rattle.fin_canon.proofs.Kept.{IsRising, filter_rising}
use Rattle.fin_canon.proofs.Placed.{IsPlacedOver, placed_over, placed_rest}
use Rattle.fin_canon.proofs.Positions.{Climbs, climbs_append, climbs_length, climbs_lower, climbs_map, Shows, AllShow, all_show_append, all_show_length, all_show_map}
use Rattle.fin_canon.proofs.Standing.{last_is}

-- ---- what a filter keeps
tail_sound : (p : ℕ → Bool) (x : ℕ) (ks : List ℕ) → p x ≡ true → ((j : ℕ) → j < length ks → p (slice_index ks j) ≡ true) → (j : ℕ) → j < length (x ∷ ks) → p (slice_index (x ∷ ks) j) ≡ true
tail_sound p x ks t h zero l = t
tail_sound p x ks t h (suc j) l = h j (omega arith)

either_sound : (p : ℕ → Bool) (x : ℕ) (ks : List ℕ) (b : Bool) → p x ≡ b → ((j : ℕ) → j < length ks → p (slice_index ks j) ≡ true) → (j : ℕ) → j < length (cond b (x ∷ ks) ks) → p (slice_index (cond b (x ∷ ks) ks) j) ≡ true
either_sound p x ks true t h = tail_sound p x ks t h
either_sound p x ks false t h = h

filter_sound : (p : ℕ → Bool) (xs : List ℕ) (j : ℕ) → j < length (filter p xs) → p (slice_index (filter p xs) j) ≡ true
filter_sound p [] j h = absurd (omega arith)
filter_sound p (x ∷ xs) j h = either_sound p x (filter p xs) (p x) refl (filter_sound p xs) j h

-- ---- slices that have another value than the fill
equal_int : (v w : ℤ) → v ≡ w → int_eq v w ≡ true
equal_int v w e = grind (arith, ints)

all_fill : (fill : ℤ) (f : Slice) (ns : List ℕ) (css : List (List ℕ)) → AllIn ns css → ((cs : List ℕ) → IsTrue (is_in_box ns cs) → f cs ≡ fill) → is_fill_at fill f css ≡ true
all_fill fill f ns [] a h = refl
all_fill fill f ns (c ∷ css) a h =
    let x : int_eq (f c) fill ≡ true = equal_int (f c) fill (h c a.0) in
    let y = all_fill fill f ns css a.1 h in
    rw (x, y) refl

no_value : (fill : ℤ) (ns : List ℕ) (f : Slice) (i : ℕ) → ((cs : List ℕ) → IsTrue (is_in_box ns cs) → f (i ∷ cs) ≡ fill) → has_value fill ns f i ≡ false
no_value fill ns f i h = ap not (all_fill fill (slice_at f i) ns (box ns) (all_box ns) h)

-- ---- a level below one position
module _ (n : ℕ) (p : Part) (q : ℕ) where
  abbrev pub child_of : ℕ → ℕ
  child_of i = unwrap_or (child_in n p q i) 0

  -- each of the coordinates has a child, and these climb within the fibre
  pub record HasChildren (ks : List ℕ) : Type 0 where
    pub inside : (j : ℕ) → j < length ks → slice_index ks j < n
    pub there : (j : ℕ) → j < length ks → child_in n p q (slice_index ks j) ≡ Some (child_of (slice_index ks j))
    pub low : (j : ℕ) → j < length ks → fibre_from n p q ≤ child_of (slice_index ks j)
    pub high : (j : ℕ) → j < length ks → child_of (slice_index ks j) < fibre_to n p q
    pub rises : (j : ℕ) → j + 1 < length ks → child_of (slice_index ks j) < child_of (slice_index ks (j + 1))

in_box_cons : (n i : ℕ) (ns cs : List ℕ) → i < n → IsTrue (is_in_box ns cs) → IsTrue (is_in_box (n ∷ ns) (i ∷ cs))
in_box_cons n i ns cs lt h = let a = lt-ltb i n lt in rw (a, h) refl

-- a kept coordinate has a child
there_by : (o : Option ℕ) → (o ≡ None → ⊥) → o ≡ Some (unwrap_or o 0)
there_by None h = absurd (h refl)
there_by (Some x) h = refl

module _ (n : ℕ) (ns : List ℕ) (p : Part) (ps : List Part) (val : List ℤ) (fill : ℤ) (q : ℕ) (f : Slice) (shows : Shows (n ∷ ns) (p ∷ ps) val fill q f) where
  none_is_fill : (i : ℕ) → i < n → child_in n p q i ≡ None → (cs : List ℕ) → IsTrue (is_in_box ns cs) → f (i ∷ cs) ≡ fill
  none_is_fill i lt e cs within = shows (i ∷ cs) (in_box_cons n i ns cs lt within) ∙ ap (λ (o : Option ℕ). below o (λ r. value_from ns ps val fill r cs) fill) e

  value_has_child : (i : ℕ) → i < n → has_value fill ns f i ≡ true → child_in n p q i ≡ Some (child_of n p q i)
  value_has_child i lt t = there_by (child_in n p q i) (λ e. let x : true ≡ false = sym t ∙ no_value fill ns f i (none_is_fill i lt e) in cc)

  child_shows : (i : ℕ) → i < n → child_in n p q i ≡ Some (child_of n p q i) → Shows ns ps val fill (child_of n p q i) (slice_at f i)
  child_shows i lt e cs within = shows (i ∷ cs) (in_box_cons n i ns cs lt within) ∙ ap (λ (o : Option ℕ). below o (λ r. value_from ns ps val fill r cs) fill) e

-- ---- the kinds of level
both_left : (a b : Bool) → (a && b) ≡ true → a ≡ true
both_left true b h = refl
both_left false b h = h

both_right : (a b : Bool) → (a && b) ≡ true → b ≡ true
both_right true b h = h
both_right false b h = cc

pub some_is : (x y : ℕ) → Some x ≡ Some y → x ≡ y
some_is x y e = ap (λ (o : Option ℕ). unwrap_or o 0) e

eq_is : (a b : ℕ) → nat_eq a b ≡ true → a ≡ b
eq_is a b h = grind (arith, nat_tests)

-- the place of a key
pub record IsPlaceOf (xs : List ℕ) (from to key r : ℕ) : Type 0 where
  pub low : from ≤ r
  pub high : r < to
  pub is : slice_index xs r ≡ key

pub key_place : (xs : List ℕ) (from to key r : ℕ) → from ≤ to → key_in xs from to key ≡ Some r → IsPlaceOf xs from to key r
key_place xs from to key r le e =
    let m = first_from xs key from (to - from) in
    let f = first_place xs key from to le in
    elim (nat_lt m to && nat_eq (slice_index xs m) key) as (λ b. (nat_lt m to && nat_eq (slice_index xs m) key) ≡ b → (if b then Some m else None) ≡ Some r → IsPlaceOf xs from to key r) [
      | true ↦ λ t s.
          let same : m ≡ r = some_is m r s in
          subst (λ (x : ℕ). IsPlaceOf xs from to key x) same (record {
            low = f.low;
            high = ltb-true m to (both_left (nat_lt m to) (nat_eq (slice_index xs m) key) t);
            is = eq_is (slice_index xs m) key (both_right (nat_lt m to) (nat_eq (slice_index xs m) key) t);
          })
      | false ↦ λ t s. cc
    ] refl e

-- the place of a coordinate in a block
pub record IsInBlock (from to start i r : ℕ) : Type 0 where
  pub low : start ≤ i
  pub high : i - start < to - from
  pub is : r ≡ from + (i - start)

pub in_block : (from to start i r : ℕ) → block_in from to start i ≡ Some r → IsInBlock from to start i r
in_block from to start i r e =
    elim (nat_lt i start) as (λ b. nat_lt i start ≡ b → (if b then None else (if nat_lt (i - start) (to - from) then Some (from + (i - start)) else None)) ≡ Some r → IsInBlock from to start i r) [
      | true ↦ λ t s. cc
      | false ↦ λ up.
          elim (nat_lt (i - start) (to - from)) as (λ b. nat_lt (i - start) (to - from) ≡ b → (if b then Some (from + (i - start)) else None) ≡ Some r → IsInBlock from to start i r) [
            | true ↦ λ t s. record { low = (let le : start ≤ i = grind (arith, nat_tests) in le); high = ltb-true (i - start) (to - from) t; is = sym (some_is (from + (i - start)) r s) }
            | false ↦ λ t s. cc
          ] refl
    ] refl e

pub block_has : (from to start i : ℕ) → start ≤ i → i - start < to - from → block_in from to start i ≡ Some (from + (i - start))
block_has from to start i le lt =
    let a : nat_lt i start ≡ false = grind (arith, nat_tests) in
    let b : nat_lt (i - start) (to - from) ≡ true = grind (arith, nat_tests) in
    rw (a, b) refl

dense_children : (n q : ℕ) → HasChildren n part.Dense q (range_with_len 0 n)
dense_children n q =
    let at : (j : ℕ) → j < length (range_with_len 0 n) → (j < n) × (slice_index (range_with_len 0 n) j ≡ j) = (λ j h. let lt : j < n = omega (arith, length-range_with_len 0 n) in (lt, omega (arith, get_or-range_with_len 0 n j 0 lt))) in
    record {
      inside = λ j h. omega (arith, (at j h).0, (at j h).1);
      there = λ j h. refl;
      low = λ j h. omega arith;
      high = λ j h. omega (arith, (at j h).0, (at j h).1);
      rises = λ j h. omega (arith, (at j (omega arith)).1, (at (j + 1) h).1);
    }

module _ (n : ℕ) (ns : List ℕ) (ps : List Part) (val : List ℤ) (fill : ℤ) (count q : ℕ) (f : Slice) (lt : q < count) where
  keys_children : (ptr idx : List ℕ) → IsPtr count ptr → IsIdx n count ptr idx → Shows (n ∷ ns) (part.Keys ptr idx ∷ ps) val fill q f → HasChildren n (part.Keys ptr idx) q (filter (has_value fill ns f) (range_with_len 0 n))
  keys_children ptr idx p x shows =
      let ks = filter (has_value fill ns f) (range_with_len 0 n) in
      let r = filter_rising (has_value fill ns f) 0 n n (omega arith) in
      let fibre = fibre_of_level count ptr idx q p x.long x.rises lt in
      let there : (j : ℕ) → j < length ks → child_in n (part.Keys ptr idx) q (slice_index ks j) ≡ Some (child_of n (part.Keys ptr idx) q (slice_index ks j)) =
      (λ j h. value_has_child n ns (part.Keys ptr idx) ps val fill q f shows (slice_index ks j) (r.high j h) (filter_sound (has_value fill ns f) (range_with_len 0 n) j h)) in
      let place : (j : ℕ) → j < length ks → IsPlaceOf idx (slice_index ptr q) (slice_index ptr (q + 1)) (slice_index ks j) (child_of n (part.Keys ptr idx) q (slice_index ks j)) =
      (λ j h. key_place idx (slice_index ptr q) (slice_index ptr (q + 1)) (slice_index ks j) (child_of n (part.Keys ptr idx) q (slice_index ks j)) fibre.order (there j h)) in
      record {
        inside = λ j h. r.high j h;
        there = there;
        low = λ j h. (place j h).low;
        high = λ j h. (place j h).high;
        rises = λ j h.
            let a = place j (omega arith) in
            let b = place (j + 1) h in
            let u = child_of n (part.Keys ptr idx) q (slice_index ks j) in
            let v = child_of n (part.Keys ptr idx) q (slice_index ks (j + 1)) in
            ⊎_elim (λ (l : u < v). l) (λ (l : v ≤ u). absurd (omega (arith, fibre.rises v u b.low l a.high, a.is, b.is, r.rises j h))) (cases_lt u v);
      }

  span_children : (ptr start ks : List ℕ) → slice_index ptr q ≤ slice_index ptr (q + 1) → IsRising 0 n ks → ((j : ℕ) → j < length ks → child_in n (part.Band ptr start) q (slice_index ks j) ≡ Some (child_of n (part.Band ptr start) q (slice_index ks j))) → HasChildren n (part.Band ptr start) q (span_of ks)
  span_children ptr start [] le r there = record { inside = λ j h. absurd (omega arith); there = λ j h. absurd (omega arith); low = λ j h. absurd (omega arith); high = λ j h. absurd (omega arith); rises = λ j h. absurd (omega arith) }
  span_children ptr start (x ∷ ks) le r there =
      let from = slice_index ptr q in
      let to = slice_index ptr (q + 1) in
      let s = slice_index start q in
      let m = last_of x ks + 1 - x in
      let a = in_block from to s x (child_of n (part.Band ptr start) q x) (there 0 (omega arith)) in
      let z = in_block from to s (slice_index (x ∷ ks) (length ks)) (child_of n (part.Band ptr start) q (slice_index (x ∷ ks) (length ks))) (there (length ks) (omega arith)) in
      let end : last_of x ks ≡ slice_index (x ∷ ks) (length ks) = last_is x ks in
      let top = r.high (length ks) (omega arith) in
      let at : (j : ℕ) → j < length (range_with_len x m) → (j < m) × (slice_index (range_with_len x m) j ≡ x + j) = (λ j h. let lt : j < m = omega (arith, length-range_with_len x m) in (lt, get_or-range_with_len x m j 0 lt)) in
      let is : (j : ℕ) → j < length (range_with_len x m) → block_in from to s (slice_index (range_with_len x m) j) ≡ Some (from + (slice_index (range_with_len x m) j - s)) =
      (λ j h. block_has from to s (slice_index (range_with_len x m) j) (omega (arith, (at j h).1, a.low)) (omega (arith, (at j h).0, (at j h).1, z.high, end, a.low))) in
      let child : (j : ℕ) → j < length (range_with_len x m) → child_of n (part.Band ptr start) q (slice_index (range_with_len x m) j) ≡ from + (slice_index (range_with_len x m) j - s) = (λ j h. ap (λ (o : Option ℕ). unwrap_or o 0) (is j h)) in
      record {
        inside = λ j h. omega (arith, (at j h).0, (at j h).1, end, top);
        there = λ j h. is j h ∙ ap Some (sym (child j h));
        low = λ j h. omega (arith, child j h);
        high = λ j h. omega (arith, child j h, (at j h).0, (at j h).1, z.high, end, a.low);
        rises = λ j h. omega (arith, child j (omega arith), child (j + 1) h, (at j (omega arith)).1, (at (j + 1) h).1, a.low);
      }

  band_children : (ptr start : List ℕ) → IsPtr count ptr → Shows (n ∷ ns) (part.Band ptr start ∷ ps) val fill q f → HasChildren n (part.Band ptr start) q (span_of (filter (has_value fill ns f) (range_with_len 0 n)))
  band_children ptr start p shows =
      let ks = filter (has_value fill ns f) (range_with_len 0 n) in
      let r = filter_rising (has_value fill ns f) 0 n n (omega arith) in
      span_children ptr start ks (p.rises q lt) r
      (λ j h. value_has_child n ns (part.Band ptr start) ps val fill q f shows (slice_index ks j) (r.high j h) (filter_sound (has_value fill ns f) (range_with_len 0 n) j h))

-- runs
first_climbs : (xs : List ℕ) (key key' from to : ℕ) → from ≤ to → key ≤ key' → first_from xs key from (to - from) ≤ first_from xs key' from (to - from)
first_climbs xs key key' from to le up =
    let a = first_place xs key from to le in
    let b = first_place xs key' from to le in
    let u = first_from xs key from (to - from) in
    let v = first_from xs key' from (to - from) in
    ⊎_elim (λ (l : v < u). absurd (omega (arith, a.before v b.low l, b.here (omega (arith, a.high))))) (λ (l : u ≤ v). l) (cases_lt v u)

run_differs : (n : ℕ) (f : Slice) (i : ℕ) → i + 1 < n → ends_run n f i ≡ true → f (i ∷ []) ≢ f ((i + 1) ∷ [])
run_differs n f i lt t e =
    let a : nat_eq (i + 1) n ≡ false = grind (arith, nat_tests) in
    let b : int_eq (f (i ∷ [])) (f ((i + 1) ∷ [])) ≡ true = equal_int (f (i ∷ [])) (f ((i + 1) ∷ [])) e in
    let c : (nat_eq (i + 1) n || not (int_eq (f (i ∷ [])) (f ((i + 1) ∷ [])))) ≡ false = rw (a, b) refl in
    let x : true ≡ false = sym t ∙ c in
    cc

module _ (n : ℕ) (ps : List Part) (val : List ℤ) (fill : ℤ) (count q : ℕ) (f : Slice) (lt : q < count) (ptr stop : List ℕ) (p : IsPtr count ptr) (s : IsStop n count ptr stop) (shows : Shows (n ∷ []) (part.Runs ptr stop ∷ ps) val fill q f) where
  run_changes : (i : ℕ) → i + 1 < n → ends_run n f i ≡ true → child_of n (part.Runs ptr stop) q i < child_of n (part.Runs ptr stop) q (i + 1)
  run_changes i h t =
      let u = child_of n (part.Runs ptr stop) q i in
      let v = child_of n (part.Runs ptr stop) q (i + 1) in
      let le : u ≤ v = first_climbs stop (i + 1) (i + 1 + 1) (slice_index ptr q) (slice_index ptr (q + 1)) (p.rises q lt) (omega arith) in
      ⊎_elim (λ (l : u < v). l)
      (λ (l : v ≤ u).
      let same : u ≡ v = omega arith in
      let a = child_shows n [] (part.Runs ptr stop) ps val fill q f shows i (omega arith) refl [] refl in
      let b = child_shows n [] (part.Runs ptr stop) ps val fill q f shows (i + 1) h refl [] refl in
      absurd (run_differs n f i h t (a ∙ ap (λ (r : ℕ). value_from [] ps val fill r []) same ∙ sym b)))
      (cases_lt u v)

  runs_children : HasChildren n (part.Runs ptr stop) q (filter (ends_run n f) (range_with_len 0 n))
  runs_children =
      let ks = filter (ends_run n f) (range_with_len 0 n) in
      let r = filter_rising (ends_run n f) 0 n n (omega arith) in
      record {
        inside = λ j h. r.high j h;
        there = λ j h. refl;
        low = λ j h. (first_place stop (slice_index ks j + 1) (slice_index ptr q) (slice_index ptr (q + 1)) (p.rises q lt)).low;
        high = λ j h. run_below n count ptr stop q (slice_index ks j) p s lt (r.high j h);
        rises = λ j h.
            let i = slice_index ks j in
            let k = slice_index ks (j + 1) in
            let up : i < k = r.rises j h in
            let top : k < n = r.high (j + 1) h in
            let change = run_changes i (omega arith) (filter_sound (ends_run n f) (range_with_len 0 n) j (omega arith)) in
            let more : child_of n (part.Runs ptr stop) q (i + 1) ≤ child_of n (part.Runs ptr stop) q k = first_climbs stop (i + 1 + 1) (k + 1) (slice_index ptr q) (slice_index ptr (q + 1)) (p.rises q lt) (omega arith) in
            omega (arith, change, more);
      }

-- the kept coordinates of a slice have children, whatever the level
level_children : (l : Level) (n count : ℕ) (ns : List ℕ) (p : Part) (ps : List Part) (val : List ℤ) (fill : ℤ) (q : ℕ) (f : Slice) → (l ≡ level.Runs → ns ≡ []) → IsLevel l n count p → q < count → Shows (n ∷ ns) (p ∷ ps) val fill q f → HasChildren n p q (kept l fill n ns f)
level_children level.Dense n count ns part.Dense ps val fill q f last h lt shows = dense_children n q
level_children level.List n count ns (part.Keys ptr idx) ps val fill q f last h lt shows = keys_children n ns ps val fill count q f lt ptr idx h.0 h.1 shows
level_children level.Dict n count ns (part.Keys ptr idx) ps val fill q f last h lt shows = keys_children n ns ps val fill count q f lt ptr idx h.0 h.1 shows
level_children level.Band n count ns (part.Band ptr start) ps val fill q f last h lt shows = band_children n ns ps val fill count q f lt ptr start h.0 shows
level_children level.Runs n count ns (part.Runs ptr stop) ps val fill q f last h lt shows =
    runs_children n ps val fill count q f lt ptr stop h.0 h.1 (subst (λ (ms : List ℕ). Shows (n ∷ ms) (part.Runs ptr stop ∷ ps) val fill q f) (last refl) shows)
level_children l n count ns p ps val fill q f last h lt shows = absurd h

-- ---- the fibres of a level
times_up : (n a d : ℕ) → a * n ≤ (a + d) * n
times_up n a d = let e : (a + d) * n ≡ a * n + d * n = grind arith in omega (arith, e)

pub fibre_next : (n : ℕ) (p : Part) (q : ℕ) → fibre_to n p q ≡ fibre_from n p (q + 1)
fibre_next n part.Dense q = let e : (q + 1) * n ≡ q * n + n = grind arith in sym e
fibre_next n (part.Keys ptr idx) q = refl
fibre_next n (part.Runs ptr stop) q = refl
fibre_next n (part.Band ptr start) q = refl

pub fibre_all : (n : ℕ) (p : Part) (count : ℕ) → fibre_from n p count ≡ positions n count p
fibre_all n part.Dense count = refl
fibre_all n (part.Keys ptr idx) count = refl
fibre_all n (part.Runs ptr stop) count = refl
fibre_all n (part.Band ptr start) count = refl

pub fibres_climb : (l : Level) (n count : ℕ) (p : Part) → IsLevel l n count p → (a b : ℕ) → a ≤ b → b ≤ count → fibre_from n p a ≤ fibre_from n p b
fibres_climb level.Dense n count part.Dense h a b le up = let e : a + (b - a) ≡ b = omega arith in subst (λ (x : ℕ). a * n ≤ x * n) e (times_up n a (b - a))
fibres_climb level.List n count (part.Keys ptr idx) h a b le up = ptr_rises count ptr h.0 a b le up
fibres_climb level.Dict n count (part.Keys ptr idx) h a b le up = ptr_rises count ptr h.0 a b le up
fibres_climb level.Runs n count (part.Runs ptr stop) h a b le up = ptr_rises count ptr h.0 a b le up
fibres_climb level.Band n count (part.Band ptr start) h a b le up = ptr_rises count ptr h.0 a b le up
fibres_climb l n count p h a b le up = absurd h

-- ---- all levels
module _ (l : Level) (n count : ℕ) (ns : List ℕ) (p : Part) (ps : List Part) (val : List ℤ) (fill : ℤ) (last : l ≡ level.Runs → ns ≡ []) (h : IsLevel l n count p) where
  -- the positions of the kept slices
  abbrev nexts : List ℕ → List Slice → List ℕ
  nexts [] fs = []
  nexts (q ∷ qs) [] = []
  nexts (q ∷ qs) (f ∷ fs) = map (child_of n p q) (kept l fill n ns f) ++ nexts qs fs

  nexts_climb : (qs : List ℕ) (fs : List Slice) (a : ℕ) → a ≤ count → Climbs a count qs → AllShow (n ∷ ns) (p ∷ ps) val fill qs fs → Climbs (fibre_from n p a) (fibre_from n p count) (nexts qs fs)
  nexts_climb [] fs a le c s = tt
  nexts_climb (q ∷ qs) [] a le c s = tt
  nexts_climb (q ∷ qs) (f ∷ fs) a le c s =
      let K = kept l fill n ns f in
      let up : q + 1 ≤ count = omega (arith, c.1) in
      let children = level_children l n count ns p ps val fill q f last h c.1 s.0 in
      let one : Climbs (fibre_from n p q) (fibre_from n p (q + 1)) (map (child_of n p q) K) = climbs_map (child_of n p q) (fibre_from n p q) (fibre_from n p (q + 1)) K children.low (λ j lt. subst (λ (x : ℕ). child_of n p q (slice_index K j) < x) (fibre_next n p q) (children.high j lt)) children.rises in
      climbs_lower (fibre_from n p q) (fibre_from n p a) (fibre_from n p count) (nexts (q ∷ qs) (f ∷ fs)) (fibres_climb l n count p h a q c.0 (omega arith))
      (climbs_append (fibre_from n p q) (fibre_from n p (q + 1)) (fibre_from n p count) (map (child_of n p q) K) (nexts qs fs) (fibres_climb l n count p h q (q + 1) (omega arith) up) (fibres_climb l n count p h (q + 1) count up (omega arith)) one (nexts_climb qs fs (q + 1) up c.2 s.1))

  nexts_show : (qs : List ℕ) (fs : List Slice) (a : ℕ) → Climbs a count qs → AllShow (n ∷ ns) (p ∷ ps) val fill qs fs → AllShow ns ps val fill (nexts qs fs) (next (kept l fill n ns) fs)
  nexts_show [] [] a c s = tt
  nexts_show [] (f ∷ fs) a c s = absurd s
  nexts_show (q ∷ qs) [] a c s = absurd s
  nexts_show (q ∷ qs) (f ∷ fs) a c s =
      let K = kept l fill n ns f in
      let children = level_children l n count ns p ps val fill q f last h c.1 s.0 in
      all_show_append ns ps val fill (map (child_of n p q) K) (nexts qs fs) (map (slice_at f) K) (next (kept l fill n ns) fs)
      (all_show_map ns ps val fill (child_of n p q) f K (λ j lt. child_shows n ns p ps val fill q f s.0 (slice_index K j) (children.inside j lt) (children.there j lt)))
      (nexts_show qs fs (q + 1) c.2 s.1)

few_slices : (ns : List ℕ) (ps : List Part) (val : List ℤ) (fill : ℤ) (count : ℕ) (qs : List ℕ) (fs : List Slice) → count ≤ 2 ^ 40 → Climbs 0 count qs → AllShow ns ps val fill qs fs → length fs ≤ 2 ^ 40
few_slices ns ps val fill count qs fs le c s = omega (arith, climbs_length 0 count qs c, all_show_length ns ps val fill qs fs s)

pub keeps_fewer : (ls : List Level) (ns : List ℕ) (ps : List Part) (val : List ℤ) (fill : ℤ) (count : ℕ) (qs : List ℕ) (fs : List Slice) → IsPlacedOver ls ns → IsStored count ls ns ps val → Climbs 0 count qs → AllShow ns ps val fill qs fs → IsAllowed ls fill ns fs
keeps_fewer [] [] [] val fill count qs fs placed v c s = few_slices [] [] val fill count qs fs v.0 c s
keeps_fewer [] [] (p ∷ ps) val fill count qs fs placed v c s = absurd v
keeps_fewer [] (n ∷ ns) ps val fill count qs fs placed v c s = absurd v
keeps_fewer (l ∷ ls) [] ps val fill count qs fs placed v c s = absurd v
keeps_fewer (l ∷ ls) (n ∷ ns) [] val fill count qs fs placed v c s = absurd v
keeps_fewer (l ∷ ls) (n ∷ ns) (p ∷ ps) val fill count qs fs placed v c s =
    let rest = placed_rest l ls n ns placed in
    let climb = nexts_climb l n count ns p ps val fill rest.1 v.2 qs fs 0 (omega arith) c s in
    let first : Climbs 0 (positions n count p) (nexts l n count ns p ps val fill rest.1 v.2 qs fs) = climbs_lower (fibre_from n p 0) 0 (positions n count p) (nexts l n count ns p ps val fill rest.1 v.2 qs fs) (omega arith) (subst (λ (x : ℕ). Climbs (fibre_from n p 0) x (nexts l n count ns p ps val fill rest.1 v.2 qs fs)) (fibre_all n p count) climb) in (
      few_slices (n ∷ ns) (p ∷ ps) val fill count qs fs v.0 c s,
      keeps_fewer ls ns ps val fill (positions n count p) (nexts l n count ns p ps val fill rest.1 v.2 qs fs) (next (kept l fill n ns) fs) rest.0 v.3 first (nexts_show l n count ns p ps val fill rest.1 v.2 qs fs 0 c s),
    )

-- the canonical storage of a storage's function is valid
pub canonical_stays_valid : CanonicalStaysValid
canonical_stays_valid s =
    let g = value_from s.shape s.parts s.val s.format.fill 0 in
    let shape : (stands s).shape ≡ s.shape = tabulated_shape s.shape s.format.fill g in
    let fill : (stands s).fill ≡ s.format.fill = tabulated_fill s.shape s.format.fill g in
    let levels : length s.shape ≡ length s.format.levels = stored_levels 1 s.format.levels s.shape s.parts s.val s.valid in
    let own : IsAllowed s.format.levels s.format.fill s.shape (value_at (stands s) ∷ []) = keeps_fewer s.format.levels s.shape s.parts s.val s.format.fill 1 (0 ∷ []) (value_at (stands s) ∷ []) (placed_over s.format.levels s.shape s.placed.runs levels) s.valid (omega arith, omega arith, tt) (λ cs within. stands_at s cs within, tt) in
    let allowed : IsAllowed s.format.levels (stands s).fill (stands s).shape (value_at (stands s) ∷ []) =
    subst (λ (v : ℤ). IsAllowed s.format.levels v (stands s).shape (value_at (stands s) ∷ [])) (sym fill)
    (subst (λ (ns : List ℕ). IsAllowed s.format.levels s.format.fill ns (value_at (stands s) ∷ [])) (sym shape) own) in
    canonical s.format (stands s)
    (record { placed = s.placed; bare = s.bare; fill = sym fill; long = ap (λ (ns : List ℕ). length ns) shape ∙ levels; small = subst (λ (ns : List ℕ). AreSmall ns) (sym shape) (stored_extents 1 s.format.levels s.shape s.parts s.val s.valid) })
    allowed
