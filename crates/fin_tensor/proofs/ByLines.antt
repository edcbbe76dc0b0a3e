-- Validity, line by line.
use Rattle.std.proofs.Common.{◌≡◌, ◌↔◌, ℕ, zero, suc, ◌+◌, ◌-◌, ◌^◌, ◌<◌, ◌≤◌, List, [], ◌∷◌, ◌++◌, length, min, refl, sym, ap, ◌∙◌, subst, ⊎_elim, arith, ℤ, IsTrue, Bool}
use Rattle.std.specs.Prelude.{slice_index, slice_index_or}
use Rattle.std.proofs.lemmas.Bool.{cases_lt}
use Rattle.std.proofs.lemmas.List.{get_or_append_left, get_or_at, length_push}
use Rattle.fin_tensor.specs.declared.format.Level.{Level}
use Rattle.fin_tensor.specs.declared.format.Level.TheVariants as level
use Rattle.fin_tensor.specs.declared.part.Part.{Part}
use Rattle.fin_tensor.specs.declared.part.Part.TheVariants as part
use Rattle.fin_tensor.specs.Levels.{AreSmall, IsPtr, IsLevel, IsStored, positions, fibres}
use Rattle.fin_tensor.specs.Lines.{AreLevels, AreFew, AreLines, due, ValidByLines}
use Rattle.fin_tensor.proofs.Fibres.{rises_by}
use Rattle.fin_tensor.proofs.Walk.{fibres_more, fibres_kept, stored_extents, stored_lengths, stored_levels, stored_small, stored_values}

pub ptr_from : (fibres : ℕ) (ptr : List ℕ) → length ptr ≡ fibres + 1 → slice_index ptr 0 ≡ 0 → ((p : ℕ) → p < fibres → slice_index ptr p ≤ slice_index ptr (p + 1)) → slice_index ptr fibres ≤ 2 ^ 40 → IsPtr fibres ptr
ptr_from fibres ptr long first rises small = record {
  small = λ k h.
      let e : k + (fibres - k) ≡ fibres = omega (arith, long) in
      omega (arith, rises_by ptr fibres k (fibres - k) rises (omega (arith, long)), ap (slice_index ptr) e);
  long = long;
  first = first;
  rises = rises;
}

-- ---- a storage is valid where its lines are
levels_tail : (count n : ℕ) (ls : List Level) (l : Level) (ns : List ℕ) (p : Part) (ps : List Part) →
    ((k : ℕ) → k < length (p ∷ ps) → IsLevel (slice_index_or (l ∷ ls) k level.Dense) (slice_index (n ∷ ns) k) (fibres (n ∷ ns) (p ∷ ps) count k) (slice_index_or (p ∷ ps) k part.Dense)) →
    (k : ℕ) → k < length ps → IsLevel (slice_index_or ls k level.Dense) (slice_index ns k) (fibres ns ps (positions n count p) k) (slice_index_or ps k part.Dense)
levels_tail count n ls l ns p ps h k lt = h (suc k) (omega arith)

stored_from : (count : ℕ) (ls : List Level) (ns : List ℕ) (ps : List Part) (val : List ℤ) → length ns ≡ length ls → length ps ≡ length ls → AreSmall ns →
    ((k : ℕ) → k < length ps → IsLevel (slice_index_or ls k level.Dense) (slice_index ns k) (fibres ns ps count k) (slice_index_or ps k part.Dense)) →
    ((k : ℕ) → k ≤ length ps → fibres ns ps count k ≤ 2 ^ 40) → length val ≡ fibres ns ps count (length ps) → IsStored count ls ns ps val
stored_from count [] [] [] val a b small levels few long = (few 0 (omega arith), long)
stored_from count (l ∷ ls) (n ∷ ns) (p ∷ ps) val a b small levels few long =
    (few 0 (omega arith), small 0 (omega arith), levels 0 (omega arith), stored_from (positions n count p) ls ns ps val (omega arith) (omega arith) (λ k h. small (suc k) (omega arith)) (levels_tail count n ls l ns p ps levels) (λ k h. few (suc k) (omega arith)) long)
stored_from count [] (n ∷ ns) ps val a b small levels few long = absurd (omega arith)
stored_from count [] [] (p ∷ ps) val a b small levels few long = absurd (omega arith)
stored_from count (l ∷ ls) [] ps val a b small levels few long = absurd (omega arith)
stored_from count (l ∷ ls) (n ∷ ns) [] val a b small levels few long = absurd (omega arith)

level_of : (k count : ℕ) (ls : List Level) (ns : List ℕ) (ps : List Part) (val : List ℤ) → IsStored count ls ns ps val → k < length ps → IsLevel (slice_index_or ls k level.Dense) (slice_index ns k) (fibres ns ps count k) (slice_index_or ps k part.Dense)
level_of zero count (l ∷ ls) (n ∷ ns) (p ∷ ps) val h lt = h.2
level_of (suc k) count (l ∷ ls) (n ∷ ns) (p ∷ ps) val h lt = level_of k (positions n count p) ls ns ps val h.3 (omega arith)
level_of k count [] [] [] val h lt = absurd (omega arith)
level_of k count [] [] (p ∷ ps) val h lt = absurd h
level_of k count [] (n ∷ ns) ps val h lt = absurd h
level_of k count (l ∷ ls) [] ps val h lt = absurd h
level_of k count (l ∷ ls) (n ∷ ns) [] val h lt = absurd h

few_of : (k count : ℕ) (ls : List Level) (ns : List ℕ) (ps : List Part) (val : List ℤ) → IsStored count ls ns ps val → k ≤ length ps → fibres ns ps count k ≤ 2 ^ 40
few_of zero count ls ns ps val h le = stored_small count ls ns ps val h
few_of (suc k) count (l ∷ ls) (n ∷ ns) (p ∷ ps) val h le = few_of k (positions n count p) ls ns ps val h.3 (omega arith)
few_of (suc k) count [] [] [] val h le = absurd (omega arith)
few_of (suc k) count [] [] (p ∷ ps) val h le = absurd h
few_of (suc k) count [] (n ∷ ns) ps val h le = absurd h
few_of (suc k) count (l ∷ ls) [] ps val h le = absurd h
few_of (suc k) count (l ∷ ls) (n ∷ ns) [] val h le = absurd h

pub stored_by_lines : (levels : List Level) (shape : List ℕ) (parts : List Part) (val : List ℤ) → AreLines levels shape parts val → IsStored 1 levels shape parts val
stored_by_lines levels shape parts val h = stored_from 1 levels shape parts val h.shape_is.long h.long h.shape_is.small h.levels_are h.val_is.few h.val_is.long

pub valid_by_lines : ValidByLines
valid_by_lines levels shape parts val = (
  λ h. record {
    shape_is = record { long = stored_levels 1 levels shape parts val h; small = stored_extents 1 levels shape parts val h };
    long = omega (arith, stored_levels 1 levels shape parts val h, stored_lengths 1 levels shape parts val h);
    levels_are = λ k lt. level_of k 1 levels shape parts val h lt;
    val_is = record { long = stored_values 1 levels shape parts val h; few = λ k le. few_of k 1 levels shape parts val h le };
  },
  stored_by_lines levels shape parts val,
)

-- ---- one level more
module _ (levels : List Level) (shape : List ℕ) (parts : List Part) (p : Part) (shaped : length shape ≡ length levels) (lt : length parts < length levels) where
  due_more : due shape (parts ++ p ∷ []) ≡ positions (slice_index shape (length parts)) (due shape parts) p
  due_more =
      let qs = parts ++ p ∷ [] in
      let long : length qs ≡ suc (length parts) = omega (arith, length_push parts p) in
      let last : slice_index_or qs (length parts) part.Dense ≡ p = get_or_at parts p [] part.Dense (length parts) refl in
      ap (fibres shape qs 1) long
      ∙ fibres_more (length parts) 1 shape qs (omega (arith, long)) (omega (arith, lt, shaped))
      ∙ ap (λ (m : ℕ). positions (slice_index shape (length parts)) m (slice_index_or qs (length parts) part.Dense)) (fibres_kept (length parts) 1 shape parts (p ∷ []) (omega arith))
      ∙ ap (positions (slice_index shape (length parts)) (due shape parts)) last

  pub levels_more : AreLevels levels shape parts → IsLevel (slice_index_or levels (length parts) level.Dense) (slice_index shape (length parts)) (due shape parts) p → AreLevels levels shape (parts ++ p ∷ [])
  levels_more h v k le =
      let qs = parts ++ p ∷ [] in
      let long = length_push parts p in
      let same : fibres shape qs 1 k ≡ fibres shape parts 1 k = fibres_kept k 1 shape parts (p ∷ []) (omega (arith, long, le)) in
      subst (λ (m : ℕ). IsLevel (slice_index_or levels k level.Dense) (slice_index shape k) m (slice_index_or qs k part.Dense)) (sym same)
      (⊎_elim
      (λ (l : k < length parts). subst (λ (q : Part). IsLevel (slice_index_or levels k level.Dense) (slice_index shape k) (fibres shape parts 1 k) q) (sym (get_or_append_left parts (p ∷ []) part.Dense k l)) (h k l))
      (λ (l : length parts ≤ k).
      let e : length parts ≡ k = omega (arith, long, le) in
      let last : slice_index_or qs (length parts) part.Dense ≡ p = get_or_at parts p [] part.Dense (length parts) refl in
      subst (λ (j : ℕ). IsLevel (slice_index_or levels j level.Dense) (slice_index shape j) (fibres shape parts 1 j) (slice_index_or qs j part.Dense)) e
      (subst (λ (q : Part). IsLevel (slice_index_or levels (length parts) level.Dense) (slice_index shape (length parts)) (due shape parts) q) (sym last) v))
      (cases_lt k (length parts)))

  few_more : AreFew shape parts → due shape (parts ++ p ∷ []) ≤ 2 ^ 40 → AreFew shape (parts ++ p ∷ [])
  few_more h top k le =
      let qs = parts ++ p ∷ [] in
      let long = length_push parts p in
      ⊎_elim
      (λ (l : k < length qs). omega (arith, fibres_kept k 1 shape parts (p ∷ []) (omega (arith, long, l)), h k (omega (arith, long, l))))
      (λ (l : length qs ≤ k). let e : length qs ≡ k = omega (arith, le, l) in subst (λ (j : ℕ). fibres shape qs 1 j ≤ 2 ^ 40) e top)
      (cases_lt k (length qs))

  few_less : AreFew shape (parts ++ p ∷ []) → AreFew shape parts × (due shape (parts ++ p ∷ []) ≤ 2 ^ 40)
  few_less h = (λ k le. omega (arith, fibres_kept k 1 shape parts (p ∷ []) le, h k (omega (arith, length_push parts p, le))), h (length (parts ++ p ∷ [])) (omega arith))

  -- a count that stops at the greatest number goes on
  pub count_more : (count next extent : ℕ) → extent ≡ slice_index shape (length parts) → count ≡ min (due shape parts) 18446744073709551615 →
      ((fibres : ℕ) (kind : Level) → count ≡ min fibres 18446744073709551615 → IsLevel kind extent fibres p → next ≡ min (positions extent fibres p) 18446744073709551615) →
      IsLevel (slice_index_or levels (length parts) level.Dense) (slice_index shape (length parts)) (due shape parts) p → next ≡ min (due shape (parts ++ p ∷ [])) 18446744073709551615
  count_more count next extent e counted tells v =
      let kind = slice_index_or levels (length parts) level.Dense in
      let v' : IsLevel kind extent (due shape parts) p = subst (λ (n : ℕ). IsLevel kind n (due shape parts) p) (sym e) v in
      tells (due shape parts) kind counted v' ∙ ap (λ (n : ℕ). min (positions n (due shape parts) p) 18446744073709551615) e ∙ ap (λ (m : ℕ). min m 18446744073709551615) (sym due_more)

  -- and it tells whether there are few
  pub few_tells : (few more : Bool) (count : ℕ) → (IsTrue few ↔ AreFew shape parts) → count ≡ min (due shape (parts ++ p ∷ [])) 18446744073709551615 → (IsTrue more ↔ (IsTrue few × (count ≤ 2 ^ 40))) → IsTrue more ↔ AreFew shape (parts ++ p ∷ [])
  few_tells few more count a e b = (
    λ t. let h = b.0 t in few_more (a.0 h.0) (omega (arith, e, h.1)),
    λ h. let l = few_less h in b.1 (a.1 l.0, omega (arith, e, l.1)),
  )
