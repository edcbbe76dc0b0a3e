-- The canonical storage, level after level.
use Rattle.std.proofs.Common.{◌≡◌, ℕ, ◌+◌, ◌<◌, ◌≤◌, List, [], ◌∷◌, ◌++◌, length, drop, refl, sym, ap, ◌∙◌, subst, inl, inr, ⊎_elim, arith, append_assoc, ℤ, map, Bool, true, false, cond}
use Rattle.std.specs.Prelude.{slice_index, slice_index_or, nat_lt}
use Rattle.std.proofs.lemmas.Bool.{cases_lt, lt-ltb}
use Rattle.std.proofs.lemmas.Bool.Decides.{nat_tests}
use Rattle.std.proofs.lemmas.List.{append-nil, drop_more, drop_all, get_or_default}
use Rattle.fin_tensor.specs.declared.format.Level.{Level}
use Rattle.fin_tensor.specs.declared.format.Level.TheVariants as level
use Rattle.fin_tensor.specs.declared.part.Part.{Part}
use Rattle.fin_tensor.specs.Placement.{RunsStandLast}
use Rattle.fin_tensor.specs.Canon.{Slice, kept, next, canon_parts, canon_values}
use Rattle.fin_canon.specs.declared.entry.Range.{Range}
use Rattle.fin_canon.specs.Entries.{Entry, coords, word_of}
use Rattle.fin_canon.specs.Ranges.{head_of, range_at, IsBefore, FitsLevel, Tells, Told, AllTold, MakesLevel, value_of}
use Rattle.fin_canon.proofs.Rising.{split_entry}
use Rattle.fin_canon.proofs.Grouping.{below_extent}
use Rattle.fin_canon.proofs.Running.{nothing_left}
use Rattle.fin_canon.proofs.Making.{told_at}

-- the entries that tell a function have rising heads
heads_le : (i j : ℕ) (is js : List ℕ) → IsBefore (i ∷ is) (j ∷ js) → i ≤ j
heads_le i j is js (inl l) = omega arith
heads_le i j is js (inr l) = omega (arith, l.0)

pub tells_rise : (es : List Entry) (fill : ℤ) (n : ℕ) (ns : List ℕ) (d a b : ℕ) (f : Slice) → Tells es fill (n ∷ ns) d a b f → ((k : ℕ) → a ≤ k → k < b → d < length (coords es k)) × ((j k : ℕ) → a ≤ j → j ≤ k → k < b → head_of es d j ≤ head_of es d k)
tells_rise es fill n ns d a b f t = (
  λ k x y. (split_entry n ns d (coords es k) (t.inside k x y)).0,
  λ j k x y z. ⊎_elim
      (λ (l : j < k).
      let p = split_entry n ns d (coords es j) (t.inside j x (omega arith)) in
      let q = split_entry n ns d (coords es k) (t.inside k (omega arith) z) in
      heads_le (head_of es d j) (head_of es d k) (drop (d + 1) (coords es j)) (drop (d + 1) (coords es k)) (subst (λ (l : List ℕ). IsBefore (head_of es d j ∷ drop (d + 1) (coords es j)) l) q.1 (subst (λ (l : List ℕ). IsBefore l (drop d (coords es k))) p.1 (t.before j k x l z))))
      (λ (l : k ≤ j). let e : j ≡ k = omega arith in omega (arith, ap (head_of es d) e))
      (cases_lt j k),
)

-- below runs there is no level
pub nothing_below : (levels : List Level) (shape : List ℕ) (k : ℕ) → k < length levels → length shape ≡ length levels → RunsStandLast levels → slice_index_or levels k level.Dense ≡ level.Runs → drop (k + 1) shape ≡ []
nothing_below levels shape k lt e runs is =
    drop_all (k + 1) shape (⊎_elim (λ (l : k + 1 < length levels). absurd (runs k l is)) (λ (l : length levels ≤ k + 1). omega (arith, e)) (cases_lt (k + 1) (length levels)))

module _ (es : List Entry) (fill : ℤ) where
  rises_alone : (d n a b : ℕ) (f : Slice) → Tells es fill (n ∷ []) d a b f → (j k : ℕ) → a ≤ j → j < k → k < b → head_of es d j < head_of es d k
  rises_alone d n a b f t j k x y z =
      let p = split_entry n [] d (coords es j) (t.inside j x (omega arith)) in
      let q = split_entry n [] d (coords es k) (t.inside k (omega arith) z) in
      let e : drop (d + 1) (coords es j) ≡ [] = nothing_left (drop (d + 1) (coords es j)) p.3 in
      let o : IsBefore (head_of es d j ∷ []) (head_of es d k ∷ drop (d + 1) (coords es k)) = subst (λ (l : List ℕ). IsBefore (head_of es d j ∷ l) (head_of es d k ∷ drop (d + 1) (coords es k))) e (subst (λ (l : List ℕ). IsBefore (head_of es d j ∷ drop (d + 1) (coords es j)) l) q.1 (subst (λ (l : List ℕ). IsBefore l (drop d (coords es k))) p.1 (t.before j k x y z))) in
      ⊎_elim (λ (l : head_of es d j < head_of es d k). l) (λ (l : (head_of es d j ≡ head_of es d k) × ⊥). absurd l.1) o

  pub told_fits_one : (l : Level) (n : ℕ) (ns : List ℕ) (d : ℕ) (f : Slice) (r : Range) → (l ≡ level.Runs → ns ≡ []) → Told es fill (n ∷ ns) d f r → FitsLevel l es d n r
  told_fits_one l n ns d f r last t =
      let rise = tells_rise es fill n ns d r.from r.to f t.tells in
      record {
        fits = record { order = t.order; within = t.within; deep = rise.0; below = below_extent es fill n ns d r.from r.to f t.tells; rise = rise.1 };
        strict = λ e. rises_alone d n r.from r.to f (subst (λ (z : List ℕ). Tells es fill (n ∷ z) d r.from r.to f) (last e) t.tells);
      }

  pub told_fits : (l : Level) (n : ℕ) (ns : List ℕ) (d : ℕ) (gs : List Slice) (rs : List Range) → (l ≡ level.Runs → ns ≡ []) → AllTold es fill (n ∷ ns) d gs rs → (k : ℕ) (r0 : Range) → k < length rs → FitsLevel l es d n (slice_index_or rs k r0)
  told_fits l n ns d gs rs last told k r0 lt =
      subst (FitsLevel l es d n) (get_or_default rs k (record { from = 0; to = 0 }) r0 lt) (told_fits_one l n ns d (slice_index_or gs k (λ _. fill)) (range_at rs k) last (told_at es fill (n ∷ ns) d gs rs k fill told lt))

  pub told_within : (ns : List ℕ) (d : ℕ) (gs : List Slice) (rs : List Range) → AllTold es fill ns d gs rs → (k : ℕ) (r0 : Range) → k < length rs → (slice_index_or rs k r0).to ≤ length es
  told_within ns d gs rs told k r0 lt =
      let t = told_at es fill ns d gs rs k fill told lt in
      subst (λ (r : Range). r.to ≤ length es) (get_or_default rs k (record { from = 0; to = 0 }) r0 lt) t.within

  told_value : (d : ℕ) (f : Slice) (r : Range) → Told es fill [] d f r → value_of es fill r ≡ f []
  told_value d f r t =
      ⊎_elim
      (λ (lt : r.from < r.to).
      let b : nat_lt r.from r.to ≡ true = lt-ltb r.from r.to lt in
      let e = nothing_left (drop d (coords es r.from)) (t.tells.inside r.from (omega arith) lt) in
      ap (λ (x : Bool). cond x (word_of es r.from) fill) b ∙ sym (t.tells.hit r.from (omega arith) lt) ∙ ap f e)
      (λ (le : r.to ≤ r.from).
      let b : nat_lt r.from r.to ≡ false = grind (arith, nat_tests) in
      ap (λ (x : Bool). cond x (word_of es r.from) fill) b ∙ sym (t.tells.miss [] (λ k x y. absurd (omega arith))))
      (cases_lt r.from r.to)

  pub told_values : (d : ℕ) (gs : List Slice) (rs : List Range) → AllTold es fill [] d gs rs → map (value_of es fill) rs ≡ map (λ (f : Slice). f []) gs
  told_values d [] [] h = refl
  told_values d (f ∷ gs) (r ∷ rs) h = ap (λ (x : ℤ). x ∷ map (value_of es fill) rs) (told_value d f r h.0) ∙ ap (λ (l : List ℤ). f [] ∷ l) (told_values d gs rs h.1)
  told_values d [] (r ∷ rs) h = absurd h
  told_values d (f ∷ gs) [] h = absurd h

  module _ (levels : List Level) (shape : List ℕ) (f : Slice) where
    pub record SoFar (k : ℕ) (parts : List Part) (slices : List Range) : Type 0 where
      pub gs : List Slice
      pub told : AllTold es fill (drop k shape) k gs slices
      pub parts_are : canon_parts levels fill shape (f ∷ []) ≡ parts ++ canon_parts (drop k levels) fill (drop k shape) gs
      pub values_are : canon_values levels fill shape (f ∷ []) ≡ canon_values (drop k levels) fill (drop k shape) gs

    pub store_none : (r : Range) (slices : List Range) → slices ≡ r ∷ [] → Told es fill shape 0 f r → SoFar 0 [] slices
    store_none r slices e t = record { gs = f ∷ []; told = subst (AllTold es fill shape 0 (f ∷ [])) (sym e) (t, tt); parts_are = refl; values_are = refl }

    pub store_more : (k : ℕ) (parts : List Part) (slices out : List Range) (p : Part) → k < length levels → length shape ≡ length levels → RunsStandLast levels → SoFar k parts slices → MakesLevel (slice_index_or levels k level.Dense) es fill k (slice_index shape k) slices p out → SoFar (k + 1) (parts ++ p ∷ []) out
    store_more k parts slices out p lt e runs so makes =
        let l = slice_index_or levels k level.Dense in
        let n = slice_index shape k in
        let ls = drop (k + 1) levels in
        let ns = drop (k + 1) shape in
        let dl : drop k levels ≡ l ∷ ls = drop_more levels k level.Dense lt in
        let dn : drop k shape ≡ n ∷ ns = drop_more shape k 0 (omega arith) in
        let m = makes ns so.gs (nothing_below levels shape k lt e runs) (subst (λ (x : List ℕ). AllTold es fill x k so.gs slices) dn so.told) in
        let K = kept l fill n ns in
        record {
          gs = next K so.gs;
          told = m.1;
          parts_are = so.parts_are ∙ ap (λ (x : List Level). parts ++ canon_parts x fill (drop k shape) so.gs) dl ∙ ap (λ (x : List ℕ). parts ++ canon_parts (l ∷ ls) fill x so.gs) dn
              ∙ ap (λ (x : Part). parts ++ (x ∷ canon_parts ls fill ns (next K so.gs))) (sym m.0) ∙ sym (append_assoc parts (p ∷ []) (canon_parts ls fill ns (next K so.gs)));
          values_are = so.values_are ∙ ap (λ (x : List Level). canon_values x fill (drop k shape) so.gs) dl ∙ ap (λ (x : List ℕ). canon_values (l ∷ ls) fill x so.gs) dn;
        }

    pub store_parts : (k : ℕ) (parts : List Part) (slices : List Range) → length levels ≤ k → SoFar k parts slices → parts ≡ canon_parts levels fill shape (f ∷ [])
    store_parts k parts slices le so =
        sym (so.parts_are ∙ ap (λ (x : List Level). parts ++ canon_parts x fill (drop k shape) so.gs) (drop_all k levels le) ∙ append-nil parts)

    pub store_values : (k : ℕ) (parts : List Part) (slices : List Range) (vs : List ℤ) → length levels ≤ k → length shape ≡ length levels → SoFar k parts slices → vs ≡ map (value_of es fill) slices → vs ≡ canon_values levels fill shape (f ∷ [])
    store_values k parts slices vs le e so h =
        let dl = drop_all k levels le in
        let dn = drop_all k shape (omega arith) in
        h ∙ told_values k so.gs slices (subst (λ (x : List ℕ). AllTold es fill x k so.gs slices) dn so.told)
        ∙ sym (so.values_are ∙ ap (λ (x : List Level). canon_values x fill (drop k shape) so.gs) dl ∙ ap (λ (x : List ℕ). canon_values [] fill x so.gs) dn)
