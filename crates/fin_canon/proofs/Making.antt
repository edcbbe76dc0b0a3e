-- What one level of a canonical storage is made of.
use Rattle.std.proofs.Common.{◌≡◌, ℕ, zero, suc, ◌+◌, ◌<◌, ◌≤◌, List, [], ◌∷◌, ◌++◌, length, length-append, take, get_or, refl, sym, ap, ◌∙◌, subst, arith, ℤ, map}
use Rattle.std.specs.Prelude.{slice_index, flat_map}
use Rattle.std.proofs.lemmas.List.{append-nil, take_more, take_all, map-append}
use Rattle.std.proofs.lemmas.List.Concat.{flat_map-append}
use Rattle.std.proofs.lemmas.List.FromFn.{length-range_with_len, get_or-range_with_len}
use Rattle.fin_tensor.specs.declared.format.Level.{Level}
use Rattle.fin_tensor.specs.declared.format.Level.TheVariants as level
use Rattle.fin_tensor.specs.declared.part.Part.{Part}
use Rattle.fin_tensor.specs.declared.part.Part.TheVariants as part
use Rattle.fin_tensor.specs.Canon.{Slice, slice_at, kept, next, starts, part_of}
use Rattle.std.specs.List.{range_with_len}
use Rattle.fin_canon.specs.declared.entry.Range.{Range}
use Rattle.fin_canon.specs.Entries.{Entry}
use Rattle.fin_canon.specs.Ranges.{range_at, IsCut, AllCut, Added, Told, AllTold, numbers_for, part_by, MakesLevel}
use Rattle.fin_canon.proofs.Standing.{nth, next_length, kept_push}
use Rattle.fin_canon.proofs.Reading.{same_range}
use Rattle.fin_canon.proofs.Grouping.{cut_tells}

module _ (es : List Entry) (fill : ℤ) (ns : List ℕ) (d : ℕ) where
  pub told_lengths : (fs : List Slice) (rs : List Range) → AllTold es fill ns d fs rs → length fs ≡ length rs
  told_lengths [] [] h = refl
  told_lengths (f ∷ fs) (r ∷ rs) h = ap suc (told_lengths fs rs h.1)
  told_lengths [] (r ∷ rs) h = absurd h
  told_lengths (f ∷ fs) [] h = absurd h

  pub told_at : (fs : List Slice) (rs : List Range) (i : ℕ) (f0 : ℤ) → AllTold es fill ns d fs rs → i < length rs → Told es fill ns d (nth fs i f0) (range_at rs i)
  told_at [] [] i f0 h lt = absurd (omega arith)
  told_at (f ∷ fs) (r ∷ rs) zero f0 h lt = h.0
  told_at (f ∷ fs) (r ∷ rs) (suc i) f0 h lt = told_at fs rs i f0 h.1 (omega arith)
  told_at [] (r ∷ rs) i f0 h lt = absurd h
  told_at (f ∷ fs) [] i f0 h lt = absurd h

  pub told_append : (fs gs : List Slice) (rs qs : List Range) → AllTold es fill ns d fs rs → AllTold es fill ns d gs qs → AllTold es fill ns d (fs ++ gs) (rs ++ qs)
  told_append [] gs [] qs h k = k
  told_append (f ∷ fs) gs (r ∷ rs) qs h k = (h.0, told_append fs gs rs qs h.1 k)
  told_append [] gs (r ∷ rs) qs h k = absurd h
  told_append (f ∷ fs) gs [] qs h k = absurd h

  pub told_each : (f : Slice) (ks : List ℕ) (rs : List Range) → length rs ≡ length ks → ((j : ℕ) → j < length ks → Told es fill ns d (slice_at f (slice_index ks j)) (range_at rs j)) → AllTold es fill ns d (map (slice_at f) ks) rs
  told_each f [] [] e h = tt
  told_each f (k ∷ ks) (r ∷ rs) e h = (h 0 (omega arith), told_each f ks rs (omega arith) (λ j l. h (suc j) (omega arith)))
  told_each f [] (r ∷ rs) e h = absurd (omega arith)
  told_each f (k ∷ ks) [] e h = absurd (omega arith)

-- one slice more
module _ (K : Slice → List ℕ) (fs : List Slice) (i : ℕ) (fill : ℤ) (lt : i < length fs) where
  pub next_push : next K (take (i + 1) fs) ≡ next K (take i fs) ++ map (slice_at (nth fs i fill)) (K (nth fs i fill))
  next_push =
      ap (next K) (take_more fs i (λ _. fill) lt) ∙ flat_map-append (λ f. map (slice_at f) (K f)) (take i fs) (nth fs i fill ∷ []) ∙ ap (λ (l : List Slice). next K (take i fs) ++ l) (append-nil (map (slice_at (nth fs i fill)) (K (nth fs i fill))))

  starts_more : (gs : List Slice) (g : Slice) (a : ℕ) → starts K a (gs ++ g ∷ []) ≡ starts K a gs ++ (a + length (flat_map K (gs ++ g ∷ []))) ∷ []
  starts_more [] g a = ap (λ (x : ℕ). a ∷ (a + x) ∷ []) (sym (ap (λ (l : List ℕ). length l) (append-nil (K g))))
  starts_more (f ∷ gs) g a =
      let e : (a + length (K f)) + length (flat_map K (gs ++ g ∷ [])) ≡ a + length (flat_map K ((f ∷ gs) ++ g ∷ [])) = omega (arith, length-append (K f) (flat_map K (gs ++ g ∷ []))) in
      ap (λ (l : List ℕ). a ∷ l) (starts_more gs g (a + length (K f)) ∙ ap (λ (x : ℕ). starts K (a + length (K f)) gs ++ x ∷ []) e)

  pub starts_push : starts K 0 (take (i + 1) fs) ≡ starts K 0 (take i fs) ++ length (flat_map K (take (i + 1) fs)) ∷ []
  starts_push =
      let t = take_more fs i (λ _. fill) lt in
      let z : 0 + length (flat_map K (take i fs ++ nth fs i fill ∷ [])) ≡ length (flat_map K (take (i + 1) fs)) = omega (arith, ap (λ (l : List Slice). length (flat_map K l)) t) in
      ap (starts K 0) t ∙ starts_more (take i fs) (nth fs i fill) 0 ∙ ap (λ (x : ℕ). starts K 0 (take i fs) ++ x ∷ []) z

-- ---- a dense level
pub dense_all : (es : List Entry) (fill : ℤ) (d n a b m : ℕ) (numbers : List ℕ) (out out' : List Range) → m ≡ n → AllCut es fill d a b 0 m out out' → Added level.Dense es fill d n a b numbers numbers out out'
dense_all es fill d n a b m numbers out out' e c =
    let long = length-range_with_len 0 n in
    record {
      ks = range_with_len 0 n;
      rs = c.rs;
      numbers_are = sym (append-nil numbers);
      next_is = c.next_is;
      keeps = record {
        long = omega (arith, c.long, long);
        kept_are = λ ns f _ t. refl;
        cut = λ j h. let l : j < n = omega (arith, long) in let z : 0 + j ≡ slice_index (range_with_len 0 n) j = sym (get_or-range_with_len 0 n j 0 l) in subst (λ (x : ℕ). IsCut es fill d a b x (range_at c.rs j)) z (c.cut j (omega (arith, e)));
      };
    }

abbrev is_runs : Level → Type 0
is_runs level.Runs = Unit {0}
is_runs l = ⊥

not_runs : level.List ≡ level.Runs → ⊥
not_runs e = subst is_runs (sym e) tt

pub dict_by : (es : List Entry) (fill : ℤ) (d n a b : ℕ) (idx idx' : List ℕ) (out out' : List Range) → Added level.List es fill d n a b idx idx' out out' → Added level.Dict es fill d n a b idx idx' out out'
dict_by es fill d n a b idx idx' out out' g = record {
  ks = g.ks;
  rs = g.rs;
  numbers_are = g.numbers_are;
  next_is = g.next_is;
  keeps = record { long = g.keeps.long; kept_are = λ ns f _ t. g.keeps.kept_are ns f (λ e. absurd (not_runs e)) t; cut = g.keeps.cut };
}

-- ---- a level so far
abbrev pub LevelSoFar : Level → List Entry → ℤ → ℕ → ℕ → List Range → List ℕ → List ℕ → List Range → ℕ → Type 0
LevelSoFar l es fill d n rs ptr numbers out i = (ns : List ℕ) (fs : List Slice) → (l ≡ level.Runs → ns ≡ []) → AllTold es fill (n ∷ ns) d fs rs →
    (ptr ≡ starts (kept l fill n ns) 0 (take i fs)) × (numbers ≡ flat_map (λ f. numbers_for l (kept l fill n ns f)) (take i fs)) × AllTold es fill ns (d + 1) (next (kept l fill n ns) (take i fs)) out

pub level_none : (l : Level) (es : List Entry) (fill : ℤ) (d n : ℕ) (rs : List Range) → LevelSoFar l es fill d n rs (0 ∷ []) [] [] 0
level_none l es fill d n rs ns fs last h = (refl, refl, tt)

numbers_push : (N : Slice → List ℕ) (fs : List Slice) (i : ℕ) (fill : ℤ) → i < length fs → flat_map N (take (i + 1) fs) ≡ flat_map N (take i fs) ++ N (nth fs i fill)
numbers_push N fs i fill lt = kept_push N fs i fill lt

pub level_more : (l : Level) (es : List Entry) (fill : ℤ) (d n : ℕ) (slices : List Range) (i : ℕ) (r : Range) (ptr ptr' numbers numbers' : List ℕ) (out out' : List Range) → i < length slices → r ≡ get_or slices i r →
    Added l es fill d n r.from r.to numbers numbers' out out' → ptr' ≡ ptr ++ length out' ∷ [] → LevelSoFar l es fill d n slices ptr numbers out i → LevelSoFar l es fill d n slices ptr' numbers' out' (i + 1)
level_more l es fill d n slices i r ptr ptr' numbers numbers' out out' lt is g p so ns fs last told =
    let K = kept l fill n ns in
    let N : Slice → List ℕ = λ f. numbers_for l (K f) in
    let h = so ns fs last told in
    let g0 = nth fs i fill in
    let lf : i < length fs = omega (arith, told_lengths es fill (n ∷ ns) d fs slices told) in
    let t : Told es fill (n ∷ ns) d g0 r = subst (Told es fill (n ∷ ns) d g0) (same_range slices i r lt is) (told_at es fill (n ∷ ns) d fs slices i fill told lt) in
    let ks_is : g.ks ≡ K g0 = g.keeps.kept_are ns g0 last t.tells in
    let numbers_is : numbers' ≡ flat_map N (take (i + 1) fs) = g.numbers_are ∙ ap (λ (z : List ℕ). z ++ numbers_for l g.ks) h.1 ∙ ap (λ (z : List ℕ). flat_map N (take i fs) ++ numbers_for l z) ks_is ∙ sym (numbers_push N fs i fill lf) in
    let each : AllTold es fill ns (d + 1) (map (slice_at g0) g.ks) g.rs = told_each es fill ns (d + 1) g0 g.ks g.rs g.keeps.long (λ j z.
    let c = g.keeps.cut j z in
    record { order = c.order; within = omega (arith, c.high, t.within); tells = cut_tells es fill n ns d r.from r.to g0 t.tells (slice_index g.ks j) (range_at g.rs j) c }) in
    let told' : AllTold es fill ns (d + 1) (next K (take i fs) ++ map (slice_at g0) (K g0)) out' =
    subst (AllTold es fill ns (d + 1) (next K (take i fs) ++ map (slice_at g0) (K g0))) (sym g.next_is) (subst (λ (z : List ℕ). AllTold es fill ns (d + 1) (next K (take i fs) ++ map (slice_at g0) z) (out ++ g.rs)) ks_is (told_append es fill ns (d + 1) (next K (take i fs)) (map (slice_at g0) g.ks) out g.rs h.2 each)) in
    let all' : AllTold es fill ns (d + 1) (next K (take (i + 1) fs)) out' = subst (λ (z : List Slice). AllTold es fill ns (d + 1) z out') (sym (next_push K fs i fill lf)) told' in
    let many : length out' ≡ length (flat_map K (take (i + 1) fs)) = sym (told_lengths es fill ns (d + 1) (next K (take (i + 1) fs)) out' all') ∙ next_length K (take (i + 1) fs) in (
      p ∙ ap (λ (z : List ℕ). z ++ length out' ∷ []) h.0 ∙ ap (λ (z : ℕ). starts K 0 (take i fs) ++ z ∷ []) many ∙ sym (starts_push K fs i fill lf),
      numbers_is,
      all',
    )

runs_numbers : (K : Slice → List ℕ) (fs : List Slice) → flat_map (λ f. map (λ i. i + 1) (K f)) fs ≡ map (λ i. i + 1) (flat_map K fs)
runs_numbers K [] = refl
runs_numbers K (f ∷ fs) = ap (λ (z : List ℕ). map (λ i. i + 1) (K f) ++ z) (runs_numbers K fs) ∙ sym (map-append (λ i. i + 1) (K f) (flat_map K fs))

band_numbers : (T : Slice → ℕ) (fs : List Slice) → flat_map (λ f. T f ∷ []) fs ≡ map T fs
band_numbers T [] = refl
band_numbers T (f ∷ fs) = ap (λ (z : List ℕ). T f ∷ z) (band_numbers T fs)

part_is : (l : Level) (K : Slice → List ℕ) (fs : List Slice) → part_by l (starts K 0 fs) (flat_map (λ f. numbers_for l (K f)) fs) ≡ part_of l K fs
part_is level.Dense K fs = refl
part_is level.List K fs = refl
part_is level.Dict K fs = refl
part_is level.Runs K fs = ap (part.Runs (starts K 0 fs)) (runs_numbers K fs)
part_is level.Band K fs = ap (part.Band (starts K 0 fs)) (band_numbers (λ f. slice_index (K f) 0) fs)

pub level_all : (l : Level) (es : List Entry) (fill : ℤ) (d n : ℕ) (slices : List Range) (i : ℕ) (ptr numbers : List ℕ) (out : List Range) (p : Part) → length slices ≤ i → p ≡ part_by l ptr numbers → LevelSoFar l es fill d n slices ptr numbers out i → MakesLevel l es fill d n slices p out
level_all l es fill d n slices i ptr numbers out p le e so ns fs last told =
    let K = kept l fill n ns in
    let N : Slice → List ℕ = λ f. numbers_for l (K f) in
    let h = so ns fs last told in
    let all : take i fs ≡ fs = take_all i fs (omega (arith, told_lengths es fill (n ∷ ns) d fs slices told)) in (
      e ∙ ap (λ (z : List ℕ). part_by l z numbers) h.0 ∙ ap (part_by l (starts K 0 (take i fs))) h.1 ∙ ap (λ (z : List Slice). part_by l (starts K 0 z) (flat_map N z)) all ∙ part_is l K fs,
      subst (λ (z : List Slice). AllTold es fill ns (d + 1) (next K z) out) all h.2,
    )
