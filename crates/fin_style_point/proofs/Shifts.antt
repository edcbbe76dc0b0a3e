-- The step of shifts: each is pushed inside, and all at once.
use Rattle.std.proofs.Common.{◌≡◌, ℕ, ◌<◌, ◌≤◌, inl, inr, ⊎_elim, List, [], ◌∷◌, length, true, refl, ℤ, pos, ◌+ℤ◌, ◌-ℤ◌, neg_ℤ, ◌≤ℤ◌, ◌<ℤ◌, arith}
use Rattle.std.specs.Prelude.{map}
use borrow.Author.Differences.{sum_is_lem, neg_is, lt_out, below_in}
use Rattle.fin_ir.specs.declared.code.Code.{Code}
use Rattle.fin_ir.specs.declared.layout.Layout.{Layout}
use Rattle.fin_ir.specs.Meaning.{meaning}
use Rattle.fin_looplet.specs.declared.looplet.Looplet.{Looplet, end_of-Looplet, more_of-Looplet}
use Rattle.fin_looplet.specs.declared.looplet.Looplet.TheVariants.{Run, Spike, Lookup, Sequence', Stepper', Jumper', Switch', Shift'}
use Rattle.fin_looplet.specs.View.{Store, value, view}
use Rattle.fin_looplet.specs.Sound.{SoundWithin, Near}
use Rattle.fin_looplet.specs.Locals.{Free, LoadsIn, Owns, ShiftNames, Nested}
use Rattle.fin_looplet.specs.Like.{AllLike}
use Rattle.fin_looplet.specs.Lists.{views, AllSound, AnyFree, AnyLoads, AnyOwns, AnyShiftNames, AllNested, AllApart}
use Rattle.fin_looplet.specs.Weight.{weight, weights}
use Rattle.fin_looplet.proofs.Cuts.{like_same}
use Rattle.fin_looplet.proofs.Moves.{moved_view, moved_sound}
use Rattle.fin_looplet.proofs.MovedLocals.{moved_free, moved_loads, moved_owns, moved_shift_names, moved_nested}
use Rattle.fin_looplet.proofs.Weights.{moved_light}
use Rattle.fin_nest.specs.Nests.{Nest, Sense, views_of, Separate, Fits, Means}
use Rattle.fin_nest.proofs.Means.{near_in, reshaped}
use Rattle.fin_nest.proofs.Jumping.{mapped_from, jumps_reshaped}
use Rattle.fin_style_point.specs.Steps.{Has, is_shift, unshifted, shift_nest}
use Rattle.fin_style_point.specs.Laws.{ShiftSplits}
use Rattle.fin_style_point.proofs.Within.{Within, separate_within, fits_within}
use Rattle.fin_style_point.proofs.Origins.{unshifted_from}

-- what is before an end is, less the distance, before the end less the distance; and the other way round
lowered : (B hi j : ℤ) → j <ℤ hi → ((j -ℤ B) +ℤ B) <ℤ hi
lowered B hi j h = below_in ((j -ℤ B) +ℤ B) hi (omega (arith, lt_out j hi h, sum_is_lem (j -ℤ B) B, sum_is_lem j (neg_ℤ B), neg_is B))

near : (z : ℤ) → Near z → Near z
near z n = n

-- ---- one looplet

abbrev pub Clear : List ℤ → Looplet → Type 0
Clear ls l = (x : ℕ) → Owns x l → (x < length ls) × (ShiftNames x l → ⊥)

module _ (ts : Store) (ls : List ℤ) (hi i : ℤ) where
  one_view : (l : Looplet) (end : ℤ) → Near i → SoundWithin Near ts ls l (λ j. j <ℤ hi) i → Clear ls l → view ts ls (unshifted l) end i ≡ view ts ls l end i
  one_view (Run l) end n s clear = refl
  one_view (Spike b t) end n s clear = refl
  one_view (Lookup c l) end n s clear = refl
  one_view (Sequence' k ps) end n s clear = refl
  one_view (Stepper' p w) end n s clear = refl
  one_view (Jumper' p w) end n s clear = refl
  one_view (Switch' k cs) end n s clear = refl
  one_view (Shift' by p (more_of-Looplet child end_of-Looplet)) end n s clear =
      moved_view Near near ts ls child by (value ts ls by) end i (λ j. (j +ℤ value ts ls by) <ℤ hi) refl n s.0 s.1 clear

  one_sound : (l : Looplet) → Near i → SoundWithin Near ts ls l (λ j. j <ℤ hi) i → Clear ls l → SoundWithin Near ts ls (unshifted l) (λ j. j <ℤ hi) i
  one_sound (Run l) n s clear = s
  one_sound (Spike b t) n s clear = s
  one_sound (Lookup c l) n s clear = s
  one_sound (Sequence' k ps) n s clear = s
  one_sound (Stepper' p w) n s clear = s
  one_sound (Jumper' p w) n s clear = s
  one_sound (Switch' k cs) n s clear = s
  one_sound (Shift' by p (more_of-Looplet child end_of-Looplet)) n s clear =
      moved_sound Near Near near ts ls child by (value ts ls by) i (λ j. (j +ℤ value ts ls by) <ℤ hi) (λ j. j <ℤ hi) refl n s.0 (λ j a h. lowered (value ts ls by) hi j h) s.1 clear

one_owns : (x : ℕ) (l : Looplet) → Owns x (unshifted l) → Owns x l
one_owns x (Run l) o = o
one_owns x (Spike b t) o = o
one_owns x (Lookup c l) o = o
one_owns x (Sequence' k ps) o = o
one_owns x (Stepper' p w) o = o
one_owns x (Jumper' p w) o = o
one_owns x (Switch' k cs) o = o
one_owns x (Shift' by p (more_of-Looplet child end_of-Looplet)) o = moved_owns x by child o

one_free : (x : ℕ) (l : Looplet) → Free x (unshifted l) → Free x l
one_free x (Run l) o = o
one_free x (Spike b t) o = o
one_free x (Lookup c l) o = o
one_free x (Sequence' k ps) o = o
one_free x (Stepper' p w) o = o
one_free x (Jumper' p w) o = o
one_free x (Switch' k cs) o = o
one_free x (Shift' by p (more_of-Looplet child end_of-Looplet)) o = moved_free x by child o

one_loads : (t : ℕ) (l : Looplet) → LoadsIn t (unshifted l) → LoadsIn t l
one_loads t (Run l) o = o
one_loads t (Spike b u) o = o
one_loads t (Lookup c l) o = o
one_loads t (Sequence' k ps) o = o
one_loads t (Stepper' p w) o = o
one_loads t (Jumper' p w) o = o
one_loads t (Switch' k cs) o = o
one_loads t (Shift' by p (more_of-Looplet child end_of-Looplet)) o = moved_loads t by child o

one_names : (x : ℕ) (l : Looplet) → ShiftNames x (unshifted l) → ShiftNames x l
one_names x (Run l) o = o
one_names x (Spike b t) o = o
one_names x (Lookup c l) o = o
one_names x (Sequence' k ps) o = o
one_names x (Stepper' p w) o = o
one_names x (Jumper' p w) o = o
one_names x (Switch' k cs) o = o
one_names x (Shift' by p (more_of-Looplet child end_of-Looplet)) o = absurd (moved_shift_names x by child o)

one_nested : (l : Looplet) → Nested l → Nested (unshifted l)
one_nested (Run l) h = h
one_nested (Spike b t) h = h
one_nested (Lookup c l) h = h
one_nested (Sequence' k ps) h = h
one_nested (Stepper' p w) h = h
one_nested (Jumper' p w) h = h
one_nested (Switch' k cs) h = h
one_nested (Shift' by p (more_of-Looplet child end_of-Looplet)) h = moved_nested by child h

one_light : (l : Looplet) → weight (unshifted l) ≤ weight l
one_light (Run l) = omega arith
one_light (Spike b t) = omega arith
one_light (Lookup c l) = omega arith
one_light (Sequence' k ps) = omega arith
one_light (Stepper' p w) = omega arith
one_light (Jumper' p w) = omega arith
one_light (Switch' k cs) = omega arith
one_light (Shift' by p (more_of-Looplet child end_of-Looplet)) = omega (arith, moved_light by child)

one_lighter : (l : Looplet) → is_shift l ≡ true → weight (unshifted l) < weight l
one_lighter (Run l) h = absurd (cc)
one_lighter (Spike b t) h = absurd (cc)
one_lighter (Lookup c l) h = absurd (cc)
one_lighter (Sequence' k ps) h = absurd (cc)
one_lighter (Stepper' p w) h = absurd (cc)
one_lighter (Jumper' p w) h = absurd (cc)
one_lighter (Switch' k cs) h = absurd (cc)
one_lighter (Shift' by p (more_of-Looplet child end_of-Looplet)) h = omega (arith, moved_light by child)

-- ---- all of them

module _ (ts : Store) (ls : List ℤ) (hi i : ℤ) where
  all_views : (inside : Type 0) (rs : List Looplet) (end : ℤ) → Near i → AllSound Near ts ls rs (λ j. j <ℤ hi) i → ((x : ℕ) → AnyOwns x rs → (x < length ls) × (AnyShiftNames x rs → ⊥)) → AllLike inside (views ts ls (map unshifted rs) end i) (views ts ls rs end i)
  all_views inside [] end n s clear = tt
  all_views inside (l ∷ rest) end n s clear =
      (like_same (view ts ls (unshifted l) end i) (view ts ls l end i) (one_view ts ls hi i l end n s.0 (λ x o. let c = clear x (inl o) in (c.0, λ w. c.1 (inl w)))), all_views inside rest end n s.1 (λ x o. let c = clear x (inr o) in (c.0, λ w. c.1 (inr w))))

  all_sound : (rs : List Looplet) → Near i → AllSound Near ts ls rs (λ j. j <ℤ hi) i → ((x : ℕ) → AnyOwns x rs → (x < length ls) × (AnyShiftNames x rs → ⊥)) → AllSound Near ts ls (map unshifted rs) (λ j. j <ℤ hi) i
  all_sound [] n s clear = tt
  all_sound (l ∷ rest) n s clear = (one_sound ts ls hi i l n s.0 (λ x o. let c = clear x (inl o) in (c.0, λ w. c.1 (inl w))), all_sound rest n s.1 (λ x o. let c = clear x (inr o) in (c.0, λ w. c.1 (inr w))))

all_owns : (x : ℕ) (rs : List Looplet) → AnyOwns x (map unshifted rs) → AnyOwns x rs
all_owns x [] o = o
all_owns x (l ∷ rest) o = ⊎_elim (λ a. inl (one_owns x l a)) (λ b. inr (all_owns x rest b)) o

all_free : (x : ℕ) (rs : List Looplet) → AnyFree x (map unshifted rs) → AnyFree x rs
all_free x [] o = o
all_free x (l ∷ rest) o = ⊎_elim (λ a. inl (one_free x l a)) (λ b. inr (all_free x rest b)) o

all_loads : (t : ℕ) (rs : List Looplet) → AnyLoads t (map unshifted rs) → AnyLoads t rs
all_loads t [] o = o
all_loads t (l ∷ rest) o = ⊎_elim (λ a. inl (one_loads t l a)) (λ b. inr (all_loads t rest b)) o

all_names : (x : ℕ) (rs : List Looplet) → AnyShiftNames x (map unshifted rs) → AnyShiftNames x rs
all_names x [] o = o
all_names x (l ∷ rest) o = ⊎_elim (λ a. inl (one_names x l a)) (λ b. inr (all_names x rest b)) o

all_nested : (rs : List Looplet) → AllNested rs → AllNested (map unshifted rs)
all_nested [] h = tt
all_nested (l ∷ rest) h = (one_nested l h.0, all_nested rest h.1)

all_apart : (rs : List Looplet) → AllApart rs → AllApart (map unshifted rs)
all_apart [] h = tt
all_apart (l ∷ rest) h = ((λ x o q. h.0 x (one_owns x l o) (all_owns x rest q)), all_apart rest h.1)

all_light : (rs : List Looplet) → weights (map unshifted rs) ≤ weights rs
all_light [] = omega arith
all_light (l ∷ rest) = omega (arith, one_light l, all_light rest)

all_lighter : (rs : List Looplet) → Has is_shift rs → weights (map unshifted rs) < weights rs
all_lighter [] h = absurd h
all_lighter (l ∷ rest) (inl h) = omega (arith, one_lighter l h, all_light rest)
all_lighter (l ∷ rest) (inr h) = omega (arith, one_light l, all_lighter rest h)

-- ---- the step

-- where a code means the nest with its shifts pushed inside, it means the nest
shift_means : {S : Type 0} (layout : Layout) (sense : Sense S) (n : Nest S) → Separate n → n.next ≤ layout.locals → (c : Code) → Means layout sense c (shift_nest n) → Means layout sense c n
shift_means layout sense n apart room c mean = record {
  does = λ ts s m fits jumps r.
      let Hi = value ts m.locals n.hi in
      let Lo = value ts m.locals n.lo in
      let own : (x : ℕ) → AnyOwns x n.reads → (x < length m.locals) × (AnyShiftNames x n.reads → ⊥) = (λ x o. let w = apart.own_below x o in let l = fits.locals in (omega (arith, w, l, room), apart.own.unshifted x o)) in
      let f : Fits layout ts m (shift_nest n) = fits_within layout ts m n (map unshifted n.reads) fits
      (λ i low lt. all_sound ts m.locals Hi i n.reads (near_in Lo Hi i fits.bounds low lt) (fits.sound i low lt) own) in
      let like : (i : ℤ) → value ts m.locals n.lo ≤ℤ i → i <ℤ value ts m.locals n.hi
      → AllLike ((i +ℤ pos 1) <ℤ value ts m.locals n.hi) (views ts m.locals (map unshifted n.reads) (value ts m.locals n.hi) i) (views_of ts m.locals n i) =
      (λ i low lt. all_views ts m.locals Hi i ((i +ℤ pos 1) <ℤ Hi) n.reads Hi (near_in Lo Hi i fits.bounds low lt) (fits.sound i low lt) own) in
      reshaped sense n (map unshifted n.reads) (λ x o. all_owns x n.reads o) ts s m (meaning layout c m) like
      (mean.does ts s m f (jumps_reshaped sense ts m.locals n (map unshifted n.reads) (mapped_from unshifted unshifted_from n.reads) like jumps) r);
}

shift_within : {S : Type 0} (n : Nest S) → Separate n → Within n (map unshifted n.reads)
shift_within n s = record {
  owns = λ x o. all_owns x n.reads o;
  free = λ x f. s.reads x (all_free x n.reads f);
  loads = λ t f. s.loads t (all_loads t n.reads f);
  shifts = λ x f. all_names x n.reads f;
  nested = all_nested n.reads s.own.nested;
  apart = all_apart n.reads s.own.apart;
}

pub shift_splits : {S : Type 0} (layout : Layout) (sense : Sense S) (n : Nest S) → ShiftSplits layout sense n
shift_splits layout sense n = record {
  means = shift_means layout sense n;
  lighter = λ h. omega (arith, all_lighter n.reads h);
  separate = λ s. separate_within n (map unshifted n.reads) (shift_within n s) n.next (omega arith) s;
}
