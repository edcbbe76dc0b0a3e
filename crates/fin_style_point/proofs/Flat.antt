-- Runs and lookups: what they show where each lookup's coordinate stands in its local.
use Rattle.std.proofs.Common.{◌≡◌, ℕ, ◌<◌, ◌⊎◌, inl, inr, ⊎_elim, List, [], ◌∷◌, ◌++◌, map, length, Bool, true, false, refl, sym, ap, ◌∙◌, ℤ, pos, ◌<ℤ◌, arith, get_or-set_same, get_or-set_other}
use Rattle.std.specs.Prelude.{slice_set, ◌||◌, ◌&&◌}
use Rattle.std.proofs.lemmas.Bool.{cases_eq}
use Rattle.fin_looplet.specs.declared.looplet.Looplet.{Looplet}
use Rattle.fin_looplet.specs.declared.looplet.Looplet.TheVariants.{Run, Spike, Lookup, Sequence', Stepper', Jumper', Switch', Shift'}
use Rattle.fin_looplet.specs.View.{Store, Sight, view}
use Rattle.fin_looplet.specs.Sound.{SoundWithin, Near}
use Rattle.fin_looplet.specs.Locals.{Free, LoadsIn, Owns, ShiftNames, Nested}
use Rattle.fin_looplet.specs.Lists.{views, seens, any_ends, AllSound, AnyFree, AnyLoads, AnyOwns, AnyShiftNames, AllNested, AllApart}
use Rattle.fin_looplet.specs.Weight.{weight, weights}
use Rattle.fin_looplet.proofs.Exprs.{get}
use Rattle.fin_looplet.proofs.Frame.{leaf_same}
use Rattle.fin_nest.specs.Nests.{any_counted}
use Rattle.fin_nest.specs.Laws.{bare}
use Rattle.fin_style_point.specs.Steps.{is_flat, AllFlat, held, coordinate, coordinates}

-- ---- one looplet

one_sight : (ts : Store) (ls now : List ℤ) (end top v i : ℤ) (l : Looplet) → is_flat l ≡ true → ((x : ℕ) → Owns x l → x < length ls) → ((x : ℕ) → Free x l → get now x ≡ get ls x) → ((x : ℕ) → Owns x l → get now x ≡ v)
    → (view ts now (held l) end i).seen.sight ≡ (view ts ls l top v).seen.sight
one_sight ts ls now end top v i (Run k) f room h p = leaf_same ts k now ls h
one_sight ts ls now end top v i (Spike b u) f room h p = absurd (cc)
one_sight ts ls now end top v i (Lookup c k) f room h p =
    leaf_same ts k now (slice_set ls c v) (λ x m. ⊎_elim
    (λ e. ap (get now) e ∙ p c refl ∙ sym (get_or-set_same ls c v (pos 0) (room c refl)) ∙ ap (get (slice_set ls c v)) (sym e))
    (λ ne. h x (ne, m) ∙ sym (get_or-set_other ls c x v (pos 0) ne))
    (cases_eq x c))
one_sight ts ls now end top v i (Sequence' n phases) f room h p = absurd (cc)
one_sight ts ls now end top v i (Stepper' parts walker) f room h p = absurd (cc)
one_sight ts ls now end top v i (Jumper' parts walker) f room h p = absurd (cc)
one_sight ts ls now end top v i (Switch' n cases) f room h p = absurd (cc)
one_sight ts ls now end top v i (Shift' by parts child) f room h p = absurd (cc)

one_stop : (ts : Store) (ls : List ℤ) (end i : ℤ) (l : Looplet) → is_flat l ≡ true → (view ts ls l end i).stop ≡ false
one_stop ts ls end i (Run k) f = refl
one_stop ts ls end i (Spike b u) f = absurd (cc)
one_stop ts ls end i (Lookup c k) f = refl
one_stop ts ls end i (Sequence' n phases) f = absurd (cc)
one_stop ts ls end i (Stepper' parts walker) f = absurd (cc)
one_stop ts ls end i (Jumper' parts walker) f = absurd (cc)
one_stop ts ls end i (Switch' n cases) f = absurd (cc)
one_stop ts ls end i (Shift' by parts child) f = absurd (cc)

one_end : (ts : Store) (ls : List ℤ) (end i : ℤ) (l : Looplet) → is_flat l ≡ true → (view ts ls l end i).ends ≡ false
one_end ts ls end i (Run leaf) f = refl
one_end ts ls end i (Spike body tail) f = absurd (cc)
one_end ts ls end i (Lookup coord leaf) f = refl
one_end ts ls end i (Sequence' n phases) f = absurd (cc)
one_end ts ls end i (Stepper' parts walker) f = absurd (cc)
one_end ts ls end i (Jumper' parts walker) f = absurd (cc)
one_end ts ls end i (Switch' n cases) f = absurd (cc)
one_end ts ls end i (Shift' by parts child) f = absurd (cc)

one_sound : (ts : Store) (ls : List ℤ) (hi i : ℤ) (l : Looplet) → is_flat l ≡ true → SoundWithin Near ts ls (held l) (λ j. j <ℤ hi) i
one_sound ts ls hi i (Run k) f = tt
one_sound ts ls hi i (Spike b u) f = absurd (cc)
one_sound ts ls hi i (Lookup c k) f = tt
one_sound ts ls hi i (Sequence' n phases) f = absurd (cc)
one_sound ts ls hi i (Stepper' parts walker) f = absurd (cc)
one_sound ts ls hi i (Jumper' parts walker) f = absurd (cc)
one_sound ts ls hi i (Switch' n cases) f = absurd (cc)
one_sound ts ls hi i (Shift' by parts child) f = absurd (cc)

one_owns : (x : ℕ) (l : Looplet) → is_flat l ≡ true → Owns x (held l) → ⊥
one_owns x (Run k) f o = o
one_owns x (Spike b u) f o = absurd (cc)
one_owns x (Lookup c k) f o = o
one_owns x (Sequence' n phases) f o = absurd (cc)
one_owns x (Stepper' parts walker) f o = absurd (cc)
one_owns x (Jumper' parts walker) f o = absurd (cc)
one_owns x (Switch' n cases) f o = absurd (cc)
one_owns x (Shift' by parts child) f o = absurd (cc)

-- what the run of a lookup's leaf depends on the lookup did, or it is the lookup's coordinate
one_free : (x : ℕ) (l : Looplet) → is_flat l ≡ true → Free x (held l) → Owns x l ⊎ Free x l
one_free x (Run k) f o = inr o
one_free x (Spike b u) f o = absurd (cc)
one_free x (Lookup c k) f o = ⊎_elim (λ e. inl e) (λ ne. inr (ne, o)) (cases_eq x c)
one_free x (Sequence' n phases) f o = absurd (cc)
one_free x (Stepper' parts walker) f o = absurd (cc)
one_free x (Jumper' parts walker) f o = absurd (cc)
one_free x (Switch' n cases) f o = absurd (cc)
one_free x (Shift' by parts child) f o = absurd (cc)

one_loads : (t : ℕ) (l : Looplet) → is_flat l ≡ true → LoadsIn t (held l) → LoadsIn t l
one_loads t (Run k) f o = o
one_loads t (Spike b u) f o = absurd (cc)
one_loads t (Lookup c k) f o = o
one_loads t (Sequence' n phases) f o = absurd (cc)
one_loads t (Stepper' parts walker) f o = absurd (cc)
one_loads t (Jumper' parts walker) f o = absurd (cc)
one_loads t (Switch' n cases) f o = absurd (cc)
one_loads t (Shift' by parts child) f o = absurd (cc)

one_shifts : (x : ℕ) (l : Looplet) → is_flat l ≡ true → ShiftNames x (held l) → ⊥
one_shifts x (Run k) f o = o
one_shifts x (Spike b u) f o = absurd (cc)
one_shifts x (Lookup c k) f o = o
one_shifts x (Sequence' n phases) f o = absurd (cc)
one_shifts x (Stepper' parts walker) f o = absurd (cc)
one_shifts x (Jumper' parts walker) f o = absurd (cc)
one_shifts x (Switch' n cases) f o = absurd (cc)
one_shifts x (Shift' by parts child) f o = absurd (cc)

one_nested : (l : Looplet) → is_flat l ≡ true → Nested (held l)
one_nested (Run k) f = tt
one_nested (Spike b u) f = absurd (cc)
one_nested (Lookup c k) f = tt
one_nested (Sequence' n phases) f = absurd (cc)
one_nested (Stepper' parts walker) f = absurd (cc)
one_nested (Jumper' parts walker) f = absurd (cc)
one_nested (Switch' n cases) f = absurd (cc)
one_nested (Shift' by parts child) f = absurd (cc)

one_weight : (l : Looplet) → is_flat l ≡ true → weight (held l) ≡ 0
one_weight (Run k) f = refl
one_weight (Spike b u) f = absurd (cc)
one_weight (Lookup c k) f = refl
one_weight (Sequence' n phases) f = absurd (cc)
one_weight (Stepper' parts walker) f = absurd (cc)
one_weight (Jumper' parts walker) f = absurd (cc)
one_weight (Switch' n cases) f = absurd (cc)
one_weight (Shift' by parts child) f = absurd (cc)

-- ---- a list

pub held_sights : (ts : Store) (ls now : List ℤ) (end top v i : ℤ) (rs : List Looplet) → AllFlat rs → ((x : ℕ) → AnyOwns x rs → x < length ls) → ((x : ℕ) → AnyFree x rs → get now x ≡ get ls x) → ((x : ℕ) → AnyOwns x rs → get now x ≡ v)
    → map bare (seens (views ts now (map held rs) end i)) ≡ map bare (seens (views ts ls rs top v))
held_sights ts ls now end top v i [] f room h p = refl
held_sights ts ls now end top v i (l ∷ rest) f room h p =
    ap (λ (b : Sight). b ∷ map bare (seens (views ts now (map held rest) end i))) (one_sight ts ls now end top v i l f.0 (λ x o. room x (inl o)) (λ x o. h x (inl o)) (λ x o. p x (inl o)))
    ∙ ap (λ (bs : List Sight). (view ts ls l top v).seen.sight ∷ bs) (held_sights ts ls now end top v i rest f.1 (λ x o. room x (inr o)) (λ x o. h x (inr o)) (λ x o. p x (inr o)))

stops_none : (b r : Bool) → r ≡ false → ((b && false) || r) ≡ false
stops_none true r e = e
stops_none false r e = e

-- no walker's child ends
pub none_counted : (ts : Store) (ls : List ℤ) (end i : ℤ) (counts : List Bool) (rs : List Looplet) → AllFlat rs → any_counted counts (views ts ls rs end i) ≡ false
none_counted ts ls end i [] rs f = refl
none_counted ts ls end i (b ∷ bs) [] f = refl
none_counted ts ls end i (b ∷ bs) (l ∷ rest) f =
    ap (λ (s : Bool). (b && s) || any_counted bs (views ts ls rest end i)) (one_stop ts ls end i l f.0) ∙ stops_none b (any_counted bs (views ts ls rest end i)) (none_counted ts ls end i bs rest f.1)

-- no part ends
pub flat_ends : (ts : Store) (ls : List ℤ) (end i : ℤ) (rs : List Looplet) → AllFlat rs → any_ends (views ts ls rs end i) ≡ false
flat_ends ts ls end i [] f = refl
flat_ends ts ls end i (l ∷ rest) f = ap (λ (b : Bool). b || any_ends (views ts ls rest end i)) (one_end ts ls end i l f.0) ∙ flat_ends ts ls end i rest f.1

pub held_sound : (ts : Store) (ls : List ℤ) (hi i : ℤ) (rs : List Looplet) → AllFlat rs → AllSound Near ts ls (map held rs) (λ j. j <ℤ hi) i
held_sound ts ls hi i [] f = tt
held_sound ts ls hi i (l ∷ rest) f = (one_sound ts ls hi i l f.0, held_sound ts ls hi i rest f.1)

pub held_owns : (x : ℕ) (rs : List Looplet) → AllFlat rs → AnyOwns x (map held rs) → ⊥
held_owns x [] f o = o
held_owns x (l ∷ rest) f o = ⊎_elim (one_owns x l f.0) (held_owns x rest f.1) o

pub held_free : (x : ℕ) (rs : List Looplet) → AllFlat rs → AnyFree x (map held rs) → AnyOwns x rs ⊎ AnyFree x rs
held_free x [] f o = inr o
held_free x (l ∷ rest) f (inl o) = ⊎_elim (λ a. inl (inl a)) (λ b. inr (inl b)) (one_free x l f.0 o)
held_free x (l ∷ rest) f (inr o) = ⊎_elim (λ a. inl (inr a)) (λ b. inr (inr b)) (held_free x rest f.1 o)

pub held_loads : (t : ℕ) (rs : List Looplet) → AllFlat rs → AnyLoads t (map held rs) → AnyLoads t rs
held_loads t [] f o = o
held_loads t (l ∷ rest) f (inl o) = inl (one_loads t l f.0 o)
held_loads t (l ∷ rest) f (inr o) = inr (held_loads t rest f.1 o)

pub held_shifts : (x : ℕ) (rs : List Looplet) → AllFlat rs → AnyShiftNames x (map held rs) → ⊥
held_shifts x [] f o = o
held_shifts x (l ∷ rest) f o = ⊎_elim (one_shifts x l f.0) (held_shifts x rest f.1) o

pub held_nested : (rs : List Looplet) → AllFlat rs → AllNested (map held rs)
held_nested [] f = tt
held_nested (l ∷ rest) f = (one_nested l f.0, held_nested rest f.1)

pub held_apart : (rs : List Looplet) → AllFlat rs → AllApart (map held rs)
held_apart [] f = tt
held_apart (l ∷ rest) f = ((λ x o q. one_owns x l f.0 o), held_apart rest f.1)

pub held_weight : (rs : List Looplet) → AllFlat rs → weights (map held rs) ≡ 0
held_weight [] f = refl
held_weight (l ∷ rest) f = omega (arith, one_weight l f.0, held_weight rest f.1)

-- ---- the locals of their coordinates

abbrev pub Among : ℕ → List ℕ → Type 0
Among x [] = ⊥
Among x (c ∷ cs) = (x ≡ c) ⊎ Among x cs

one_among : (x : ℕ) (l : Looplet) (cs : List ℕ) (rest : List Looplet) → is_flat l ≡ true → (AnyOwns x rest → Among x cs) → AnyOwns x (l ∷ rest) → Among x (coordinate l ++ cs)
one_among x (Run k) cs rest f h o = ⊎_elim (λ a. absurd a) (λ b. h b) o
one_among x (Spike b u) cs rest f h o = absurd (cc)
one_among x (Lookup c k) cs rest f h o = ⊎_elim (λ a. inl a) (λ b. inr (h b)) o
one_among x (Sequence' n phases) cs rest f h o = absurd (cc)
one_among x (Stepper' parts walker) cs rest f h o = absurd (cc)
one_among x (Jumper' parts walker) cs rest f h o = absurd (cc)
one_among x (Switch' n cases) cs rest f h o = absurd (cc)
one_among x (Shift' by parts child) cs rest f h o = absurd (cc)

pub owned_among : (x : ℕ) (rs : List Looplet) → AllFlat rs → AnyOwns x rs → Among x (coordinates rs)
owned_among x [] f o = o
owned_among x (l ∷ rest) f o = one_among x l (coordinates rest) rest f.0 (owned_among x rest f.1) o

among_one : (x : ℕ) (l : Looplet) (cs : List ℕ) (rest : List Looplet) → is_flat l ≡ true → (Among x cs → AnyOwns x rest) → Among x (coordinate l ++ cs) → AnyOwns x (l ∷ rest)
among_one x (Run k) cs rest f h o = inr (h o)
among_one x (Spike b u) cs rest f h o = absurd (cc)
among_one x (Lookup c k) cs rest f h o = ⊎_elim (λ a. inl a) (λ b. inr (h b)) o
among_one x (Sequence' n phases) cs rest f h o = absurd (cc)
among_one x (Stepper' parts walker) cs rest f h o = absurd (cc)
among_one x (Jumper' parts walker) cs rest f h o = absurd (cc)
among_one x (Switch' n cases) cs rest f h o = absurd (cc)
among_one x (Shift' by parts child) cs rest f h o = absurd (cc)

pub among_owned : (x : ℕ) (rs : List Looplet) → AllFlat rs → Among x (coordinates rs) → AnyOwns x rs
among_owned x [] f o = o
among_owned x (l ∷ rest) f o = among_one x l (coordinates rest) rest f.0 (among_owned x rest f.1) o
