-- Lists of positions that rise, one for each slice.
use Rattle.std.proofs.Common.{◌≡◌, ℕ, zero, suc, ◌+◌, ◌-◌, ◌<◌, ◌≤◌, List, [], ◌∷◌, ◌++◌, map, length, refl, ap, arith, ℤ, IsTrue}
use Rattle.std.specs.Prelude.{slice_index}
use Rattle.fin_tensor.specs.declared.part.Part.{Part}
use Rattle.fin_tensor.specs.TensorFunction.{is_in_box}
use Rattle.fin_tensor.specs.Levels.{value_from}
use Rattle.fin_tensor.specs.Canon.{Slice, slice_at}

-- the list rises, from a on and below b
abbrev pub Climbs : ℕ → ℕ → List ℕ → Type 0
Climbs a b [] = Unit {0}
Climbs a b (x ∷ xs) = (a ≤ x) × (x < b) × Climbs (x + 1) b xs

pub climbs_lower : (a a' b : ℕ) (xs : List ℕ) → a' ≤ a → Climbs a b xs → Climbs a' b xs
climbs_lower a a' b [] le h = tt
climbs_lower a a' b (x ∷ xs) le h = (omega (arith, h.0), h.1, h.2)

pub climbs_append : (a m b : ℕ) (xs ys : List ℕ) → a ≤ m → m ≤ b → Climbs a m xs → Climbs m b ys → Climbs a b (xs ++ ys)
climbs_append a m b [] ys le up h k = climbs_lower m a b ys le k
climbs_append a m b (x ∷ xs) ys le up h k = (h.0, omega (arith, h.1), climbs_append (x + 1) m b xs ys (omega (arith, h.1)) up h.2 k)

-- there is room for it
pub climbs_length : (a b : ℕ) (xs : List ℕ) → Climbs a b xs → length xs ≤ b - a
climbs_length a b [] h = omega arith
climbs_length a b (x ∷ xs) h = omega (arith, h.0, h.1, climbs_length (x + 1) b xs h.2)

-- the first is below the later ones
above : (c : ℕ → ℕ) (k : ℕ) (ks : List ℕ) → ((j : ℕ) → j + 1 < length (k ∷ ks) → c (slice_index (k ∷ ks) j) < c (slice_index (k ∷ ks) (j + 1))) → (j : ℕ) → j < length ks → c k + 1 ≤ c (slice_index ks j)
above c k ks rises zero h = omega (arith, rises 0 (omega arith))
above c k ks rises (suc j) h =
    let o : suc j + 1 ≡ suc (suc j) = omega arith in
    omega (arith, above c k ks rises j (omega arith), rises (suc j) (omega arith), ap (λ x. c (slice_index (k ∷ ks) x)) o)

-- a function of numbers climbs along a list
pub climbs_map : (c : ℕ → ℕ) (a b : ℕ) (ks : List ℕ) → ((j : ℕ) → j < length ks → a ≤ c (slice_index ks j)) → ((j : ℕ) → j < length ks → c (slice_index ks j) < b) → ((j : ℕ) → j + 1 < length ks → c (slice_index ks j) < c (slice_index ks (j + 1))) → Climbs a b (map c ks)
climbs_map c a b [] low high rises = tt
climbs_map c a b (k ∷ []) low high rises = (low 0 (omega arith), high 0 (omega arith), tt)
climbs_map c a b (k ∷ m ∷ ks) low high rises = (
  low 0 (omega arith),
  high 0 (omega arith),
  climbs_map c (c k + 1) b (m ∷ ks)
      (λ j h. above c k (m ∷ ks) rises j h)
      (λ j h. high (suc j) (omega arith))
      (λ j h. let o : suc j + 1 ≡ suc (j + 1) = omega arith in let s = rises (suc j) (omega arith) in omega (arith, s, ap (λ x. c (slice_index (k ∷ m ∷ ks) x)) o)),
)

-- ---- slices and the positions that they show
module _ (ns : List ℕ) (ps : List Part) (val : List ℤ) (fill : ℤ) where
  -- inside the box the slice has the values below the position
  abbrev pub Shows : ℕ → Slice → Type 0
  Shows q f = (cs : List ℕ) → IsTrue (is_in_box ns cs) → f cs ≡ value_from ns ps val fill q cs

  abbrev pub AllShow : List ℕ → List Slice → Type 0
  AllShow [] [] = Unit {0}
  AllShow (q ∷ qs) (f ∷ fs) = Shows q f × AllShow qs fs
  AllShow [] (f ∷ fs) = ⊥
  AllShow (q ∷ qs) [] = ⊥

  pub all_show_length : (qs : List ℕ) (fs : List Slice) → AllShow qs fs → length fs ≡ length qs
  all_show_length [] [] h = refl
  all_show_length (q ∷ qs) (f ∷ fs) h = ap suc (all_show_length qs fs h.1)
  all_show_length [] (f ∷ fs) h = absurd h
  all_show_length (q ∷ qs) [] h = absurd h

  pub all_show_append : (qs rs : List ℕ) (fs gs : List Slice) → AllShow qs fs → AllShow rs gs → AllShow (qs ++ rs) (fs ++ gs)
  all_show_append [] rs [] gs h k = k
  all_show_append (q ∷ qs) rs (f ∷ fs) gs h k = (h.0, all_show_append qs rs fs gs h.1 k)
  all_show_append [] rs (f ∷ fs) gs h k = absurd h
  all_show_append (q ∷ qs) rs [] gs h k = absurd h

  pub all_show_map : (c : ℕ → ℕ) (f : Slice) (ks : List ℕ) → ((j : ℕ) → j < length ks → Shows (c (slice_index ks j)) (slice_at f (slice_index ks j))) → AllShow (map c ks) (map (slice_at f) ks)
  all_show_map c f [] h = tt
  all_show_map c f (k ∷ ks) h = (h 0 (omega arith), all_show_map c f ks (λ j l. h (suc j) (omega arith)))
