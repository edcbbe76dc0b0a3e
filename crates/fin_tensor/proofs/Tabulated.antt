-- Tabulated functions.
use Rattle.std.proofs.Common.{◌≡◌, ◌≢◌, ℕ, zero, suc, ◌+◌, ◌<◌, ◌≤◌, List, [], ◌∷◌, ◌++◌, map, refl, sym, ap, ◌∙◌, subst, inl, inr, ◌⊎◌, ⊎_elim, arith, ℤ, IsTrue, Bool, true, false}
use Rattle.std.specs.Prelude.{nat_lt, ◌&&◌, flat_map}
use Rattle.std.specs.List.{range_with_len}
use Rattle.std.specs.Ordering.{nat_cmp}
use Rattle.std.specs.Cmp.Lexicographic.{slice_cmp}
use Rattle.std.specs.Int.{w64}
use Rattle.std.specs.Prelude.{FitsSigned}
use Rattle.std.specs.BTreeMap.{is_at}
use Rattle.std.proofs.lemmas.Bool.{cases_eq, ltb-true, lt-ltb}
use Rattle.fin_tensor.specs.TensorFunction.{TensorFunction, value_at, filled, with_value, IsTensor, is_in_box, box}
use Rattle.fin_tensor.proofs.Functions.{gives_one_place, keeps_tensors_by, empty_is, tied_are_same, tied}
use Rattle.fin_tensor.specs.Levels.{value_from}
use Rattle.fin_tensor.specs.Stands.{spread, stands, tabulated, TabulatedGives}
use Rattle.fin_tensor.specs.declared.storage.Storage.{Storage}

-- the list is one of these
abbrev Among : List (List ℕ) → List ℕ → Type 0
Among [] cs = ⊥
Among (c ∷ css) cs = (cs ≡ c) ⊎ Among css cs

same_or_not : (a b : List ℕ) → (a ≡ b) ⊎ (a ≢ b)
same_or_not a b = elim (is_at (slice_cmp nat_cmp a) b) as (λ t. is_at (slice_cmp nat_cmp a) b ≡ t → (a ≡ b) ⊎ (a ≢ b)) [
  | true ↦ λ e. inl (tied_are_same a b e)
  | false ↦ λ e. inr (λ s. let h : is_at (slice_cmp nat_cmp a) b ≡ true = subst (λ (x : List ℕ). is_at (slice_cmp nat_cmp a) x ≡ true) s (tied a) in let x : true ≡ false = sym h ∙ e in cc)
] refl

given : (css : List (List ℕ)) (f : List ℕ → ℤ) (t : TensorFunction) (cs : List ℕ) → Among css cs ⊎ (value_at t cs ≡ f cs) → value_at (spread css f t) cs ≡ f cs
given [] f t cs (inl h) = absurd h
given [] f t cs (inr h) = h
given (c ∷ css) f t cs h =
    let law = gives_one_place t c (f c) in
    ⊎_elim
    (λ (e : cs ≡ c). given css f (with_value t c (f c)) cs (inr (ap (value_at (with_value t c (f c))) e ∙ law.0 ∙ ap f (sym e))))
    (λ (n : cs ≢ c). given css f (with_value t c (f c)) cs (⊎_elim
    (λ (a : Among (c ∷ css) cs). ⊎_elim (λ (e : cs ≡ c). absurd (n e)) (λ (b : Among css cs). inl b) a)
    (λ (v : value_at t cs ≡ f cs). inr (law.1 cs n ∙ v)) h))
    (same_or_not cs c)

among_left : (a b : List (List ℕ)) (cs : List ℕ) → Among a cs → Among (a ++ b) cs
among_left [] b cs h = absurd h
among_left (c ∷ a) b cs (inl e) = inl e
among_left (c ∷ a) b cs (inr h) = inr (among_left a b cs h)

among_right : (a b : List (List ℕ)) (cs : List ℕ) → Among b cs → Among (a ++ b) cs
among_right [] b cs h = h
among_right (c ∷ a) b cs h = inr (among_right a b cs h)

among_map : (i : ℕ) (css : List (List ℕ)) (cs : List ℕ) → Among css cs → Among (map (λ ds. i ∷ ds) css) (i ∷ cs)
among_map i [] cs h = absurd h
among_map i (c ∷ css) cs (inl e) = inl (ap (λ ds. i ∷ ds) e)
among_map i (c ∷ css) cs (inr h) = inr (among_map i css cs h)

among_slices : (css : List (List ℕ)) (a n i : ℕ) (cs : List ℕ) → a ≤ i → i < a + n → Among css cs → Among (flat_map (λ k. map (λ ds. k ∷ ds) css) (range_with_len a n)) (i ∷ cs)
among_slices css a zero i cs lo hi h = absurd (omega arith)
among_slices css a (suc n) i cs lo hi h =
    let rest = flat_map (λ k. map (λ ds. k ∷ ds) css) (range_with_len (a + 1) n) in
    ⊎_elim
    (λ (e : i ≡ a). among_left (map (λ ds. a ∷ ds) css) rest (i ∷ cs) (subst (λ (x : ℕ). Among (map (λ ds. x ∷ ds) css) (i ∷ cs)) e (among_map i css cs h)))
    (λ ne. among_right (map (λ ds. a ∷ ds) css) rest (i ∷ cs) (among_slices css (a + 1) n i cs (omega (arith, ne)) (omega arith) h))
    (cases_eq i a)

left : (a b : Bool) → (a && b) ≡ true → a ≡ true
left true b h = refl
left false b h = h

right : (a b : Bool) → (a && b) ≡ true → b ≡ true
right true b h = h
right false b h = cc

in_box : (ns cs : List ℕ) → IsTrue (is_in_box ns cs) → Among (box ns) cs
in_box [] [] h = inl refl
in_box [] (c ∷ cs) h = cc
in_box (n ∷ ns) [] h = cc
in_box (n ∷ ns) (c ∷ cs) h = among_slices (box ns) 0 n c cs (omega arith) (omega (arith, ltb-true c n (left (nat_lt c n) (is_in_box ns cs) h))) (in_box ns cs (right (nat_lt c n) (is_in_box ns cs) h))

-- each of these lies in the box
abbrev pub AllIn : List ℕ → List (List ℕ) → Type 0
AllIn shape [] = Unit {0}
AllIn shape (c ∷ css) = IsTrue (is_in_box shape c) × AllIn shape css

all_append : (shape : List ℕ) (a b : List (List ℕ)) → AllIn shape a → AllIn shape b → AllIn shape (a ++ b)
all_append shape [] b x y = y
all_append shape (c ∷ a) b x y = (x.0, all_append shape a b x.1 y)

all_map : (n i : ℕ) (ns : List ℕ) (css : List (List ℕ)) → i < n → AllIn ns css → AllIn (n ∷ ns) (map (λ ds. i ∷ ds) css)
all_map n i ns [] lt a = tt
all_map n i ns (c ∷ css) lt a = (let x = lt-ltb i n lt in let y = a.0 in rw (x, y) refl, all_map n i ns css lt a.1)

all_slices : (n : ℕ) (ns : List ℕ) (css : List (List ℕ)) (a m : ℕ) → a + m ≤ n → AllIn ns css → AllIn (n ∷ ns) (flat_map (λ k. map (λ ds. k ∷ ds) css) (range_with_len a m))
all_slices n ns css a zero h x = tt
all_slices n ns css a (suc m) h x = all_append (n ∷ ns) (map (λ ds. a ∷ ds) css) (flat_map (λ k. map (λ ds. k ∷ ds) css) (range_with_len (a + 1) m)) (all_map n a ns css (omega arith) x) (all_slices n ns css (a + 1) m (omega arith) x)

pub all_box : (ns : List ℕ) → AllIn ns (box ns)
all_box [] = (refl, tt)
all_box (n ∷ ns) = all_slices n ns (box ns) 0 n (omega arith) (all_box ns)

-- it has the shape and the fill
spread_shape : (css : List (List ℕ)) (f : List ℕ → ℤ) (t : TensorFunction) → (spread css f t).shape ≡ t.shape
spread_shape [] f t = refl
spread_shape (cs ∷ css) f t = spread_shape css f (with_value t cs (f cs))

spread_fill : (css : List (List ℕ)) (f : List ℕ → ℤ) (t : TensorFunction) → (spread css f t).fill ≡ t.fill
spread_fill [] f t = refl
spread_fill (cs ∷ css) f t = spread_fill css f (with_value t cs (f cs))

pub tabulated_shape : (shape : List ℕ) (fill : ℤ) (f : List ℕ → ℤ) → (tabulated shape fill f).shape ≡ shape
tabulated_shape shape fill f = spread_shape (box shape) f (filled shape fill)

pub tabulated_fill : (shape : List ℕ) (fill : ℤ) (f : List ℕ → ℤ) → (tabulated shape fill f).fill ≡ fill
tabulated_fill shape fill f = spread_fill (box shape) f (filled shape fill)

-- it is a tensor function where each value other than the fill is a word
spread_is_tensor : (css : List (List ℕ)) (f : List ℕ → ℤ) (t : TensorFunction) → AllIn t.shape css → ((cs : List ℕ) → IsTrue (is_in_box t.shape cs) → f cs ≢ t.fill → FitsSigned w64 (f cs)) → IsTensor t → IsTensor (spread css f t)
spread_is_tensor [] f t a w h = h
spread_is_tensor (c ∷ css) f t a w h = spread_is_tensor css f (with_value t c (f c)) a.1 w (keeps_tensors_by t c (f c) h a.0 (w c a.0))

pub tabulated_is_tensor : (shape : List ℕ) (fill : ℤ) (f : List ℕ → ℤ) → ((cs : List ℕ) → IsTrue (is_in_box shape cs) → f cs ≢ fill → FitsSigned w64 (f cs)) → IsTensor (tabulated shape fill f)
tabulated_is_tensor shape fill f w = spread_is_tensor (box shape) f (filled shape fill) (all_box shape) w (empty_is shape fill [] refl)

pub tabulated_gives : TabulatedGives
tabulated_gives shape fill f = (
  λ cs h. given (box shape) f (filled shape fill) cs (inl (in_box shape cs h)),
  λ w. tabulated_is_tensor shape fill f (λ cs h _. w cs h),
)

-- the value of what a storage stands for, by its levels
pub stands_at : (s : Storage) (cs : List ℕ) → IsTrue (is_in_box s.shape cs) → value_at (stands s) cs ≡ value_from s.shape s.parts s.val s.format.fill 0 cs
stands_at s cs within = (tabulated_gives s.shape s.format.fill (value_from s.shape s.parts s.val s.format.fill 0)).0 cs within
