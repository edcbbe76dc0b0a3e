-- The product of the dense extents.
use Rattle.std.proofs.Common.{◌≡◌, ℕ, zero, suc, ◌+◌, ◌*◌, ◌<◌, ◌≤◌, List, [], ◌∷◌, length, drop, max, refl, sym, ap, ◌∙◌, arith, Bool, true, false, drop-cons, length-drop, inl, inr, ◌⊎◌, ⊎_elim, min}
use Rattle.std.proofs.Math.Nat.{mul_assoc}
use Rattle.std.proofs.lemmas.Bool.{cases_lt}
use Rattle.std.specs.Prelude.{slice_index, slice_index_or, if◌then◌else◌}
use Rattle.fin_tensor.specs.declared.format.Level.{Level}
use Rattle.fin_tensor.specs.declared.format.Level.TheVariants as level
use Rattle.fin_tensor.specs.Placement.{is_dense}
use Rattle.fin_tensor.specs.Extents.{dense_size}

pub factor_some : (b : Bool) (n : ℕ) → 1 ≤ (if b then max n 1 else 1)
factor_some true n = omega arith
factor_some false n = omega arith

pub product_some : (a b : ℕ) → 1 ≤ a → 1 ≤ b → 1 ≤ a * b
product_some a b x y = grind arith

pub dense_size_some : (ls : List Level) (ns : List ℕ) → 1 ≤ dense_size ls ns
dense_size_some [] ns = omega arith
dense_size_some (l ∷ ls) [] = omega arith
dense_size_some (l ∷ ls) (n ∷ ns) = product_some (if is_dense l then max n 1 else 1) (dense_size ls ns) (factor_some (is_dense l) n) (dense_size_some ls ns)

-- one level further
pub dense_size_step : (k : ℕ) (ls : List Level) (ns : List ℕ) → k < length ls → k < length ns →
    dense_size (drop k ls) (drop k ns) ≡ (if is_dense (slice_index_or ls k level.Dense) then max (slice_index ns k) 1 else 1) * dense_size (drop (k + 1) ls) (drop (k + 1) ns)
dense_size_step k ls ns a b =
    let o : k + 1 ≡ suc k = omega arith in
    rw (o, drop-cons ls k level.Dense a, drop-cons ns k 0 b) refl

size_end : (ls : List Level) (ns : List ℕ) → length ls ≤ 0 ⊎ length ns ≤ 0 → dense_size ls ns ≡ 1
size_end [] ns h = refl
size_end (l ∷ ls) [] h = refl
size_end (l ∷ ls) (n ∷ ns) (inl h) = absurd (omega arith)
size_end (l ∷ ls) (n ∷ ns) (inr h) = absurd (omega arith)

-- where no level or no extent is left
pub dense_size_end : (k : ℕ) (ls : List Level) (ns : List ℕ) → min (length ls) (length ns) ≤ k → dense_size (drop k ls) (drop k ns) ≡ 1
dense_size_end k ls ns h = size_end (drop k ls) (drop k ns) (⊎_elim
    (λ (b : k < length ls). inr (let c : length ns ≤ k = omega arith in simp length-drop (omega arith)))
    (λ (a : length ls ≤ k). inl (simp length-drop (omega arith)))
    (cases_lt k (length ls)))

grows : (size f rest all whole : ℕ) → size * all ≡ whole → all ≡ f * rest → (size * f) * rest ≡ whole
grows size f rest all whole a b = mul_assoc size f rest ∙ ap (λ x. size * x) (sym b) ∙ a

times_more : (x r : ℕ) → 1 ≤ r → x ≤ x * r
times_more x zero h = absurd (omega arith)
times_more x (suc r) h = grind arith

exceeds : (m size f rest all whole : ℕ) → size * all ≡ whole → all ≡ f * rest → 1 ≤ rest → m < size * f → m < whole
exceeds m size f rest all whole a b some over =
    let e = grows size f rest all whole a b in
    let t : size * f ≤ (size * f) * rest = times_more (size * f) rest some in
    omega (arith, e, t)

pub dense_size_grows : (k : ℕ) (ls : List Level) (ns : List ℕ) (size f : ℕ) → k < length ls → k < length ns → size * dense_size (drop k ls) (drop k ns) ≡ dense_size ls ns → f ≡ (if is_dense (slice_index_or ls k level.Dense) then max (slice_index ns k) 1 else 1) →
    (size * f) * dense_size (drop (k + 1) ls) (drop (k + 1) ns) ≡ dense_size ls ns
dense_size_grows k ls ns size f a b h e =
    grows size f _ _ _ h (dense_size_step k ls ns a b ∙ ap (λ x. x * dense_size (drop (k + 1) ls) (drop (k + 1) ns)) (sym e))

pub dense_size_exceeds : (m k : ℕ) (ls : List Level) (ns : List ℕ) (size f : ℕ) → k < length ls → k < length ns → size * dense_size (drop k ls) (drop k ns) ≡ dense_size ls ns → f ≡ (if is_dense (slice_index_or ls k level.Dense) then max (slice_index ns k) 1 else 1) →
    m < size * f → m < dense_size ls ns
dense_size_exceeds m k ls ns size f a b h e over =
    exceeds m size f _ _ _ h (dense_size_step k ls ns a b ∙ ap (λ x. x * dense_size (drop (k + 1) ls) (drop (k + 1) ns)) (sym e)) (dense_size_some (drop (k + 1) ls) (drop (k + 1) ns)) over

pub one_left : (size all whole : ℕ) → all ≡ 1 → size * all ≡ whole → size ≡ whole
one_left size all whole e h = let s : size * all ≡ size * 1 = ap (λ x. size * x) e in let t : size * 1 ≡ size = grind arith in omega (arith, s, t, h)
