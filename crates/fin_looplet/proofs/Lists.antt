-- Lists of looplets: what they show and depend on, where they agree, serve less, or are cut.
use Rattle.std.proofs.Common.{◌≡◌, ℕ, ◌⊎◌, inl, inr, ⊎_elim, List, [], ◌∷◌, length, Bool, refl, ap, ◌∙◌, ℤ, pos, ◌+ℤ◌, ◌<ℤ◌}
use Rattle.std.specs.Prelude.{map, ◌||◌}
use Rattle.fin_ir.specs.declared.expression.IExpr.{IExpr}
use Rattle.fin_looplet.specs.declared.looplet.Looplet.{Looplet}
use Rattle.fin_looplet.specs.Names.{Names, Loads}
use Rattle.fin_looplet.specs.View.{Store, value, Seen, View, view}
use Rattle.fin_looplet.specs.Sound.{Places, Near}
use Rattle.fin_looplet.specs.Cut.{cut}
use Rattle.fin_looplet.specs.Like.{AllLike}
use Rattle.fin_looplet.specs.Lists.{views, seens, any_ends, any_stop, AllSound, AnyFree, AnyLoads, AnyOwns, AnyShiftNames, AllNested, AllApart, AllSeparate}
use Rattle.fin_looplet.proofs.Exprs.{get}
use Rattle.fin_looplet.proofs.Frame.{view_same, sound_less, sound_same}
use Rattle.fin_looplet.proofs.Cuts.{like_on, cut_like, cut_sound}
use Rattle.fin_looplet.proofs.CutLocals.{cut_free, cut_loads, cut_owns, cut_shift_names, cut_nested}

-- ---- views that are alike, one by one
pub like_seens : (inside : Type 0) (vs ws : List View) → AllLike inside vs ws → seens vs ≡ seens ws
like_seens inside [] [] h = refl
like_seens inside [] (w ∷ ws) h = absurd h
like_seens inside (v ∷ vs) [] h = absurd h
like_seens inside (v ∷ vs) (w ∷ ws) h = ap (λ (x : Seen). x ∷ seens vs) h.0.seen ∙ ap (λ (xs : List Seen). w.seen ∷ xs) (like_seens inside vs ws h.1)

pub like_ends : (inside : Type 0) (vs ws : List View) → inside → AllLike inside vs ws → any_ends vs ≡ any_ends ws
like_ends inside [] [] i h = refl
like_ends inside [] (w ∷ ws) i h = absurd h
like_ends inside (v ∷ vs) [] i h = absurd h
like_ends inside (v ∷ vs) (w ∷ ws) i h = ap (λ (b : Bool). b || any_ends vs) (h.0.ends i) ∙ ap (λ (b : Bool). w.ends || b) (like_ends inside vs ws i h.1)

pub like_stop : (inside : Type 0) (vs ws : List View) → inside → AllLike inside vs ws → any_stop vs ≡ any_stop ws
like_stop inside [] [] i h = refl
like_stop inside [] (w ∷ ws) i h = absurd h
like_stop inside (v ∷ vs) [] i h = absurd h
like_stop inside (v ∷ vs) (w ∷ ws) i h = ap (λ (b : Bool). b || any_stop vs) (h.0.stop i) ∙ ap (λ (b : Bool). w.stop || b) (like_stop inside vs ws i h.1)

-- ---- locals that agree on what is free
pub views_same : (ts : Store) (rs : List Looplet) (ls ls' : List ℤ) (end i : ℤ) → length ls ≡ length ls' → ((x : ℕ) → AnyFree x rs → get ls x ≡ get ls' x) → views ts ls rs end i ≡ views ts ls' rs end i
views_same ts [] ls ls' end i long h = refl
views_same ts (l ∷ rest) ls ls' end i long h =
    ap (λ (z : View). z ∷ views ts ls rest end i) (view_same ts l ls ls' end i long (λ x n. h x (inl n))) ∙ ap (λ (z : List View). view ts ls' l end i ∷ z) (views_same ts rest ls ls' end i long (λ x n. h x (inr n)))

pub all_same : (reach : Places) (ts : Store) (rs : List Looplet) (ls ls' : List ℤ) (P : Places) (i : ℤ) → length ls ≡ length ls' → ((x : ℕ) → AnyFree x rs → get ls x ≡ get ls' x) → AllSound reach ts ls rs P i → AllSound reach ts ls' rs P i
all_same reach ts [] ls ls' P i long h s = tt
all_same reach ts (l ∷ rest) ls ls' P i long h s = (sound_same reach ts l ls ls' P i long (λ x n. h x (inl n)) s.0, all_same reach ts rest ls ls' P i long (λ x n. h x (inr n)) s.1)

pub all_less : (reach wider : Places) → ((j : ℤ) → reach j → wider j) → (ts : Store) (ls : List ℤ) (rs : List Looplet) (P Q : Places) (i : ℤ) → ((j : ℤ) → Q j → P j) → AllSound reach ts ls rs P i → AllSound wider ts ls rs Q i
all_less reach wider r ts ls [] P Q i h s = tt
all_less reach wider r ts ls (l ∷ rest) P Q i h s = (sound_less reach wider r ts ls l P Q i h s.0, all_less reach wider r ts ls rest P Q i h s.1)

-- ---- cut at the end of their region
module _ (reach : Places) (nears : (z : ℤ) → reach z → Near z) (ts : Store) (ls : List ℤ) where
  pub cut_views : (rs : List Looplet) (e : IExpr) (end i : ℤ) (P : Places) (inside : Type 0) → (inside → (i +ℤ pos 1) <ℤ value ts ls e) → Near i → i <ℤ value ts ls e → AllSound reach ts ls rs P i → AllLike inside (views ts ls (map (cut e) rs) end i) (views ts ls rs (value ts ls e) i)
  cut_views [] e end i P inside f near under s = tt
  cut_views (l ∷ rest) e end i P inside f near under s =
      (like_on (view ts ls (cut e l) end i) (view ts ls l (value ts ls e) i) (view ts ls l (value ts ls e) i) f (cut_like reach nears ts ls l e end i P near under s.0) refl, cut_views rest e end i P inside f near under s.1)

  pub cut_all_sound : (rs : List Looplet) (e : IExpr) (i : ℤ) (P : Places) → Near i → i <ℤ value ts ls e → AllSound reach ts ls rs P i → AllSound reach ts ls (map (cut e) rs) P i
  cut_all_sound [] e i P near under s = tt
  cut_all_sound (l ∷ rest) e i P near under s = (cut_sound reach nears ts ls l e i P near under s.0, cut_all_sound rest e i P near under s.1)

pub cut_all_free : (x : ℕ) (rs : List Looplet) (e : IExpr) → AnyFree x (map (cut e) rs) → Names x e ⊎ AnyFree x rs
cut_all_free x [] e f = inr f
cut_all_free x (l ∷ rest) e (inl f) = ⊎_elim (λ n. inl n) (λ g. inr (inl g)) (cut_free x l e f)
cut_all_free x (l ∷ rest) e (inr f) = ⊎_elim (λ n. inl n) (λ g. inr (inr g)) (cut_all_free x rest e f)

pub cut_all_loads : (t : ℕ) (rs : List Looplet) (e : IExpr) → AnyLoads t (map (cut e) rs) → Loads t e ⊎ AnyLoads t rs
cut_all_loads t [] e f = inr f
cut_all_loads t (l ∷ rest) e (inl f) = ⊎_elim (λ n. inl n) (λ g. inr (inl g)) (cut_loads t l e f)
cut_all_loads t (l ∷ rest) e (inr f) = ⊎_elim (λ n. inl n) (λ g. inr (inr g)) (cut_all_loads t rest e f)

pub cut_all_owns : (x : ℕ) (rs : List Looplet) (e : IExpr) → AnyOwns x (map (cut e) rs) → AnyOwns x rs
cut_all_owns x [] e f = f
cut_all_owns x (l ∷ rest) e (inl f) = inl (cut_owns x l e f)
cut_all_owns x (l ∷ rest) e (inr f) = inr (cut_all_owns x rest e f)

pub cut_all_shift_names : (x : ℕ) (rs : List Looplet) (e : IExpr) → AnyShiftNames x (map (cut e) rs) → AnyShiftNames x rs
cut_all_shift_names x [] e f = f
cut_all_shift_names x (l ∷ rest) e (inl f) = inl (cut_shift_names x l e f)
cut_all_shift_names x (l ∷ rest) e (inr f) = inr (cut_all_shift_names x rest e f)

cut_all_nested : (rs : List Looplet) (e : IExpr) → AllNested rs → AllNested (map (cut e) rs)
cut_all_nested [] e h = tt
cut_all_nested (l ∷ rest) e h = (cut_nested l e h.0, cut_all_nested rest e h.1)

cut_all_apart : (rs : List Looplet) (e : IExpr) → AllApart rs → AllApart (map (cut e) rs)
cut_all_apart [] e h = tt
cut_all_apart (l ∷ rest) e h = ((λ x o q. h.0 x (cut_owns x l e o) (cut_all_owns x rest e q)), cut_all_apart rest e h.1)

-- where the end names no own local
pub cut_all_separate : (rs : List Looplet) (e : IExpr) → ((x : ℕ) → AnyOwns x rs → Names x e → ⊥) → AllSeparate rs → AllSeparate (map (cut e) rs)
cut_all_separate rs e clear s = record {
  nested = cut_all_nested rs e s.nested;
  apart = cut_all_apart rs e s.apart;
  bound = λ x o f. ⊎_elim (λ n. clear x (cut_all_owns x rs e o) n) (λ g. s.bound x (cut_all_owns x rs e o) g) (cut_all_free x rs e f);
  unshifted = λ x o n. s.unshifted x (cut_all_owns x rs e o) (cut_all_shift_names x rs e n);
}
