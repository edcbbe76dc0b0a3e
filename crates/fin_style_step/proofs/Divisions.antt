-- The first sequence of a list: what the two parts of the list show, ask and depend on, and what they weigh.
use Rattle.std.proofs.Common.{◌≡◌, ℕ, ◌+◌, ◌≤◌, ◌⊎◌, inl, inr, ⊎_elim, List, [], ◌∷◌, Bool, true, false, Option, Some, None, refl, ap, subst, ℤ, pos, ◌+ℤ◌, ◌≤ℤ◌, ◌<ℤ◌, arith}
use Rattle.std.specs.Prelude.{map, ◌||◌}
use Rattle.fin_ir.specs.declared.expression.IExpr.{IExpr}
use Rattle.fin_looplet.specs.declared.looplet.Looplet.{Looplet}
use Rattle.fin_looplet.specs.Names.{Names, Loads}
use Rattle.fin_looplet.specs.View.{Store, value, View, view}
use Rattle.fin_looplet.specs.Sound.{Near}
use Rattle.fin_looplet.specs.Cut.{cut}
use Rattle.fin_looplet.specs.Like.{AllLike}
use Rattle.fin_looplet.specs.Lists.{views, any_ends, AllSound, AnyFree, AnyLoads, AnyOwns, AnyShiftNames, AllNested, AllApart}
use Rattle.fin_looplet.specs.Weight.{weights}
use Rattle.fin_looplet.proofs.Frame.{sound_less}
use Rattle.fin_looplet.proofs.Cuts.{like_on, cut_like, cut_sound}
use Rattle.fin_looplet.proofs.CutLocals.{cut_free, cut_loads, cut_owns, cut_shift_names, cut_nested}
use Rattle.fin_looplet.proofs.Weights.{cut_light, cut_all_light}
use Rattle.fin_looplet.proofs.Lists.{all_less, cut_views, cut_all_sound, cut_all_free, cut_all_loads, cut_all_owns, cut_all_shift_names}
use Rattle.fin_style_step.specs.Steps.{Phased, phased, Division, here_or_later, first_sequence}
use Rattle.fin_style_step.proofs.Phases.{nears, same_some, Parted, parted}

-- looplets that own and depend on no more, but for the end, and weigh 2 less
pub record AllWithin (hi : IExpr) (rs part : List Looplet) : Type 0 where
  pub owns : (x : ℕ) → AnyOwns x part → AnyOwns x rs
  pub free : (x : ℕ) → AnyFree x part → Names x hi ⊎ AnyFree x rs
  pub loads : (t : ℕ) → AnyLoads t part → Loads t hi ⊎ AnyLoads t rs
  pub shifts : (x : ℕ) → AnyShiftNames x part → AnyShiftNames x rs
  pub nested : AllNested rs → AllNested part
  pub apart : AllApart rs → AllApart part
  pub lighter : weights part + 2 ≤ weights rs

pub record Divided (hi : IExpr) (rs : List Looplet) (d : Division) : Type 0 where
  pub here : AllWithin hi rs d.here
  pub others : AllWithin hi rs d.others
  pub stop_names : (x : ℕ) → Names x d.stop → AnyFree x rs
  pub stop_loads : (t : ℕ) → Loads t d.stop → AnyLoads t rs
  pub here_like : (ts : Store) (ls : List ℤ) (c top end i : ℤ) → ((i +ℤ pos 1) <ℤ c → (i +ℤ pos 1) <ℤ value ts ls hi) → ((i +ℤ pos 1) <ℤ c → (i +ℤ pos 1) <ℤ value ts ls d.stop)
      → Near i → i <ℤ value ts ls hi → i <ℤ value ts ls d.stop → AllSound Near ts ls rs (λ j. j <ℤ top) i → AllLike ((i +ℤ pos 1) <ℤ c) (views ts ls d.here end i) (views ts ls rs (value ts ls hi) i)
  pub here_sound : (ts : Store) (ls : List ℤ) (top to i : ℤ) → Near i → i <ℤ value ts ls hi → i <ℤ value ts ls d.stop → ((j : ℤ) → j <ℤ to → (j <ℤ top) × (j <ℤ value ts ls d.stop))
      → AllSound Near ts ls rs (λ j. j <ℤ top) i → AllSound Near ts ls d.here (λ j. j <ℤ to) i
  pub ends : (ts : Store) (ls : List ℤ) (top e i : ℤ) → i <ℤ value ts ls d.stop → value ts ls d.stop ≤ℤ (i +ℤ pos 1) → AllSound Near ts ls rs (λ j. j <ℤ top) i → any_ends (views ts ls rs e i) ≡ true
  pub others_views : (ts : Store) (ls : List ℤ) (top e i : ℤ) → value ts ls d.stop ≤ℤ i → AllSound Near ts ls rs (λ j. j <ℤ top) i → views ts ls d.others e i ≡ views ts ls rs e i
  pub others_sound : (ts : Store) (ls : List ℤ) (top i : ℤ) → value ts ls d.stop ≤ℤ i → AllSound Near ts ls rs (λ j. j <ℤ top) i → AllSound Near ts ls d.others (λ j. j <ℤ top) i

-- ---- all looplets cut at the end

cut_apart : (hi : IExpr) (rs : List Looplet) → AllApart rs → AllApart (map (cut hi) rs)
cut_apart hi [] h = tt
cut_apart hi (l ∷ rest) h = ((λ x o q. h.0 x (cut_owns x l hi o) (cut_all_owns x rest hi q)), cut_apart hi rest h.1)

cut_all_nested : (hi : IExpr) (rs : List Looplet) → AllNested rs → AllNested (map (cut hi) rs)
cut_all_nested hi [] h = tt
cut_all_nested hi (l ∷ rest) h = (cut_nested l hi h.0, cut_all_nested hi rest h.1)

-- of two, the second one or the first
pub either_true : (a b : Bool) → b ≡ true → (a || b) ≡ true
either_true true b e = refl
either_true false b e = e

-- ---- the sequence is the first looplet

module _ (hi : IExpr) (l : Looplet) (rest : List Looplet) (p : Phased) (w : Parted l p) where
  abbrev at_head : Division
  at_head = record { stop = p.stop; here = p.here ∷ map (cut hi) rest; others = p.others ∷ rest }

  head_here : AllWithin hi (l ∷ rest) (p.here ∷ map (cut hi) rest)
  head_here = record {
    owns = λ x o. ⊎_elim (λ a. inl (w.here.owns x a)) (λ b. inr (cut_all_owns x rest hi b)) o;
    free = λ x o. ⊎_elim (λ a. inr (inl (w.here.free x a))) (λ b. ⊎_elim (λ n. inl n) (λ g. inr (inr g)) (cut_all_free x rest hi b)) o;
    loads = λ t o. ⊎_elim (λ a. inr (inl (w.here.loads t a))) (λ b. ⊎_elim (λ n. inl n) (λ g. inr (inr g)) (cut_all_loads t rest hi b)) o;
    shifts = λ x o. ⊎_elim (λ a. inl (w.here.shifts x a)) (λ b. inr (cut_all_shift_names x rest hi b)) o;
    nested = λ h. (w.here.nested h.0, cut_all_nested hi rest h.1);
    apart = λ h. ((λ x o q. h.0 x (w.here.owns x o) (cut_all_owns x rest hi q)), cut_apart hi rest h.1);
    lighter = omega (arith, w.here.lighter, cut_all_light hi rest);
  }

  head_others : AllWithin hi (l ∷ rest) (p.others ∷ rest)
  head_others = record {
    owns = λ x o. ⊎_elim (λ a. inl (w.others.owns x a)) (λ b. inr b) o;
    free = λ x o. ⊎_elim (λ a. inr (inl (w.others.free x a))) (λ b. inr (inr b)) o;
    loads = λ t o. ⊎_elim (λ a. inr (inl (w.others.loads t a))) (λ b. inr (inr b)) o;
    shifts = λ x o. ⊎_elim (λ a. inl (w.others.shifts x a)) (λ b. inr b) o;
    nested = λ h. (w.others.nested h.0, h.1);
    apart = λ h. ((λ x o q. h.0 x (w.others.owns x o) q), h.1);
    lighter = omega (arith, w.others.lighter);
  }

  head : Divided hi (l ∷ rest) at_head
  head = record {
    here = head_here;
    others = head_others;
    stop_names = λ x h. inl (w.stop_names x h);
    stop_loads = λ t h. inl (w.stop_loads t h);
    here_like = λ ts ls c top end i in_hi in_stop near under_hi under s. (
      like_on (view ts ls p.here end i) (view ts ls l (value ts ls hi) i) (view ts ls l (value ts ls hi) i) in_stop (w.here_like ts ls top end (value ts ls hi) i near under s.0) refl,
      cut_views Near nears ts ls rest hi end i (λ j. j <ℤ top) ((i +ℤ pos 1) <ℤ c) in_hi near under_hi s.1,
    );
    here_sound = λ ts ls top to i near under_hi under h s. (
      w.here_sound ts ls top to i near under h s.0,
      all_less Near Near nears ts ls (map (cut hi) rest) (λ j. j <ℤ top) (λ j. j <ℤ to) i (λ j q. (h j q).0) (cut_all_sound Near nears ts ls rest hi i (λ j. j <ℤ top) near under_hi s.1),
    );
    ends = λ ts ls top e i under over s. ap (λ (b : Bool). b || any_ends (views ts ls rest e i)) (w.ends ts ls top e i under over s.0);
    others_views = λ ts ls top e i over s. ap (λ (v : View). v ∷ views ts ls rest e i) (w.others_view ts ls top e i over s.0);
    others_sound = λ ts ls top i over s. (w.others_sound ts ls top i over s.0, s.1);
  }

-- ---- it is a later one

module _ (hi : IExpr) (l : Looplet) (rest : List Looplet) (d : Division) (w : Divided hi rest d) where
  abbrev behind : Division
  behind = record { stop = d.stop; here = cut hi l ∷ d.here; others = l ∷ d.others }

  tail_here : AllWithin hi (l ∷ rest) (cut hi l ∷ d.here)
  tail_here = record {
    owns = λ x o. ⊎_elim (λ a. inl (cut_owns x l hi a)) (λ b. inr (w.here.owns x b)) o;
    free = λ x o. ⊎_elim (λ a. ⊎_elim (λ n. inl n) (λ g. inr (inl g)) (cut_free x l hi a)) (λ b. ⊎_elim (λ n. inl n) (λ g. inr (inr g)) (w.here.free x b)) o;
    loads = λ t o. ⊎_elim (λ a. ⊎_elim (λ n. inl n) (λ g. inr (inl g)) (cut_loads t l hi a)) (λ b. ⊎_elim (λ n. inl n) (λ g. inr (inr g)) (w.here.loads t b)) o;
    shifts = λ x o. ⊎_elim (λ a. inl (cut_shift_names x l hi a)) (λ b. inr (w.here.shifts x b)) o;
    nested = λ h. (cut_nested l hi h.0, w.here.nested h.1);
    apart = λ h. ((λ x o q. h.0 x (cut_owns x l hi o) (w.here.owns x q)), w.here.apart h.1);
    lighter = omega (arith, w.here.lighter, cut_light hi l);
  }

  tail_others : AllWithin hi (l ∷ rest) (l ∷ d.others)
  tail_others = record {
    owns = λ x o. ⊎_elim (λ a. inl a) (λ b. inr (w.others.owns x b)) o;
    free = λ x o. ⊎_elim (λ a. inr (inl a)) (λ b. ⊎_elim (λ n. inl n) (λ g. inr (inr g)) (w.others.free x b)) o;
    loads = λ t o. ⊎_elim (λ a. inr (inl a)) (λ b. ⊎_elim (λ n. inl n) (λ g. inr (inr g)) (w.others.loads t b)) o;
    shifts = λ x o. ⊎_elim (λ a. inl a) (λ b. inr (w.others.shifts x b)) o;
    nested = λ h. (h.0, w.others.nested h.1);
    apart = λ h. ((λ x o q. h.0 x o (w.others.owns x q)), w.others.apart h.1);
    lighter = omega (arith, w.others.lighter);
  }

  tail : Divided hi (l ∷ rest) behind
  tail = record {
    here = tail_here;
    others = tail_others;
    stop_names = λ x h. inr (w.stop_names x h);
    stop_loads = λ t h. inr (w.stop_loads t h);
    here_like = λ ts ls c top end i in_hi in_stop near under_hi under s. (
      like_on (view ts ls (cut hi l) end i) (view ts ls l (value ts ls hi) i) (view ts ls l (value ts ls hi) i) in_hi (cut_like Near nears ts ls l hi end i (λ j. j <ℤ top) near under_hi s.0) refl,
      w.here_like ts ls c top end i in_hi in_stop near under_hi under s.1,
    );
    here_sound = λ ts ls top to i near under_hi under h s. (
      sound_less Near Near nears ts ls (cut hi l) (λ j. j <ℤ top) (λ j. j <ℤ to) i (λ j q. (h j q).0) (cut_sound Near nears ts ls l hi i (λ j. j <ℤ top) near under_hi s.0),
      w.here_sound ts ls top to i near under_hi under h s.1,
    );
    ends = λ ts ls top e i under over s. either_true (view ts ls l e i).ends (any_ends (views ts ls rest e i)) (w.ends ts ls top e i under over s.1);
    others_views = λ ts ls top e i over s. ap (λ (vs : List View). view ts ls l e i ∷ vs) (w.others_views ts ls top e i over s.1);
    others_sound = λ ts ls top i over s. (s.0, w.others_sound ts ls top i over s.1);
  }

divide : (hi : IExpr) (o : Option Phased) (l : Looplet) (rest : List Looplet) (later : Option Division) → ((p : Phased) → o ≡ Some p → Parted l p) → ((d : Division) → later ≡ Some d → Divided hi rest d)
    → (d : Division) → here_or_later hi o l rest later ≡ Some d → Divided hi (l ∷ rest) d
divide hi (Some p) l rest later h k d e = subst (Divided hi (l ∷ rest)) (same_some (record { stop = p.stop; here = p.here ∷ map (cut hi) rest; others = p.others ∷ rest }) d e) (head hi l rest p (h p refl))
divide hi None l rest None h k d e = absurd (cc)
divide hi None l rest (Some c) h k d e = subst (Divided hi (l ∷ rest)) (same_some (record { stop = c.stop; here = cut hi l ∷ c.here; others = l ∷ c.others }) d e) (tail hi l rest c (k c refl))

pub divided : (hi : IExpr) (rs : List Looplet) (d : Division) → first_sequence hi rs ≡ Some d → Divided hi rs d
divided hi [] d e = absurd (cc)
divided hi (l ∷ rest) d e = divide hi (phased l) l rest (first_sequence hi rest) (λ p. parted l p) (λ c. divided hi rest c) d e

-- views that are the same are alike
self_like : (inside : Type 0) (vs : List View) → AllLike inside vs vs
self_like inside [] = tt
self_like inside (v ∷ vs) = (record { seen = refl; ends = λ h. refl; stop = λ h. refl }, self_like inside vs)

pub all_like : (inside : Type 0) (vs ws : List View) → vs ≡ ws → AllLike inside vs ws
all_like inside vs ws e = subst (AllLike inside vs) e (self_like inside vs)
