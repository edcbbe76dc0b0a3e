-- Before the stops: the locals and tensors of a list with its walkers' children, and what it weighs.
use Rattle.std.proofs.Common.{◌≡◌, ℕ, ◌+◌, ◌<◌, ◌≤◌, ◌⊎◌, inl, inr, ⊎_elim, List, [], ◌∷◌, length, Option, Some, None, refl, sym, subst, arith}
use Rattle.std.proofs.lemmas.Bool.{cases_eq}
use Rattle.fin_ir.specs.declared.expression.IExpr.{IExpr}
use Rattle.fin_looplet.specs.declared.looplet.Walker.{Walker}
use Rattle.fin_looplet.specs.declared.looplet.Looplet.{Looplet}
use Rattle.fin_looplet.specs.Names.{Names, Loads}
use Rattle.fin_looplet.specs.Locals.{Free, LoadsIn, Owns, ShiftNames, Nested}
use Rattle.fin_looplet.specs.Lists.{AnyFree, AnyLoads, AnyOwns, AnyShiftNames, AllNested, AllApart}
use Rattle.fin_looplet.specs.Weight.{weight, weights}
use Rattle.fin_looplet.proofs.CutLocals.{cut_free, cut_loads, cut_owns, cut_shift_names, cut_nested}
use Rattle.fin_looplet.proofs.Weights.{cut_light}
use Rattle.fin_style_step.specs.Steps.{listed, walkers, Among, inside, insides}
use Rattle.fin_style_step.proofs.Walks.{Walks, Kind, any_walks, among_first, among_later, among_split}

-- one looplet
record One (hi : IExpr) (o : Option Walker) (l : Looplet) : Type 0 where
  owns : (x : ℕ) → Owns x (inside hi o l) → Owns x l
  free : (x : ℕ) → Free x (inside hi o l) → Names x hi ⊎ (Free x l ⊎ ((w : Walker) × ((o ≡ Some w) × (x ≡ w.cursor))))
  loads : (t : ℕ) → LoadsIn t (inside hi o l) → Loads t hi ⊎ LoadsIn t l
  shifts : (x : ℕ) → ShiftNames x (inside hi o l) → ShiftNames x l
  nested : Nested l → Nested (inside hi o l)
  light : (ws : List Walker) (j k : ℕ) → j ≤ k → (0 < length ws → j + 2 ≤ k) → (weight (inside hi o l) + j ≤ weight l + k) × (0 < length (listed o ws) → (weight (inside hi o l) + j) + 2 ≤ weight l + k)
  -- a walker's cursor isn't its child's
  lets_go : Nested l → (w : Walker) → o ≡ Some w → Owns w.cursor (inside hi o l) → ⊥

one : (hi : IExpr) (o : Option Walker) (l : Looplet) → ((w : Walker) → o ≡ Some w → Walks l w) → One hi o l
one hi None l h = record {
  owns = λ x o. cut_owns x l hi o;
  free = λ x f. ⊎_elim (λ n. inl n) (λ g. inr (inl g)) (cut_free x l hi f);
  loads = λ t f. cut_loads t l hi f;
  shifts = λ x f. cut_shift_names x l hi f;
  nested = λ n. cut_nested l hi n;
  light = λ ws j k le some. (omega (arith, cut_light hi l, le), λ q. let z = some q in omega (arith, cut_light hi l, z));
  lets_go = λ n w e. absurd (cc);
}
one hi (Some w) l h =
    let k = h w refl in
    record {
      owns = λ x o. k.owns x (inr (inr (cut_owns x w.child w.stop o)));
      free = λ x f. ⊎_elim (λ e. inr (inr (w, (refl, e)))) (λ ne. inr (inl (k.sees x ne (cut_free x w.child w.stop f)))) (cases_eq x w.cursor);
      loads = λ t f. inr (k.loads t (inr (cut_loads t w.child w.stop f)));
      shifts = λ x f. k.shifts x (cut_shift_names x w.child w.stop f);
      nested = λ n. cut_nested w.child w.stop (k.nested n).1;
      light = λ ws i j le some. (omega (arith, cut_light w.stop w.child, k.weight_is, le), λ q. omega (arith, cut_light w.stop w.child, k.weight_is, le));
      lets_go = λ n v e o. (k.nested n).0.0 (cut_owns w.cursor w.child w.stop (subst (λ z. Owns z (inside hi (Some w) l)) (sym (cursor_of w v e)) o));
    } where
      cursor_of : (w v : Walker) → Some w ≡ Some v → w.cursor ≡ v.cursor
      cursor_of w v e = cc

module _ (kind : Looplet → Option Walker) (walk : Kind kind) (hi : IExpr) where
  this : (l : Looplet) → One hi (kind l) l
  this l = one hi (kind l) l (λ w. walk l w)

  pub insides_owns : (rs : List Looplet) (x : ℕ) → AnyOwns x (insides kind hi rs) → AnyOwns x rs
  insides_owns [] x o = o
  insides_owns (l ∷ rest) x o = ⊎_elim (λ a. inl ((this l).owns x a)) (λ b. inr (insides_owns rest x b)) o

  pub insides_free : (rs : List Looplet) (x : ℕ) → AnyFree x (insides kind hi rs) → Names x hi ⊎ (AnyFree x rs ⊎ ((w : Walker) × (Among w (walkers kind rs) × (x ≡ w.cursor))))
  insides_free [] x f = inr (inl f)
  insides_free (l ∷ rest) x (inl f) = ⊎_elim
      (λ n. inl n)
      (λ g. ⊎_elim (λ a. inr (inl (inl a))) (λ a. inr (inr (a.0, (among_first (kind l) a.0 (walkers kind rest) a.1.0, a.1.1)))) g)
      ((this l).free x f)
  insides_free (l ∷ rest) x (inr f) = ⊎_elim
      (λ n. inl n)
      (λ g. ⊎_elim (λ a. inr (inl (inr a))) (λ a. inr (inr (a.0, (among_later (kind l) a.0 (walkers kind rest) a.1.0, a.1.1)))) g)
      (insides_free rest x f)

  pub insides_loads : (rs : List Looplet) (t : ℕ) → AnyLoads t (insides kind hi rs) → Loads t hi ⊎ AnyLoads t rs
  insides_loads [] t f = inr f
  insides_loads (l ∷ rest) t (inl f) = ⊎_elim (λ n. inl n) (λ g. inr (inl g)) ((this l).loads t f)
  insides_loads (l ∷ rest) t (inr f) = ⊎_elim (λ n. inl n) (λ g. inr (inr g)) (insides_loads rest t f)

  pub insides_shifts : (rs : List Looplet) (x : ℕ) → AnyShiftNames x (insides kind hi rs) → AnyShiftNames x rs
  insides_shifts [] x f = f
  insides_shifts (l ∷ rest) x f = ⊎_elim (λ a. inl ((this l).shifts x a)) (λ b. inr (insides_shifts rest x b)) f

  pub insides_nested : (rs : List Looplet) → AllNested rs → AllNested (insides kind hi rs)
  insides_nested [] h = tt
  insides_nested (l ∷ rest) h = ((this l).nested h.0, insides_nested rest h.1)

  pub insides_apart : (rs : List Looplet) → AllApart rs → AllApart (insides kind hi rs)
  insides_apart [] h = tt
  insides_apart (l ∷ rest) h = ((λ x o q. h.0 x ((this l).owns x o) (insides_owns rest x q)), insides_apart rest h.1)

  insides_weigh : (rs : List Looplet) → (weights (insides kind hi rs) ≤ weights rs) × (0 < length (walkers kind rs) → weights (insides kind hi rs) + 2 ≤ weights rs)
  insides_weigh [] = (omega arith, λ q. absurd (omega (arith, q)))
  insides_weigh (l ∷ rest) = let r = insides_weigh rest in (this l).light (walkers kind rest) (weights (insides kind hi rest)) (weights rest) r.0 r.1

  pub insides_lighter : (rs : List Looplet) → 0 < length (walkers kind rs) → weights (insides kind hi rs) + 2 ≤ weights rs
  insides_lighter rs some = (insides_weigh rs).1 some

  -- a walker's cursor is no own local any more
  pub let_go : (rs : List Looplet) → AllApart rs → AllNested rs → (w : Walker) → Among w (walkers kind rs) → AnyOwns w.cursor (insides kind hi rs) → ⊥
  let_go [] apart nested w a o = absurd a
  let_go (l ∷ rest) apart nested w a o = ⊎_elim
      (λ e. ⊎_elim
      (λ q. (this l).lets_go nested.0 w e q)
      (λ q. apart.0 w.cursor ((walk l w e).owns w.cursor (inl refl)) (insides_owns rest w.cursor q)) o)
      (λ b. ⊎_elim
      (λ q. apart.0 w.cursor ((this l).owns w.cursor q) ((any_walks kind walk rest w b).owns w.cursor (inl refl)))
      (λ q. let_go rest apart.1 nested.1 w b q) o)
      (among_split (kind l) w (walkers kind rest) a)
