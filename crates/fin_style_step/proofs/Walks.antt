-- The walkers of a kind at the head of looplets: what they show, ask and depend on.
use Rattle.std.proofs.Common.{◌≡◌, ◌≢◌, ℕ, ◌+◌, ◌⊎◌, inl, inr, ⊎_elim, List, [], ◌∷◌, Bool, true, Option, Some, None, refl, sym, ap, ◌∙◌, subst, ℤ, pos, ◌+ℤ◌, ◌≤ℤ◌, ◌<ℤ◌}
use Rattle.std.specs.Prelude.{◌||◌, ◌&&◌, int_le, slice_set}
use Rattle.fin_looplet.specs.declared.looplet.Walker.{Walker}
use Rattle.fin_looplet.specs.declared.looplet.Looplet.{Looplet, end_of-Walker, more_of-Walker}
use Rattle.fin_looplet.specs.declared.looplet.Looplet.TheVariants.{Run, Spike, Lookup, Sequence', Stepper', Jumper', Switch', Shift'}
use Rattle.fin_looplet.specs.Names.{Names, Loads}
use Rattle.fin_looplet.specs.View.{Store, value, View, view, ended, at_step}
use Rattle.fin_looplet.specs.Sound.{SoundWithin, Near}
use Rattle.fin_looplet.specs.Locals.{Free, LoadsIn, Owns, ShiftNames, Nested}
use Rattle.fin_looplet.specs.Lists.{views, any_ends, AllSound, AnyFree, AnyLoads, AnyOwns}
use Rattle.fin_looplet.specs.Weight.{weight}
use Rattle.fin_nest.specs.Nests.{any_counted}
use Rattle.fin_style_step.specs.Steps.{stepper, jumper, listed, walkers, Among, stop_at}
use Rattle.fin_style_step.specs.Laws.{Counted, CountsOne}
use Rattle.fin_style_step.proofs.Phases.{same_some}
use Rattle.fin_style_step.proofs.Divisions.{either_true}

-- the locals in which a walker's child stands
abbrev pub step_at : Store → List ℤ → Walker → ℤ → List ℤ
step_at ts ls w i = at_step ts ls w.cursor w.seek i

-- the cursor of a coordinate
abbrev pub seek_at : Store → List ℤ → Walker → ℤ → ℤ
seek_at ts ls w i = value ts (slice_set ls (w.cursor + 1) i) w.seek

-- the stop is over the coordinate, up to it the cursor stays, and the child is sound
pub record WalkSound (ts : Store) (ls : List ℤ) (w : Walker) (hi i : ℤ) : Type 0 where
  pub over : i <ℤ stop_at ts ls w i
  pub stays : (j : ℤ) → i ≤ℤ j → j <ℤ hi → j <ℤ stop_at ts ls w i → seek_at ts ls w j ≡ seek_at ts ls w i
  pub child : SoundWithin Near ts (step_at ts ls w i) w.child (λ j. (j <ℤ hi) × (j <ℤ stop_at ts ls w i)) i

-- a looplet that is a walker
pub record Walks (l : Looplet) (w : Walker) : Type 0 where
  pub shows : (ts : Store) (ls : List ℤ) (e i : ℤ)
      → view ts ls l e i ≡ ended (int_le (stop_at ts ls w i) (i +ℤ pos 1)) true (view ts (step_at ts ls w i) w.child (stop_at ts ls w i) i)
  pub sound : (ts : Store) (ls : List ℤ) (hi i : ℤ) → SoundWithin Near ts ls l (λ j. j <ℤ hi) i → WalkSound ts ls w hi i
  pub seeks : (x : ℕ) → (x ≢ w.cursor + 1) → Names x w.seek → Free x l
  pub sees : (x : ℕ) → (x ≢ w.cursor) → (Names x w.stop ⊎ Free x w.child) → Free x l
  pub owns : (x : ℕ) → ((x ≡ w.cursor) ⊎ ((x ≡ w.cursor + 1) ⊎ Owns x w.child)) → Owns x l
  pub loads : (t : ℕ) → (Loads t w.seek ⊎ (Loads t w.stop ⊎ LoadsIn t w.child)) → LoadsIn t l
  pub shifts : (x : ℕ) → ShiftNames x w.child → ShiftNames x l
  pub nested : Nested l → ((Owns w.cursor w.child → ⊥) × (Owns (w.cursor + 1) w.child → ⊥)) × Nested w.child
  pub weight_is : weight l ≡ 2 + weight w.child

-- each looplet of the kind is its walker
abbrev pub Kind : (Looplet → Option Walker) → Type 0
Kind kind = (l : Looplet) (w : Walker) → kind l ≡ Some w → Walks l w

pub steppers_walk : Kind stepper
steppers_walk (Run k) w e = absurd (cc)
steppers_walk (Spike b t) w e = absurd (cc)
steppers_walk (Lookup c k) w e = absurd (cc)
steppers_walk (Sequence' n ps) w e = absurd (cc)
steppers_walk (Stepper' p (more_of-Walker cursor seek stop child end_of-Walker)) w e =
    subst (Walks (Stepper' p (more_of-Walker cursor seek stop child end_of-Walker))) (same_some (record { cursor = cursor; seek = seek; stop = stop; child = child }) w e) (record {
      shows = λ ts ls e i. refl;
      sound = λ ts ls hi i s. record { over = s.0; stays = s.1.0; child = s.1.1 };
      seeks = λ x ne n. inl (ne, n);
      sees = λ x ne f. inr (ne, f);
      owns = λ x o. o;
      loads = λ t o. o;
      shifts = λ x o. o;
      nested = λ h. h;
      weight_is = refl;
    })
steppers_walk (Jumper' p k) w e = absurd (cc)
steppers_walk (Switch' n cs) w e = absurd (cc)
steppers_walk (Shift' by p c) w e = absurd (cc)

pub jumpers_walk : Kind jumper
jumpers_walk (Run k) w e = absurd (cc)
jumpers_walk (Spike b t) w e = absurd (cc)
jumpers_walk (Lookup c k) w e = absurd (cc)
jumpers_walk (Sequence' n ps) w e = absurd (cc)
jumpers_walk (Stepper' p k) w e = absurd (cc)
jumpers_walk (Jumper' p (more_of-Walker cursor seek stop child end_of-Walker)) w e =
    subst (Walks (Jumper' p (more_of-Walker cursor seek stop child end_of-Walker))) (same_some (record { cursor = cursor; seek = seek; stop = stop; child = child }) w e) (record {
      shows = λ ts ls e i. refl;
      sound = λ ts ls hi i s. record { over = s.0; stays = s.1.0; child = s.1.1 };
      seeks = λ x ne n. inl (ne, n);
      sees = λ x ne f. inr (ne, f);
      owns = λ x o. o;
      loads = λ t o. o;
      shifts = λ x o. o;
      nested = λ h. h;
      weight_is = refl;
    })
jumpers_walk (Switch' n cs) w e = absurd (cc)
jumpers_walk (Shift' by p c) w e = absurd (cc)

-- ---- in a list

pub among_first : (o : Option Walker) (w : Walker) (ws : List Walker) → o ≡ Some w → Among w (listed o ws)
among_first None w ws e = absurd (cc)
among_first (Some v) w ws e = inl (sym (same_some v w e))

pub among_later : (o : Option Walker) (w : Walker) (ws : List Walker) → Among w ws → Among w (listed o ws)
among_later None w ws a = a
among_later (Some v) w ws a = inr a

pub among_split : (o : Option Walker) (w : Walker) (ws : List Walker) → Among w (listed o ws) → (o ≡ Some w) ⊎ Among w ws
among_split None w ws a = inr a
among_split (Some v) w ws (inl e) = inl (ap (λ (u : Walker). Some u) (sym e))
among_split (Some v) w ws (inr a) = inr a

-- what a list depends on by one of its walkers
pub record AnyWalks (rs : List Looplet) (w : Walker) : Type 0 where
  pub seeks : (x : ℕ) → (x ≢ w.cursor + 1) → Names x w.seek → AnyFree x rs
  pub sees : (x : ℕ) → (x ≢ w.cursor) → (Names x w.stop ⊎ Free x w.child) → AnyFree x rs
  pub owns : (x : ℕ) → ((x ≡ w.cursor) ⊎ ((x ≡ w.cursor + 1) ⊎ Owns x w.child)) → AnyOwns x rs
  pub loads : (t : ℕ) → (Loads t w.seek ⊎ (Loads t w.stop ⊎ LoadsIn t w.child)) → AnyLoads t rs
  pub sound : (ts : Store) (ls : List ℤ) (hi i : ℤ) → AllSound Near ts ls rs (λ j. j <ℤ hi) i → WalkSound ts ls w hi i
  pub ends : (ts : Store) (ls : List ℤ) (e i : ℤ) → int_le (stop_at ts ls w i) (i +ℤ pos 1) ≡ true → any_ends (views ts ls rs e i) ≡ true

view_ends : (v : View) (b : Bool) (u : View) → v ≡ ended b true u → b ≡ true → v.ends ≡ true
view_ends v b u e t = ap (λ (x : View). x.ends) e ∙ ap (λ (x : Bool). x || u.ends) t

view_stops : (v : View) (b : Bool) (u : View) → v ≡ ended b true u → b ≡ true → v.stop ≡ true
view_stops v b u e t = ap (λ (x : View). x.stop) e ∙ ap (λ (x : Bool). (x && true) || u.stop) t

first_walks : (l : Looplet) (rest : List Looplet) (w : Walker) → Walks l w → AnyWalks (l ∷ rest) w
first_walks l rest w h = record {
  seeks = λ x ne n. inl (h.seeks x ne n);
  sees = λ x ne f. inl (h.sees x ne f);
  owns = λ x o. inl (h.owns x o);
  loads = λ t o. inl (h.loads t o);
  sound = λ ts ls hi i s. h.sound ts ls hi i s.0;
  ends = λ ts ls e i t. ap (λ (b : Bool). b || any_ends (views ts ls rest e i))
      (view_ends (view ts ls l e i) (int_le (stop_at ts ls w i) (i +ℤ pos 1)) (view ts (step_at ts ls w i) w.child (stop_at ts ls w i) i) (h.shows ts ls e i) t);
}

later_walks : (l : Looplet) (rest : List Looplet) (w : Walker) → AnyWalks rest w → AnyWalks (l ∷ rest) w
later_walks l rest w h = record {
  seeks = λ x ne n. inr (h.seeks x ne n);
  sees = λ x ne f. inr (h.sees x ne f);
  owns = λ x o. inr (h.owns x o);
  loads = λ t o. inr (h.loads t o);
  sound = λ ts ls hi i s. h.sound ts ls hi i s.1;
  ends = λ ts ls e i t. either_true (view ts ls l e i).ends (any_ends (views ts ls rest e i)) (h.ends ts ls e i t);
}

module _ (kind : Looplet → Option Walker) (walk : Kind kind) where
  pub any_walks : (rs : List Looplet) (w : Walker) → Among w (walkers kind rs) → AnyWalks rs w
  any_walks [] w a = absurd a
  any_walks (l ∷ rest) w a = ⊎_elim
      (λ e. first_walks l rest w (walk l w e))
      (λ b. later_walks l rest w (any_walks rest w b))
      (among_split (kind l) w (walkers kind rest) a)

  -- ---- stops that count

  later_counts : (b : Bool) (bs : List Bool) (v : View) (vs : List View) → any_counted bs vs ≡ true → any_counted (b ∷ bs) (v ∷ vs) ≡ true
  later_counts b bs v vs e = either_true (b && v.stop) (any_counted bs vs) e

  first_counts : (b : Bool) (bs : List Bool) (v : View) (vs : List View) → b ≡ true → v.stop ≡ true → any_counted (b ∷ bs) (v ∷ vs) ≡ true
  first_counts b bs v vs c s = ap (λ (x : Bool). (x && v.stop) || any_counted bs vs) c ∙ ap (λ (x : Bool). x || any_counted bs vs) s

  -- behind the coordinate before its stop a walker's counted stop is
  abbrev pub Stops : List Bool → List Looplet → Walker → Type 0
  Stops bs rs w = (ts : Store) (ls : List ℤ) (e i : ℤ) → int_le (stop_at ts ls w i) (i +ℤ pos 1) ≡ true → any_counted bs (views ts ls rs e i) ≡ true

  stops_first : (b : Bool) (bs : List Bool) (l : Looplet) (rest : List Looplet) (w : Walker) → b ≡ true → kind l ≡ Some w → Stops (b ∷ bs) (l ∷ rest) w
  stops_first b bs l rest w c e ts ls end i t =
      first_counts b bs (view ts ls l end i) (views ts ls rest end i) c
      (view_stops (view ts ls l end i) (int_le (stop_at ts ls w i) (i +ℤ pos 1)) (view ts (step_at ts ls w i) w.child (stop_at ts ls w i) i) ((walk l w e).shows ts ls end i) t)

  pub all_counted : (bs : List Bool) (rs : List Looplet) → Counted kind bs rs → (w : Walker) → Among w (walkers kind rs) → Stops bs rs w
  all_counted bs [] c w a = absurd a
  all_counted [] (l ∷ rest) c w a = absurd c
  all_counted (b ∷ bs) (l ∷ rest) c w a = ⊎_elim
      (λ e. stops_first b bs l rest w (c.0 w e) e)
      (λ q ts ls end i t. later_counts b bs (view ts ls l end i) (views ts ls rest end i) (all_counted bs rest c.1 w q ts ls end i t))
      (among_split (kind l) w (walkers kind rest) a)

  pub one_counted : (bs : List Bool) (rs : List Looplet) → CountsOne kind bs rs → (w : Walker) × (Among w (walkers kind rs) × Stops bs rs w)
  one_counted bs [] c = absurd c
  one_counted [] (l ∷ rest) c = absurd c
  one_counted (b ∷ bs) (l ∷ rest) (inl c) = (c.1.0, (among_first (kind l) c.1.0 (walkers kind rest) c.1.1, stops_first b bs l rest c.1.0 c.0 c.1.1))
  one_counted (b ∷ bs) (l ∷ rest) (inr c) =
      let r = one_counted bs rest c in
      (r.0, (among_later (kind l) r.0 (walkers kind rest) r.1.0, λ ts ls end i t. later_counts b bs (view ts ls l end i) (views ts ls rest end i) (r.1.1 ts ls end i t)))
