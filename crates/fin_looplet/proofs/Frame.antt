-- What views and soundness depend on.
use Rattle.std.proofs.Common.{◌≡◌, ◌≢◌, ℕ, ◌+◌, inl, inr, ⊎_elim, List, length, true, false, refl, sym, ap, ◌∙◌, subst, ℤ, pos, ◌+ℤ◌, ◌-ℤ◌, ◌<ℤ◌, arith, get_or-set_same, get_or-set_other}
use Rattle.std.specs.Prelude.{int_lt, int_le, if◌then◌else◌, slice_set}
use Rattle.std.proofs.Math.ListN.{length-set}
use Rattle.std.proofs.lemmas.Bool.{cases_lt, cases_eq}
use Rattle.std.proofs.lemmas.List.{get_or_past}
use Rattle.fin_ir.specs.declared.expression.IExpr.{IExpr}
use Rattle.fin_ir.specs.Value.{is_off}
use Rattle.fin_looplet.specs.declared.looplet.Leaf.{Leaf}
use Rattle.fin_looplet.specs.declared.looplet.Leaf.TheVariants.{Fill, Value, Sub}
use Rattle.fin_looplet.specs.declared.looplet.Looplet.{Looplet, Row_of-Phase, end_of-Phase, more_of-Phase, Row_of-Walker, end_of-Walker, more_of-Walker, Row_of-Case, end_of-Case, more_of-Case, end_of-Looplet, more_of-Looplet}
use Rattle.fin_looplet.specs.declared.looplet.Looplet.TheVariants.{Run, Spike, Lookup, Sequence', Stepper', Jumper', Switch', Shift'}
use Rattle.fin_looplet.specs.Names.{Names, LeafNames}
use Rattle.fin_looplet.specs.View.{Store, value, Sight, word, position, absent, leaf_sight, View, plain, ended, at_step, view, view_phases, view_walker, view_cases}
use Rattle.fin_looplet.specs.Sound.{Places, SoundWithin, SoundPhases, SoundWalker, SoundCases}
use Rattle.fin_looplet.specs.Locals.{Free, FreePhases, FreeWalker, FreeCases}
use Rattle.fin_looplet.proofs.Exprs.{get, value_same}

-- two lists that agree at a place do so after the same write
pub set_same : (ls ls' : List ℤ) (x y : ℕ) (v : ℤ) → length ls ≡ length ls' → (y ≢ x → get ls y ≡ get ls' y) → get (slice_set ls x v) y ≡ get (slice_set ls' x v) y
set_same ls ls' x y v long h =
    ⊎_elim
    (λ e. ⊎_elim
    (λ lt. ap (get (slice_set ls x v)) e ∙ get_or-set_same ls x v (pos 0) lt ∙ sym (get_or-set_same ls' x v (pos 0) (omega arith)) ∙ ap (get (slice_set ls' x v)) (sym e))
    (λ le. get_or_past (slice_set ls x v) y (pos 0) (omega (arith, length-set ls x v)) ∙ sym (get_or_past (slice_set ls' x v) y (pos 0) (omega (arith, length-set ls' x v))))
    (cases_lt x (length ls)))
    (λ ne. get_or-set_other ls x y v (pos 0) ne ∙ h ne ∙ sym (get_or-set_other ls' x y v (pos 0) ne))
    (cases_eq y x)

pub leaf_same : (ts : Store) (l : Leaf) (ls ls' : List ℤ) → ((x : ℕ) → LeafNames x l → get ls x ≡ get ls' x) → leaf_sight ts ls l ≡ leaf_sight ts ls' l
leaf_same ts (Fill f) ls ls' h = refl
leaf_same ts (Value e) ls ls' h = ap word (value_same ts e ls ls' h)
leaf_same ts (Sub tensor level place there) ls ls' h =
    ap (λ z. if is_off (value ts ls there) then absent else position tensor level z) (value_same ts place ls ls' (λ x n. h x (inl n)))
    ∙ ap (λ z. if is_off z then absent else position tensor level (value ts ls' place)) (value_same ts there ls ls' (λ x n. h x (inr n)))

-- the locals in which a walker's child stands, from two lists that agree
module _ (ts : Store) (cursor : ℕ) (seek : IExpr) (ls ls' : List ℤ) (i : ℤ) (long : length ls ≡ length ls') where
  pub place_same : ((x : ℕ) → (x ≢ cursor + 1) → Names x seek → get ls x ≡ get ls' x) → value ts (slice_set ls (cursor + 1) i) seek ≡ value ts (slice_set ls' (cursor + 1) i) seek
  place_same h = value_same ts seek (slice_set ls (cursor + 1) i) (slice_set ls' (cursor + 1) i) (λ x n. set_same ls ls' (cursor + 1) x i long (λ ne. h x ne n))

  pub step_same : value ts (slice_set ls (cursor + 1) i) seek ≡ value ts (slice_set ls' (cursor + 1) i) seek → (x : ℕ) → ((x ≢ cursor) → get ls x ≡ get ls' x) → get (at_step ts ls cursor seek i) x ≡ get (at_step ts ls' cursor seek i) x
  step_same place x h = set_same ls ls' cursor x (value ts (slice_set ls (cursor + 1) i) seek) long h ∙ ap (λ v. get (slice_set ls' cursor v) x) place

  pub step_long : length (at_step ts ls cursor seek i) ≡ length (at_step ts ls' cursor seek i)
  step_long = length-set ls cursor (value ts (slice_set ls (cursor + 1) i) seek) ∙ long ∙ sym (length-set ls' cursor (value ts (slice_set ls' (cursor + 1) i) seek))

-- ---- views in locals that agree on what is free
mutual
  pub view_same : (ts : Store) (l : Looplet) (ls ls' : List ℤ) (end i : ℤ) → length ls ≡ length ls' → ((x : ℕ) → Free x l → get ls x ≡ get ls' x) → view ts ls l end i ≡ view ts ls' l end i
  view_same ts (Run l) ls ls' end i long h = ap (plain false) (leaf_same ts l ls ls' h)
  view_same ts (Spike b t) ls ls' end i long h =
      let p = leaf_same ts b ls ls' (λ x n. h x (inl n)) in
      let q = leaf_same ts t ls ls' (λ x n. h x (inr n)) in
      ap (λ (z : Sight). if int_lt (i +ℤ pos 1) end then ended (int_le end (i +ℤ pos 2)) false (plain false z) else plain false (leaf_sight ts ls t)) p
      ∙ ap (λ (z : Sight). if int_lt (i +ℤ pos 1) end then ended (int_le end (i +ℤ pos 2)) false (plain false (leaf_sight ts ls' b)) else plain false z) q
  view_same ts (Lookup coord l) ls ls' end i long h =
      ap (plain true) (leaf_same ts l (slice_set ls coord i) (slice_set ls' coord i) (λ x n. set_same ls ls' coord x i long (λ ne. h x (ne, n))))
  view_same ts (Sequence' n ps) ls ls' end i long h = phases_same ts ps ls ls' i long h
  view_same ts (Stepper' p w) ls ls' end i long h = walker_same ts w ls ls' i long h
  view_same ts (Jumper' p w) ls ls' end i long h = walker_same ts w ls ls' i long h
  view_same ts (Switch' n cs) ls ls' end i long h = cases_same ts cs ls ls' end i long h
  view_same ts (Shift' by p (more_of-Looplet child end_of-Looplet)) ls ls' end i long h =
      let b = value_same ts by ls ls' (λ x n. h x (inl n)) in
      view_same ts child ls ls' (end -ℤ value ts ls by) (i -ℤ value ts ls by) long (λ x n. h x (inr n)) ∙ ap (λ z. view ts ls' child (end -ℤ z) (i -ℤ z)) b

  phases_same : {n : _} (ts : Store) (ps : Row_of-Phase n) (ls ls' : List ℤ) (i : ℤ) → length ls ≡ length ls' → ((x : ℕ) → FreePhases x ps → get ls x ≡ get ls' x) → view_phases ts ls ps i ≡ view_phases ts ls' ps i
  phases_same ts end_of-Phase ls ls' i long h = refl
  phases_same ts (more_of-Phase stop child rest) ls ls' i long h =
      let s = value_same ts stop ls ls' (λ x n. h x (inl n)) in
      let c = view_same ts child ls ls' (value ts ls stop) i long (λ x n. h x (inr (inl n))) in
      let r = phases_same ts rest ls ls' i long (λ x n. h x (inr (inr n))) in
      ap (λ (v : View). if int_lt i (value ts ls stop) then ended (int_le (value ts ls stop) (i +ℤ pos 1)) false v else view_phases ts ls rest i) c
      ∙ ap (λ (v : View). if int_lt i (value ts ls stop) then ended (int_le (value ts ls stop) (i +ℤ pos 1)) false (view ts ls' child (value ts ls stop) i) else v) r
      ∙ ap (λ z. if int_lt i z then ended (int_le z (i +ℤ pos 1)) false (view ts ls' child z i) else view_phases ts ls' rest i) s

  walker_same : {n : _} (ts : Store) (w : Row_of-Walker n) (ls ls' : List ℤ) (i : ℤ) → length ls ≡ length ls' → ((x : ℕ) → FreeWalker x w → get ls x ≡ get ls' x) → view_walker ts ls w i ≡ view_walker ts ls' w i
  walker_same ts end_of-Walker ls ls' i long h = refl
  walker_same ts (more_of-Walker cursor seek stop child rest) ls ls' i long h =
      let place = place_same ts cursor seek ls ls' i long (λ x ne n. h x (inl (ne, n))) in
      let st = at_step ts ls cursor seek i in
      let st' = at_step ts ls' cursor seek i in
      let stops = value_same ts stop st st' (λ x n. step_same ts cursor seek ls ls' i long place x (λ ne. h x (inr (ne, inl n)))) in
      let c = view_same ts child st st' (value ts st stop) i (step_long ts cursor seek ls ls' i long) (λ x n. step_same ts cursor seek ls ls' i long place x (λ ne. h x (inr (ne, inr n)))) in
      ap (λ (v : View). ended (int_le (value ts st stop) (i +ℤ pos 1)) true v) c ∙ ap (λ z. ended (int_le z (i +ℤ pos 1)) true (view ts st' child z i)) stops

  cases_same : {n : _} (ts : Store) (cs : Row_of-Case n) (ls ls' : List ℤ) (end i : ℤ) → length ls ≡ length ls' → ((x : ℕ) → FreeCases x cs → get ls x ≡ get ls' x) → view_cases ts ls cs end i ≡ view_cases ts ls' cs end i
  cases_same ts end_of-Case ls ls' end i long h = refl
  cases_same ts (more_of-Case test child rest) ls ls' end i long h =
      let t = value_same ts test ls ls' (λ x n. h x (inl n)) in
      let c = view_same ts child ls ls' end i long (λ x n. h x (inr (inl n))) in
      let r = cases_same ts rest ls ls' end i long (λ x n. h x (inr (inr n))) in
      ap (λ (v : View). if is_off (value ts ls test) then view_cases ts ls rest end i else v) c
      ∙ ap (λ (v : View). if is_off (value ts ls test) then v else view ts ls' child end i) r
      ∙ ap (λ z. if is_off z then view_cases ts ls' rest end i else view ts ls' child end i) t

-- ---- a looplet that serves fewer coordinates, and whose shifts may reach more
mutual
  pub sound_less : (reach wider : Places) → ((j : ℤ) → reach j → wider j) → (ts : Store) (ls : List ℤ) (l : Looplet) (P Q : Places) (i : ℤ) → ((j : ℤ) → Q j → P j) → SoundWithin reach ts ls l P i → SoundWithin wider ts ls l Q i
  sound_less reach wider r ts ls (Run l) P Q i h s = tt
  sound_less reach wider r ts ls (Spike b t) P Q i h s = tt
  sound_less reach wider r ts ls (Lookup c l) P Q i h s = tt
  sound_less reach wider r ts ls (Sequence' n ps) P Q i h s = phases_less reach wider r ts ls ps P Q i h s
  sound_less reach wider r ts ls (Stepper' p w) P Q i h s = walker_less reach wider r ts ls w P Q i h s
  sound_less reach wider r ts ls (Jumper' p w) P Q i h s = walker_less reach wider r ts ls w P Q i h s
  sound_less reach wider r ts ls (Switch' n cs) P Q i h s = cases_less reach wider r ts ls cs P Q i h s
  sound_less reach wider r ts ls (Shift' by p (more_of-Looplet child end_of-Looplet)) P Q i h s =
      (r (i -ℤ value ts ls by) s.0, sound_less reach wider r ts ls child (λ j. P (j +ℤ value ts ls by)) (λ j. Q (j +ℤ value ts ls by)) (i -ℤ value ts ls by) (λ j q. h (j +ℤ value ts ls by) q) s.1)

  phases_less : {n : _} (reach wider : Places) → ((j : ℤ) → reach j → wider j) → (ts : Store) (ls : List ℤ) (ps : Row_of-Phase n) (P Q : Places) (i : ℤ) → ((j : ℤ) → Q j → P j) → SoundPhases reach ts ls ps P i → SoundPhases wider ts ls ps Q i
  phases_less reach wider r ts ls end_of-Phase P Q i h s = s
  phases_less reach wider r ts ls (more_of-Phase stop child rest) P Q i h (inl s) = inl (s.0, sound_less reach wider r ts ls child (λ j. P j × (j <ℤ value ts ls stop)) (λ j. Q j × (j <ℤ value ts ls stop)) i (λ j q. (h j q.0, q.1)) s.1)
  phases_less reach wider r ts ls (more_of-Phase stop child rest) P Q i h (inr s) = inr (s.0, phases_less reach wider r ts ls rest P Q i h s.1)

  walker_less : {n : _} (reach wider : Places) → ((j : ℤ) → reach j → wider j) → (ts : Store) (ls : List ℤ) (w : Row_of-Walker n) (P Q : Places) (i : ℤ) → ((j : ℤ) → Q j → P j) → SoundWalker reach ts ls w P i → SoundWalker wider ts ls w Q i
  walker_less reach wider r ts ls end_of-Walker P Q i h s = s
  walker_less reach wider r ts ls (more_of-Walker cursor seek stop child rest) P Q i h s =
      let st = at_step ts ls cursor seek i in
      (s.0, ((λ j a q b. s.1.0 j a (h j q) b), sound_less reach wider r ts st child (λ j. P j × (j <ℤ value ts st stop)) (λ j. Q j × (j <ℤ value ts st stop)) i (λ j q. (h j q.0, q.1)) s.1.1))

  cases_less : {n : _} (reach wider : Places) → ((j : ℤ) → reach j → wider j) → (ts : Store) (ls : List ℤ) (cs : Row_of-Case n) (P Q : Places) (i : ℤ) → ((j : ℤ) → Q j → P j) → SoundCases reach ts ls cs P i → SoundCases wider ts ls cs Q i
  cases_less reach wider r ts ls end_of-Case P Q i h s = s
  cases_less reach wider r ts ls (more_of-Case test child rest) P Q i h (inl s) = inl (s.0, cases_less reach wider r ts ls rest P Q i h s.1)
  cases_less reach wider r ts ls (more_of-Case test child rest) P Q i h (inr s) = inr (s.0, sound_less reach wider r ts ls child P Q i h s.1)

-- ---- soundness in locals that agree on what is free
mutual
  pub sound_same : (reach : Places) (ts : Store) (l : Looplet) (ls ls' : List ℤ) (P : Places) (i : ℤ) → length ls ≡ length ls' → ((x : ℕ) → Free x l → get ls x ≡ get ls' x) → SoundWithin reach ts ls l P i → SoundWithin reach ts ls' l P i
  sound_same reach ts (Run l) ls ls' P i long h s = tt
  sound_same reach ts (Spike b t) ls ls' P i long h s = tt
  sound_same reach ts (Lookup c l) ls ls' P i long h s = tt
  sound_same reach ts (Sequence' n ps) ls ls' P i long h s = sound_phases_same reach ts ps ls ls' P i long h s
  sound_same reach ts (Stepper' p w) ls ls' P i long h s = sound_walker_same reach ts w ls ls' P i long h s
  sound_same reach ts (Jumper' p w) ls ls' P i long h s = sound_walker_same reach ts w ls ls' P i long h s
  sound_same reach ts (Switch' n cs) ls ls' P i long h s = sound_cases_same reach ts cs ls ls' P i long h s
  sound_same reach ts (Shift' by p (more_of-Looplet child end_of-Looplet)) ls ls' P i long h s =
      let b = value_same ts by ls ls' (λ x n. h x (inl n)) in
      let c = sound_same reach ts child ls ls' (λ j. P (j +ℤ value ts ls by)) (i -ℤ value ts ls by) long (λ x n. h x (inr n)) s.1 in
      subst (λ z. reach (i -ℤ z) × SoundWithin reach ts ls' child (λ j. P (j +ℤ z)) (i -ℤ z)) b (s.0, c)

  sound_phases_same : {n : _} (reach : Places) (ts : Store) (ps : Row_of-Phase n) (ls ls' : List ℤ) (P : Places) (i : ℤ) → length ls ≡ length ls' → ((x : ℕ) → FreePhases x ps → get ls x ≡ get ls' x) → SoundPhases reach ts ls ps P i → SoundPhases reach ts ls' ps P i
  sound_phases_same reach ts end_of-Phase ls ls' P i long h s = s
  sound_phases_same reach ts (more_of-Phase stop child rest) ls ls' P i long h (inl s) =
      let e = value_same ts stop ls ls' (λ x n. h x (inl n)) in
      let c = sound_same reach ts child ls ls' (λ j. P j × (j <ℤ value ts ls stop)) i long (λ x n. h x (inr (inl n))) s.1 in
      inl (sym (ap (int_lt i) e) ∙ s.0, subst (λ z. SoundWithin reach ts ls' child (λ j. P j × (j <ℤ z)) i) e c)
  sound_phases_same reach ts (more_of-Phase stop child rest) ls ls' P i long h (inr s) =
      let e = value_same ts stop ls ls' (λ x n. h x (inl n)) in
      inr (sym (ap (int_lt i) e) ∙ s.0, sound_phases_same reach ts rest ls ls' P i long (λ x n. h x (inr (inr n))) s.1)

  sound_walker_same : {n : _} (reach : Places) (ts : Store) (w : Row_of-Walker n) (ls ls' : List ℤ) (P : Places) (i : ℤ) → length ls ≡ length ls' → ((x : ℕ) → FreeWalker x w → get ls x ≡ get ls' x) → SoundWalker reach ts ls w P i → SoundWalker reach ts ls' w P i
  sound_walker_same reach ts end_of-Walker ls ls' P i long h s = s
  sound_walker_same reach ts (more_of-Walker cursor seek stop child rest) ls ls' P i long h s =
      let place : (j : ℤ) → value ts (slice_set ls (cursor + 1) j) seek ≡ value ts (slice_set ls' (cursor + 1) j) seek = (λ j. place_same ts cursor seek ls ls' j long (λ x ne n. h x (inl (ne, n)))) in
      let st = at_step ts ls cursor seek i in
      let st' = at_step ts ls' cursor seek i in
      let stops : value ts st stop ≡ value ts st' stop = value_same ts stop st st' (λ x n. step_same ts cursor seek ls ls' i long (place i) x (λ ne. h x (inr (ne, inl n)))) in
      let c = sound_same reach ts child st st' (λ j. P j × (j <ℤ value ts st stop)) i (step_long ts cursor seek ls ls' i long) (λ x n. step_same ts cursor seek ls ls' i long (place i) x (λ ne. h x (inr (ne, inr n)))) s.1.1 in
      (subst (λ z. i <ℤ z) stops s.0, ((λ j a q b. sym (place j) ∙ s.1.0 j a q (subst (λ z. j <ℤ z) (sym stops) b) ∙ place i), subst (λ z. SoundWithin reach ts st' child (λ j. P j × (j <ℤ z)) i) stops c))

  sound_cases_same : {n : _} (reach : Places) (ts : Store) (cs : Row_of-Case n) (ls ls' : List ℤ) (P : Places) (i : ℤ) → length ls ≡ length ls' → ((x : ℕ) → FreeCases x cs → get ls x ≡ get ls' x) → SoundCases reach ts ls cs P i → SoundCases reach ts ls' cs P i
  sound_cases_same reach ts end_of-Case ls ls' P i long h s = s
  sound_cases_same reach ts (more_of-Case test child rest) ls ls' P i long h (inl s) =
      let e = value_same ts test ls ls' (λ x n. h x (inl n)) in
      inl (sym (ap is_off e) ∙ s.0, sound_cases_same reach ts rest ls ls' P i long (λ x n. h x (inr (inr n))) s.1)
  sound_cases_same reach ts (more_of-Case test child rest) ls ls' P i long h (inr s) =
      let e = value_same ts test ls ls' (λ x n. h x (inl n)) in
      inr (sym (ap is_off e) ∙ s.0, sound_same reach ts child ls ls' P i long (λ x n. h x (inr (inl n))) s.1)
