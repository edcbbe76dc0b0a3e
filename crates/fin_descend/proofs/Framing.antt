-- Which locals the parts of a nest own, and which its frame assigns: it spares what the nest keeps to.
use Rattle.std.proofs.Common.{◌≡◌, ◌⊎◌, ℕ, ◌+◌, ◌≤◌, inl, inr, ⊎_elim, Bool, true, false, ◌&&◌, List, [], ◌∷◌, ◌++◌, map, refl, ap, ◌∙◌, if◌then◌else◌, pos, arith}
use Rattle.std.specs.Prelude.{not}
use Rattle.std.specs.List.{All}
use Rattle.std.proofs.lemmas.List.Elements.{All-cons, All-map}
use Rattle.fin_base.specs.declared.terms.Op.TheVariants as op
use Rattle.fin_ir.specs.declared.expression.IExpr.{IExpr}
use Rattle.fin_ir.specs.declared.expression.IExpr.TheVariants.{Num, Local, Two}
use Rattle.fin_ir.specs.declared.code.Code.{Code}
use Rattle.fin_ir.specs.declared.code.Code.TheVariants.{Skip, Assign, When, StepLoop, ForLoop}
use Rattle.fin_ir.proofs.Nodes.{of_assign, of_when, of_step_loop, of_for_loop}
use Rattle.fin_looplet.specs.declared.looplet.Case.{Case}
use Rattle.fin_looplet.specs.declared.looplet.Phase.{Phase}
use Rattle.fin_looplet.specs.declared.looplet.Walker.{Walker}
use Rattle.fin_looplet.specs.declared.looplet.Looplet.{Looplet, Row_of-Phase, end_of-Phase, more_of-Phase, Row_of-Case, end_of-Case, more_of-Case, end_of-Looplet, more_of-Looplet}
use Rattle.fin_looplet.specs.declared.looplet.Looplet.TheVariants.{Run, Spike, Lookup, Sequence, Sequence', Stepper', Jumper', Switch, Switch', Shift'}
use Rattle.fin_looplet.specs.Cut.{cut}
use Rattle.fin_looplet.specs.Locals.{Owns, OwnsPhases, OwnsCases}
use Rattle.fin_looplet.specs.Lists.{AnyOwns, phase_list, case_list}
use Rattle.fin_looplet.proofs.Bridges.{owns_case}
use Rattle.fin_looplet.proofs.CutLocals.{cut_owns}
use Rattle.fin_looplet.proofs.MovedLocals.{moved_owns}
use Rattle.fin_looplet.proofs.Rows.{owns_phase_row, owns_case_row}
use Rattle.fin_nest.specs.declared.entries.Numbered.{Numbered}
use Rattle.fin_nest.specs.Entries.{looplets, with_looplet}
use Rattle.fin_nest.specs.Styles as style
use Rattle.fin_nest.specs.Sparing.{Staying, all_spare, spare_step, spares}
use Rattle.fin_style_point.specs.declared.nest.Nest.{Nest}
use Rattle.fin_style_point.specs.declared.nest.Parts as at_points
use Rattle.fin_style_point.specs.declared.nest.Branch.{Branch}
use Rattle.fin_style_point.specs.declared.nest.Branch.TheVariants.{Taken, Others}
use Rattle.fin_style_point.specs.Steps as point
use Rattle.fin_style_point.specs.Parts as points
use Rattle.fin_style_point.proofs.Cases.{switch_is}
use Rattle.fin_style_step.specs.declared.nest.Nest as stepping
use Rattle.fin_style_step.specs.declared.nest.Parts as along
use Rattle.fin_style_step.specs.declared.nest.Kind.{Kind}
use Rattle.fin_style_step.specs.declared.nest.Kind.TheVariants as kind
use Rattle.fin_style_step.specs.Steps as step
use Rattle.fin_style_step.specs.Parts as steps
use Rattle.fin_style_step.proofs.InsideLocals.{insides_owns}
use Rattle.fin_style_step.proofs.Placing.{Cursor, cursor_owned}
use Rattle.fin_style_step.proofs.Walks.{steppers_walk, jumpers_walk}
use Rattle.fin_descend.specs.Parts.{as_stepping, as_point, parts_of, frame_of}
use Rattle.fin_descend.specs.Sparing.{KeepsTo, PartsSpare}
use Rattle.fin_descend.proofs.Loops.{one, two, by_if, one_along}
use Rattle.fin_descend.proofs.Sparing.{and_both, left, right, Spared, spared_skip, spared_seq}

-- ---- the locals that a looplet of a part owns are those of the nest's

module _ (x : ℕ) where
  unshifted_owns : (l : Looplet) → Owns x (point.unshifted l) → Owns x l
  unshifted_owns (Run leaf) o = o
  unshifted_owns (Spike body tail) o = o
  unshifted_owns (Lookup coord leaf) o = o
  unshifted_owns (Sequence' n phases) o = o
  unshifted_owns (Stepper' p walker) o = o
  unshifted_owns (Jumper' p walker) o = o
  unshifted_owns (Switch' n cases) o = o
  unshifted_owns (Shift' by p (more_of-Looplet child end_of-Looplet)) o = moved_owns x by child o

  held_owns : (l : Looplet) → Owns x (point.held l) → Owns x l
  held_owns (Run leaf) o = o
  held_owns (Spike body tail) o = o
  held_owns (Lookup coord leaf) o = absurd o
  held_owns (Sequence' n phases) o = o
  held_owns (Stepper' p walker) o = o
  held_owns (Jumper' p walker) o = o
  held_owns (Switch' n cases) o = o
  held_owns (Shift' by p child) o = o

  others_of_switch : (cs : List Case) → Owns x (point.switch_of cs) → Owns x (Switch cs)
  others_of_switch [] o = absurd o
  others_of_switch (c ∷ cs) o = switch_is (λ l. Owns x l → Owns x (Switch (c ∷ cs))) c cs (λ e k. owns_case x c cs (inl k)) (λ k. k) o

  side_owns : {n : _} (b : Branch) (cs : Row_of-Case n) → Owns x (points.side b (point.first_case cs)) → OwnsCases x cs
  side_owns Taken end_of-Case o = o
  side_owns Others end_of-Case o = o
  side_owns Taken (more_of-Case test child rest) o = inl o
  side_owns Others (more_of-Case test child rest) o = inr (owns_case_row x rest (others_of_switch (case_list rest) o))

  side_of_owns : (b : Branch) (l : Looplet) → Owns x (points.side_of b (point.alternatives l) l) → Owns x l
  side_of_owns b (Run leaf) o = o
  side_of_owns b (Spike body tail) o = o
  side_of_owns b (Lookup coord leaf) o = o
  side_of_owns b (Sequence' n phases) o = o
  side_of_owns b (Stepper' p walker) o = o
  side_of_owns b (Jumper' p walker) o = o
  side_of_owns b (Switch' n cases) o = side_owns b cases o
  side_of_owns b (Shift' by p child) o = o

  here_of : {n : _} (ps : Row_of-Phase n) → Owns x (step.first_phase ps).here → OwnsPhases x ps
  here_of end_of-Phase o = o
  here_of (more_of-Phase stop child rest) o = inl (cut_owns x child stop o)

  rest_of_sequence : (ps : List Phase) → Owns x (step.sequence_of ps) → Owns x (Sequence ps)
  rest_of_sequence [] o = absurd o
  rest_of_sequence (p ∷ ps) o = o

  others_of : {n : _} (ps : Row_of-Phase n) → Owns x (step.first_phase ps).others → OwnsPhases x ps
  others_of end_of-Phase o = o
  others_of (more_of-Phase stop child rest) o = inr (owns_phase_row x rest (rest_of_sequence (phase_list rest) o))

  before_owns : (hi : IExpr) (l : Looplet) → Owns x (steps.before_stop hi (step.phased l) l) → Owns x l
  before_owns hi (Run leaf) o = cut_owns x (Run leaf) hi o
  before_owns hi (Spike body tail) o = cut_owns x (Spike body tail) hi o
  before_owns hi (Lookup coord leaf) o = cut_owns x (Lookup coord leaf) hi o
  before_owns hi (Sequence' n phases) o = here_of phases o
  before_owns hi (Stepper' p walker) o = cut_owns x (Stepper' p walker) hi o
  before_owns hi (Jumper' p walker) o = cut_owns x (Jumper' p walker) hi o
  before_owns hi (Switch' n cases) o = cut_owns x (Switch' n cases) hi o
  before_owns hi (Shift' by p child) o = cut_owns x (Shift' by p child) hi o

  behind_owns : (l : Looplet) → Owns x (steps.behind_stop (step.phased l) l) → Owns x l
  behind_owns (Run leaf) o = o
  behind_owns (Spike body tail) o = o
  behind_owns (Lookup coord leaf) o = o
  behind_owns (Sequence' n phases) o = others_of phases o
  behind_owns (Stepper' p walker) o = o
  behind_owns (Jumper' p walker) o = o
  behind_owns (Switch' n cases) o = o
  behind_owns (Shift' by p child) o = o

  here_owns : (hi : IExpr) (waits : Bool) (l : Looplet) → Owns x (steps.here_one hi waits l) → Owns x l
  here_owns hi true l o = before_owns hi l o
  here_owns hi false l o = cut_owns x l hi o

  others_owns : (waits : Bool) (l : Looplet) → Owns x (steps.others_one waits l) → Owns x l
  others_owns true l o = behind_owns l o
  others_owns false l o = o

  only : (l : Looplet) → AnyOwns x (l ∷ []) → Owns x l
  only l o = ⊎_elim (λ a. a) (λ b. absurd b) o

  inside_owns : (k : Kind) (hi : IExpr) (l : Looplet) → Owns x (steps.inside_one k hi l) → Owns x l
  inside_owns kind.Stepper hi l o = only l (insides_owns step.stepper steppers_walk hi (l ∷ []) x (inl o))
  inside_owns kind.Jumper hi l o = only l (insides_owns step.jumper jumpers_walk hi (l ∷ []) x (inl o))

  -- ---- lists

  first_own : (xs ys : List Looplet) → AnyOwns x xs → AnyOwns x (xs ++ ys)
  first_own (l ∷ xs) ys (inl o) = inl o
  first_own (l ∷ xs) ys (inr o) = inr (first_own xs ys o)
  first_own [] ys o = absurd o

  last_own : (xs ys : List Looplet) → AnyOwns x ys → AnyOwns x (xs ++ ys)
  last_own [] ys o = o
  last_own (l ∷ xs) ys o = inr (last_own xs ys o)

  either_owns : (xs ys : List Looplet) → AnyOwns x (xs ++ ys) → AnyOwns x xs ⊎ AnyOwns x ys
  either_owns [] ys o = inr o
  either_owns (l ∷ xs) ys (inl o) = inl (inl o)
  either_owns (l ∷ xs) ys (inr o) = ⊎_elim (λ a. inl (inr a)) (λ b. inr b) (either_owns xs ys o)

  -- of two lists, each by itself
  both_own : (xs ys us vs : List Looplet) → (AnyOwns x us → AnyOwns x xs) → (AnyOwns x vs → AnyOwns x ys) → AnyOwns x (us ++ vs) → AnyOwns x (xs ++ ys)
  both_own xs ys us vs f g o = ⊎_elim (λ a. first_own xs ys (f a)) (λ b. last_own xs ys (g b)) (either_owns us vs o)

  mapped_own : (f : Looplet → Looplet) → ((l : Looplet) → Owns x (f l) → Owns x l) → (es : List Numbered) → AnyOwns x (looplets (map (with_looplet f) es)) → AnyOwns x (looplets es)
  mapped_own f back [] o = o
  mapped_own f back (e ∷ es) (inl o) = inl (back e.looplet o)
  mapped_own f back (e ∷ es) (inr o) = inr (mapped_own f back es o)

  by_first_own : (f : Bool → Looplet → Looplet) → ((waits : Bool) (l : Looplet) → Owns x (f waits l) → Owns x l) → (waits : Bool) (es : List Numbered)
      → AnyOwns x (looplets (steps.by_first f waits es)) → AnyOwns x (looplets es)
  by_first_own f back waits [] o = o
  by_first_own f back waits (e ∷ es) (inl o) = inl (back waits e.looplet o)
  by_first_own f back waits (e ∷ es) (inr o) = inr (by_first_own f back (waits && not (steps.is_sequence e.looplet)) es o)

  chosen_owns : (b : Branch) (waits : Bool) (e : Numbered) → Owns x (points.chosen b waits e).looplet → Owns x e.looplet
  chosen_owns b true e o = side_of_owns b e.looplet o
  chosen_owns b false e o = o

  choose_own : (b : Branch) (waits : Bool) (es : List Numbered) → AnyOwns x (looplets (points.choose b waits es)) → AnyOwns x (looplets es)
  choose_own b waits [] o = o
  choose_own b waits (e ∷ es) (inl o) = inl (chosen_owns b waits e o)
  choose_own b waits (e ∷ es) (inr o) = inr (choose_own b (waits && not (point.is_switch e.looplet)) es o)

  mapped_both : (f : Looplet → Looplet) → ((l : Looplet) → Owns x (f l) → Owns x l) → (es ds : List Numbered)
      → AnyOwns x (looplets (map (with_looplet f) es) ++ looplets (map (with_looplet f) ds)) → AnyOwns x (looplets es ++ looplets ds)
  mapped_both f back es ds = both_own (looplets es) (looplets ds) _ _ (mapped_own f back es) (mapped_own f back ds)

  first_both : (f : Bool → Looplet → Looplet) → ((waits : Bool) (l : Looplet) → Owns x (f waits l) → Owns x l) → (waits : Bool) (es ds : List Numbered)
      → AnyOwns x (looplets (steps.by_first f true es) ++ looplets (steps.by_first f waits ds)) → AnyOwns x (looplets es ++ looplets ds)
  first_both f back waits es ds = both_own (looplets es) (looplets ds) _ _ (by_first_own f back true es) (by_first_own f back waits ds)

-- ---- what a frame assigns

module _ (s : Staying) where
  spared_assign : (x : ℕ) (e : IExpr) → s.locals x ≡ false → spares s (Assign x e) ≡ true
  spared_assign x e free = of_assign Bool (spare_step s) x e ∙ ap not free

  spared_when : (test : IExpr) (c : Code) → spares s c ≡ true → spares s (When test c) ≡ true
  spared_when test c h = of_when Bool (spare_step s) test c ∙ h

  spared_for : (x : ℕ) (lo hi : IExpr) (c : Code) → s.locals x ≡ false → spares s c ≡ true → spares s (ForLoop x lo hi c) ≡ true
  spared_for x lo hi c free h = of_for_loop Bool (spare_step s) x lo hi c ∙ and_both (not (s.locals x)) (spares s c) (ap not free) h

  spared_steps : (x y : ℕ) (lo hi stop : IExpr) (c : Code) → s.locals x ≡ false → s.locals y ≡ false → spares s c ≡ true → spares s (StepLoop x y lo hi stop c) ≡ true
  spared_steps x y lo hi stop c free loose h =
      of_step_loop Bool (spare_step s) x y lo hi stop c ∙ and_both (not (s.locals x)) _ (ap not free) (and_both (not (s.locals y)) (spares s c) (ap not loose) h)

  more : (c : Code) (cs : List Code) → spares s c ≡ true → Spared s cs → Spared s (c ∷ cs)
  more c cs h k = and_both (spares s c) (all_spare (map (spares s) cs)) h k

  pub appended : (cs ds : List Code) → Spared s cs → Spared s ds → Spared s (cs ++ ds)
  appended [] ds h k = k
  appended (c ∷ cs) ds h k = more c (cs ++ ds) (left (spares s c) _ h) (appended cs ds (right (spares s c) _ h) k)

  either_spared : (x : ℕ) (test : IExpr) → s.locals x ≡ false → spares s (point.either_code x test Skip Skip) ≡ true
  either_spared x test free =
      let first : Code = Assign x test in
      let taken : Code = When (Local x) Skip in
      let others : Code = When (Two op.Eq (Local x) (Num (pos 0))) Skip in
      spared_seq s (first ∷ taken ∷ others ∷ []) (more first (taken ∷ others ∷ []) (spared_assign x test free)
      (more taken (others ∷ []) (spared_when (Local x) Skip (spared_skip s)) (more others [] (spared_when (Two op.Eq (Local x) (Num (pos 0))) Skip (spared_skip s)) refl)))

  divided_spared : (x : ℕ) (lo hi stop : IExpr) → s.locals x ≡ false → spares s (step.divided_code x lo hi stop Skip Skip) ≡ true
  divided_spared x lo hi stop free =
      let first : Code = Assign x (step.divide_at lo hi stop) in
      spared_seq s (first ∷ Skip ∷ Skip ∷ []) (more first (Skip ∷ Skip ∷ []) (spared_assign x (step.divide_at lo hi stop) free)
      (more Skip (Skip ∷ []) (spared_skip s) (more Skip [] (spared_skip s) refl)))

  abbrev Loose : List Looplet → Type 0
  Loose ls = (x : ℕ) → AnyOwns x ls → s.locals x ≡ false

  held_spared : (ls : List Looplet) (at : IExpr) → Loose ls → Spared s (point.hold (point.coordinates ls) at)
  held_spared [] at free = refl
  held_spared (Run leaf ∷ rest) at free = held_spared rest at (λ x o. free x (inr o))
  held_spared (Spike body tail ∷ rest) at free = held_spared rest at (λ x o. free x (inr o))
  held_spared (Lookup coord leaf ∷ rest) at free =
      more (Assign coord at) (point.hold (point.coordinates rest) at) (spared_assign coord at (free coord (inl refl))) (held_spared rest at (λ x o. free x (inr o)))
  held_spared (Sequence' n phases ∷ rest) at free = held_spared rest at (λ x o. free x (inr o))
  held_spared (Stepper' p walker ∷ rest) at free = held_spared rest at (λ x o. free x (inr o))
  held_spared (Jumper' p walker ∷ rest) at free = held_spared rest at (λ x o. free x (inr o))
  held_spared (Switch' n cases ∷ rest) at free = held_spared rest at (λ x o. free x (inr o))
  held_spared (Shift' by p child ∷ rest) at free = held_spared rest at (λ x o. free x (inr o))

  abbrev Placed : List Walker → Type 0
  Placed ws = (x : ℕ) → Cursor x ws → s.locals x ≡ false

  placed_spared : (ws : List Walker) (at : IExpr) → Placed ws → Spared s (step.place ws at)
  placed_spared [] at free = refl
  placed_spared (w ∷ rest) at free =
      more (Assign (w.cursor + 1) at) (Assign w.cursor w.seek ∷ step.place rest at) (spared_assign (w.cursor + 1) at (free (w.cursor + 1) (inr (inl refl))))
      (more (Assign w.cursor w.seek) (step.place rest at) (spared_assign w.cursor w.seek (free w.cursor (inl refl))) (placed_spared rest at (λ x c. free x (inr (inr c)))))

  both_placed : (vs ws : List Walker) → Placed vs → Placed ws → Placed (vs ++ ws)
  both_placed [] ws f g x c = g x c
  both_placed (v ∷ vs) ws f g x (inl e) = f x (inl e)
  both_placed (v ∷ vs) ws f g x (inr (inl e)) = f x (inr (inl e))
  both_placed (v ∷ vs) ws f g x (inr (inr c)) = both_placed vs ws (λ y d. f y (inr (inr d))) g x c

  kind_placed : (k : Kind) (ls : List Looplet) → Loose ls → Placed (step.walkers (steps.kind_of k) ls)
  kind_placed kind.Stepper ls free x c = free x (cursor_owned step.stepper steppers_walk ls x c)
  kind_placed kind.Jumper ls free x c = free x (cursor_owned step.jumper jumpers_walk ls x c)

-- ---- nests

module _ (s : Staying) (n : Nest) (keeps : KeepsTo s n) where
  above : (x : ℕ) → n.next ≤ x → s.locals x ≡ false
  above x le = by (s.locals x) refl where
    by : (b : Bool) → s.locals x ≡ b → s.locals x ≡ false
    by true e = let lt = keeps.below x e in absurd (omega (arith, lt, le))
    by false e = e

  part_keeps : (q : Nest) → q.var ≡ n.var → n.next ≤ q.next → ((x : ℕ) → AnyOwns x (points.all_looplets q) → AnyOwns x (points.all_looplets n)) → KeepsTo s q
  part_keeps q var le owns = record {
    var = ap s.locals var ∙ keeps.var;
    below = λ x e. let lt = keeps.below x e in omega (arith, lt, le);
    own = λ x o. keeps.own x (owns x o);
  }

  reads_loose : Loose s (looplets n.reads)
  reads_loose x o = keeps.own x (first_own x (looplets n.reads) (looplets n.masks) o)

  masks_loose : Loose s (looplets n.masks)
  masks_loose x o = keeps.own x (last_own x (looplets n.reads) (looplets n.masks) o)

  local : s.locals n.next ≡ false
  local = above n.next (omega arith)

  next : s.locals (n.next + 1) ≡ false
  next = above (n.next + 1) (omega arith)

  third : s.locals (n.next + 2) ≡ false
  third = above (n.next + 2) (omega arith)

  -- ---- point by point

  abbrev PointsSpare : at_points.Parts → Type 0
  PointsSpare p = (spares s p.frame ≡ true) × All (KeepsTo s) p.nests

  shift_spares : PointsSpare (points.one_part Skip (points.shift_part n))
  shift_spares =
      (spared_skip s, one (KeepsTo s) (points.shift_part n) (part_keeps (points.shift_part n) refl (omega arith) (λ x. mapped_both x point.unshifted (unshifted_owns x) n.reads n.masks)))

  spike_spares : PointsSpare (points.one_part Skip (points.spike_part n))
  spike_spares =
      (spared_skip s, one (KeepsTo s) (points.spike_part n) (part_keeps (points.spike_part n) refl (omega arith) (λ x. mapped_both x (cut n.hi) (λ l. cut_owns x l n.hi) n.reads n.masks)))

  side_keeps : (b : Branch) → KeepsTo s (points.switch_part b n)
  side_keeps b = part_keeps (points.switch_part b n) refl (omega arith)
      (λ x. both_own x (looplets n.reads) (looplets n.masks) _ _ (choose_own x b true n.reads) (choose_own x b (not (style.has style.switch (looplets n.reads))) n.masks))

  switch_spares : PointsSpare (points.switch_parts n)
  switch_spares = (either_spared s n.next (points.nest_test n) local, two (KeepsTo s) (points.switch_part Taken n) (points.switch_part Others n) (side_keeps Taken) (side_keeps Others))

  turn_spares : spares s (points.turn_frame n) ≡ true
  turn_spares =
      spared_seq s _ (appended s (point.hold (point.coordinates (looplets n.reads)) (Local n.next)) _ (held_spared s (looplets n.reads) (Local n.next) reads_loose)
      (appended s (point.hold (point.coordinates (looplets n.masks)) (Local n.next)) (Skip ∷ []) (held_spared s (looplets n.masks) (Local n.next) masks_loose)
      (more s Skip [] (spared_skip s) refl)))

  loop_spares : PointsSpare (points.one_part (points.loop_frame n) (points.point_part n))
  loop_spares = (
    spared_for s n.next n.lo n.hi (points.turn_frame n) local turn_spares,
    one (KeepsTo s) (points.point_part n) (part_keeps (points.point_part n) refl (omega arith) (λ x. mapped_both x point.held (held_owns x) n.reads n.masks)),
  )

  by_points : PointsSpare (points.parts_of n)
  by_points =
      by_if PointsSpare (points.nest_has style.shift n) _ _ shift_spares
      (by_if PointsSpare (points.nest_has style.switch n) _ _ switch_spares (by_if PointsSpare (points.nest_has style.spike n) _ _ spike_spares loop_spares))

  -- ---- along a region

  abbrev m : stepping.Nest
  m = as_stepping n

  abbrev Keeps : stepping.Nest → Type 0
  Keeps q = KeepsTo s (as_point q)

  abbrev StepsSpare : along.Parts → Type 0
  StepsSpare p = (spares s p.frame ≡ true) × All Keeps p.nests

  all_placed : (k : Kind) → Placed s (steps.nest_walkers k m)
  all_placed k =
      both_placed s (step.walkers (steps.kind_of k) (looplets n.reads)) (step.walkers (steps.kind_of k) (looplets n.masks))
      (kind_placed s k (looplets n.reads) reads_loose) (kind_placed s k (looplets n.masks) masks_loose)

  here_keeps : Keeps (steps.here_part m)
  here_keeps = part_keeps (as_point (steps.here_part m)) refl (omega arith) (λ x. first_both x (steps.here_one n.hi) (here_owns x n.hi) (steps.masks_wait m) n.reads n.masks)

  others_keep : Keeps (steps.others_part m)
  others_keep = part_keeps (as_point (steps.others_part m)) refl (omega arith) (λ x. first_both x steps.others_one (others_owns x) (steps.masks_wait m) n.reads n.masks)

  sequence_spares : StepsSpare (steps.sequence_parts m)
  sequence_spares = (
    divided_spared s n.next n.lo n.hi (steps.nest_stop m) local,
    All-cons Keeps (steps.here_part m) (steps.others_part m ∷ []) here_keeps (one_along Keeps (steps.others_part m) others_keep),
  )

  stepper_spares : StepsSpare (steps.one_part (steps.stepper_frame m) (steps.stepper_part m))
  stepper_spares =
      let ws = steps.nest_walkers kind.Stepper m in
      let placed = all_placed kind.Stepper in (
        spared_seq s _ (appended s (step.place ws n.lo) _ (placed_spared s ws n.lo placed) (more s _ [] (spared_steps s n.next (n.next + 1) n.lo n.hi _ _ local next
            (spared_seq s _ (more s Skip _ (spared_skip s) (placed_spared s ws (Local (n.next + 1)) placed)))) refl)),
        one_along Keeps (steps.stepper_part m)
            (part_keeps (as_point (steps.stepper_part m)) refl (omega arith) (λ x. mapped_both x (steps.inside_one kind.Stepper n.hi) (inside_owns x kind.Stepper n.hi) n.reads n.masks)),
      )

  jumper_spares : StepsSpare (steps.one_part (steps.jumper_frame m) (steps.jumper_part m))
  jumper_spares =
      let ws = steps.nest_walkers kind.Jumper m in
      let placed = all_placed kind.Jumper in (
        spared_seq s _ (appended s (step.place ws n.lo) _ (placed_spared s ws n.lo placed) (more s _ [] (spared_steps s n.next (n.next + 1) n.lo n.hi _ _ local next
            (spared_seq s _ (more s _ _ (spared_assign s (n.next + 2) _ third)
            (appended s (step.place ws (Local (n.next + 2))) _ (placed_spared s ws (Local (n.next + 2)) placed)
            (more s Skip _ (spared_skip s) (placed_spared s ws (Local (n.next + 1)) placed)))))) refl)),
        one_along Keeps (steps.jumper_part m)
            (part_keeps (as_point (steps.jumper_part m)) refl (omega arith) (λ x. mapped_both x (steps.inside_one kind.Jumper n.hi) (inside_owns x kind.Jumper n.hi) n.reads n.masks)),
      )

  by_steps : StepsSpare (steps.parts_of m)
  by_steps =
      by_if StepsSpare (steps.nest_has style.sequence m) _ _ sequence_spares (by_if StepsSpare (steps.nest_has style.jumper m) _ _ jumper_spares stepper_spares)

  -- ---- by the style

  chosen : (b : Bool)
      → (spares s (if b then (points.parts_of n).frame else (steps.parts_of m).frame) ≡ true) × All (KeepsTo s) (if b then (points.parts_of n).nests else map as_point (steps.parts_of m).nests)
  chosen true = by_points
  chosen false = (by_steps.0, All-map (KeepsTo s) as_point (steps.parts_of m).nests by_steps.1)

  spared_parts : (spares s (frame_of n) ≡ true) × All (KeepsTo s) (parts_of n)
  spared_parts = chosen (style.is_point_style (style.style_of (points.all_looplets n)))

pub parts_spare : PartsSpare
parts_spare s n keeps = spared_parts s n keeps
