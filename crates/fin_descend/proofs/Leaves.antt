-- Looplets whose leaves have lasting properties keep them where they are cut, moved or divided.
use Rattle.std.proofs.Common.{ℕ, List, [], ◌∷◌, map, Bool, true, false, pos}
use Rattle.std.specs.Prelude.{not, ◌&&◌}
use denote.Hole.Carrier.{hidden}
use Rattle.fin_ir.specs.declared.expression.IExpr.{IExpr}
use Rattle.fin_looplet.specs.declared.looplet.Leaf.{Leaf}
use Rattle.fin_looplet.specs.declared.looplet.Leaf.TheVariants.{Fill}
use Rattle.fin_looplet.specs.declared.looplet.Phase.{Phase}
use Rattle.fin_looplet.specs.declared.looplet.Case.{Case}
use Rattle.fin_looplet.specs.declared.looplet.Looplet.{Looplet, Row_of-Phase, end_of-Phase, more_of-Phase, Row_of-Walker, end_of-Walker, more_of-Walker, Row_of-Case, end_of-Case, more_of-Case, end_of-Looplet, more_of-Looplet}
use Rattle.fin_looplet.specs.declared.looplet.Looplet.TheVariants.{Run, Spike, Lookup, Sequence, Sequence', Stepper', Jumper', Switch, Switch', Shift, Shift'}
use Rattle.fin_looplet.specs.declared.looplet.Looplet.TheBlock.{shape-the_row-Phase-0, hidden-the_row-Phase-0, shape-the_row-Case-2, hidden-the_row-Case-2, shape-the_row-Looplet-3, hidden-the_row-Looplet-3}
use Rattle.fin_looplet.specs.Cut.{plus, minus, cap, cut, cut_cases}
use Rattle.fin_looplet.specs.Moved.{moved, moved_phases, moved_walker, moved_cases, put_leaf, lowered}
use Rattle.fin_looplet.specs.Lists.{phase_list, case_list}
use Rattle.fin_nest.specs.declared.entries.Numbered.{Numbered}
use Rattle.fin_nest.specs.Entries.{looplets, with_looplet}
use Rattle.fin_style_point.specs.declared.nest.Branch.{Branch}
use Rattle.fin_style_point.specs.declared.nest.Branch.TheVariants.{Taken, Others}
use Rattle.fin_style_point.specs.Steps as point
use Rattle.fin_style_point.specs.Parts as points
use Rattle.fin_style_point.proofs.Cases.{switch_is}
use Rattle.fin_style_step.specs.declared.nest.Kind.{Kind}
use Rattle.fin_style_step.specs.declared.nest.Kind.TheVariants as kind
use Rattle.fin_style_step.specs.Steps as step
use Rattle.fin_style_step.specs.Parts as steps
use Rattle.fin_descend.specs.Leaves.{AllLeaves, PhasesAllLeaves, WalkerAllLeaves, CasesAllLeaves, EachAllLeaves, Never, Lasting}

-- what the steps ask of the property of leaves, and of that of leaves under lookups
pub record Kept (P L : Leaf → Type 0) : Type 0 where
  moves : (coord : ℕ) (by : IExpr) (leaf : Leaf) → L leaf → L (put_leaf coord (lowered coord by) leaf)
  holds : (leaf : Leaf) → L leaf → P leaf
  gap : P (Fill (pos 0))

pub of_reads : (P : Leaf → Type 0) → Lasting P → Kept P P
of_reads P lasting = record { moves = lasting.moved; holds = λ leaf h. h; gap = lasting.nothing }

pub of_masks : (P : Leaf → Type 0) → P (Fill (pos 0)) → Kept P Never
of_masks P gap = record { moves = λ coord by leaf h. h; holds = λ leaf h. absurd h; gap = gap }

module _ (P L : Leaf → Type 0) (kept : Kept P L) where
  -- ---- rows, as the program's constructors write them

  abbrev PhasesHave : List Phase → Type 0
  PhasesHave [] = Unit {0}
  PhasesHave (p ∷ ps) = AllLeaves P L p.child × PhasesHave ps

  abbrev CasesHave : List Case → Type 0
  CasesHave [] = Unit {0}
  CasesHave (c ∷ cs) = AllLeaves P L c.child × CasesHave cs

  sequence_leaves : (ps : List Phase) → PhasesHave ps → AllLeaves P L (Sequence ps)
  unfolding shape-the_row-Phase-0 hidden-the_row-Phase-0 hidden
  sequence_leaves [] h = tt
  sequence_leaves (p ∷ ps) h = (h.0, sequence_leaves ps h.1)

  switch_leaves : (cs : List Case) → CasesHave cs → AllLeaves P L (Switch cs)
  unfolding shape-the_row-Case-2 hidden-the_row-Case-2 hidden
  switch_leaves [] h = tt
  switch_leaves (c ∷ cs) h = (h.0, switch_leaves cs h.1)

  shift_leaves : (by : IExpr) (child : Looplet) → AllLeaves P L child → AllLeaves P L (Shift by child)
  unfolding shape-the_row-Looplet-3 hidden-the_row-Looplet-3 hidden
  shift_leaves by child h = h

  phases_have : {n : _} (ps : Row_of-Phase n) → PhasesAllLeaves P L ps → PhasesHave (phase_list ps)
  phases_have end_of-Phase h = tt
  phases_have (more_of-Phase stop child rest) h = (h.0, phases_have rest h.1)

  cases_have : {n : _} (cs : Row_of-Case n) → CasesAllLeaves P L cs → CasesHave (case_list cs)
  cases_have end_of-Case h = tt
  cases_have (more_of-Case test child rest) h = (h.0, cases_have rest h.1)

  -- ---- cut and moved

  mutual
    pub cut_leaves : (e : IExpr) (l : Looplet) → AllLeaves P L l → AllLeaves P L (cut e l)
    cut_leaves e (Run leaf) h = h
    cut_leaves e (Spike body tail) h = sequence_leaves _ (h.0, (h.1, tt))
    cut_leaves e (Lookup coord leaf) h = h
    cut_leaves e (Sequence' n phases) h = h
    cut_leaves e (Stepper' p walker) h = h
    cut_leaves e (Jumper' p walker) h = h
    cut_leaves e (Switch' n cases) h = switch_leaves (cut_cases e cases) (cut_cases_have e cases h)
    cut_leaves e (Shift' by p (more_of-Looplet child end_of-Looplet)) h =
        shift_leaves by (cut (minus (cap e) by) child) (cut_leaves (minus (cap e) by) child h)

    cut_cases_have : {n : _} (e : IExpr) (cs : Row_of-Case n) → CasesAllLeaves P L cs → CasesHave (cut_cases e cs)
    cut_cases_have e end_of-Case h = tt
    cut_cases_have e (more_of-Case test child rest) h = (cut_leaves e child h.0, cut_cases_have e rest h.1)

  mutual
    moved_leaves : (by : IExpr) (l : Looplet) → AllLeaves P L l → AllLeaves P L (moved by l)
    moved_leaves by (Run leaf) h = h
    moved_leaves by (Spike body tail) h = h
    moved_leaves by (Lookup coord leaf) h = kept.moves coord by leaf h
    moved_leaves by (Sequence' n phases) h = moved_phases_leaves by phases h
    moved_leaves by (Stepper' p walker) h = moved_walker_leaves by walker h
    moved_leaves by (Jumper' p walker) h = moved_walker_leaves by walker h
    moved_leaves by (Switch' n cases) h = moved_cases_leaves by cases h
    moved_leaves by (Shift' inner p (more_of-Looplet child end_of-Looplet)) h = moved_leaves (plus by inner) child h

    moved_phases_leaves : {n : _} (by : IExpr) (ps : Row_of-Phase n) → PhasesAllLeaves P L ps → PhasesAllLeaves P L (moved_phases by ps)
    moved_phases_leaves by end_of-Phase h = tt
    moved_phases_leaves by (more_of-Phase stop child rest) h = (moved_leaves by child h.0, moved_phases_leaves by rest h.1)

    moved_walker_leaves : {n : _} (by : IExpr) (w : Row_of-Walker n) → WalkerAllLeaves P L w → WalkerAllLeaves P L (moved_walker by w)
    moved_walker_leaves by end_of-Walker h = tt
    moved_walker_leaves by (more_of-Walker cursor seek stop child rest) h = moved_leaves by child h

    moved_cases_leaves : {n : _} (by : IExpr) (cs : Row_of-Case n) → CasesAllLeaves P L cs → CasesAllLeaves P L (moved_cases by cs)
    moved_cases_leaves by end_of-Case h = tt
    moved_cases_leaves by (more_of-Case test child rest) h = (moved_leaves by child h.0, moved_cases_leaves by rest h.1)

  -- ---- the looplets of the parts, point by point

  pub unshifted_leaves : (l : Looplet) → AllLeaves P L l → AllLeaves P L (point.unshifted l)
  unshifted_leaves (Run leaf) h = h
  unshifted_leaves (Spike body tail) h = h
  unshifted_leaves (Lookup coord leaf) h = h
  unshifted_leaves (Sequence' n phases) h = h
  unshifted_leaves (Stepper' p walker) h = h
  unshifted_leaves (Jumper' p walker) h = h
  unshifted_leaves (Switch' n cases) h = h
  unshifted_leaves (Shift' by p (more_of-Looplet child end_of-Looplet)) h = moved_leaves by child h

  pub held_leaves : (l : Looplet) → AllLeaves P L l → AllLeaves P L (point.held l)
  held_leaves (Run leaf) h = h
  held_leaves (Spike body tail) h = h
  held_leaves (Lookup coord leaf) h = kept.holds leaf h
  held_leaves (Sequence' n phases) h = h
  held_leaves (Stepper' p walker) h = h
  held_leaves (Jumper' p walker) h = h
  held_leaves (Switch' n cases) h = h
  held_leaves (Shift' by p child) h = h

  other_cases : (cs : List Case) → CasesHave cs → AllLeaves P L (point.switch_of cs)
  other_cases [] h = kept.gap
  other_cases (c ∷ cs) h = switch_is (AllLeaves P L) c cs (λ e. h.0) (switch_leaves (c ∷ cs) h)

  side_leaves : {n : _} (b : Branch) (cs : Row_of-Case n) → CasesAllLeaves P L cs → AllLeaves P L (points.side b (point.first_case cs))
  side_leaves Taken end_of-Case h = kept.gap
  side_leaves Others end_of-Case h = kept.gap
  side_leaves Taken (more_of-Case test child rest) h = h.0
  side_leaves Others (more_of-Case test child rest) h = other_cases (case_list rest) (cases_have rest h.1)

  side_of_leaves : (b : Branch) (l : Looplet) → AllLeaves P L l → AllLeaves P L (points.side_of b (point.alternatives l) l)
  side_of_leaves b (Run leaf) h = h
  side_of_leaves b (Spike body tail) h = h
  side_of_leaves b (Lookup coord leaf) h = h
  side_of_leaves b (Sequence' n phases) h = h
  side_of_leaves b (Stepper' p walker) h = h
  side_of_leaves b (Jumper' p walker) h = h
  side_of_leaves b (Switch' n cases) h = side_leaves b cases h
  side_of_leaves b (Shift' by p child) h = h

  -- ---- along a region

  here_phase : {n : _} (ps : Row_of-Phase n) → PhasesAllLeaves P L ps → AllLeaves P L (step.first_phase ps).here
  here_phase end_of-Phase h = kept.gap
  here_phase (more_of-Phase stop child rest) h = cut_leaves stop child h.0

  sequence_left : (ps : List Phase) → PhasesHave ps → AllLeaves P L (step.sequence_of ps)
  sequence_left [] h = kept.gap
  sequence_left (p ∷ ps) h = sequence_leaves (p ∷ ps) h

  other_phases : {n : _} (ps : Row_of-Phase n) → PhasesAllLeaves P L ps → AllLeaves P L (step.first_phase ps).others
  other_phases end_of-Phase h = kept.gap
  other_phases (more_of-Phase stop child rest) h = sequence_left (phase_list rest) (phases_have rest h.1)

  before_leaves : (hi : IExpr) (l : Looplet) → AllLeaves P L l → AllLeaves P L (steps.before_stop hi (step.phased l) l)
  before_leaves hi (Run leaf) h = cut_leaves hi (Run leaf) h
  before_leaves hi (Spike body tail) h = cut_leaves hi (Spike body tail) h
  before_leaves hi (Lookup coord leaf) h = cut_leaves hi (Lookup coord leaf) h
  before_leaves hi (Sequence' n phases) h = here_phase phases h
  before_leaves hi (Stepper' p walker) h = cut_leaves hi (Stepper' p walker) h
  before_leaves hi (Jumper' p walker) h = cut_leaves hi (Jumper' p walker) h
  before_leaves hi (Switch' n cases) h = cut_leaves hi (Switch' n cases) h
  before_leaves hi (Shift' by p child) h = cut_leaves hi (Shift' by p child) h

  behind_leaves : (l : Looplet) → AllLeaves P L l → AllLeaves P L (steps.behind_stop (step.phased l) l)
  behind_leaves (Run leaf) h = h
  behind_leaves (Spike body tail) h = h
  behind_leaves (Lookup coord leaf) h = h
  behind_leaves (Sequence' n phases) h = other_phases phases h
  behind_leaves (Stepper' p walker) h = h
  behind_leaves (Jumper' p walker) h = h
  behind_leaves (Switch' n cases) h = h
  behind_leaves (Shift' by p child) h = h

  here_leaves : (hi : IExpr) (waits : Bool) (l : Looplet) → AllLeaves P L l → AllLeaves P L (steps.here_one hi waits l)
  here_leaves hi true l h = before_leaves hi l h
  here_leaves hi false l h = cut_leaves hi l h

  others_leaves : (waits : Bool) (l : Looplet) → AllLeaves P L l → AllLeaves P L (steps.others_one waits l)
  others_leaves true l h = behind_leaves l h
  others_leaves false l h = h

  inside_stepper : (hi : IExpr) (l : Looplet) → AllLeaves P L l → AllLeaves P L (steps.inside_one kind.Stepper hi l)
  inside_stepper hi (Run leaf) h = cut_leaves hi (Run leaf) h
  inside_stepper hi (Spike body tail) h = cut_leaves hi (Spike body tail) h
  inside_stepper hi (Lookup coord leaf) h = cut_leaves hi (Lookup coord leaf) h
  inside_stepper hi (Sequence' n phases) h = cut_leaves hi (Sequence' n phases) h
  inside_stepper hi (Stepper' p (more_of-Walker cursor seek stop child rest)) h = cut_leaves stop child h
  inside_stepper hi (Jumper' p walker) h = cut_leaves hi (Jumper' p walker) h
  inside_stepper hi (Switch' n cases) h = cut_leaves hi (Switch' n cases) h
  inside_stepper hi (Shift' by p child) h = cut_leaves hi (Shift' by p child) h

  inside_jumper : (hi : IExpr) (l : Looplet) → AllLeaves P L l → AllLeaves P L (steps.inside_one kind.Jumper hi l)
  inside_jumper hi (Run leaf) h = cut_leaves hi (Run leaf) h
  inside_jumper hi (Spike body tail) h = cut_leaves hi (Spike body tail) h
  inside_jumper hi (Lookup coord leaf) h = cut_leaves hi (Lookup coord leaf) h
  inside_jumper hi (Sequence' n phases) h = cut_leaves hi (Sequence' n phases) h
  inside_jumper hi (Stepper' p walker) h = cut_leaves hi (Stepper' p walker) h
  inside_jumper hi (Jumper' p (more_of-Walker cursor seek stop child rest)) h = cut_leaves stop child h
  inside_jumper hi (Switch' n cases) h = cut_leaves hi (Switch' n cases) h
  inside_jumper hi (Shift' by p child) h = cut_leaves hi (Shift' by p child) h

  pub inside_leaves : (k : Kind) (hi : IExpr) (l : Looplet) → AllLeaves P L l → AllLeaves P L (steps.inside_one k hi l)
  inside_leaves kind.Stepper hi l h = inside_stepper hi l h
  inside_leaves kind.Jumper hi l h = inside_jumper hi l h

  -- ---- lists

  abbrev Have : List Numbered → Type 0
  Have es = EachAllLeaves P L (looplets es)

  pub mapped_leaves : (f : Looplet → Looplet) → ((l : Looplet) → AllLeaves P L l → AllLeaves P L (f l)) → (es : List Numbered) → Have es → Have (map (with_looplet f) es)
  mapped_leaves f keeps [] h = tt
  mapped_leaves f keeps (e ∷ es) h = (keeps e.looplet h.0, mapped_leaves f keeps es h.1)

  by_first_leaves : (f : Bool → Looplet → Looplet) → ((waits : Bool) (l : Looplet) → AllLeaves P L l → AllLeaves P L (f waits l)) → (waits : Bool) (es : List Numbered)
      → Have es → Have (steps.by_first f waits es)
  by_first_leaves f keeps waits [] h = tt
  by_first_leaves f keeps waits (e ∷ es) h = (keeps waits e.looplet h.0, by_first_leaves f keeps (waits && not (steps.is_sequence e.looplet)) es h.1)

  pub here_all_leaves : (hi : IExpr) (waits : Bool) (es : List Numbered) → Have es → Have (steps.here_all hi waits es)
  here_all_leaves hi waits es h = by_first_leaves (steps.here_one hi) (here_leaves hi) waits es h

  pub others_all_leaves : (waits : Bool) (es : List Numbered) → Have es → Have (steps.others_all waits es)
  others_all_leaves waits es h = by_first_leaves steps.others_one others_leaves waits es h

  chosen_leaves : (b : Branch) (waits : Bool) (e : Numbered) → AllLeaves P L e.looplet → AllLeaves P L (points.chosen b waits e).looplet
  chosen_leaves b true e h = side_of_leaves b e.looplet h
  chosen_leaves b false e h = h

  pub choose_leaves : (b : Branch) (waits : Bool) (es : List Numbered) → Have es → Have (points.choose b waits es)
  choose_leaves b waits [] h = tt
  choose_leaves b waits (e ∷ es) h = (chosen_leaves b waits e h.0, choose_leaves b (waits && not (point.is_switch e.looplet)) es h.1)
