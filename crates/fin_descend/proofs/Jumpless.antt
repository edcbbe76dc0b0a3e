-- Looplets without jumpers stay so where they are cut, moved or divided.
use Rattle.std.proofs.Common.{List, [], ◌∷◌, ◌++◌, map, Bool, true, false}
use Rattle.std.specs.Prelude.{not, ◌&&◌}
use denote.Hole.Carrier.{hidden}
use Rattle.fin_ir.specs.declared.expression.IExpr.{IExpr}
use Rattle.fin_looplet.specs.declared.looplet.Phase.{Phase}
use Rattle.fin_looplet.specs.declared.looplet.Case.{Case}
use Rattle.fin_looplet.specs.declared.looplet.Looplet.{Looplet, Row_of-Phase, end_of-Phase, more_of-Phase, Row_of-Walker, end_of-Walker, more_of-Walker, Row_of-Case, end_of-Case, more_of-Case, end_of-Looplet, more_of-Looplet}
use Rattle.fin_looplet.specs.declared.looplet.Looplet.TheVariants.{Run, Spike, Lookup, Sequence, Sequence', Stepper', Jumper', Switch, Switch', Shift, Shift'}
use Rattle.fin_looplet.specs.declared.looplet.Looplet.TheBlock.{shape-the_row-Phase-0, hidden-the_row-Phase-0, shape-the_row-Case-2, hidden-the_row-Case-2, shape-the_row-Looplet-3, hidden-the_row-Looplet-3}
use Rattle.fin_looplet.specs.Cut.{plus, minus, cap, cut, cut_cases}
use Rattle.fin_looplet.specs.Moved.{moved, moved_phases, moved_walker, moved_cases}
use Rattle.fin_looplet.specs.Lists.{phase_list, case_list}
use Rattle.fin_nest.specs.declared.entries.Numbered.{Numbered}
use Rattle.fin_nest.specs.Entries.{looplets, with_looplet}
use Rattle.fin_style_point.specs.declared.nest.Branch.{Branch}
use Rattle.fin_style_point.specs.declared.nest.Branch.TheVariants.{Taken, Others}
use Rattle.fin_style_point.specs.Steps as point
use Rattle.fin_style_point.specs.Parts as points
use Rattle.fin_style_point.proofs.Cases.{switch_is}
use Rattle.fin_style_step.specs.declared.nest.Kind.{Kind}
use Rattle.fin_style_step.specs.declared.nest.Kind.TheVariants as kind
use Rattle.fin_style_step.specs.Steps as step
use Rattle.fin_style_step.specs.Parts as steps
use Rattle.fin_descend.specs.Jumpless.{Jumpless, JumplessPhases, JumplessWalker, JumplessCases, AllJumpless}

-- ---- rows, as the program's constructors write them

abbrev PhasesJumpless : List Phase → Type 0
PhasesJumpless [] = Unit {0}
PhasesJumpless (p ∷ ps) = Jumpless p.child × PhasesJumpless ps

abbrev CasesJumpless : List Case → Type 0
CasesJumpless [] = Unit {0}
CasesJumpless (c ∷ cs) = Jumpless c.child × CasesJumpless cs

sequence_jumpless : (ps : List Phase) → PhasesJumpless ps → Jumpless (Sequence ps)
unfolding shape-the_row-Phase-0 hidden-the_row-Phase-0 hidden
sequence_jumpless [] h = tt
sequence_jumpless (p ∷ ps) h = (h.0, sequence_jumpless ps h.1)

switch_jumpless : (cs : List Case) → CasesJumpless cs → Jumpless (Switch cs)
unfolding shape-the_row-Case-2 hidden-the_row-Case-2 hidden
switch_jumpless [] h = tt
switch_jumpless (c ∷ cs) h = (h.0, switch_jumpless cs h.1)

shift_jumpless : (by : IExpr) (child : Looplet) → Jumpless child → Jumpless (Shift by child)
unfolding shape-the_row-Looplet-3 hidden-the_row-Looplet-3 hidden
shift_jumpless by child h = h

phases_jumpless : {n : _} (ps : Row_of-Phase n) → JumplessPhases ps → PhasesJumpless (phase_list ps)
phases_jumpless end_of-Phase h = tt
phases_jumpless (more_of-Phase stop child rest) h = (h.0, phases_jumpless rest h.1)

cases_jumpless : {n : _} (cs : Row_of-Case n) → JumplessCases cs → CasesJumpless (case_list cs)
cases_jumpless end_of-Case h = tt
cases_jumpless (more_of-Case test child rest) h = (h.0, cases_jumpless rest h.1)

-- ---- cut and moved

mutual
  pub cut_jumpless : (e : IExpr) (l : Looplet) → Jumpless l → Jumpless (cut e l)
  cut_jumpless e (Run leaf) h = tt
  cut_jumpless e (Spike body tail) h = sequence_jumpless _ (tt, (tt, tt))
  cut_jumpless e (Lookup coord leaf) h = tt
  cut_jumpless e (Sequence' n phases) h = h
  cut_jumpless e (Stepper' p walker) h = h
  cut_jumpless e (Jumper' p walker) h = h
  cut_jumpless e (Switch' n cases) h = switch_jumpless (cut_cases e cases) (cut_cases_jumpless e cases h)
  cut_jumpless e (Shift' by p (more_of-Looplet child end_of-Looplet)) h =
      shift_jumpless by (cut (minus (cap e) by) child) (cut_jumpless (minus (cap e) by) child h)

  cut_cases_jumpless : {n : _} (e : IExpr) (cs : Row_of-Case n) → JumplessCases cs → CasesJumpless (cut_cases e cs)
  cut_cases_jumpless e end_of-Case h = tt
  cut_cases_jumpless e (more_of-Case test child rest) h = (cut_jumpless e child h.0, cut_cases_jumpless e rest h.1)

mutual
  moved_jumpless : (by : IExpr) (l : Looplet) → Jumpless l → Jumpless (moved by l)
  moved_jumpless by (Run leaf) h = tt
  moved_jumpless by (Spike body tail) h = tt
  moved_jumpless by (Lookup coord leaf) h = tt
  moved_jumpless by (Sequence' n phases) h = moved_phases_jumpless by phases h
  moved_jumpless by (Stepper' p walker) h = moved_walker_jumpless by walker h
  moved_jumpless by (Jumper' p walker) h = h
  moved_jumpless by (Switch' n cases) h = moved_cases_jumpless by cases h
  moved_jumpless by (Shift' inner p (more_of-Looplet child end_of-Looplet)) h = moved_jumpless (plus by inner) child h

  moved_phases_jumpless : {n : _} (by : IExpr) (ps : Row_of-Phase n) → JumplessPhases ps → JumplessPhases (moved_phases by ps)
  moved_phases_jumpless by end_of-Phase h = tt
  moved_phases_jumpless by (more_of-Phase stop child rest) h = (moved_jumpless by child h.0, moved_phases_jumpless by rest h.1)

  moved_walker_jumpless : {n : _} (by : IExpr) (w : Row_of-Walker n) → JumplessWalker w → JumplessWalker (moved_walker by w)
  moved_walker_jumpless by end_of-Walker h = tt
  moved_walker_jumpless by (more_of-Walker cursor seek stop child rest) h = moved_jumpless by child h

  moved_cases_jumpless : {n : _} (by : IExpr) (cs : Row_of-Case n) → JumplessCases cs → JumplessCases (moved_cases by cs)
  moved_cases_jumpless by end_of-Case h = tt
  moved_cases_jumpless by (more_of-Case test child rest) h = (moved_jumpless by child h.0, moved_cases_jumpless by rest h.1)

-- ---- the looplets of the parts

pub unshifted_jumpless : (l : Looplet) → Jumpless l → Jumpless (point.unshifted l)
unshifted_jumpless (Run leaf) h = h
unshifted_jumpless (Spike body tail) h = h
unshifted_jumpless (Lookup coord leaf) h = h
unshifted_jumpless (Sequence' n phases) h = h
unshifted_jumpless (Stepper' p walker) h = h
unshifted_jumpless (Jumper' p walker) h = h
unshifted_jumpless (Switch' n cases) h = h
unshifted_jumpless (Shift' by p (more_of-Looplet child end_of-Looplet)) h = moved_jumpless by child h

pub held_jumpless : (l : Looplet) → Jumpless l → Jumpless (point.held l)
held_jumpless (Run leaf) h = h
held_jumpless (Spike body tail) h = h
held_jumpless (Lookup coord leaf) h = tt
held_jumpless (Sequence' n phases) h = h
held_jumpless (Stepper' p walker) h = h
held_jumpless (Jumper' p walker) h = h
held_jumpless (Switch' n cases) h = h
held_jumpless (Shift' by p child) h = h

others_of_switch : (cs : List Case) → CasesJumpless cs → Jumpless (point.switch_of cs)
others_of_switch [] h = tt
others_of_switch (c ∷ cs) h = switch_is Jumpless c cs (λ e. h.0) (switch_jumpless (c ∷ cs) h)

side_jumpless : {n : _} (b : Branch) (cs : Row_of-Case n) → JumplessCases cs → Jumpless (points.side b (point.first_case cs))
side_jumpless Taken end_of-Case h = tt
side_jumpless Others end_of-Case h = tt
side_jumpless Taken (more_of-Case test child rest) h = h.0
side_jumpless Others (more_of-Case test child rest) h = others_of_switch (case_list rest) (cases_jumpless rest h.1)

pub side_of_jumpless : (b : Branch) (l : Looplet) → Jumpless l → Jumpless (points.side_of b (point.alternatives l) l)
side_of_jumpless b (Run leaf) h = h
side_of_jumpless b (Spike body tail) h = h
side_of_jumpless b (Lookup coord leaf) h = h
side_of_jumpless b (Sequence' n phases) h = h
side_of_jumpless b (Stepper' p walker) h = h
side_of_jumpless b (Jumper' p walker) h = h
side_of_jumpless b (Switch' n cases) h = side_jumpless b cases h
side_of_jumpless b (Shift' by p child) h = h

here_of : {n : _} (ps : Row_of-Phase n) → JumplessPhases ps → Jumpless (step.first_phase ps).here
here_of end_of-Phase h = tt
here_of (more_of-Phase stop child rest) h = cut_jumpless stop child h.0

rest_of_sequence : (ps : List Phase) → PhasesJumpless ps → Jumpless (step.sequence_of ps)
rest_of_sequence [] h = tt
rest_of_sequence (p ∷ ps) h = sequence_jumpless (p ∷ ps) h

others_of : {n : _} (ps : Row_of-Phase n) → JumplessPhases ps → Jumpless (step.first_phase ps).others
others_of end_of-Phase h = tt
others_of (more_of-Phase stop child rest) h = rest_of_sequence (phase_list rest) (phases_jumpless rest h.1)

before_jumpless : (hi : IExpr) (l : Looplet) → Jumpless l → Jumpless (steps.before_stop hi (step.phased l) l)
before_jumpless hi (Run leaf) h = cut_jumpless hi (Run leaf) h
before_jumpless hi (Spike body tail) h = cut_jumpless hi (Spike body tail) h
before_jumpless hi (Lookup coord leaf) h = cut_jumpless hi (Lookup coord leaf) h
before_jumpless hi (Sequence' n phases) h = here_of phases h
before_jumpless hi (Stepper' p walker) h = cut_jumpless hi (Stepper' p walker) h
before_jumpless hi (Jumper' p walker) h = cut_jumpless hi (Jumper' p walker) h
before_jumpless hi (Switch' n cases) h = cut_jumpless hi (Switch' n cases) h
before_jumpless hi (Shift' by p child) h = cut_jumpless hi (Shift' by p child) h

behind_jumpless : (l : Looplet) → Jumpless l → Jumpless (steps.behind_stop (step.phased l) l)
behind_jumpless (Run leaf) h = h
behind_jumpless (Spike body tail) h = h
behind_jumpless (Lookup coord leaf) h = h
behind_jumpless (Sequence' n phases) h = others_of phases h
behind_jumpless (Stepper' p walker) h = h
behind_jumpless (Jumper' p walker) h = h
behind_jumpless (Switch' n cases) h = h
behind_jumpless (Shift' by p child) h = h

pub here_jumpless : (hi : IExpr) (waits : Bool) (l : Looplet) → Jumpless l → Jumpless (steps.here_one hi waits l)
here_jumpless hi true l h = before_jumpless hi l h
here_jumpless hi false l h = cut_jumpless hi l h

pub others_jumpless : (waits : Bool) (l : Looplet) → Jumpless l → Jumpless (steps.others_one waits l)
others_jumpless true l h = behind_jumpless l h
others_jumpless false l h = h

inside_stepper : (hi : IExpr) (l : Looplet) → Jumpless l → Jumpless (steps.inside_one kind.Stepper hi l)
inside_stepper hi (Run leaf) h = cut_jumpless hi (Run leaf) h
inside_stepper hi (Spike body tail) h = cut_jumpless hi (Spike body tail) h
inside_stepper hi (Lookup coord leaf) h = cut_jumpless hi (Lookup coord leaf) h
inside_stepper hi (Sequence' n phases) h = cut_jumpless hi (Sequence' n phases) h
inside_stepper hi (Stepper' p (more_of-Walker cursor seek stop child rest)) h = cut_jumpless stop child h
inside_stepper hi (Jumper' p walker) h = absurd h
inside_stepper hi (Switch' n cases) h = cut_jumpless hi (Switch' n cases) h
inside_stepper hi (Shift' by p child) h = cut_jumpless hi (Shift' by p child) h

inside_jumper : (hi : IExpr) (l : Looplet) → Jumpless l → Jumpless (steps.inside_one kind.Jumper hi l)
inside_jumper hi (Run leaf) h = cut_jumpless hi (Run leaf) h
inside_jumper hi (Spike body tail) h = cut_jumpless hi (Spike body tail) h
inside_jumper hi (Lookup coord leaf) h = cut_jumpless hi (Lookup coord leaf) h
inside_jumper hi (Sequence' n phases) h = cut_jumpless hi (Sequence' n phases) h
inside_jumper hi (Stepper' p walker) h = cut_jumpless hi (Stepper' p walker) h
inside_jumper hi (Jumper' p walker) h = absurd h
inside_jumper hi (Switch' n cases) h = cut_jumpless hi (Switch' n cases) h
inside_jumper hi (Shift' by p child) h = cut_jumpless hi (Shift' by p child) h

pub inside_jumpless : (k : Kind) (hi : IExpr) (l : Looplet) → Jumpless l → Jumpless (steps.inside_one k hi l)
inside_jumpless kind.Stepper hi l h = inside_stepper hi l h
inside_jumpless kind.Jumper hi l h = inside_jumper hi l h

-- ---- lists

pub both_jumpless : (xs ys : List Looplet) → AllJumpless xs → AllJumpless ys → AllJumpless (xs ++ ys)
both_jumpless [] ys a b = b
both_jumpless (x ∷ xs) ys a b = (a.0, both_jumpless xs ys a.1 b)

pub first_jumpless : (xs ys : List Looplet) → AllJumpless (xs ++ ys) → AllJumpless xs
first_jumpless [] ys h = tt
first_jumpless (x ∷ xs) ys h = (h.0, first_jumpless xs ys h.1)

pub last_jumpless : (xs ys : List Looplet) → AllJumpless (xs ++ ys) → AllJumpless ys
last_jumpless [] ys h = h
last_jumpless (x ∷ xs) ys h = last_jumpless xs ys h.1

pub mapped_jumpless : (f : Looplet → Looplet) → ((l : Looplet) → Jumpless l → Jumpless (f l)) → (es : List Numbered) → AllJumpless (looplets es) → AllJumpless (looplets (map (with_looplet f) es))
mapped_jumpless f keeps [] h = tt
mapped_jumpless f keeps (e ∷ es) h = (keeps e.looplet h.0, mapped_jumpless f keeps es h.1)

pub by_first_jumpless : (f : Bool → Looplet → Looplet) → ((waits : Bool) (l : Looplet) → Jumpless l → Jumpless (f waits l)) → (waits : Bool) (es : List Numbered)
    → AllJumpless (looplets es) → AllJumpless (looplets (steps.by_first f waits es))
by_first_jumpless f keeps waits [] h = tt
by_first_jumpless f keeps waits (e ∷ es) h = (keeps waits e.looplet h.0, by_first_jumpless f keeps (waits && not (steps.is_sequence e.looplet)) es h.1)

chosen_jumpless : (b : Branch) (waits : Bool) (e : Numbered) → Jumpless e.looplet → Jumpless (points.chosen b waits e).looplet
chosen_jumpless b true e h = side_of_jumpless b e.looplet h
chosen_jumpless b false e h = h

pub choose_jumpless : (b : Branch) (waits : Bool) (es : List Numbered) → AllJumpless (looplets es) → AllJumpless (looplets (points.choose b waits es))
choose_jumpless b waits [] h = tt
choose_jumpless b waits (e ∷ es) h = (chosen_jumpless b waits e h.0, choose_jumpless b (waits && not (point.is_switch e.looplet)) es h.1)
