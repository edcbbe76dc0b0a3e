-- A looplet that is cut or moved isn't heavier.
use Rattle.std.proofs.Common.{◌+◌, ◌≤◌, List, [], ◌∷◌, arith}
use Rattle.std.specs.Prelude.{map}
use Rattle.fin_ir.specs.declared.expression.IExpr.{IExpr}
use Rattle.fin_looplet.specs.declared.looplet.Looplet.{Looplet, Row_of-Phase, end_of-Phase, more_of-Phase, Row_of-Walker, end_of-Walker, more_of-Walker, Row_of-Case, end_of-Case, more_of-Case, end_of-Looplet, more_of-Looplet}
use Rattle.fin_looplet.specs.declared.looplet.Looplet.TheVariants.{Run, Spike, Lookup, Sequence', Stepper', Jumper', Switch, Switch', Shift'}
use Rattle.fin_looplet.specs.Cut.{before, plus, minus, cap, cut, cut_cases}
use Rattle.fin_looplet.specs.Moved.{moved, moved_phases, moved_walker, moved_cases}
use Rattle.fin_looplet.specs.Weight.{weight, weight_phases, weight_walker, weight_cases, weights}
use Rattle.fin_looplet.proofs.Bridges.{weight_no_phase, weight_phase, weight_no_case, weight_case, weight_shift}

mutual
  pub cut_light : (e : IExpr) (l : Looplet) → weight (cut e l) ≤ weight l
  cut_light e (Run l) = omega arith
  cut_light e (Spike b t) =
      omega (arith, weight_phase (record { stop = before (cap e); child = Run b }) (record { stop = cap e; child = Run t } ∷ []), weight_phase (record { stop = cap e; child = Run t }) [], weight_no_phase)
  cut_light e (Lookup c l) = omega arith
  cut_light e (Sequence' n ps) = omega arith
  cut_light e (Stepper' p w) = omega arith
  cut_light e (Jumper' p w) = omega arith
  cut_light e (Switch' n cs) = omega (arith, cut_cases_light e cs)
  cut_light e (Shift' by p (more_of-Looplet child end_of-Looplet)) = omega (arith, weight_shift by (cut (minus (cap e) by) child), cut_light (minus (cap e) by) child)

  cut_cases_light : {n : _} (e : IExpr) (cs : Row_of-Case n) → weight (Switch (cut_cases e cs)) ≤ 1 + weight_cases cs
  cut_cases_light e end_of-Case = omega (arith, weight_no_case)
  cut_cases_light e (more_of-Case test child rest) = omega (arith, weight_case (record { test = test; child = cut e child }) (cut_cases e rest), cut_light e child, cut_cases_light e rest)

mutual
  pub moved_light : (by : IExpr) (l : Looplet) → weight (moved by l) ≤ weight l
  moved_light by (Run l) = omega arith
  moved_light by (Spike b t) = omega arith
  moved_light by (Lookup c l) = omega arith
  moved_light by (Sequence' n ps) = omega (arith, moved_phases_light by ps)
  moved_light by (Stepper' p w) = moved_walker_light by w
  moved_light by (Jumper' p w) = moved_walker_light by w
  moved_light by (Switch' n cs) = omega (arith, moved_cases_light by cs)
  moved_light by (Shift' inner p (more_of-Looplet child end_of-Looplet)) = omega (arith, moved_light (plus by inner) child)

  moved_phases_light : {n : _} (by : IExpr) (ps : Row_of-Phase n) → weight_phases (moved_phases by ps) ≤ weight_phases ps
  moved_phases_light by end_of-Phase = omega arith
  moved_phases_light by (more_of-Phase stop child rest) = omega (arith, moved_light by child, moved_phases_light by rest)

  moved_walker_light : {n : _} (by : IExpr) (w : Row_of-Walker n) → weight_walker (moved_walker by w) ≤ weight_walker w
  moved_walker_light by end_of-Walker = omega arith
  moved_walker_light by (more_of-Walker cursor seek stop child rest) = omega (arith, moved_light by child)

  moved_cases_light : {n : _} (by : IExpr) (cs : Row_of-Case n) → weight_cases (moved_cases by cs) ≤ weight_cases cs
  moved_cases_light by end_of-Case = omega arith
  moved_cases_light by (more_of-Case test child rest) = omega (arith, moved_light by child, moved_cases_light by rest)

pub cut_all_light : (e : IExpr) (ls : List Looplet) → weights (map (cut e) ls) ≤ weights ls
cut_all_light e [] = omega arith
cut_all_light e (l ∷ ls) = omega (arith, cut_light e l, cut_all_light e ls)
