-- The free locals of a part are some of those of its nest.
use Rattle.std.proofs.Common.{◌≤◌, List, [], ◌∷◌, arith}
use Rattle.std.specs.List.{All}
use Rattle.std.proofs.lemmas.List.Elements.{All-cons, All-map}
use Rattle.fin_nest.specs.Styles as style
use Rattle.fin_style_point.specs.declared.nest.Nest.{Nest}
use Rattle.fin_style_point.specs.declared.nest.Parts as at_points
use Rattle.fin_style_point.specs.declared.nest.Branch.TheVariants.{Taken, Others}
use Rattle.fin_style_point.specs.Parts as points
use Rattle.fin_style_step.specs.declared.nest.Nest as stepping
use Rattle.fin_style_step.specs.declared.nest.Parts as along
use Rattle.fin_style_step.specs.Parts as steps
use Rattle.fin_descend.specs.Parts.{as_stepping, as_point, PartsComeLater}
use Rattle.fin_descend.proofs.Loops.{one, two, by_if, one_along}

-- ---- point by point

module _ (n : Nest) where
  abbrev IsLater : Nest → Type 0
  IsLater q = n.next ≤ q.next

  abbrev AllLater : at_points.Parts → Type 0
  AllLater parts = All IsLater parts.nests

  points_later : AllLater (points.parts_of n)
  points_later =
      by_if AllLater (points.nest_has style.shift n) _ _ (one IsLater (points.shift_part n) (omega arith))
      (by_if AllLater (points.nest_has style.switch n) _ _ (two IsLater (points.switch_part Taken n) (points.switch_part Others n) (omega arith) (omega arith))
      (by_if AllLater (points.nest_has style.spike n) _ _ (one IsLater (points.spike_part n) (omega arith)) (one IsLater (points.point_part n) (omega arith))))

-- ---- along a region

module _ (n : stepping.Nest) where
  abbrev IsBehind : stepping.Nest → Type 0
  IsBehind q = n.next ≤ q.next

  abbrev AllBehind : along.Parts → Type 0
  AllBehind parts = All IsBehind parts.nests

  steps_later : AllBehind (steps.parts_of n)
  steps_later =
      by_if AllBehind (steps.nest_has style.sequence n) _ _
      (All-cons IsBehind (steps.here_part n) (steps.others_part n ∷ []) (omega arith) (one_along IsBehind (steps.others_part n) (omega arith)))
      (by_if AllBehind (steps.nest_has style.jumper n) _ _ (one_along IsBehind (steps.jumper_part n) (omega arith)) (one_along IsBehind (steps.stepper_part n) (omega arith)))

pub parts_come_later : PartsComeLater
parts_come_later n =
    by_if (λ (ns : List Nest). All (IsLater n) ns) (style.is_point_style (style.style_of (points.all_looplets n))) _ _ (points_later n)
    (All-map (IsLater n) as_point (steps.parts_of (as_stepping n)).nests (steps_later (as_stepping n)))
