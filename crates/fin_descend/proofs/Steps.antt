-- The step of either crate, as one step.
use Rattle.std.proofs.Common.{◌≡◌, ◌+◌, ◌<◌, ◌≤◌, List, [], ◌∷◌, map, Bool, true, false, refl, sym, ap, subst, ◌∙◌, inl, arith}
use Rattle.std.specs.Prelude.{if◌then◌else◌}
use Rattle.std.specs.List.{All}
use Rattle.std.proofs.lemmas.List.Elements.{All-map}
use Rattle.fin_ir.specs.declared.code.Code.{Code}
use Rattle.fin_nest.specs.Nests.{Separate}
use Rattle.fin_nest.specs.Senses.{runs}
use Rattle.fin_nest.specs.Courses.{Course, nest_with, Fills}
use Rattle.fin_nest.specs.Styles.{style_of, is_point_style}
use Rattle.fin_style_point.specs.declared.nest.Nest.{Nest}
use Rattle.fin_style_point.specs.declared.nest.Parts as at_points
use Rattle.fin_style_point.specs.Parts as points
use Rattle.fin_style_point.specs.Splits as point_splits
use Rattle.fin_style_step.specs.declared.nest.Nest as stepping
use Rattle.fin_style_step.specs.declared.nest.Parts as along
use Rattle.fin_style_step.specs.Parts as steps
use Rattle.fin_style_step.specs.Splits as step_splits
use Rattle.fin_descend.specs.declared.stepping.Split.{Split}
use Rattle.fin_descend.specs.Parts.{as_stepping, as_point, weight_in, parts_of, frame_of}
use Rattle.fin_descend.specs.Promises.{Divides, AllLighter, StaySeparate}
use Rattle.fin_descend.specs.Naming.{step_end}

chosen : {A : Type 0} (b : Bool) (x y : A) → b ≡ true → x ≡ (if b then x else y)
chosen true x y e = refl
chosen false x y e = absurd (cc)

other : {A : Type 0} (b : Bool) (x y : A) → b ≡ false → y ≡ (if b then x else y)
other true x y e = absurd (cc)
other false x y e = refl

pub end_at_points : (n : Nest) → is_point_style (style_of (points.all_looplets n)) ≡ true → n.next + 1 ≡ step_end n
end_at_points n ours = chosen (is_point_style (style_of (points.all_looplets n))) (n.next + 1) (n.next + 3) ours

pub end_along : (n : Nest) → is_point_style (style_of (points.all_looplets n)) ≡ false → n.next + 3 ≡ step_end n
end_along n ours = other (is_point_style (style_of (points.all_looplets n))) (n.next + 1) (n.next + 3) ours

-- ---- point by point

module _ (n : Nest) (p : at_points.Parts) (q : Split) (frame : q.frame ≡ p.frame) (nests : q.nests ≡ p.nests) where
  pub points_divide : point_splits.Splits p n → n.next + 1 ≤ q.room → Divides q n
  points_divide splits room s layout b separate onward same steps fits =
      let asked : point_splits.Asked layout (runs s) b n = record {
        separate = separate;
        onward = onward;
        room = omega (arith, room, fits);
        flagless = steps.flagless;
        points = same;
      } in
      let fills = (splits s layout).0 b asked in
      subst (λ (f : Code). Fills layout (runs s) b f (map points.course_of q.nests) (points.course_of n)) (sym frame)
      (subst (λ (ns : List Nest). Fills layout (runs s) b p.frame (map points.course_of ns) (points.course_of n)) (sym nests) fills)

  pub points_light : point_splits.Lighter p n → AllLighter q n
  points_light light = subst (λ (ns : List Nest). All (λ x. weight_in x < weight_in n) ns) (sym nests) light

  pub points_apart : point_splits.StaySeparate p n → StaySeparate q n
  points_apart apart b s = subst (λ (ns : List Nest). All (λ x. Separate (nest_with b (points.course_of x))) ns) (sym nests) (apart.0 b s)

  pub points_are : is_point_style (style_of (points.all_looplets n)) ≡ true → p ≡ points.parts_of n → q.nests ≡ parts_of n
  points_are ours e =
      nests ∙ ap (λ (x : at_points.Parts). x.nests) e
      ∙ chosen (is_point_style (style_of (points.all_looplets n))) (points.parts_of n).nests (map as_point (steps.parts_of (as_stepping n)).nests) ours

  pub points_framed : is_point_style (style_of (points.all_looplets n)) ≡ true → p ≡ points.parts_of n → q.frame ≡ frame_of n
  points_framed ours e =
      frame ∙ ap (λ (x : at_points.Parts). x.frame) e
      ∙ chosen (is_point_style (style_of (points.all_looplets n))) (points.parts_of n).frame (steps.parts_of (as_stepping n)).frame ours

-- ---- along a region

courses : (ns : List stepping.Nest) → map steps.course_of ns ≡ map points.course_of (map as_point ns)
courses [] = refl
courses (n ∷ ns) = ap (λ (cs : List Course). steps.course_of n ∷ cs) (courses ns)

module _ (n : Nest) (p : along.Parts) (q : Split) (frame : q.frame ≡ p.frame) (nests : q.nests ≡ map as_point p.nests) where
  pub steps_divide : step_splits.Splits p (as_stepping n) → n.next + 3 ≤ q.room → Divides q n
  steps_divide splits room s layout b separate onward same asks fits =
      let asked : step_splits.Asked layout (runs s) b (as_stepping n) = record {
        separate = separate;
        onward = onward;
        room = omega (arith, room, fits);
        steps = λ e. inl (λ r. refl);
        jumps = λ e. inl (λ r. refl);
      } in
      let fills = (splits s layout).0 b asked in
      let c = points.course_of n in
      subst (λ (f : Code). Fills layout (runs s) b f (map points.course_of q.nests) c) (sym frame)
      (subst (λ (ns : List Nest). Fills layout (runs s) b p.frame (map points.course_of ns) c) (sym nests)
      (subst (λ (cs : List Course). Fills layout (runs s) b p.frame cs c) (courses p.nests) fills))

  pub steps_light : step_splits.AllLighter p (as_stepping n) → AllLighter q n
  steps_light light =
      subst (λ (ns : List Nest). All (λ x. weight_in x < weight_in n) ns) (sym nests)
      (All-map (λ (x : Nest). weight_in x < weight_in n) as_point p.nests light)

  pub steps_apart : step_splits.StaySeparate p (as_stepping n) → StaySeparate q n
  steps_apart apart b s =
      subst (λ (ns : List Nest). All (λ x. Separate (nest_with b (points.course_of x))) ns) (sym nests)
      (All-map (λ (x : Nest). Separate (nest_with b (points.course_of x))) as_point p.nests (apart.0 b s))

  pub steps_are : is_point_style (style_of (points.all_looplets n)) ≡ false → p ≡ steps.parts_of (as_stepping n) → q.nests ≡ parts_of n
  steps_are ours e =
      nests ∙ ap (λ (x : along.Parts). map as_point x.nests) e
      ∙ other (is_point_style (style_of (points.all_looplets n))) (points.parts_of n).nests (map as_point (steps.parts_of (as_stepping n)).nests) ours

  pub steps_framed : is_point_style (style_of (points.all_looplets n)) ≡ false → p ≡ steps.parts_of (as_stepping n) → q.frame ≡ frame_of n
  steps_framed ours e =
      frame ∙ ap (λ (x : along.Parts). x.frame) e
      ∙ other (is_point_style (style_of (points.all_looplets n))) (points.parts_of n).frame (steps.parts_of (as_stepping n)).frame ours
