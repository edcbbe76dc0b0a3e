-- What is told of a nest of a loop before it is stepped.
use Rattle.std.proofs.Common.{◌≡◌, ℕ, Bool, ◌&&◌, List, Some, refl, ap, ◌∙◌, ℤ}
use Rattle.std.proofs.Math.Path.{fun_ext}
use Rattle.std.specs.Prelude.{not}
use Rattle.std.specs.List.{list_all}
use Rattle.fin_ast.specs.Value.{Numbers}
use Rattle.fin_looplet.specs.View.{Store, value, Seen}
use Rattle.fin_looplet.specs.Lists.{views, seens}
use Rattle.fin_nest.specs.Nests.{Nest}
use Rattle.fin_nest.specs.Laws.{Flagless}
use Rattle.fin_nest.specs.Courses.{nest_with}
use Rattle.fin_simp.specs.Left.{Marks}
use Rattle.fin_simp.specs.Remaining.{are_nothing}
use Rattle.fin_simp.specs.Rest.{Access, is_none_kind}
use Rattle.fin_simp.specs.Work.{World, world_of, is_in, names_var, is_one_update}
use Rattle.fin_drive.specs.Turns.{marks_seen, rest_seen, is_fixed_seen, Watched}
use Rattle.fin_drive.proofs.Bodies.{bodies_are_flagless, bodies_are_nothing}
use Rattle.fin_stage.specs.Staged.{Run}
use Rattle.fin_style_point.specs.declared.nest.Nest as point
use Rattle.fin_style_point.specs.Parts.{all_looplets, course_of}
use Rattle.fin_style_point.specs.Steps.{AllFlat}
use Rattle.fin_nest.specs.Laws.{Nothing as IsNothing}
use Rattle.fin_nest.specs.Senses.{runs}
use Rattle.fin_perform.specs.Layouts.{start_with}
use Rattle.fin_perform.specs.Places.{left_of_all}
use Rattle.fin_loops.specs.Loops.{Loop, slots, watching, behind_of}
use Rattle.fin_loops.specs.Points.{AreSettled, marks_at_point}
use Rattle.fin_loops.specs.Told.{is_fixed_by, is_fixed_along, NestsTold}
use Rattle.fin_loops.proofs.Known.{varies_flat, marks_flat}
use Rattle.fin_loops.proofs.Points.{in_all}
use Rattle.fin_loops.proofs.Rests.{rests_are, none_are}

module _ (l : Loop) (n : point.Nest) (w : World) (vars : Numbers) (flat : AllFlat (all_looplets n)) (settled : AreSettled (slots l) (all_looplets n)) where
  abbrev x : Watched
  x = watching l w vars

  module _ (ts : Store) (ls : List ℤ) (end i : ℤ) where
    abbrev ss : List Seen
    ss = seens (views ts ls (all_looplets n) end i)

    pub known : marks_seen x ss ≡ marks_at_point l n
    known = marks_flat ts ls end i x (all_looplets n) flat settled

    rest_is : rest_seen x ss ≡ left_of_all l.body l.here (Some (marks_at_point l n))
    rest_is = ap x.rest known ∙ rests_are w l.body l.here (Some (marks_at_point l n))

    pub fixed_is : is_fixed_seen x ss (rest_seen x ss) ≡ is_fixed_along l n
    fixed_is =
        ap (is_fixed_by l.var (slots l) ss) rest_is
        ∙ ap (λ (v : ℕ → Bool). let rest = left_of_all l.body l.here (Some (marks_at_point l n)) in
        is_one_update rest.kind && not (is_in rest.vars l.var) && list_all (λ j. not (names_var l.var j)) rest.targets && list_all (λ (a : Access). not (v a.read)) rest.reads)
        (fun_ext (λ k. varies_flat ts ls end i (slots l) (all_looplets n) k flat))

    none_is : is_none_kind (rest_seen x ss).kind ≡ are_nothing l.body l.here (marks_at_point l n)
    none_is = ap (λ (k : Marks). is_none_kind (x.rest k).kind) known ∙ none_are w l.body l.here (marks_at_point l n)

pub nests_told : NestsTold
nests_told l n = record {
  nothing = λ flat settled none s layout b stands.
      in_all l (λ s' k b'. IsNothing (runs s') (nest_with b' (course_of n)))
      (λ room inputs sc vars good.
      let w = world_of l.checked inputs in
      let whole : Nest Run = nest_with (behind_of l w sc vars) (course_of n) in
      (bodies_are_nothing (start_with l.checked room inputs) (watching l w vars)).0 whole refl (λ ts ls i. none_is l n w vars flat settled ts ls (value ts ls n.hi) i ∙ none))
      s layout b stands.ours;
  stepped = λ still s layout b stands heavy. record {
    flagless = λ flat. in_all l (λ s' k b'. Flagless (nest_with b' (course_of n)))
        (λ room inputs sc vars good.
        let w = world_of l.checked inputs in
        let whole : Nest Run = nest_with (behind_of l w sc vars) (course_of n) in
        (bodies_are_flagless (watching l w vars)).0 whole refl (λ ts ls i. fixed_is l n w vars flat (still flat).0 ts ls (value ts ls n.hi) i ∙ (still flat).1))
        s layout b stands.ours;
  };
}
