-- A nest by whose heads nothing is left of the loop's body is nothing, and what is known of a nest is known of its parts.
use Rattle.std.proofs.Common.{◌≡◌, inr, ℕ, List, ◌++◌, map, refl, sym, ap, ◌∙◌, arith, Bool}
use Rattle.fin_stage.specs.Staged.{Run}
use Rattle.fin_nest.specs.Courses.{nest_with}
use Rattle.fin_nest.specs.Entries.{numbers}
use Rattle.fin_nest.specs.Laws.{Nothing as IsNothing}
use Rattle.fin_nest.specs.Nests.{Nest}
use Rattle.fin_nest.specs.Senses.{runs}
use Rattle.fin_simp.specs.Work.{world_of}
use Rattle.fin_drive.specs.Turns.{Testing}
use Rattle.fin_drive.proofs.Bodies.{bodies_are_nothing}
use Rattle.fin_style_point.specs.declared.nest.Nest as point
use Rattle.fin_style_point.specs.Parts.{course_of}
use Rattle.fin_style_point.specs.Splits.{OfNest}
use Rattle.fin_descend.specs.Leaves.{LeafWorded}
use Rattle.fin_descend.proofs.Lasting.{parts_keep_leaves, words_last}
use Rattle.fin_descend.proofs.Loops.{parts_are_of_loop}
use Rattle.fin_known.specs.Telling.{read_slots, slots_of}
use Rattle.fin_known.proofs.Heads.{heads_tell_nothing}
use Rattle.fin_perform.specs.Layouts.{start_with}
use Rattle.fin_loops.specs.Facts.{IsTruthOrGap, NothingIsTold, PartsAreKnown}
use Rattle.fin_loops.specs.Loops.{watching, behind_of}
use Rattle.fin_loops.proofs.FactsWords.{nest_worded}
use Rattle.fin_loops.proofs.Points.{in_all}

pub nothing_is_told : NothingIsTold
nothing_is_told l facts ds n knows none s layout b stands =
    in_all l (λ s' k b'. IsNothing (runs s') (nest_with b' (course_of n)))
    (λ room inputs sc vars good.
    let w = world_of l.checked inputs in
    let whole : Nest Run = nest_with (behind_of l w sc vars) (course_of n) in
    (bodies_are_nothing (start_with l.checked room inputs) (watching l w vars)).0 whole refl
    (heads_tell_nothing (watching l w vars) facts ds l.body l.here n (behind_of l w sc vars)
    (record {
      slots = knows.slots_are;
      around_is = sym knows.around_is;
      words = knows.words;
      worded = nest_worded n knows.leaves;
      literals = knows.literals;
      world = w;
      rest = refl;
    })
    none))
    s layout b stands.ours

same_slots : (ds : List Bool) (n q : point.Nest) → OfNest n q → slots_of ds n ≡ slots_of ds q
same_slots ds n q of =
    ap (λ (ks : List ℕ). read_slots ds ks ++ map Testing (numbers n.masks)) (sym of.reads)
    ∙ ap (λ (ks : List ℕ). read_slots ds (numbers q.reads) ++ map Testing ks) (sym of.masks)

pub parts_are_known : PartsAreKnown
parts_are_known l facts ds n weight jumpless knows k d lt =
    let of = parts_are_of_loop n n weight (record {
      of = record { body = refl; var = refl; reads = refl; masks = refl; next = omega arith };
      jumpless = jumpless;
    }) k d lt in
    record {
      around_is = knows.around_is;
      words = knows.words;
      literals = knows.literals;
      slots_are = knows.slots_are ∙ same_slots ds n _ of.of;
      leaves = parts_keep_leaves LeafWorded IsTruthOrGap words_last (inr refl) n knows.leaves k d lt;
    }
