-- The codes of a loop's body where the nest has come to one coordinate and its looplets to runs: what is known there is
-- known where the code is made.
use Rattle.std.specs.Prelude.{◌≡◌, ℕ, ◌≤◌, true, false, List, [], ◌∷◌, pos, Some}
use Rattle.std.specs.Option.{option_or}
use Rattle.fin_ir.specs.declared.code.Code.{Code}
use Rattle.fin_ir.specs.declared.code.Code.TheVariants.{Skip, Seq, Assign}
use Rattle.fin_ir.specs.declared.layout.Layout.{Layout}
use Rattle.fin_ir.specs.Machine.{nothing}
use Rattle.fin_stage.specs.Staged.{Run}
use Rattle.fin_looplet.specs.declared.looplet.Looplet.{Looplet}
use Rattle.fin_looplet.specs.declared.looplet.Looplet.TheVariants as looplet
use Rattle.fin_looplet.specs.declared.looplet.Leaf.{Leaf}
use Rattle.fin_looplet.specs.View.{Seen}
use Rattle.fin_looplet.specs.Lists.{views, seens}
use Rattle.fin_looplet.specs.Weight.{RunsAtPoint}
use Rattle.fin_nest.specs.Related.{Start}
use Rattle.fin_nest.specs.Laws.{Onward, AtPoints}
use Rattle.fin_nest.specs.Senses.{runs}
use Rattle.fin_nest.specs.Courses.{Behind}
use Rattle.fin_nest.specs.Performs.{charge_one}
use Rattle.fin_simp.specs.Left.{Marks}
use Rattle.fin_simp.specs.Remaining.{are_nothing}
use Rattle.fin_drive.specs.Turns.{Slot, Driving, Waiting, Testing, fill_by, word_by, first_known}
use Rattle.fin_style_point.specs.declared.nest.Nest.{Nest}
use Rattle.fin_style_point.specs.Parts.{all_looplets}
use Rattle.fin_descend.specs.declared.lowered.Lowered.{Lowered}
use Rattle.fin_descend.specs.Leaves.{IsNumberOrGap}
use Rattle.fin_descend.specs.Promises.{MeansIn}
use Rattle.fin_perform.specs.Meanings.{Means, body_deed}
use Rattle.fin_perform.specs.Places.{change_all}
use Rattle.fin_loops.specs.Loops.{Loop, around, slots, changed_in, OfLoop}

-- what is seen of looplets where there is no tensor and no local: of runs the fills and the numbers are the same anywhere
abbrev pub seen_bare : List Looplet → List Seen
seen_bare ls = seens (views (λ t. nothing) [] ls (pos 0) (pos 0))

-- what is known by runs, around what is known around
abbrev pub marks_by : Marks → List Slot → List Looplet → Marks
marks_by m xs ls = record {
  reads = λ k. option_or (m.reads k) (first_known fill_by xs (seen_bare ls) k);
  tests = λ k. option_or (m.tests k) (first_known word_by xs (seen_bare ls) k);
  vars = m.vars;
}

-- the runs of masks are numbers, or the gap where no phase is left
abbrev pub AreSettled : List Slot → List Looplet → Type 0
AreSettled [] ls = Unit {0}
AreSettled (x ∷ xs) [] = Unit {0}
AreSettled (Driving j ∷ xs) (l ∷ ls) = AreSettled xs ls
AreSettled (Waiting ∷ xs) (l ∷ ls) = AreSettled xs ls
AreSettled (Testing j ∷ xs) (l ∷ ls) = ((leaf : Leaf) × (l ≡ looplet.Run leaf) × IsNumberOrGap leaf) × AreSettled xs ls

abbrev pub marks_at_point : Loop → Nest → Marks
marks_at_point l n = marks_by (around l) (slots l) (all_looplets n)

-- a nest of the loop at a point
pub record AtPoint (l : Loop) (n : Nest) : Type 0 where
  pub var : n.var ≡ l.var
  pub runs : RunsAtPoint (all_looplets n) n.lo n.hi
  pub settled : AreSettled (slots l) (all_looplets n)

-- a charge, the coordinate in the variable's local, and the codes of the body
abbrev pub point_code : Nest → List Code → Code
point_code n cs = Seq (charge_one ∷ Assign n.var n.lo ∷ cs)

-- under what is known there, what is left of the body changes no tensor that the loop leaves
abbrev pub ChangesNoMore : Loop → Marks → Type 0
ChangesNoMore l m = (t : ℕ) → change_all l.body l.here (Some m) t ≡ true → changed_in l t ≡ true

-- where nothing is left of the body there is no code; elsewhere codes that mean it under what is known there
pub record PointMeans (l : Loop) (n : Nest) (code : Lowered) : Type 0 where
  pub nothing : are_nothing l.body l.here (marks_at_point l n) ≡ true → code.code ≡ Skip
      → MeansIn (OfLoop l) code n
  pub some : (cs : List Code) → are_nothing l.body l.here (marks_at_point l n) ≡ false
      → code.code ≡ point_code n cs → n.next ≤ code.room → ChangesNoMore l (marks_at_point l n)
      → Means l.checked n.next code.room cs (body_deed l.body l.here (Some (marks_at_point l n))) → MeansIn (OfLoop l) code n

abbrev pub PointsMean : Type 0
PointsMean = (l : Loop) (n : Nest) (code : Lowered) → AtPoint l n → PointMeans l n code

-- whatever stands behind the nests of a loop goes on, and is the same at points whether its reads vary
abbrev pub LoopsGoOn : Type 0
LoopsGoOn = (l : Loop) (s : Start) (layout : Layout) (b : Behind Run) → OfLoop l s layout b
    → Onward (runs s) b.body × AtPoints b.body
