-- What is owed of a nest of a loop that is asked of, by what is found there.
use Rattle.std.proofs.Common.{◌≡◌, Bool, true, false, List, ◌++◌, sym, ap, ◌∙◌}
use Rattle.fin_simp.specs.declared.facts.Gap.{Gap}
use Rattle.fin_simp.specs.declared.facts.Known.{Known}
use Rattle.fin_simp.specs.Facts.{marks_of}
use Rattle.fin_simp.specs.Gathered.{rest_of_all}
use Rattle.fin_simp.specs.Left.{Marks}
use Rattle.fin_simp.specs.Remaining.{are_nothing}
use Rattle.fin_simp.specs.Rest.{Rest}
use Rattle.fin_drive.specs.Turns.{Slot}
use Rattle.fin_style_point.specs.declared.nest.Nest.{Nest}
use Rattle.fin_style_point.specs.Parts.{all_looplets}
use Rattle.fin_style_point.specs.Steps.{AllFlat}
use Rattle.fin_known.specs.Telling.{fill_at, gaps_told, truth_at, tests_told, marks_told, slots_of}
use Rattle.fin_descend.specs.declared.lowered.Known.TheVariants as known
use Rattle.fin_descend.specs.Promises.{Tells}
use Rattle.fin_loops.specs.FactsPoints.{IsKnown}
use Rattle.fin_loops.specs.Loops.{OfLoop, slots}
use Rattle.fin_loops.specs.Points.{seen_bare}
use Rattle.fin_loops.specs.Told.{is_fixed_by, is_fixed_along}
use Rattle.fin_loops.proofs.Facts.{nothing_is_told}
use Rattle.fin_loops.proofs.FactsPoints.{points_are_told}
use Rattle.fin_loops.proofs.Told.{nests_told}
use Rattle.fin_stmts.specs.declared.entered.Site.{Site}
use Rattle.fin_stmts.specs.Places.{here_of}
use Rattle.fin_stmts.specs.Sites.{Comes, IsFixed, loop_of}

module _ (s : Site) (ds : List Bool) (n : Nest) (comes : Comes s ds n) where
  pub nothing_owed : are_nothing s.one.body.now (here_of s.place) (marks_told s.around ds n) ≡ true → Tells (OfLoop (loop_of s)) n known.Nothing
  nothing_owed none = nothing_is_told (loop_of s) s.around ds n comes.knows none

  -- one that holds more than runs and lookups may be stepped
  pub bumpy_owed : (AllFlat (all_looplets n) → ⊥) → Tells (OfLoop (loop_of s)) n known.Open
  bumpy_owed bumpy = (nests_told (loop_of s) n).stepped (λ flat. absurd (bumpy flat))

  module _ (flat : AllFlat (all_looplets n)) where
    known_here : IsKnown (loop_of s) s.around ds n
    known_here = (points_are_told (loop_of s) s.around ds n comes.knows).flat flat

    -- by facts of the heads it is seen whether what is left is a fixed update
    pub fixed_along : (gaps : List Gap) (tests : List Known) (r : Rest) (b : Bool) → gaps ≡ s.around.gaps.now ++ gaps_told (fill_at ds n.reads) n.reads
        → tests ≡ s.around.known.now ++ tests_told (truth_at n.masks) n.masks
        → r ≡ rest_of_all s.one.body.now (here_of s.place) (marks_of gaps tests s.around.bound.now)
        → b ≡ is_fixed_by s.one.var (slots_of ds n) (seen_bare (all_looplets n)) r → b ≡ is_fixed_along (loop_of s) n
    fixed_along gaps tests r b listed tested left seen =
        seen ∙ ap (λ (xs : List Slot). is_fixed_by s.one.var xs (seen_bare (all_looplets n)) r) (sym comes.knows.slots_are)
        ∙ ap (is_fixed_by s.one.var (slots (loop_of s)) (seen_bare (all_looplets n)))
        (left ∙ ap (λ (gs : List Gap). rest_of_all s.one.body.now (here_of s.place) (marks_of gs tests s.around.bound.now)) listed
        ∙ ap (λ (ts : List Known). rest_of_all s.one.body.now (here_of s.place) (marks_of (s.around.gaps.now ++ gaps_told (fill_at ds n.reads) n.reads) ts s.around.bound.now)) tested
        ∙ ap (λ (m : Marks). rest_of_all s.one.body.now (here_of s.place) m) known_here.marks)

    pub fixed_owed : is_fixed_along (loop_of s) n ≡ true → IsFixed s n
    fixed_owed same = record { flat = flat; settled = known_here.settled; same = same }

    pub varying_owed : is_fixed_along (loop_of s) n ≡ false → Tells (OfLoop (loop_of s)) n known.Open
    varying_owed varies = (nests_told (loop_of s) n).stepped (λ all. (known_here.settled, varies))
