-- What the code knows of a nest, as lists of facts and by the heads of its looplets, is what the laws of loops ask for.
use Rattle.std.specs.Prelude.{◌≡◌, ◌⊎◌, ◌<◌, Bool, true, List, map, pos}
use Rattle.std.specs.List.{All}
use Rattle.fin_ast.specs.Literals.{all_hold, is_worded_stmt}
use Rattle.fin_ir.specs.declared.expression.IExpr.TheVariants.{Num}
use Rattle.fin_looplet.specs.declared.looplet.Leaf.{Leaf}
use Rattle.fin_looplet.specs.declared.looplet.Leaf.TheVariants.{Fill, Value}
use Rattle.fin_simp.specs.declared.facts.Facts.{Facts}
use Rattle.fin_simp.specs.Facts.{marks, truth_of}
use Rattle.fin_simp.specs.Remaining.{are_nothing}
use Rattle.fin_simp.specs.Wording.{KnowsWords}
use Rattle.fin_style_point.specs.declared.nest.Nest.{Nest}
use Rattle.fin_style_point.specs.Parts.{all_looplets}
use Rattle.fin_descend.specs.declared.lowered.Known.TheVariants.{Nothing}
use Rattle.fin_descend.specs.Jumpless.{AllJumpless}
use Rattle.fin_descend.specs.Leaves.{HasLeaves, LeafWorded}
use Rattle.fin_descend.specs.Parts.{weight_in, parts_of}
use Rattle.fin_descend.specs.Promises.{Tells}
use Rattle.fin_known.specs.Telling.{marks_told, slots_of}
use Rattle.fin_loops.specs.Loops.{Loop, around, slots, OfLoop}

-- ---- what is asked of the facts, and of the nest

-- of a mask: that its test holds or fails; or the gap that stands where no phase is left
abbrev pub IsTruthOrGap : Leaf → Type 0
IsTruthOrGap leaf = ((holds : Bool) × (leaf ≡ Value (Num (truth_of holds)))) ⊎ (leaf ≡ Fill (pos 0))

-- The facts are what is known around the loop, in words, and its body has words for literals. The nest's looplets are
-- for the loop's reads, of which it drives some, and for its masks.
pub record KnowsOf (l : Loop) (facts : Facts) (ds : List Bool) (n : Nest) : Type 0 where
  pub around_is : marks facts ≡ around l
  pub words : KnowsWords (marks facts)
  pub literals : all_hold (map is_worded_stmt l.body) ≡ true
  pub slots_are : slots l ≡ slots_of ds n
  pub leaves : HasLeaves LeafWorded IsTruthOrGap n

-- ---- the laws

-- a nest by whose heads nothing is left of the loop's body may go without code
abbrev pub NothingIsTold : Type 0
NothingIsTold = (l : Loop) (facts : Facts) (ds : List Bool) (n : Nest) → KnowsOf l facts ds n
    → are_nothing l.body l.here (marks_told facts ds n) ≡ true → Tells (OfLoop l) n Nothing

-- the same is known of the parts of a nest
abbrev pub PartsAreKnown : Type 0
PartsAreKnown = (l : Loop) (facts : Facts) (ds : List Bool) (n : Nest) → 0 < weight_in n → AllJumpless (all_looplets n)
    → KnowsOf l facts ds n → All (KnowsOf l facts ds) (parts_of n)

-- what is told is words
abbrev pub WordsAreTold : Type 0
WordsAreTold = (l : Loop) (facts : Facts) (ds : List Bool) (n : Nest) → KnowsOf l facts ds n
    → KnowsWords (marks_told facts ds n)
