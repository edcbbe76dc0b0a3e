-- What the parts of a nest of the program keep.
use Rattle.std.specs.Prelude.{◌≡◌, ◌⊎◌, ◌+◌, ◌<◌, ◌≤◌, map, false}
use Rattle.std.specs.List.{All}
use Rattle.fin_ir.specs.declared.layout.Layout.{Layout}
use Rattle.fin_stage.specs.Staged.{Run}
use Rattle.fin_nest.specs.Related.{Start}
use Rattle.fin_nest.specs.Nests.{Sense, Separate}
use Rattle.fin_nest.specs.Laws.{Onward}
use Rattle.fin_nest.specs.Senses.{runs, Tallied, turns}
use Rattle.fin_nest.specs.Entries.{numbers}
use Rattle.fin_nest.specs.Courses.{Behind, nest_with, course_weight, Fills}
use Rattle.fin_nest.specs.Styles as style
use Rattle.fin_style_step.specs.declared.nest.Nest.{Nest}
use Rattle.fin_style_step.specs.declared.nest.Parts.{Parts}
use Rattle.fin_style_step.specs.Steps.{stepper, jumper}
use Rattle.fin_style_step.specs.Laws.{Idle, Counted, CountsOne, Commutes}
use Rattle.fin_style_step.specs.Parts.{all_looplets, course_of, parts_of}

-- What stands behind a nest, so that its parts split it: the nest depends on nothing that its code changes, its body
-- goes on where a machine was cut, there are locals for the step; and stops that count pay for the turns.
pub record Asked {S : Type 0} (layout : Layout) (sense : Sense S) (b : Behind S) (n : Nest) : Type 0 where
  pub separate : Separate (nest_with b (course_of n))
  pub onward : Onward sense b.body
  pub room : n.next + 2 < layout.locals
  pub steps : style.style_of (all_looplets n) ≡ style.stepper → Idle sense ⊎ Counted stepper b.counts (all_looplets n)
  pub jumps : style.style_of (all_looplets n) ≡ style.jumper
      → Idle sense ⊎ (CountsOne jumper b.counts (all_looplets n) × Commutes sense b.body)

-- codes that mean the parts, in the frame, mean the nest
abbrev pub SplitsIn : {S : Type 0} → Layout → Sense S → Parts → Nest → Type 0
SplitsIn layout sense p n = (b : Behind _) → Asked layout sense b n
    → Fills layout sense b p.frame (map course_of p.nests) (course_of n)

abbrev pub Splits : Parts → Nest → Type 0
Splits p n = (s : Start) (layout : Layout) → SplitsIn layout (runs s) p n × SplitsIn layout (turns s) p n

abbrev pub AllLighter : Parts → Nest → Type 0
AllLighter p n = All (λ q. course_weight (course_of q) < course_weight (course_of n)) p.nests

-- no part depends on what its code changes, where the nest doesn't
abbrev pub SeparateOver : Type 0 → Parts → Nest → Type 0
SeparateOver S p n = (b : Behind S) → Separate (nest_with b (course_of n))
    → All (λ q. Separate (nest_with b (course_of q))) p.nests

abbrev pub StaySeparate : Parts → Nest → Type 0
StaySeparate p n = SeparateOver Run p n × SeparateOver Tallied p n

-- a part has the nest's body, variable, reads and masks, and its free locals, but for at most three
pub record OfNest (n q : Nest) : Type 0 where
  pub body : q.body ≡ n.body
  pub var : q.var ≡ n.var
  pub reads : numbers q.reads ≡ numbers n.reads
  pub masks : numbers q.masks ≡ numbers n.masks
  pub next : n.next ≤ q.next

abbrev pub AreOfNest : Parts → Nest → Type 0
AreOfNest p n = All (OfNest n) p.nests

-- ---- the parts that are defined

pub record Kept (p : Parts) (n : Nest) : Type 0 where
  pub split : Splits p n
  pub lighter : AllLighter p n
  pub separate : StaySeparate p n
  pub body : AreOfNest p n

-- of each nest whose style is sequence, stepper or jumper
abbrev pub PartsSplit : Type 0
PartsSplit = (n : Nest) → style.is_point_style (style.style_of (all_looplets n)) ≡ false → Kept (parts_of n) n
