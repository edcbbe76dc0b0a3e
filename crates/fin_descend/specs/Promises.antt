-- What a caller vouches for, and what the code of its nests then means, in values and charges.
use Rattle.std.specs.Prelude.{ℕ, ◌<◌, ◌≤◌, List, map}
use Rattle.std.specs.List.{All}
use Rattle.fin_ir.specs.declared.code.Code.{Code}
use Rattle.fin_ir.specs.declared.layout.Layout.{Layout}
use Rattle.fin_stage.specs.Staged.{Run}
use Rattle.fin_nest.specs.Related.{Start}
use Rattle.fin_nest.specs.Nests.{Separate}
use Rattle.fin_nest.specs.Laws.{Onward, Flagless, AtPoints, Nothing as IsNothing}
use Rattle.fin_nest.specs.Senses.{runs}
use Rattle.fin_nest.specs.Courses.{Behind, nest_with, Meant, MeantAll, Fills}
use Rattle.fin_style_point.specs.declared.nest.Nest.{Nest}
use Rattle.fin_style_point.specs.Steps.{AllFlat}
use Rattle.fin_style_point.specs.Parts.{all_looplets, course_of}
use Rattle.fin_descend.specs.declared.lowered.Lowered.{Lowered}
use Rattle.fin_descend.specs.declared.lowered.Known.{Known}
use Rattle.fin_descend.specs.declared.lowered.Known.TheVariants.{Nothing, AtOnce, Open}
use Rattle.fin_descend.specs.declared.stepping.Split.{Split}
use Rattle.fin_descend.specs.Parts.{weight_in}

-- What may stand behind the nests of one loop, by what a run begins with and the layout of its code. The caller chooses
-- it: it is what the loop does in the runs of a program, with the numbers that are bound around it.
abbrev pub Family : Type 1
Family = Start → Layout → Behind Run → Type 0

-- One of the family stands behind the nest: the nest depends on nothing that its code changes, and its body goes on
-- where a machine was cut and is the same, where a part begins, whether its reads vary.
pub record Stands (family : Family) (s : Start) (layout : Layout) (b : Behind Run) (n : Nest) : Type 0 where
  pub ours : family s layout b
  pub separate : Separate (nest_with b (course_of n))
  pub onward : Onward (runs s) b.body
  pub points : AtPoints b.body

-- in each layout with the locals that it needs the code means the nest, whatever of the family stands behind it
abbrev pub MeansIn : Family → Lowered → Nest → Type 0
MeansIn family l n = (s : Start) (layout : Layout) (b : Behind Run) → Stands family s layout b n
    → l.room ≤ layout.locals → Meant layout (runs s) (nest_with b (course_of n)) l.code

-- What a step asks of the body besides: over runs and lookups it does the same whether a part begins or not.
pub record Steps (s : Start) (layout : Layout) (b : Behind Run) (n : Nest) : Type 0 where
  pub flagless : AllFlat (all_looplets n) → Flagless (nest_with b (course_of n))

-- What is known of a nest: its body is nothing; or its code; or that it may be stepped, if it weighs something. Of one
-- that weighs nothing the last owes nothing.
abbrev pub Tells : Family → Nest → Known → Type 0
Tells family n Nothing = (s : Start) (layout : Layout) (b : Behind Run) → Stands family s layout b n
    → IsNothing (runs s) (nest_with b (course_of n))
Tells family n (AtOnce l) = MeansIn family l n
Tells family n Open = (s : Start) (layout : Layout) (b : Behind Run) → Stands family s layout b n → 0 < weight_in n
    → Steps s layout b n

-- ---- a step, and the codes of its parts

-- codes that mean the parts, in the frame, mean the nest
abbrev pub Divides : Split → Nest → Type 0
Divides p n = (s : Start) (layout : Layout) (b : Behind Run) → Separate (nest_with b (course_of n))
    → Onward (runs s) b.body → AtPoints b.body → Steps s layout b n → p.room ≤ layout.locals
    → Fills layout (runs s) b p.frame (map course_of p.nests) (course_of n)

abbrev pub AllLighter : Split → Nest → Type 0
AllLighter p n = All (λ q. weight_in q < weight_in n) p.nests

abbrev pub StaySeparate : Split → Nest → Type 0
StaySeparate p n = (b : Behind Run) → Separate (nest_with b (course_of n))
    → All (λ q. Separate (nest_with b (course_of q))) p.nests

abbrev pub StandAll : Family → Start → Layout → Behind Run → List Nest → Type 0
StandAll family s layout b = All (Stands family s layout b)

-- each code means its nest
abbrev pub MeanEach : Family → List Nest → List Code → ℕ → Type 0
MeanEach family ns cs room = (s : Start) (layout : Layout) (b : Behind Run) → StandAll family s layout b ns
    → room ≤ layout.locals → MeantAll layout (runs s) b (map course_of ns) cs

-- the code means each nest that is divided so
abbrev pub Joins : Family → Split → Lowered → Type 0
Joins family p l = (s : Start) (layout : Layout) (b : Behind Run) → StandAll family s layout b p.nests
    → l.room ≤ layout.locals → (n : Nest) → Fills layout (runs s) b p.frame (map course_of p.nests) (course_of n)
    → Meant layout (runs s) (nest_with b (course_of n)) l.code
