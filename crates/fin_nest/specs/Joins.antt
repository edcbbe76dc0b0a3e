-- What the codes of a nest's parts, in the frame, mean.
use Rattle.std.specs.Prelude.{List}
use Rattle.fin_ir.specs.declared.code.Code.{Code}
use Rattle.fin_ir.specs.declared.layout.Layout.{Layout}
use Rattle.fin_nest.specs.Related.{Start}
use Rattle.fin_nest.specs.Nests.{Sense}
use Rattle.fin_nest.specs.Senses.{runs, turns}
use Rattle.fin_nest.specs.Courses.{Course, Behind, nest_with, Meant, MeantAll, Fills}

-- the code means each nest that the parts, in the frame, split, where the codes mean the parts
abbrev pub JoinsIn : {S : Type 0} → Layout → Sense S → Code → List Course → List Code → Code → Type 0
JoinsIn layout sense frame parts codes joined = (whole : Course) (b : Behind _) → Fills layout sense b frame parts whole
    → MeantAll layout sense b parts codes → Meant layout sense (nest_with b whole) joined

-- in both senses
abbrev pub Joins : Code → List Course → List Code → Code → Type 0
Joins frame parts codes joined = (s : Start) (layout : Layout)
    → JoinsIn layout (runs s) frame parts codes joined × JoinsIn layout (turns s) frame parts codes joined
