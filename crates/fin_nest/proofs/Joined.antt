-- A filled frame means what its parts split.
use Rattle.std.proofs.Common.{◌≡◌, List, sym, subst}
use Rattle.fin_ir.specs.declared.code.Code.{Code}
use Rattle.fin_ir.specs.declared.layout.Layout.{Layout}
use Rattle.fin_nest.specs.Nests.{Sense}
use Rattle.fin_nest.specs.Senses.{runs, turns}
use Rattle.fin_nest.specs.Courses.{Course, nest_with, Meant}
use Rattle.fin_nest.specs.Frames.{fill}
use Rattle.fin_nest.specs.Joins.{JoinsIn, Joins}

joins_in : {S : Type 0} (layout : Layout) (sense : Sense S) (frame : Code) (parts : List Course) (codes : List Code) (c : Code) → c ≡ fill frame codes → JoinsIn layout sense frame parts codes c
joins_in layout sense frame parts codes c is whole b splits meant = subst (λ (x : Code). Meant layout sense (nest_with b whole) x) (sym is) (splits codes meant)

pub joined : (frame : Code) (parts : List Course) (codes : List Code) (c : Code) → c ≡ fill frame codes → Joins frame parts codes c
joined frame parts codes c is s layout = (joins_in layout (runs s) frame parts codes c is, joins_in layout (turns s) frame parts codes c is)
