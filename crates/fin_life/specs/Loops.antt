-- The loops that are kept.
use Rattle.std.specs.Prelude.{ℕ, List, take}
use Rattle.fin_life.specs.declared.loops.Loops.{Loops}

abbrev pub loops_in : Loops → List ℕ
loops_in loops = take loops.count loops.vars
