use Rattle.std.proofs.Common.{◌≡◌, take}
use Rattle.fin_ast.specs.Modes.{mode_at_start}
use Rattle.fin_life.specs.Table.{mode_in}
use Rattle.fin_life.proofs.modes.Modes.at_start.Given as goal

abbrev pub invariant-loop-tensor : goal.invariant-loop-tensor
invariant-loop-tensor l = mode_in l.modes ≡ mode_at_start (take l.tensor l.headers)
