-- The table of modes.
use Rattle.std.specs.Prelude.{ℕ, slice_index_or}
use Rattle.fin_ast.specs.declared.mode.Mode.{Mode}
use Rattle.fin_ast.specs.declared.mode.Mode.TheVariants.{Undeclared}
use Rattle.fin_life.specs.declared.modes.Modes.{Modes}

abbrev pub mode_in : Modes → ℕ → Mode
mode_in modes tensor = slice_index_or modes.of tensor Undeclared
