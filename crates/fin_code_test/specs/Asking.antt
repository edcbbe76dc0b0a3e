-- Code that asks nothing of tensors.
use Rattle.std.specs.Prelude.{Bool, true, false, ◌&&◌}
use Rattle.std.specs.List.{list_all}
use Rattle.fin_ir.specs.declared.code.Code.{Code, fold-Code}
use Rattle.fin_ir.specs.declared.code.Code.TheOpen.{Code-F}
use Rattle.fin_ir.specs.Meaning.{is_range}

abbrev pub asks_nothing_step : Code-F Bool → Bool
asks_nothing_step Code-F.Skip = true
asks_nothing_step (Code-F.Seq all) = list_all (λ b. b) all
asks_nothing_step (Code-F.Assign local value) = true
asks_nothing_step (Code-F.When test body) = body
asks_nothing_step (Code-F.StepLoop var until lo hi stop body) = body
asks_nothing_step (Code-F.ForLoop var lo hi body) = body
asks_nothing_step (Code-F.ParLoop from to lo hi ways body) = is_range lo hi && body
asks_nothing_step (Code-F.Update tensor at by value) = false
asks_nothing_step (Code-F.Declare tensor) = false
asks_nothing_step (Code-F.Freeze tensor) = false
asks_nothing_step (Code-F.Thaw tensor) = false
asks_nothing_step (Code-F.Charge value) = true

-- no statement of it is one on a tensor, and the chunks of its parallel loops are those of a range
abbrev pub asks_nothing : Code → Bool
asks_nothing = fold-Code Bool asks_nothing_step
