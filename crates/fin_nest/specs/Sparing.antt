-- Codes that leave some locals and tensors as they are, in any machine, as can be seen from the code.
use Rattle.std.specs.Prelude.{ℕ, Bool, true, not, ◌&&◌, List, [], ◌∷◌}
use Rattle.fin_ir.specs.declared.code.Code.{Code, fold-Code}
use Rattle.fin_ir.specs.declared.code.Code.TheOpen.{Code-F}

-- which locals and tensors are to stay
pub record Staying : Type 0 where
  pub locals : ℕ → Bool
  pub tensors : ℕ → Bool

abbrev pub all_spare : List Bool → Bool
all_spare [] = true
all_spare (b ∷ bs) = b && all_spare bs

-- no code in it assigns one of the locals, or updates, declares, freezes or thaws one of the tensors
abbrev pub spare_step : Staying → Code-F Bool → Bool
spare_step s Code-F.Skip = true
spare_step s (Code-F.Seq all) = all_spare all
spare_step s (Code-F.Assign local value) = not (s.locals local)
spare_step s (Code-F.When test body) = body
spare_step s (Code-F.StepLoop var until lo hi stop body) = not (s.locals var) && (not (s.locals until) && body)
spare_step s (Code-F.ForLoop var lo hi body) = not (s.locals var) && body
spare_step s (Code-F.ParLoop from to lo hi ways body) = body
spare_step s (Code-F.Update tensor at by value) = not (s.tensors tensor)
spare_step s (Code-F.Declare tensor) = not (s.tensors tensor)
spare_step s (Code-F.Freeze tensor) = not (s.tensors tensor)
spare_step s (Code-F.Thaw tensor) = not (s.tensors tensor)
spare_step s (Code-F.Charge value) = true

abbrev pub spares : Staying → Code → Bool
spares s = fold-Code Bool (spare_step s)
