-- Frames: codes in which each `Skip`, in order, stands for a part.
use Rattle.std.specs.Prelude.{List, [], ◌∷◌}
use Rattle.fin_ir.specs.declared.code.Code.{Code, fold-Code}
use Rattle.fin_ir.specs.declared.code.Code.TheOpen.{Code-F}
use Rattle.fin_ir.specs.declared.code.Code.TheVariants.{Skip, Seq, Assign, When, StepLoop, ForLoop, ParLoop, Update, Declare, Freeze, Thaw, Charge}

-- from the codes that are left, what a frame becomes, and the codes that are left then
abbrev pub Filling : Type 0
Filling = List Code → Code × List Code

-- one frame after another
abbrev pub fill_each : List Filling → List Code → List Code × List Code
fill_each [] cs = ([], cs)
fill_each (f ∷ fs) cs = ((f cs).0 ∷ (fill_each fs (f cs).1).0, (fill_each fs (f cs).1).1)

-- a `Skip` takes the next code; where none is left it stays
abbrev pub next_code : Filling
next_code [] = (Skip, [])
next_code (c ∷ cs) = (c, cs)

abbrev pub filling_step : Code-F Filling → Filling
filling_step Code-F.Skip cs = next_code cs
filling_step (Code-F.Seq all) cs = (Seq (fill_each all cs).0, (fill_each all cs).1)
filling_step (Code-F.Assign local value) cs = (Assign local value, cs)
filling_step (Code-F.When test body) cs = (When test (body cs).0, (body cs).1)
filling_step (Code-F.StepLoop var until lo hi stop body) cs = (StepLoop var until lo hi stop (body cs).0, (body cs).1)
filling_step (Code-F.ForLoop var lo hi body) cs = (ForLoop var lo hi (body cs).0, (body cs).1)
filling_step (Code-F.ParLoop from to lo hi ways body) cs = (ParLoop from to lo hi ways (body cs).0, (body cs).1)
filling_step (Code-F.Update tensor at by value) cs = (Update tensor at by value, cs)
filling_step (Code-F.Declare tensor) cs = (Declare tensor, cs)
filling_step (Code-F.Freeze tensor) cs = (Freeze tensor, cs)
filling_step (Code-F.Thaw tensor) cs = (Thaw tensor, cs)
filling_step (Code-F.Charge value) cs = (Charge value, cs)

abbrev pub filling : Code → Filling
filling = fold-Code Filling filling_step

-- the frame with the codes for its parts
abbrev pub fill : Code → List Code → Code
fill frame cs = (filling frame cs).0
