-- The tensors that a code declares.
use Rattle.std.specs.Prelude.{ℕ, Bool, false, ◌||◌, nat_eq, List, [], ◌∷◌}
use Rattle.fin_ir.specs.declared.code.Code.{Code, fold-Code}
use Rattle.fin_ir.specs.declared.code.Code.TheOpen.{Code-F}

abbrev pub Tensors : Type 0
Tensors = ℕ → Bool

abbrev pub some_of : List Tensors → Tensors
some_of [] t = false
some_of (own ∷ rest) t = own t || some_of rest t

-- one node, with what each inner code declares in its place
abbrev pub declares_step : Code-F Tensors → Tensors
declares_step Code-F.Skip t = false
declares_step (Code-F.Seq all) t = some_of all t
declares_step (Code-F.Assign local value) t = false
declares_step (Code-F.When test body) t = body t
declares_step (Code-F.StepLoop var until lo hi stop body) t = body t
declares_step (Code-F.ForLoop var lo hi body) t = body t
declares_step (Code-F.ParLoop from to lo hi ways body) t = body t
declares_step (Code-F.Update tensor at by value) t = false
declares_step (Code-F.Declare tensor) t = nat_eq tensor t
declares_step (Code-F.Freeze tensor) t = false
declares_step (Code-F.Thaw tensor) t = false
declares_step (Code-F.Charge value) t = false

abbrev pub declares : Code → Tensors
declares = fold-Code Tensors declares_step
