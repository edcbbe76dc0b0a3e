-- What the code of a whole program does.
use Rattle.std.specs.Prelude.{ℕ, ◌≤◌, List, None}
use Rattle.fin_tensor.specs.declared.storage.Storage.{Storage}
use Rattle.fin_ast.specs.declared.checked.Checked.{Checked}
use Rattle.fin_ast.specs.Accepted.{IsAccepted, FitProgram}
use Rattle.fin_ir.specs.declared.code.Code.{Code}
use Rattle.fin_ir.specs.Meaning.{meaning_all}
use Rattle.fin_nest.specs.Senses.{runs}
use Rattle.fin_simp.specs.Numbered.{outset}
use Rattle.fin_simp.specs.Work.{pieced}
use Rattle.fin_perform.specs.Layouts.{variables_in, layout_with, begun_with, start_with}
use Rattle.fin_perform.specs.Meanings.{Means, turns_deed}

-- Codes that mean a program's statements outside all loops, with a local for each variable before their own, lead over
-- inputs that fit it from the first machine to one that does what the run by pieces does.
abbrev pub ProgramsStand : Type 0
ProgramsStand = (c : Checked) (need : ℕ) (cs : List Code) (room : ℕ) (inputs : List Storage)
    → Means c (variables_in c) need cs (turns_deed c.program.body outset None)
    → IsAccepted c → FitProgram c inputs → variables_in c ≤ need → need ≤ room
    → (runs (start_with c room inputs)).stands (pieced c inputs) (meaning_all (layout_with c room) cs (begun_with c room inputs))
