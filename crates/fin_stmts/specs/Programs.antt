-- The codes of a whole program's statements.
use Rattle.std.specs.Prelude.{ℕ, ◌≤◌, None}
use Rattle.fin_ast.specs.declared.checked.Checked.{Checked}
use Rattle.fin_ast.specs.Accepted.{IsAccepted}
use Rattle.fin_simp.specs.Numbered.{outset}
use Rattle.fin_perform.specs.Layouts.{variables_in}
use Rattle.fin_perform.specs.Meanings.{Means, turns_deed}
use Rattle.fin_perform.specs.Naming.{AreIn}
use Rattle.fin_stmts.specs.declared.place.Codes.{Codes}

-- of an accepted one they mean its body outside all loops, with a local for each variable before their own, and are named
-- in each layout with as many locals as they need
pub record LowersBody (c : Checked) (m : Codes) : Type 0 where
  pub means : IsAccepted c → Means c (variables_in c) m.room m.codes (turns_deed c.program.body outset None)
  pub named : IsAccepted c → (room : ℕ) → m.room ≤ room → AreIn c room m.codes
  pub room : variables_in c ≤ m.room
