-- A loop whose range is empty or turned round: its entry is all that it does.
use Rattle.std.specs.Prelude.{◌≡◌, ℕ, ◌≤◌, Bool, false, Option}
use Rattle.fin_perform.specs.Meanings.{Means, stmt_deed}
use Rattle.fin_perform.specs.Working.{nothing_in}
use Rattle.fin_loops.specs.Loops.{Loop}
use Rattle.fin_loops.specs.Entering.{stmt_of}
use Rattle.fin_loops.specs.Parallel.{range_in}
use Rattle.fin_loops.specs.Sourced.{Sourced, entry_code_of}
use Rattle.fin_loops.specs.Tops.{own_end, IsNumbered}

-- Something is left of the loop, it has no coordinate, and there is room for the locals of its entry.
pub record IsEmpty (l : Loop) (range : Option (ℕ × ℕ)) (par : Bool) (line last next need : ℕ) : Type 0 where
  pub some : nothing_in (stmt_of l range par line last) l.here l.context ≡ false
  pub empty : (range_in l).1 ≤ (range_in l).0
  pub room : own_end l next ≤ need

-- the codes of its entry mean it, parallel or not
abbrev pub EmptyLoopsMean : Type 0
EmptyLoopsMean = (l : Loop) (range : Option (ℕ × ℕ)) (par : Bool) (line last next need : ℕ) → Sourced l → IsNumbered l next
    → IsEmpty l range par line last next need
    → Means l.checked next need (entry_code_of l par next) (stmt_deed (stmt_of l range par line last) l.here l.context)
