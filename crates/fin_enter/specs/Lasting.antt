-- A loop's entry on other machines: where the locals that its steps left, and the tensors that the body leaves, are as they
-- were, the looplets are made for the loop still, over whatever of its coordinates. So they are for each chunk of a
-- parallel loop.
use Rattle.std.specs.Prelude.{◌≡◌, ℕ, false, List, length, ℤ}
use Rattle.fin_ast.specs.Scope.{Scope}
use Rattle.fin_looplet.specs.View.{Store}
use Rattle.fin_read.specs.Steps.{Agree}
use Rattle.fin_read.specs.Values.{Heads}
use Rattle.fin_simp.specs.Work.{is_in, masks_of}
use Rattle.fin_drive.specs.Entries.{Entry, MadeAll}
use Rattle.fin_enter.specs.Entering.{cursors_from, entry_looplets, entered_by, CanEnter}

-- of the same loop in the same run, with so many coordinates from one on
abbrev pub moved_to : Entry → Store → List ℤ → ℕ → ℕ → Entry
moved_to e ts ls from count = record e { store = ts; locals = ls; from = from; count = count }

-- such a machine, as long as the one behind the steps
pub record IsAsEntered (h : Heads) (e : Entry) (next : ℕ) (ts : Store) (ls : List ℤ) : Type 0 where
  pub long : length ls ≡ length e.locals
  pub locals : Agree (cursors_from h e next) ls (entered_by h e next).locals
  pub store : (t : ℕ) → is_in e.rest.changed t ≡ false → ts t ≡ e.store t

abbrev pub EntriesLast : Type 0
EntriesLast = (h : Heads) (sc : Scope) (e : Entry) (next : ℕ) (ts : Store) (ls : List ℤ) (from count : ℕ) → CanEnter h sc e next → IsAsEntered h e next ts ls
    → MadeAll (moved_to e ts ls from count) e.rest.reads (masks_of e.loop.vars e.loop.loop.var e.rest) (entry_looplets h e next)
