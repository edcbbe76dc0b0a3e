-- The codes of a loop's entry, and what a machine has done behind them.
use Rattle.std.specs.Prelude.{◌≡◌, ℕ, ◌+◌, ◌≤◌, List, ◌++◌, length, map, ℤ}
use Rattle.fin_ast.specs.Scope.{Scope}
use Rattle.fin_ir.specs.declared.code.Code.{Code}
use Rattle.fin_ir.specs.declared.layout.Layout.{Layout}
use Rattle.fin_ir.specs.Machine.{Machine, seen}
use Rattle.fin_ir.specs.Meaning.{meaning_all}
use Rattle.fin_stage.specs.Staged.{Run, worked}
use Rattle.fin_read.specs.Steps.{assign_of}
use Rattle.fin_read.specs.Values.{Heads}
use Rattle.fin_nest.specs.Nests.{Nest}
use Rattle.fin_nest.specs.Related.{Start, Live, Related}
use Rattle.fin_simp.specs.Rest.{Rest}
use Rattle.fin_simp.specs.Work.{entry_of}
use Rattle.fin_drive.specs.Entries.{Entry, IsEntered}
use Rattle.fin_enter.specs.Charges.{entry_codes, known_of}
use Rattle.fin_enter.specs.Together.{Around}
use Rattle.fin_enter.specs.LoopEntry.{steps_by, lengths_by, known_by}
use Rattle.fin_enter.specs.Entering.{around_in, entered_by, CanEnter, IsNestOf, Enters}

-- the steps to positions and bounds, and then the charge, for a loop with so many chunks
abbrev pub code_by : Around → Rest → ℕ → ℕ → List Code
code_by l rest chunks next = map assign_of (steps_by l rest.reads rest.tests next) ++ entry_codes (known_by l rest chunks) (lengths_by l rest.reads next)

abbrev pub entry_code : Heads → Entry → ℕ → List Code
entry_code h e next = code_by (around_in h e) e.rest e.loop.loop.chunks next

-- what is known of an entered loop is what is known of what remains of its body
abbrev pub EntriesAreKnown : Type 0
EntriesAreKnown = (h : Heads) (e : Entry) → IsEntered e → known_of e.loop.loop ≡ known_by (around_in h e) e.rest e.loop.loop.chunks

-- The loop is entered where a machine stands; that does a run, be it the one in which the loop is entered or one that
-- does the same.
pub record IsEnteredAt (e : Entry) (s : Start) (pins : List ℤ) (r : Run) (m : Machine) : Type 0 where
  pub entered : IsEntered e
  pub store : e.store ≡ seen m
  pub locals : e.locals ≡ m.locals
  pub live : Live s pins r m

-- the machine has the locals of the entry and has paid for it, nothing else is done, and it does what the run does
pub record RunsEntry (h : Heads) (e : Entry) (next : ℕ) (layout : Layout) (s : Start) (pins : List ℤ) (r : Run) (m : Machine) : Type 0 where
  pub runs : meaning_all layout (entry_code h e next) m ≡ record m { locals = (entered_by h e next).locals; charges = m.charges + entry_of e.loop.loop }
  pub related : Related s pins (worked (entry_of e.loop.loop) r) (meaning_all layout (entry_code h e next) m)

abbrev pub EntryCodesEnter : Type 0
EntryCodesEnter = (h : Heads) (sc : Scope) (e : Entry) (next : ℕ) (n : Nest Run) (layout : Layout) (s : Start) (pins : List ℤ) (r : Run) (m : Machine)
    → CanEnter h sc e next → IsNestOf h e next n → IsEnteredAt e s pins r m → length pins ≤ next
    → Enters h e next n × RunsEntry h e next layout s pins r m
