-- The entry of a loop in a run, as it is made for the loop: what it asks for, and what it leaves.
use Rattle.std.specs.Prelude.{◌≡◌, ℕ, ◌+◌, ◌<◌, ◌≤◌, ◌^◌, false, true, List, [], ◌∷◌, length, map, sum, ℤ, pos, Some}
use Rattle.std.specs.List.{list_all}
use Rattle.fin_ast.specs.declared.tree.Index.{Index}
use Rattle.fin_ast.specs.Scope.{Scope, is_index}
use Rattle.fin_ast.specs.Dense.{shape_at, range_of}
use Rattle.fin_ir.specs.declared.expression.IExpr.{IExpr}
use Rattle.fin_ir.specs.declared.expression.IExpr.TheVariants.{Num}
use Rattle.fin_stage.specs.Staged.{Run}
use Rattle.fin_looplet.specs.declared.looplet.Looplet.{Looplet}
use Rattle.fin_looplet.specs.View.{value}
use Rattle.fin_read.specs.Steps.{Step, stepped, Agree}
use Rattle.fin_read.specs.Values.{Heads, format_of, shape_of}
use Rattle.fin_nest.specs.Nests.{Nest}
use Rattle.fin_simp.specs.Rest.{Access}
use Rattle.fin_simp.specs.Sights.{driven_index}
use Rattle.fin_simp.specs.Moving.{access_stays}
use Rattle.fin_simp.specs.Work.{Driven, is_in, driven_by, length_of}
use Rattle.fin_drive.specs.Turns.{seen_turn}
use Rattle.fin_drive.specs.Watches.{watched}
use Rattle.fin_drive.specs.Entries.{Entry, watches}
use Rattle.fin_enter.specs.Bounds.{HaveNumbers}
use Rattle.fin_enter.specs.Stores.{HasFormat, IsStoredAs}
use Rattle.fin_enter.specs.Indices.{AreAround, small_offsets}
use Rattle.fin_enter.specs.Together.{Around}
use Rattle.fin_enter.specs.Masked.{Tested, tested_among, AllCanBound}
use Rattle.fin_enter.specs.Entrances.{IsEntrance}
use Rattle.fin_enter.specs.LoopEntry.{bounds_by, cursors_by, behind_by, steps_by, looplets_by, lengths_by}

-- ---- an entry, from its first free local on

abbrev pub around_in : Heads → Entry → Around
around_in h e = record { heads = h; var = e.loop.loop.var; changed = e.rest.changed }

abbrev pub tests_in : Entry → List Tested
tests_in e = tested_among e.loop.loop.var e.rest.tests

abbrev pub bounds_from : Heads → Entry → ℕ → ℕ
bounds_from h e next = bounds_by (around_in h e) e.rest.reads next

abbrev pub cursors_from : Heads → Entry → ℕ → ℕ
cursors_from h e next = cursors_by (around_in h e) e.rest.reads e.rest.tests next

abbrev pub behind_entry : Heads → Entry → ℕ → ℕ
behind_entry h e next = behind_by (around_in h e) e.rest.reads e.rest.tests next

abbrev pub entry_steps : Heads → Entry → ℕ → List Step
entry_steps h e next = steps_by (around_in h e) e.rest.reads e.rest.tests next

abbrev pub entry_looplets : Heads → Entry → ℕ → List Looplet
entry_looplets h e next = looplets_by (around_in h e) e.rest.reads e.rest.tests next

abbrev pub entry_lengths : Heads → Entry → ℕ → List IExpr
entry_lengths h e next = lengths_by (around_in h e) e.rest.reads next

-- behind the steps
abbrev pub entered_by : Heads → Entry → ℕ → Entry
entered_by h e next = record e { locals = stepped e.store (entry_steps h e next) e.locals }

-- ---- what is asked

-- a driven read's tensor has its header's format, and is frozen as the run has it where the body leaves it; the access is
-- named in the scope
pub record CanDrive (h : Heads) (sc : Scope) (e : Entry) (a : Access) : Type 0 where
  pub has : HasFormat e.world.setting (format_of h a.tensor) a.tensor
  pub shape : shape_at e.world.setting a.tensor ≡ shape_of h a.tensor
  pub each : length a.at ≡ length (format_of h a.tensor).levels
  pub named : list_all (is_index sc) a.at ≡ true
  pub small : small_offsets a.at ≡ true
  pub stays : access_stays e.world.setting a ≡ true
  pub store : is_in e.rest.changed a.tensor ≡ false → IsStoredAs e.world e.run e.store (format_of h a.tensor) a.tensor

abbrev pub AllCanDrive : Heads → Scope → Entry → List Access → Type 0
AllCanDrive h sc e [] = Unit {0}
AllCanDrive h sc e (a ∷ reads) = ((d : ℕ × Index) → driven_index e.loop.loop.var a.at ≡ Some d → CanDrive h sc e a) × AllCanDrive h sc e reads

-- of the locals before the first free one it asks only those of variables that are in scope
pub record CanEnter (h : Heads) (sc : Scope) (e : Entry) (next : ℕ) : Type 0 where
  pub bound : e.loop.loop.var < length e.loop.vars
  pub ordered : (range_of e.world.setting e.loop.loop.var).0 ≤ (range_of e.world.setting e.loop.loop.var).1
  pub small : (range_of e.world.setting e.loop.loop.var).1 ≤ 2 ^ 40
  pub around : AreAround sc e.loop.loop.var e.loop.vars e.locals
  pub after : e.loop.loop.var ≤ next
  pub numbers : HaveNumbers sc e.loop.loop.var e.loop.vars e.locals
  pub room : behind_entry h e next ≤ length e.locals
  pub reads : AllCanDrive h sc e e.rest.reads
  pub tests : AllCanBound sc e.loop.loop.var (tests_in e)

-- ---- what is left

-- the nest over all coordinates with these looplets
pub record IsNestOf (h : Heads) (e : Entry) (next : ℕ) (n : Nest Run) : Type 0 where
  pub lo : n.lo ≡ Num (pos e.from)
  pub hi : n.hi ≡ Num (pos (e.from + e.count))
  pub body : n.body ≡ seen_turn (watched e.loop (watches e))
  pub reads : n.reads ≡ entry_looplets h e next

-- the lengths have numbers, which are together the stored lengths
pub record HasLengths (e : Entry) (ls : List ℤ) (lengths : List IExpr) (ds : List Driven) : Type 0 where
  pub numbers : List ℕ
  pub values : map (value e.store ls) lengths ≡ map pos numbers
  pub total : sum numbers ≡ sum (map length_of ds)

-- behind the steps it is an entrance of the loop, and the locals before the first free one are as they were
pub record Enters (h : Heads) (e : Entry) (next : ℕ) (n : Nest Run) : Type 0 where
  pub long : length (entered_by h e next).locals ≡ length e.locals
  pub kept : Agree next (entered_by h e next).locals e.locals
  pub lengths : HasLengths e (entered_by h e next).locals (entry_lengths h e next) (driven_by e.world e.loop.vars e.run e.loop.loop.var e.rest)
  pub entrance : IsEntrance (entered_by h e next) n

abbrev pub EntriesAreEntrances : Type 0
EntriesAreEntrances = (h : Heads) (sc : Scope) (e : Entry) (next : ℕ) (n : Nest Run) → CanEnter h sc e next → IsNestOf h e next n → Enters h e next n
