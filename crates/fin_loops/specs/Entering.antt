-- A loop of a program: its entry's codes and the code of its nest perform it.
use Rattle.std.specs.Prelude.{◌≡◌, ℕ, ◌<◌, ◌≤◌, Bool, true, false, List, [], ◌∷◌, ◌++◌, length, pos, Option, slice_index_or}
use Rattle.fin_tensor.specs.declared.storage.Storage.{Storage}
use Rattle.fin_ast.specs.declared.tree.Stmt.{Stmt}
use Rattle.fin_ast.specs.declared.tree.Stmt.TheVariants as s
use Rattle.fin_ast.specs.Accepted.{FitProgram}
use Rattle.fin_ast.specs.Bindings.{bindings_of}
use Rattle.fin_ast.specs.Scope.{Scope, is_among, is_named}
use Rattle.fin_ast.specs.Shaped.{FitHeaders}
use Rattle.fin_ast.specs.Value.{Numbers}
use Rattle.fin_ir.specs.declared.code.Code.{Code}
use Rattle.fin_ir.specs.declared.layout.Layout.{Layout}
use Rattle.fin_ir.specs.Machine.{Machine, seen}
use Rattle.fin_ir.specs.Meaning.{meaning_all}
use Rattle.fin_stage.specs.Staged.{Run, worked, regular}
use Rattle.fin_nest.specs.Jumping.{NoneHolds}
use Rattle.fin_nest.specs.Nests.{Nest, Separate}
use Rattle.fin_nest.specs.Senses.{runs}
use Rattle.fin_nest.specs.Courses.{nest_with}
use Rattle.fin_nest.specs.Performs.{Place, Ready, Left}
use Rattle.fin_simp.specs.Numbered.{Here}
use Rattle.fin_simp.specs.Work.{World, Context, world_of, entry_of}
use Rattle.fin_simp.specs.Moving.{worked_all}
use Rattle.fin_drive.specs.Entries.{Entry, entered, IsMade}
use Rattle.fin_style_point.specs.declared.nest.Nest as point
use Rattle.fin_style_point.specs.Parts.{all_looplets, course_of}
use Rattle.fin_descend.specs.declared.lowered.Lowered.{Lowered}
use Rattle.fin_descend.specs.Promises.{MeansIn}
use Rattle.fin_perform.specs.Layouts.{layout_with, start_with}
use Rattle.fin_perform.specs.Meanings.{Means, stmt_deed}
use Rattle.fin_perform.specs.Places.{Suits, changes}
use Rattle.fin_perform.specs.Working.{run_of, nothing_in}
use Rattle.fin_loops.specs.Loops.{Loop, behind_of, OfLoop}

-- ---- where the loop stands

-- the loop as a statement, parallel or not
abbrev pub stmt_of : Loop → Option (ℕ × ℕ) → Bool → ℕ → ℕ → Stmt
stmt_of l range par line last = s.Loop l.var range par l.body line last

-- a place of the loop, over some inputs and with some locals, in a scope whose variables have these numbers
pub record Spot : Type 0 where
  pub room : ℕ
  pub inputs : List Storage
  pub scope : Scope
  pub vars : Numbers
  pub place : Place

pub record StandsAt (l : Loop) (x : Stmt) (next : ℕ) (q : Spot) : Type 0 where
  pub shaped : FitHeaders l.checked.program.headers l.checked.dims
  pub given : FitProgram l.checked q.inputs
  pub suits : Suits l.checked next (bindings_of x) (changes x l.here l.context) q.scope q.vars q.place
  pub named : is_named x q.scope ≡ true

abbrev pub world_at : Loop → Spot → World
world_at l q = world_of l.checked q.inputs

-- the nest in runs there
abbrev pub nest_at : Loop → point.Nest → Spot → Nest Run
nest_at l top q = nest_with (behind_of l (world_at l q) q.scope q.vars) (course_of top)

-- ---- the entry

-- as the loop is entered in a run, on a machine behind the entry's codes
abbrev pub entry_at : Loop → Spot → Run → Machine → Entry
entry_at l q r m = entered (world_at l q) l.context l.var (worked_all (world_at l q) l.body l.here) q.vars r (seen m) m.locals

-- The codes leave the place as it was, and pay for the entry. The nest is then one that is made for the loop, where the
-- machine goes on.
pub record Enters (l : Loop) (q : Spot) (top : point.Nest) (r : Run) (m m' : Machine) : Type 0 where
  pub left : Left m m' q.place
  pub pays : (runs (start_with l.checked q.room q.inputs)).stands (worked (entry_of (entry_at l q r m').loop.loop) r) m'
  pub made : m'.cut ≡ false → IsMade (entry_at l q r m') (nest_at l top q)

-- They do so in each run in which the loop asks for nothing that can't be done, wherever it may stand.
abbrev pub EntersBy : Loop → Stmt → ℕ → ℕ → List Code → point.Nest → Type 0
EntersBy l x next need cs top = (q : Spot) → need ≤ q.room → StandsAt l x next q → (r : Run) (m : Machine)
    → Ready (layout_with l.checked q.room) m q.place → (runs (start_with l.checked q.room q.inputs)).stands r m
    → regular (run_of (world_at l q) x l.here l.context q.vars r) ≡ true
    → Enters l q top r m (meaning_all (layout_with l.checked q.room) cs m)

-- ---- what codes change

-- In any machine, of locals below a first one the codes change only those of bound variables, and of tensors only those
-- that what is left changes.
pub record Spares (next : ℕ) (bound : List ℕ) (written : ℕ → Bool) (m m' : Machine) : Type 0 where
  pub long : length m'.locals ≡ length m.locals
  pub locals : m'.cut ≡ false → (x : ℕ) → x < next → is_among bound x ≡ false
      → slice_index_or m'.locals x (pos 0) ≡ slice_index_or m.locals x (pos 0)
  pub tensors : m'.cut ≡ false → (t : ℕ) → written t ≡ false → seen m' t ≡ seen m t

abbrev pub SparesAll : Stmt → Here → Context → ℕ → List Code → Type 0
SparesAll x h ctx next cs = (layout : Layout) (m : Machine) → Spares next (bindings_of x) (changes x h ctx) m (meaning_all layout cs m)

-- ---- the law

-- the nest depends on nothing that its code changes, wherever the loop may stand and a machine is ready for it
abbrev pub AreSeparate : Loop → Stmt → ℕ → point.Nest → Type 0
AreSeparate l x next top = (q : Spot) → StandsAt l x next q → next ≤ q.room → (m : Machine) → Ready (layout_with l.checked q.room) m q.place
    → Separate (nest_at l top q)

-- the code of the nest, for whatever the loop is in a run
pub record IsNested (l : Loop) (x : Stmt) (next need : ℕ) (top : point.Nest) (code : Lowered) : Type 0 where
  pub some : nothing_in x l.here l.context ≡ false
  pub low : next ≤ need
  pub separate : AreSeparate l x next top
  pub jumpless : NoneHolds (all_looplets top)
  pub means : MeansIn (OfLoop l) code top
  pub room : code.room ≤ need

-- behind an entry after which the nest is made for it
pub record IsLowered (l : Loop) (x : Stmt) (next need : ℕ) (cs : List Code) (top : point.Nest) (code : Lowered) : Type 0 where
  pub nest : IsNested l x next need top code
  pub enters : EntersBy l x next need cs top
  pub spares : SparesAll x l.here l.context next (cs ++ code.code ∷ [])

-- such codes mean the loop, in a piece and outside all loops
abbrev pub LoopsMean : Type 0
LoopsMean = (l : Loop) (range : Option (ℕ × ℕ)) (line last next need : ℕ) (cs : List Code) (top : point.Nest) (code : Lowered)
    → IsLowered l (stmt_of l range false line last) next need cs top code
    → Means l.checked next need (cs ++ code.code ∷ []) (stmt_deed (stmt_of l range false line last) l.here l.context)
