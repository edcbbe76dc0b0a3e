-- A loop of a program where its code is made, and what may stand behind its nests: what the loop does in the runs of the
-- program, with whatever numbers are bound around it.
use Rattle.std.specs.Prelude.{◌≡◌, ℕ, ◌<◌, Bool, not, true, if◌then◌else◌, List, [], ◌∷◌, ◌++◌, length, map, Option, Some, None}
use Rattle.fin_tensor.specs.declared.storage.Storage.{Storage}
use Rattle.fin_ast.specs.declared.checked.Checked.{Checked}
use Rattle.fin_ast.specs.declared.tree.Index.{Index}
use Rattle.fin_ast.specs.declared.tree.Stmt.{Stmt}
use Rattle.fin_ast.specs.Accepted.{FitProgram}
use Rattle.fin_ast.specs.Bindings.{bindings_of_all}
use Rattle.fin_ast.specs.Scope.{Scope, is_among, is_bound, are_named, within_loop}
use Rattle.fin_ast.specs.Shaped.{FitHeaders}
use Rattle.fin_ast.specs.Value.{Numbers, number}
use Rattle.fin_ir.specs.declared.layout.Layout.{Layout}
use Rattle.fin_stage.specs.Staged.{Run}
use Rattle.fin_nest.specs.Related.{Start}
use Rattle.fin_nest.specs.Courses.{Behind}
use Rattle.fin_simp.specs.Left.{Marks}
use Rattle.fin_simp.specs.Numbered.{Here}
use Rattle.fin_simp.specs.Rest.{Access, Rest}
use Rattle.fin_simp.specs.Sights.{driven_index}
use Rattle.fin_simp.specs.Work.{World, Mask, Context, world_of, masks_of, inside, marks_within, rests_in, all_of}
use Rattle.fin_simp.specs.Moving.{worked_all}
use Rattle.fin_drive.specs.Turns.{Slot, Driving, Waiting, Testing, Watched, seen_turn}
use Rattle.fin_perform.specs.Layouts.{layout_with, start_with}
use Rattle.fin_perform.specs.Places.{AllApart, IsCoordinate, left_of_all, change_all}

-- its variable, its body with the numbers of its first read and test, and what is known around the loop
pub record Loop : Type 0 where
  pub checked : Checked
  pub var : ℕ
  pub body : List Stmt
  pub here : Here
  pub context : Context

-- ---- what is known of it where its code is made

-- inside, nothing is known of the variable
abbrev pub inner : Loop → Context
inner l = inside l.context l.var None

abbrev pub around : Loop → Marks
around l = marks_within (inner l)

abbrev pub rest_entered : Loop → Rest
rest_entered l = left_of_all l.body l.here (inner l)

-- the tensors that it changes
abbrev pub changed_in : Loop → ℕ → Bool
changed_in l = change_all l.body l.here (inner l)

abbrev pub slot_by : Access → Option (ℕ × Index) → Slot
slot_by a None = Waiting
slot_by a (Some d) = Driving a.read

abbrev pub slot_in : ℕ → Access → Slot
slot_in var a = slot_by a (driven_index var a.at)

-- what the looplets are for: reads in the order of the text, and then masks, whose bounds aren't asked for here
abbrev pub slots_of : ℕ → Rest → List Slot
slots_of var rest = map (slot_in var) rest.reads ++ map (λ (k : Mask). Testing k.test) (masks_of [] var rest)

abbrev pub slots : Loop → List Slot
slots l = slots_of l.var (rest_entered l)

-- ---- what it does in a run

-- by what is seen at each coordinate, with these numbers around it
abbrev pub watching : Loop → World → Numbers → Watched
watching l w vars = record {
  var = l.var;
  slots = slots l;
  rest = λ m. rests_in (Some m) (worked_all w l.body l.here);
  body = λ m. all_of (worked_all w l.body l.here) (Some m);
  around = around l;
  vars = vars;
}

-- the variables that its code binds
abbrev pub bound_in : Loop → List ℕ
bound_in l = l.var ∷ bindings_of_all l.body

-- It asks of the locals of the variables in scope that they have their numbers, binds its own and those that its body
-- binds, and leaves the tensors that nothing which is left of its body changes. No stop brings anything in.
abbrev pub behind_of : Loop → World → Scope → Numbers → Behind Run
behind_of l w sc vars = record {
  body = seen_turn (watching l w vars);
  binds = is_among (bound_in l);
  pins = λ x. if is_bound sc x then Some (number vars x) else None;
  steady = λ t. not (changed_in l t);
  counts = [];
}

-- each variable is one of so many, and bound once
abbrev pub AreOnce : ℕ → List ℕ → Type 0
AreOnce count [] = Unit {0}
AreOnce count (v ∷ vs) = (v < count) × AllApart v vs × AreOnce count vs

-- The names of the body are good in a scope, with so many locals and over some inputs. A nest of the loop asks for no more:
-- where it stands it finds the numbers of the scope in locals.
pub record InScope (l : Loop) (room : ℕ) (inputs : List Storage) (sc : Scope) (vars : Numbers) : Type 0 where
  pub shaped : FitHeaders l.checked.program.headers l.checked.dims
  pub given : FitProgram l.checked inputs
  pub headers : sc.headers ≡ l.checked.program.headers
  pub named : are_named l.body (within_loop sc l.var) ≡ true
  pub once : AreOnce (length vars) (bound_in l)
  pub coordinates : (x : ℕ) → is_among sc.loops x ≡ true → IsCoordinate vars x

-- what a run begins with and the layout are the program's, and it stands behind as in a scope
pub record OfLoop (l : Loop) (s : Start) (layout : Layout) (b : Behind Run) : Type 0 where
  pub room : ℕ
  pub inputs : List Storage
  pub scope : Scope
  pub vars : Numbers
  pub begins : s ≡ start_with l.checked room inputs
  pub laid : layout ≡ layout_with l.checked room
  pub behind : b ≡ behind_of l (world_of l.checked inputs) scope vars
  pub good : InScope l room inputs scope vars
