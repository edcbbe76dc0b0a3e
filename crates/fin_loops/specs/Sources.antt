-- What a lowering has to know of statements of a program, that a whole accepted program has and that is handed down from
-- statements to those in them.
use Rattle.std.specs.Prelude.{◌≡◌, ℕ, ◌+◌, ◌≤◌, Bool, true, List, [], ◌∷◌, ◌++◌, length, map, None, Option}
use Rattle.std.specs.List.{list_all}
use Rattle.fin_tensor.specs.declared.storage.Storage.{Storage}
use Rattle.fin_ast.specs.declared.checked.Checked.{Checked}
use Rattle.fin_ast.specs.declared.tree.Expr.{Expr}
use Rattle.fin_ast.specs.declared.tree.Stmt.{Stmt}
use Rattle.fin_ast.specs.declared.tree.Stmt.TheVariants as s
use Rattle.fin_ast.specs.Accepted.{IsAccepted}
use Rattle.fin_ast.specs.Bindings.{bindings_of_all, counts_from}
use Rattle.fin_ast.specs.Dense.{setting_of}
use Rattle.fin_ast.specs.Literals.{are_worded}
use Rattle.fin_simp.specs.Moving.{ReadsStay}
use Rattle.fin_simp.specs.Numbered.{Here, outset, behind, behind_test, past_all, past_stmt}
use Rattle.fin_simp.specs.Rest.{Access}
use Rattle.fin_perform.specs.Layouts.{variables_in}
use Rattle.fin_perform.specs.Places.{left_of_all}
use Rattle.fin_enter.specs.Indices.{small_offsets}
use Rattle.fin_loops.specs.Loops.{Loop}
use Rattle.fin_loops.specs.Entering.{stmt_of}
use Rattle.fin_loops.specs.Sourced.{Sourced}
use Rattle.fin_loops.specs.Tops.{IsNumbered}

abbrev pub has_small_offsets : Access → Bool
has_small_offsets a = small_offsets a.at

-- Statements whose first read and test have these numbers, and whose first bound variable has this one: their literals are
-- words, the variables that they bind are numbered from that one on and are the program's, and of their reads each index
-- stays inside its extent, whatever the inputs, and each offset is small.
pub record IsSource (c : Checked) (xs : List Stmt) (h : Here) (v : ℕ) : Type 0 where
  pub worded : are_worded xs ≡ true
  pub counts : counts_from v (bindings_of_all xs) ≡ true
  pub within : v + length (bindings_of_all xs) ≤ variables_in c
  pub stay : (inputs : List Storage) → ReadsStay (setting_of c inputs) xs h
  pub small : list_all has_small_offsets (left_of_all xs h None).reads ≡ true

-- an accepted program
abbrev pub ProgramsAreSources : Type 0
ProgramsAreSources = (c : Checked) → IsAccepted c → IsSource c c.program.body outset 0

-- ---- handed down

-- to the parts of a list, and to the body of a statement; a loop or let binds the first variable
pub record SourcesHandDown (c : Checked) (h : Here) (v : ℕ) : Type 0 where
  pub joined : (xs ys : List Stmt) → IsSource c (xs ++ ys) h v
      → IsSource c xs h v × IsSource c ys (past_all (map past_stmt xs) h) (v + length (bindings_of_all xs))
  pub block : (xs : List Stmt) (line last : ℕ) → IsSource c (s.Block xs line last ∷ []) h v → IsSource c xs h v
  pub cond : (test : Expr) (xs : List Stmt) (line last : ℕ) → IsSource c (s.Cond test xs line last ∷ []) h v
      → IsSource c xs (behind_test test h) v
  pub bind : (var : ℕ) (value : Expr) (xs : List Stmt) (line last : ℕ) → IsSource c (s.Bind var value xs line last ∷ []) h v
      → (var ≡ v) × IsSource c xs (behind value h) (v + 1)
  pub loop : (var : ℕ) (range : Option (ℕ × ℕ)) (par : Bool) (xs : List Stmt) (line last : ℕ)
      → IsSource c (s.Loop var range par xs line last ∷ []) h v → (var ≡ v) × IsSource c xs h (v + 1)

abbrev pub SourcesAreHandedDown : Type 0
SourcesAreHandedDown = (c : Checked) (h : Here) (v : ℕ) → SourcesHandDown c h v

-- ---- loops

-- what the laws on a loop's entry ask of it, from a first local behind those of the variables on
abbrev pub SourcesOfLoops : Type 0
SourcesOfLoops = (l : Loop) (range : Option (ℕ × ℕ)) (par : Bool) (line last v next : ℕ) → IsSource l.checked (stmt_of l range par line last ∷ []) l.here v
    → variables_in l.checked ≤ next → Sourced l × IsNumbered l next
