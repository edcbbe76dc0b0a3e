-- The parallel loops of statements, with the declared tensors that are carried along.
use Rattle.std.specs.Prelude.{ℕ, Bool, true, false, ◌==◌, if◌then◌else◌, List, [], ◌∷◌, ◌++◌, map, slice_get, slice_index_or}
use Rattle.fin_ast.specs.declared.tree.Stmt.{Stmt, fold-Stmt}
use Rattle.fin_ast.specs.declared.tree.Stmt.TheOpen.{Stmt-F}
use Rattle.fin_parcheck.specs.declared.declared.Declared.{Declared as Table}
use Rattle.fin_parcheck.specs.declared.deeds.Deed.TheVariants.{Update, Turn, Nested}
use Rattle.fin_parcheck.specs.Deeds.{Tensors, Doing, done_to}
use Rattle.fin_parcheck.specs.Loops.{Finding}

abbrev pub declared_in : Table → Tensors
declared_in table tensor = slice_index_or table.of tensor false

abbrev pub with_declared : ℕ → Tensors → Tensors
with_declared tensor before t = if tensor == t then true else before t

-- of a statement: what it does to outer tensors, its parallel loops from what is declared before it, and what is
-- declared behind it
pub record Walk : Type 0 where
  pub deeds : Tensors → Doing
  pub loops : Tensors → Finding
  pub after : Tensors → Tensors

abbrev pub deeds_along : List Walk → Tensors → Doing
deeds_along [] outer before = before
deeds_along (w ∷ ws) outer before = deeds_along ws outer (w.deeds outer before)

abbrev pub loops_along : List Walk → Tensors → Finding
loops_along [] now found = found
loops_along (w ∷ ws) now found = loops_along ws (w.after now) (w.loops now found)

abbrev pub loop_walk : ℕ → Bool → List Walk → Tensors → Finding
loop_walk var true body now found = found ++ record { var = var; deeds = deeds_along body now [] } ∷ []
loop_walk var false body now found = loops_along body now found

abbrev pub stmt_walk : Stmt-F Walk → Walk
stmt_walk (Stmt-F.Block body line last) = record { deeds = deeds_along body; loops = loops_along body; after = λ now. now }
stmt_walk (Stmt-F.Loop var range par body line last) = record { deeds = λ outer before. deeds_along body outer (done_to par (Nested line) before); loops = loop_walk var par body; after = λ now. now }
stmt_walk (Stmt-F.Cond test body line last) = record { deeds = deeds_along body; loops = loops_along body; after = λ now. now }
stmt_walk (Stmt-F.Bind var value body line last) = record { deeds = deeds_along body; loops = loops_along body; after = λ now. now }
stmt_walk (Stmt-F.Declare tensor value line) = record { deeds = λ outer before. before; loops = λ now found. found; after = with_declared tensor }
stmt_walk (Stmt-F.Freeze tensor line) = record { deeds = λ outer. done_to (outer tensor) (Turn line); loops = λ now found. found; after = λ now. now }
stmt_walk (Stmt-F.Thaw tensor line) = record { deeds = λ outer. done_to (outer tensor) (Turn line); loops = λ now found. found; after = λ now. now }
stmt_walk (Stmt-F.Update tensor at by value line) = record { deeds = λ outer. done_to (outer tensor) (Update tensor (slice_get at 0) by line); loops = λ now found. found; after = λ now. now }

abbrev pub walk_of : Stmt → Walk
walk_of = fold-Stmt Walk stmt_walk

abbrev pub walks_of : List Stmt → List Walk
walks_of ss = map walk_of ss
