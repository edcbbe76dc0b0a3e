-- The parallel loops of a program that stand in no other one, in the order of its text.
use Rattle.std.specs.Prelude.{ℕ, zero, Bool, true, false, ◌==◌, List, [], ◌∷◌, ◌++◌, map, Some, None}
use Rattle.std.specs.List.{list_any}
use Rattle.fin_ast.specs.declared.program.Program.{Program}
use Rattle.fin_ast.specs.declared.tree.Stmt.{Stmt, fold-Stmt, map-Stmt}
use Rattle.fin_ast.specs.declared.tree.Stmt.TheOpen.{Stmt-F}
use Rattle.fin_ast.specs.Text.{Mark, Opens, Declares, Text, Writing, text_of_expr, stmt_text}
use Rattle.fin_ast.specs.Modes.{around}
use Rattle.fin_parcheck.specs.declared.deeds.ParallelLoop.{ParallelLoop}
use Rattle.fin_parcheck.specs.Deeds.{Tensors, Doing, in_turn, stmt_deeds}

abbrev pub declares : ℕ → Mark → Bool
declares tensor (Declares t line) = t == tensor
declares tensor _ = false

-- a tensor is declared at a place where a `.=` of it stands before the place, in a body around it
abbrev pub declared_at : Text → Tensors
declared_at before tensor = list_any (declares tensor) (around zero before)

-- the parallel loops up to the end of a part, from those before it
abbrev pub Finding : Type 0
Finding = List ParallelLoop → List ParallelLoop

-- of a statement: its text, what it does, and its parallel loops from the text before it
pub record Part : Type 0 where
  pub writing : Writing
  pub deeds : Tensors → Doing
  pub loops : Text → Finding

abbrev pub loops_after : List Part → Text → Finding
loops_after [] before found = found
loops_after (p ∷ ps) before found = loops_after ps (p.writing before) (p.loops before found)

-- what a parallel loop does, to the tensors that are declared at its beginning
abbrev pub parallel_loop : ℕ → List Part → Text → ParallelLoop
parallel_loop var body before = record { var = var; deeds = in_turn (map (λ p. p.deeds) body) (declared_at before) [] }

abbrev pub stmt_loops : Stmt-F Part → Text → Finding
stmt_loops (Stmt-F.Block body line last) before found = loops_after body (Opens None ∷ before) found
stmt_loops (Stmt-F.Loop var range true body line last) before found = found ++ parallel_loop var body before ∷ []
stmt_loops (Stmt-F.Loop var range false body line last) before found = loops_after body (Opens (Some var) ∷ before) found
stmt_loops (Stmt-F.Cond test body line last) before found = loops_after body (Opens None ∷ text_of_expr test before) found
stmt_loops (Stmt-F.Bind var value body line last) before found = loops_after body (Opens None ∷ text_of_expr value before) found
stmt_loops (Stmt-F.Declare tensor value line) before found = found
stmt_loops (Stmt-F.Freeze tensor line) before found = found
stmt_loops (Stmt-F.Thaw tensor line) before found = found
stmt_loops (Stmt-F.Update tensor at by value line) before found = found

abbrev pub stmt_part : Stmt-F Part → Part
stmt_part s = record { writing = stmt_text (map-Stmt Part Writing (λ p. p.writing) s); deeds = stmt_deeds (map-Stmt Part (Tensors → Doing) (λ p. p.deeds) s); loops = stmt_loops s }

abbrev pub part_of : Stmt → Part
part_of = fold-Stmt Part stmt_part

abbrev pub parts_of : List Stmt → List Part
parts_of ss = map part_of ss

abbrev pub parallel_loops : Program → List ParallelLoop
parallel_loops p = loops_after (parts_of p.body) [] []
