-- Simplified statements: what is left of a statement, as the list of statements that stand in its place.
use Rattle.std.specs.Prelude.{ℕ, ℤ, pos, Bool, true, false, if◌then◌else◌, List, [], ◌∷◌, flat_map, Option, Some, None}
use Rattle.std.specs.List.{list_any}
use Rattle.std.specs.Ordering.{int_eq}
use Rattle.fin_base.specs.Words.{identity}
use Rattle.fin_base.specs.declared.reduce.Reduce.{Reduce}
use Rattle.fin_ast.specs.declared.tree.Index.{Index}
use Rattle.fin_ast.specs.declared.tree.Expr.{Expr}
use Rattle.fin_ast.specs.declared.tree.Stmt.{Stmt, fold-Stmt}
use Rattle.fin_ast.specs.declared.tree.Stmt.TheOpen.{Stmt-F}
use Rattle.fin_ast.specs.declared.tree.Stmt.TheVariants.{Block, Loop, Cond, Bind, Declare, Freeze, Thaw, Update}
use Rattle.fin_simp.specs.Numbered.{Here, outset, numbered, numbered_all}
use Rattle.fin_simp.specs.declared.remainder.Left.{Left}
use Rattle.fin_simp.specs.declared.remainder.Left.TheVariants.{Literal, Open}
use Rattle.fin_simp.specs.Left.{Marks, binding, as_expr, literal_in, fails, left_of}

abbrev pub is_some_number : Option ℤ → ℤ → Bool
is_some_number None n = false
is_some_number (Some m) n = int_eq m n

-- an update by its reduction's identity
abbrev pub is_identity : Reduce → Left → Bool
is_identity by (Literal n) = is_some_number (identity by) n
is_identity by (Open e) = false

abbrev pub declares_step : Stmt-F Bool → Bool
declares_step (Stmt-F.Declare tensor value line) = true
declares_step _ = false

abbrev pub is_declaration : Stmt → Bool
is_declaration = fold-Stmt Bool declares_step

-- what is left of a body stands in the place of its braces, unless a declaration stands directly in it
abbrev pub opened : ℕ → ℕ → List Stmt → List Stmt
opened line last body = if list_any is_declaration body then Block body line last ∷ [] else body

-- around nothing there is nothing
abbrev pub around : (List Stmt → Stmt) → List Stmt → List Stmt
around s [] = []
around s (x ∷ xs) = s (x ∷ xs) ∷ []

abbrev pub chosen : ℕ → ℕ → Left → List Stmt → List Stmt
chosen line last (Literal n) body = if int_eq n (pos 0) then [] else opened line last body
chosen line last (Open e) body = around (λ b. Cond e b line last) body

-- what is known of a test stands in its place; but one that is left as 0 fails
abbrev pub settled : Option ℤ → Left → Left
settled None left = left
settled (Some n) left = if fails (literal_in left) then left else Literal n

abbrev pub test_left : Expr → Here → Marks → Left
test_left test h m = settled (m.tests h.test) (left_of test h.read m)

abbrev pub all_left : List (Marks → List Stmt) → Marks → List Stmt
all_left body m = flat_map (λ (s : Marks → List Stmt). s m) body

abbrev pub bound : ℕ → ℕ → ℕ → Left → List Stmt → List Stmt
bound var line last (Literal n) body = opened line last body
bound var line last (Open e) body = around (λ b. Bind var e b line last) body

abbrev pub updating : ℕ → List Index → Reduce → ℕ → Left → List Stmt
updating tensor at by line left = if is_identity by left then [] else Update tensor at by (as_expr left) line ∷ []

-- one node, with the numbers of its first read and test and what is left of each inner statement
abbrev pub simplified_step : Here → Stmt-F (Marks → List Stmt) → Marks → List Stmt
simplified_step h (Stmt-F.Block body line last) m = opened line last (all_left body m)
simplified_step h (Stmt-F.Loop var range par body line last) m = around (λ b. Loop var range par b line last) (all_left body (binding m var None))
simplified_step h (Stmt-F.Cond test body line last) m = chosen line last (test_left test h m) (all_left body m)
simplified_step h (Stmt-F.Bind var value body line last) m = bound var line last (left_of value h.read m) (all_left body (binding m var (literal_in (left_of value h.read m))))
simplified_step h (Stmt-F.Declare tensor value line) m = Declare tensor value line ∷ []
simplified_step h (Stmt-F.Freeze tensor line) m = Freeze tensor line ∷ []
simplified_step h (Stmt-F.Thaw tensor line) m = Thaw tensor line ∷ []
simplified_step h (Stmt-F.Update tensor at by value line) m = updating tensor at by line (left_of value h.read m)

-- what is left of a statement
abbrev pub simplified : Stmt → Here → Marks → List Stmt
simplified = numbered (Marks → List Stmt) simplified_step

abbrev pub simplified_all : List Stmt → Here → Marks → List Stmt
simplified_all body h m = all_left (numbered_all (Marks → List Stmt) simplified_step body h) m

-- ---- one statement

abbrev pub lines_step : Stmt-F (ℕ × ℕ) → ℕ × ℕ
lines_step (Stmt-F.Block body line last) = (line, last)
lines_step (Stmt-F.Loop var range par body line last) = (line, last)
lines_step (Stmt-F.Cond test body line last) = (line, last)
lines_step (Stmt-F.Bind var value body line last) = (line, last)
lines_step (Stmt-F.Declare tensor value line) = (line, line)
lines_step (Stmt-F.Freeze tensor line) = (line, line)
lines_step (Stmt-F.Thaw tensor line) = (line, line)
lines_step (Stmt-F.Update tensor at by value line) = (line, line)

-- the line where a statement begins, and that of its closing brace
abbrev pub lines_of : Stmt → ℕ × ℕ
lines_of = fold-Stmt (ℕ × ℕ) lines_step

-- one statement is itself, and several are a block
abbrev pub as_one : ℕ → ℕ → List Stmt → Option Stmt
as_one line last [] = None
as_one line last (s ∷ []) = Some s
as_one line last (s ∷ t ∷ ss) = Some (Block (s ∷ t ∷ ss) line last)

abbrev pub simplify : Stmt → Marks → Option Stmt
simplify s m = as_one (lines_of s).0 (lines_of s).1 (simplified s outset m)
