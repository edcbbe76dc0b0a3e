-- Where freeze and thaw are put into a program.
use Rattle.std.specs.Prelude.{ℕ, zero, ◌+◌, Bool, false, not, ◌&&◌, ◌==◌, if◌then◌else◌, List, [], ◌∷◌, ◌++◌, map, Some, None}
use Rattle.std.specs.List.{list_any}
use Rattle.fin_ast.specs.declared.header.Header.{Header}
use Rattle.fin_ast.specs.declared.program.Program.{Program}
use Rattle.fin_ast.specs.declared.tree.Stmt.{Stmt, fold-Stmt, map-Stmt}
use Rattle.fin_ast.specs.declared.tree.Stmt.TheOpen.{Stmt-F}
use Rattle.fin_ast.specs.declared.tree.Stmt.TheVariants.{Block, Loop, Cond, Bind, Declare, Freeze, Thaw, Update}
use Rattle.fin_ast.specs.Text.{Mark, Opens, Reads, Updates, Declares, Freezes, Thaws, Text, Writing, text_of_expr, stmt_text, text_of}
use Rattle.fin_ast.specs.Modes.{is_input_at, mode_before}
use Rattle.fin_ast.specs.Kinds.{is_output}
use Rattle.fin_ast.specs.Life.{is_update, is_read}

-- what a mark does with a tensor: a read, an update, or a declaration, freeze or thaw
abbrev pub reads : ℕ → Mark → Bool
reads tensor (Reads t line) = t == tensor
reads tensor _ = false

abbrev pub updates : ℕ → Mark → Bool
updates tensor (Updates t at line) = t == tensor
updates tensor _ = false

abbrev pub leads : ℕ → Mark → Bool
leads tensor (Declares t line) = t == tensor
leads tensor (Freezes t line) = t == tensor
leads tensor (Thaws t line) = t == tensor
leads tensor _ = false

-- the text of a statement contains a read of a tensor and none of the others; or an update and none of the others
abbrev pub only_reads : ℕ → Text → Bool
only_reads tensor text = list_any (reads tensor) text && not (list_any (updates tensor) text) && not (list_any (leads tensor) text)

abbrev pub only_updates : ℕ → Text → Bool
only_updates tensor text = list_any (updates tensor) text && not (list_any (reads tensor) text) && not (list_any (leads tensor) text)

-- the statements of a completed body so far, and the text up to their end
pub record Draft : Type 0 where
  pub statements : List Stmt
  pub text : Text

abbrev pub put : Stmt → Draft → Draft
put s d = record { statements = d.statements ++ s ∷ []; text = text_of s d.text }

-- before a statement with that text alone and line, for a tensor
abbrev pub put_for : List Header → Text → ℕ → ℕ → Draft → Draft
put_for headers text line tensor d =
    if is_update (mode_before headers d.text tensor) && only_reads tensor text then put (Freeze tensor line) d
    else if is_read (mode_before headers d.text tensor) && not (is_input_at headers tensor) && only_updates tensor text then put (Thaw tensor line) d
    else d

-- at the end of the program, for a tensor
abbrev pub put_at_end : List Header → ℕ → ℕ → Header → Draft → Draft
put_at_end headers line tensor h d = if is_output h.kind && is_update (mode_before headers d.text tensor) then put (Freeze tensor line) d else d

-- for each tensor in the order of headers, by its number from n on
abbrev pub in_header_order : (ℕ → Header → Draft → Draft) → ℕ → List Header → Draft → Draft
in_header_order step n [] d = d
in_header_order step n (h ∷ hs) d = in_header_order step (n + 1) hs (step n h d)

-- a statement: its text, its line, and the statement with its bodies completed, from the text before it
pub record Completion : Type 0 where
  pub writing : Writing
  pub line : ℕ
  pub whole : Text → Stmt

abbrev pub put_before : List Header → Completion → Draft → Draft
put_before headers c d = in_header_order (λ tensor h. put_for headers (c.writing []) c.line tensor) zero headers d

abbrev pub put_whole : Completion → Draft → Draft
put_whole c d = put (c.whole d.text) d

abbrev pub completed : List Header → List Completion → Draft → Draft
completed headers [] d = d
completed headers (c ∷ cs) d = completed headers cs (put_whole c (put_before headers c d))

abbrev pub completed_body : List Header → List Completion → Text → List Stmt
completed_body headers cs before = (completed headers cs (record { statements = []; text = before })).statements

abbrev pub line_of : Stmt-F Completion → ℕ
line_of (Stmt-F.Block body line last) = line
line_of (Stmt-F.Loop var range par body line last) = line
line_of (Stmt-F.Cond test body line last) = line
line_of (Stmt-F.Bind var value body line last) = line
line_of (Stmt-F.Declare tensor value line) = line
line_of (Stmt-F.Freeze tensor line) = line
line_of (Stmt-F.Thaw tensor line) = line
line_of (Stmt-F.Update tensor at by value line) = line

abbrev pub whole_of : List Header → Stmt-F Completion → Text → Stmt
whole_of headers (Stmt-F.Block body line last) before = Block (completed_body headers body (Opens None ∷ before)) line last
whole_of headers (Stmt-F.Loop var range par body line last) before = Loop var range par (completed_body headers body (Opens (Some var) ∷ before)) line last
whole_of headers (Stmt-F.Cond test body line last) before = Cond test (completed_body headers body (Opens None ∷ text_of_expr test before)) line last
whole_of headers (Stmt-F.Bind var value body line last) before = Bind var value (completed_body headers body (Opens None ∷ text_of_expr value before)) line last
whole_of headers (Stmt-F.Declare tensor value line) before = Declare tensor value line
whole_of headers (Stmt-F.Freeze tensor line) before = Freeze tensor line
whole_of headers (Stmt-F.Thaw tensor line) before = Thaw tensor line
whole_of headers (Stmt-F.Update tensor at by value line) before = Update tensor at by value line

abbrev pub stmt_completion : List Header → Stmt-F Completion → Completion
stmt_completion headers s = record { writing = stmt_text (map-Stmt Completion Writing (λ c. c.writing) s); line = line_of s; whole = whole_of headers s }

abbrev pub completion_of : List Header → Stmt → Completion
completion_of headers = fold-Stmt Completion (stmt_completion headers)

abbrev pub completions_of : List Header → List Stmt → List Completion
completions_of headers ss = map (completion_of headers) ss

-- the body of a program after insertion: nothing is put in at the end of another body
abbrev pub completed_program : Program → List Stmt
completed_program p =
    let body = completed p.headers (completions_of p.headers p.body) (record { statements = []; text = [] }) in
    (in_header_order (put_at_end p.headers p.last) zero p.headers body).statements
