-- Insertion statement by statement, with the modes that are carried along.
use Rattle.std.specs.Prelude.{ℕ, zero, List, [], ◌∷◌, ◌++◌, map}
use Rattle.fin_ast.specs.declared.header.Header.{Header}
use Rattle.fin_ast.specs.declared.tree.Stmt.{Stmt, fold-Stmt}
use Rattle.fin_ast.specs.declared.tree.Stmt.TheOpen.{Stmt-F}
use Rattle.fin_ast.specs.declared.tree.Stmt.TheVariants.{Block, Loop, Cond, Bind, Declare, Freeze, Thaw, Update}
use Rattle.fin_ast.specs.Modes.{mode_at_start}
use Rattle.fin_life.specs.declared.mentions.Mention.TheVariants.{Nothing, Updates, Other}
use Rattle.fin_life.specs.Passage.{ModeOf, modes_after}
use Rattle.fin_life.specs.Mentions.{Noting, noted, note_of_expr}
use Rattle.fin_life.specs.Drafts.{Carried, begun, put_one, put_last, in_turn}

pub record Completing : Type 0 where
  pub note : Noting
  pub line : ℕ
  pub whole : ModeOf → Stmt
  pub after : ModeOf → ModeOf

abbrev pub noted_in : List Completing → Noting
noted_in [] before = before
noted_in (c ∷ cs) before = noted_in cs (c.note before)

abbrev pub stmt_note : Stmt-F Completing → Noting
stmt_note (Stmt-F.Block body line last) before = noted_in body before
stmt_note (Stmt-F.Loop var range par body line last) before = noted_in body before
stmt_note (Stmt-F.Cond test body line last) before = noted_in body (note_of_expr test before)
stmt_note (Stmt-F.Bind var value body line last) before = noted_in body (note_of_expr value before)
stmt_note (Stmt-F.Declare tensor value line) before = noted before tensor Other
stmt_note (Stmt-F.Freeze tensor line) before = noted before tensor Other
stmt_note (Stmt-F.Thaw tensor line) before = noted before tensor Other
stmt_note (Stmt-F.Update tensor at by value line) before = note_of_expr value (noted before tensor Updates)

abbrev pub put_all : List Header → Completing → Carried → Carried
put_all headers c d = in_turn (λ tensor h. put_one headers (c.note (λ t. Nothing)) c.line tensor) zero headers d

abbrev pub put_whole : Completing → Carried → Carried
put_whole c d = record { statements = d.statements ++ c.whole d.modes ∷ []; modes = c.after d.modes }

abbrev pub carried : List Header → List Completing → Carried → Carried
carried headers [] d = d
carried headers (c ∷ cs) d = carried headers cs (put_whole c (put_all headers c d))

abbrev pub carried_body : List Header → List Completing → ModeOf → List Stmt
carried_body headers cs now = (carried headers cs (begun now)).statements

abbrev pub line_of : {A : Type 0} → Stmt-F A → ℕ
line_of (Stmt-F.Block body line last) = line
line_of (Stmt-F.Loop var range par body line last) = line
line_of (Stmt-F.Cond test body line last) = line
line_of (Stmt-F.Bind var value body line last) = line
line_of (Stmt-F.Declare tensor value line) = line
line_of (Stmt-F.Freeze tensor line) = line
line_of (Stmt-F.Thaw tensor line) = line
line_of (Stmt-F.Update tensor at by value line) = line

abbrev pub whole_of : List Header → Stmt-F Completing → ModeOf → Stmt
whole_of headers (Stmt-F.Block body line last) now = Block (carried_body headers body now) line last
whole_of headers (Stmt-F.Loop var range par body line last) now = Loop var range par (carried_body headers body now) line last
whole_of headers (Stmt-F.Cond test body line last) now = Cond test (carried_body headers body now) line last
whole_of headers (Stmt-F.Bind var value body line last) now = Bind var value (carried_body headers body now) line last
whole_of headers (Stmt-F.Declare tensor value line) now = Declare tensor value line
whole_of headers (Stmt-F.Freeze tensor line) now = Freeze tensor line
whole_of headers (Stmt-F.Thaw tensor line) now = Thaw tensor line
whole_of headers (Stmt-F.Update tensor at by value line) now = Update tensor at by value line

abbrev pub stmt_completing : List Header → Stmt-F Completing → Completing
stmt_completing headers s = record { note = stmt_note s; line = line_of s; whole = whole_of headers s; after = modes_after s }

abbrev pub completing_of : List Header → Stmt → Completing
completing_of headers = fold-Stmt Completing (stmt_completing headers)

abbrev pub completings_of : List Header → List Stmt → List Completing
completings_of headers ss = map (completing_of headers) ss

-- the statements of a program with these headers and statements and that line behind its text
abbrev pub carried_program : List Header → List Stmt → ℕ → List Stmt
carried_program headers ss last =
    let body = carried headers (completings_of headers ss) (begun (mode_at_start headers)) in
    (in_turn (put_last last) zero headers body).statements
