-- The rules on the life of tensors, statement by statement, with the modes that are carried along.
use Rattle.std.specs.Prelude.{ℕ, not, ◌==◌, if◌then◌else◌, List, [], ◌∷◌, map, Option, None}
use Rattle.std.specs.Option.{option_or}
use Rattle.fin_base.specs.declared.refusal.Rule.TheVariants.{L2}
use Rattle.fin_base.specs.declared.refusal.Refusal.{Refusal}
use Rattle.fin_ast.specs.declared.header.Header.{Header}
use Rattle.fin_ast.specs.declared.mode.Mode.{Mode}
use Rattle.fin_ast.specs.declared.mode.Mode.TheVariants.{Update, Read}
use Rattle.fin_ast.specs.declared.tree.Expr.{Expr, fold-Expr}
use Rattle.fin_ast.specs.declared.tree.Expr.TheOpen.{Expr-F}
use Rattle.fin_ast.specs.declared.tree.Stmt.{Stmt, fold-Stmt}
use Rattle.fin_ast.specs.declared.tree.Stmt.TheOpen.{Stmt-F}
use Rattle.fin_ast.specs.Sizes.{broken}
use Rattle.fin_ast.specs.Text.{Updates, Declares, Freezes, Thaws}
use Rattle.fin_ast.specs.Life.{is_read, breach_by, first_changed, first_unread}
use Rattle.fin_ast.specs.Modes.{mode_at_start}

abbrev pub ModeOf : Type 0
ModeOf = ℕ → Mode

-- one tensor is led to a mode
abbrev pub turned : ModeOf → ℕ → Mode → ModeOf
turned modes tensor mode t = if tensor == t then mode else modes t

-- the modes after a statement: what stands in its body leaves none
abbrev pub modes_after : {A : Type 0} → Stmt-F A → ModeOf → ModeOf
modes_after (Stmt-F.Declare tensor value line) now = turned now tensor Update
modes_after (Stmt-F.Freeze tensor line) now = turned now tensor Read
modes_after (Stmt-F.Thaw tensor line) now = turned now tensor Update
modes_after _ now = now

abbrev pub expr_breach : ModeOf → Expr-F (Option Refusal) → Option Refusal
expr_breach now (Expr-F.Num value) = None
expr_breach now (Expr-F.Var var line) = None
expr_breach now (Expr-F.Read tensor at line) = broken (not (is_read (now tensor))) L2 line
expr_breach now (Expr-F.Neg inner) = inner
expr_breach now (Expr-F.Two op left right) = option_or left right

-- the first read that breaks a rule
abbrev pub breach_of_expr : ModeOf → Expr → Option Refusal
breach_of_expr now = fold-Expr (Option Refusal) (expr_breach now)

-- the first breach of a statement, from the modes at the beginning of its body and before it; and what it does to modes
pub record Passage : Type 0 where
  pub breach : ModeOf → ModeOf → Option Refusal
  pub after : ModeOf → ModeOf

abbrev pub breach_in : List Passage → ModeOf → ModeOf → Option Refusal
breach_in [] begin now = None
breach_in (p ∷ ps) begin now = option_or (p.breach begin now) (breach_in ps begin (p.after now))

abbrev pub after_all : List Passage → ModeOf → ModeOf
after_all [] now = now
after_all (p ∷ ps) now = after_all ps (p.after now)

abbrev pub body_breach : List Header → List Passage → ℕ → ModeOf → Option Refusal
body_breach headers body last now = option_or (breach_in body now now) (first_changed now (after_all body now) last headers)

abbrev pub stmt_breach : List Header → Stmt-F Passage → ModeOf → ModeOf → Option Refusal
stmt_breach headers (Stmt-F.Block body line last) begin now = body_breach headers body last now
stmt_breach headers (Stmt-F.Loop var range par body line last) begin now = body_breach headers body last now
stmt_breach headers (Stmt-F.Cond test body line last) begin now = option_or (breach_of_expr now test) (body_breach headers body last now)
stmt_breach headers (Stmt-F.Bind var value body line last) begin now = option_or (breach_of_expr now value) (body_breach headers body last now)
stmt_breach headers (Stmt-F.Declare tensor value line) begin now = breach_by headers begin now (Declares tensor line)
stmt_breach headers (Stmt-F.Freeze tensor line) begin now = breach_by headers begin now (Freezes tensor line)
stmt_breach headers (Stmt-F.Thaw tensor line) begin now = breach_by headers begin now (Thaws tensor line)
stmt_breach headers (Stmt-F.Update tensor at by value line) begin now = option_or (breach_by headers begin now (Updates tensor [] line)) (breach_of_expr now value)

abbrev pub stmt_passage : List Header → Stmt-F Passage → Passage
stmt_passage headers s = record { breach = stmt_breach headers s; after = modes_after s }

abbrev pub passage_of : List Header → Stmt → Passage
passage_of headers = fold-Stmt Passage (stmt_passage headers)

abbrev pub passages_of : List Header → List Stmt → List Passage
passages_of headers ss = map (passage_of headers) ss

-- the first breach of a program with these headers and statements
abbrev pub life_of : List Header → List Stmt → Option Refusal
life_of headers ss =
    let start = mode_at_start headers in
    let body = passages_of headers ss in
    option_or (breach_in body start start) (first_unread (after_all body start) headers)
