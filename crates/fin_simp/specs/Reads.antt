-- The reads that remain of a statement, by their numbers, without making what is left of it.
use Rattle.std.specs.Prelude.{ℕ, ℤ, Bool, true, false, ◌&&◌, ◌||◌, if◌then◌else◌, List, [], ◌∷◌, ◌++◌, Option, Some, None}
use Rattle.fin_base.specs.declared.terms.Op.{Op}
use Rattle.fin_ast.specs.declared.tree.Expr.{Expr}
use Rattle.fin_ast.specs.declared.tree.Expr.TheOpen.{Expr-F}
use Rattle.fin_ast.specs.declared.tree.Stmt.{Stmt}
use Rattle.fin_ast.specs.declared.tree.Stmt.TheOpen.{Stmt-F}
use Rattle.fin_simp.specs.declared.reads.ExprReads.{ExprReads}
use Rattle.fin_simp.specs.declared.reads.StmtReads.{StmtReads}
use Rattle.fin_simp.specs.Numbered.{Here, numbered_expr, numbered, numbered_all}
use Rattle.fin_simp.specs.Left.{Marks, binding, fails}
use Rattle.fin_simp.specs.Remaining.{joined_literal, turned_literal, is_identity_literal, settled_literal}

-- none remains where a literal is left
abbrev pub unless_known : Option ℤ → List ℕ → List ℕ
unless_known None reads = reads
unless_known (Some n) reads = []

abbrev pub reading : Option ℤ → List ℕ → ExprReads
reading literal reads = record { literal = literal; reads = unless_known literal reads }

-- of an operator's two sides
abbrev pub both : Op → ExprReads → ExprReads → ExprReads
both o a b = reading (joined_literal o a.literal b.literal) (a.reads ++ b.reads)

abbrev pub expr_step : ℕ → Expr-F (Marks → ExprReads) → Marks → ExprReads
expr_step k (Expr-F.Num n) m = reading (Some n) []
expr_step k (Expr-F.Var var line) m = reading (m.vars var) []
expr_step k (Expr-F.Read tensor at line) m = reading (m.reads k) (k ∷ [])
expr_step k (Expr-F.Neg inner) m = reading (turned_literal (inner m).literal) (inner m).reads
expr_step k (Expr-F.Two o left right) m = both o (left m) (right m)

-- of an expression whose first read has that number
abbrev pub reads_of_expr : Expr → ℕ → Marks → ExprReads
reads_of_expr = numbered_expr (Marks → ExprReads) expr_step

-- behind reads of its own, if there is no reason to leave it out
abbrev pub within : Bool → List ℕ → StmtReads → StmtReads
within left_out first body = record { nothing = left_out || body.nothing; reads = if left_out || body.nothing then [] else first ++ body.reads }

abbrev pub beside : StmtReads → StmtReads → StmtReads
beside a b = record { nothing = a.nothing && b.nothing; reads = a.reads ++ b.reads }

abbrev pub all_reads : List (Marks → StmtReads) → Marks → StmtReads
all_reads [] m = record { nothing = true; reads = [] }
all_reads (s ∷ ss) m = beside (s m) (all_reads ss m)

abbrev pub no_reads : StmtReads
no_reads = record { nothing = false; reads = [] }

abbrev pub told : Expr → Here → Marks → Option ℤ
told test h m = settled_literal (m.tests h.test) (reads_of_expr test h.read m).literal

abbrev pub stmt_step : Here → Stmt-F (Marks → StmtReads) → Marks → StmtReads
stmt_step h (Stmt-F.Block body line last) m = all_reads body m
stmt_step h (Stmt-F.Loop var range par body line last) m = within false [] (all_reads body (binding m var None))
stmt_step h (Stmt-F.Cond test body line last) m = within (fails (told test h m)) (unless_known (told test h m) (reads_of_expr test h.read m).reads) (all_reads body m)
stmt_step h (Stmt-F.Bind var value body line last) m = within false (reads_of_expr value h.read m).reads (all_reads body (binding m var (reads_of_expr value h.read m).literal))
stmt_step h (Stmt-F.Declare tensor value line) m = no_reads
stmt_step h (Stmt-F.Freeze tensor line) m = no_reads
stmt_step h (Stmt-F.Thaw tensor line) m = no_reads
stmt_step h (Stmt-F.Update tensor at by value line) m = within (is_identity_literal by (reads_of_expr value h.read m).literal) (reads_of_expr value h.read m).reads no_reads

abbrev pub reads_of : Stmt → Here → Marks → StmtReads
reads_of = numbered (Marks → StmtReads) stmt_step

abbrev pub reads_of_all : List Stmt → Here → Marks → StmtReads
reads_of_all body h m = all_reads (numbered_all (Marks → StmtReads) stmt_step body h) m
