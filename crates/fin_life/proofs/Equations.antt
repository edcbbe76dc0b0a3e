-- The definitions at one node.
use Rattle.std.proofs.Common.{◌≡◌, ℕ, ℤ, Bool, List, map, ap, sym, ◌∙◌, Option}
use Rattle.fin_base.specs.declared.reduce.Reduce.{Reduce}
use Rattle.fin_ast.specs.declared.tree.Index.{Index}
use Rattle.fin_ast.specs.declared.tree.Expr.{Expr}
use Rattle.fin_ast.specs.declared.tree.Stmt.{Stmt, fold-Stmt, fold-roll-Stmt}
use Rattle.fin_ast.specs.declared.tree.Stmt.TheOpen.{Stmt-F}
use Rattle.fin_ast.specs.declared.tree.Stmt.TheVariants as s

-- a fold at each kind of statement
module _ (A : Type 0) (step : Stmt-F A → A) where
  pub at-Block : (body : List Stmt) (line last : ℕ) → fold-Stmt A step (s.Block body line last) ≡ step (Stmt-F.Block (map (fold-Stmt A step) body) line last)
  at-Block body line last = ap (fold-Stmt A step) (sym (s.rolls-Block body line last)) ∙ fold-roll-Stmt A step (Stmt-F.Block body line last)

  pub at-Loop : (var : ℕ) (range : Option (ℕ × ℕ)) (par : Bool) (body : List Stmt) (line last : ℕ) → fold-Stmt A step (s.Loop var range par body line last) ≡ step (Stmt-F.Loop var range par (map (fold-Stmt A step) body) line last)
  at-Loop var range par body line last = ap (fold-Stmt A step) (sym (s.rolls-Loop var range par body line last)) ∙ fold-roll-Stmt A step (Stmt-F.Loop var range par body line last)

  pub at-Cond : (test : Expr) (body : List Stmt) (line last : ℕ) → fold-Stmt A step (s.Cond test body line last) ≡ step (Stmt-F.Cond test (map (fold-Stmt A step) body) line last)
  at-Cond test body line last = ap (fold-Stmt A step) (sym (s.rolls-Cond test body line last)) ∙ fold-roll-Stmt A step (Stmt-F.Cond test body line last)

  pub at-Bind : (var : ℕ) (value : Expr) (body : List Stmt) (line last : ℕ) → fold-Stmt A step (s.Bind var value body line last) ≡ step (Stmt-F.Bind var value (map (fold-Stmt A step) body) line last)
  at-Bind var value body line last = ap (fold-Stmt A step) (sym (s.rolls-Bind var value body line last)) ∙ fold-roll-Stmt A step (Stmt-F.Bind var value body line last)

  pub at-Declare : (tensor : ℕ) (value : ℤ) (line : ℕ) → fold-Stmt A step (s.Declare tensor value line) ≡ step (Stmt-F.Declare tensor value line)
  at-Declare tensor value line = ap (fold-Stmt A step) (sym (s.rolls-Declare tensor value line)) ∙ fold-roll-Stmt A step (Stmt-F.Declare tensor value line)

  pub at-Freeze : (tensor line : ℕ) → fold-Stmt A step (s.Freeze tensor line) ≡ step (Stmt-F.Freeze tensor line)
  at-Freeze tensor line = ap (fold-Stmt A step) (sym (s.rolls-Freeze tensor line)) ∙ fold-roll-Stmt A step (Stmt-F.Freeze tensor line)

  pub at-Thaw : (tensor line : ℕ) → fold-Stmt A step (s.Thaw tensor line) ≡ step (Stmt-F.Thaw tensor line)
  at-Thaw tensor line = ap (fold-Stmt A step) (sym (s.rolls-Thaw tensor line)) ∙ fold-roll-Stmt A step (Stmt-F.Thaw tensor line)

  pub at-Update : (tensor : ℕ) (at : List Index) (by : Reduce) (value : Expr) (line : ℕ) → fold-Stmt A step (s.Update tensor at by value line) ≡ step (Stmt-F.Update tensor at by value line)
  at-Update tensor at by value line = ap (fold-Stmt A step) (sym (s.rolls-Update tensor at by value line)) ∙ fold-roll-Stmt A step (Stmt-F.Update tensor at by value line)
