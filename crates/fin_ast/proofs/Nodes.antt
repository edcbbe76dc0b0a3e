-- What a fold over expressions or statements gives for each kind of node.
use Rattle.std.proofs.Common.{◌≡◌, ℕ, ℤ, Bool, List, Option, map, sym, ap, ◌∙◌}
use Rattle.fin_base.specs.declared.reduce.Reduce.{Reduce}
use Rattle.fin_base.specs.declared.terms.Op.{Op}
use Rattle.fin_ast.specs.declared.tree.Index.{Index}
use Rattle.fin_ast.specs.declared.tree.Expr.{Expr, fold-Expr, fold-roll-Expr}
use Rattle.fin_ast.specs.declared.tree.Expr.TheOpen.{Expr-F}
use Rattle.fin_ast.specs.declared.tree.Expr.TheVariants as e
use Rattle.fin_ast.specs.declared.tree.Stmt.{Stmt, fold-Stmt, fold-roll-Stmt}
use Rattle.fin_ast.specs.declared.tree.Stmt.TheOpen.{Stmt-F}
use Rattle.fin_ast.specs.declared.tree.Stmt.TheVariants as s

module _ (A : Type 0) (step : Expr-F A → A) where
  pub of_num : (n : ℤ) → fold-Expr A step (e.Num n) ≡ step (Expr-F.Num n)
  of_num n = ap (fold-Expr A step) (sym (e.rolls-Num n)) ∙ fold-roll-Expr A step (Expr-F.Num n)

  pub of_var : (var line : ℕ) → fold-Expr A step (e.Var var line) ≡ step (Expr-F.Var var line)
  of_var var line = ap (fold-Expr A step) (sym (e.rolls-Var var line)) ∙ fold-roll-Expr A step (Expr-F.Var var line)

  pub of_read : (tensor : ℕ) (at : List Index) (line : ℕ) → fold-Expr A step (e.Read tensor at line) ≡ step (Expr-F.Read tensor at line)
  of_read tensor at line = ap (fold-Expr A step) (sym (e.rolls-Read tensor at line)) ∙ fold-roll-Expr A step (Expr-F.Read tensor at line)

  pub of_neg : (x : Expr) → fold-Expr A step (e.Neg x) ≡ step (Expr-F.Neg (fold-Expr A step x))
  of_neg x = ap (fold-Expr A step) (sym (e.rolls-Neg x)) ∙ fold-roll-Expr A step (Expr-F.Neg x)

  pub of_two : (op : Op) (x y : Expr) → fold-Expr A step (e.Two op x y) ≡ step (Expr-F.Two op (fold-Expr A step x) (fold-Expr A step y))
  of_two op x y = ap (fold-Expr A step) (sym (e.rolls-Two op x y)) ∙ fold-roll-Expr A step (Expr-F.Two op x y)

module _ (A : Type 0) (step : Stmt-F A → A) where
  pub of_block : (body : List Stmt) (line last : ℕ) → fold-Stmt A step (s.Block body line last) ≡ step (Stmt-F.Block (map (fold-Stmt A step) body) line last)
  of_block body line last = ap (fold-Stmt A step) (sym (s.rolls-Block body line last)) ∙ fold-roll-Stmt A step (Stmt-F.Block body line last)

  pub of_loop : (var : ℕ) (range : Option (ℕ × ℕ)) (par : Bool) (body : List Stmt) (line last : ℕ) → fold-Stmt A step (s.Loop var range par body line last) ≡ step (Stmt-F.Loop var range par (map (fold-Stmt A step) body) line last)
  of_loop var range par body line last = ap (fold-Stmt A step) (sym (s.rolls-Loop var range par body line last)) ∙ fold-roll-Stmt A step (Stmt-F.Loop var range par body line last)

  pub of_cond : (test : Expr) (body : List Stmt) (line last : ℕ) → fold-Stmt A step (s.Cond test body line last) ≡ step (Stmt-F.Cond test (map (fold-Stmt A step) body) line last)
  of_cond test body line last = ap (fold-Stmt A step) (sym (s.rolls-Cond test body line last)) ∙ fold-roll-Stmt A step (Stmt-F.Cond test body line last)

  pub of_bind : (var : ℕ) (value : Expr) (body : List Stmt) (line last : ℕ) → fold-Stmt A step (s.Bind var value body line last) ≡ step (Stmt-F.Bind var value (map (fold-Stmt A step) body) line last)
  of_bind var value body line last = ap (fold-Stmt A step) (sym (s.rolls-Bind var value body line last)) ∙ fold-roll-Stmt A step (Stmt-F.Bind var value body line last)

  pub of_declare : (tensor : ℕ) (value : ℤ) (line : ℕ) → fold-Stmt A step (s.Declare tensor value line) ≡ step (Stmt-F.Declare tensor value line)
  of_declare tensor value line = ap (fold-Stmt A step) (sym (s.rolls-Declare tensor value line)) ∙ fold-roll-Stmt A step (Stmt-F.Declare tensor value line)

  pub of_freeze : (tensor line : ℕ) → fold-Stmt A step (s.Freeze tensor line) ≡ step (Stmt-F.Freeze tensor line)
  of_freeze tensor line = ap (fold-Stmt A step) (sym (s.rolls-Freeze tensor line)) ∙ fold-roll-Stmt A step (Stmt-F.Freeze tensor line)

  pub of_thaw : (tensor line : ℕ) → fold-Stmt A step (s.Thaw tensor line) ≡ step (Stmt-F.Thaw tensor line)
  of_thaw tensor line = ap (fold-Stmt A step) (sym (s.rolls-Thaw tensor line)) ∙ fold-roll-Stmt A step (Stmt-F.Thaw tensor line)

  pub of_update : (tensor : ℕ) (at : List Index) (by : Reduce) (value : Expr) (line : ℕ) → fold-Stmt A step (s.Update tensor at by value line) ≡ step (Stmt-F.Update tensor at by value line)
  of_update tensor at by value line = ap (fold-Stmt A step) (sym (s.rolls-Update tensor at by value line)) ∙ fold-roll-Stmt A step (Stmt-F.Update tensor at by value line)
