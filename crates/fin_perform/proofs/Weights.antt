-- How much statements weigh: one with a body more than all in it.
use Rattle.std.proofs.Common.{◌≡◌, ℕ, Bool, Option, zero, suc, ◌+◌, ◌*◌, ◌<◌, ◌≤◌, List, [], ◌∷◌, map, length, get_or, ap, ◌∙◌, arith}
use Rattle.std.specs.List.{sum}
use Rattle.std.proofs.lemmas.List.Sums.{sum_by-cons}
use Rattle.fin_ast.specs.declared.tree.Expr.{Expr}
use Rattle.fin_ast.specs.declared.tree.Stmt.{Stmt, fold-Stmt}
use Rattle.fin_ast.specs.declared.tree.Stmt.TheOpen.{Stmt-F}
use Rattle.fin_ast.specs.declared.tree.Stmt.TheVariants as s
use Rattle.fin_ast.proofs.Nodes.{of_block, of_loop, of_cond, of_bind}

abbrev weight_step : Stmt-F ℕ → ℕ
weight_step (Stmt-F.Block body line last) = suc (sum body)
weight_step (Stmt-F.Loop var range par body line last) = suc (sum body)
weight_step (Stmt-F.Cond test body line last) = suc (sum body)
weight_step (Stmt-F.Bind var value body line last) = suc (sum body)
weight_step (Stmt-F.Declare tensor value line) = 0
weight_step (Stmt-F.Freeze tensor line) = 0
weight_step (Stmt-F.Thaw tensor line) = 0
weight_step (Stmt-F.Update tensor at by value line) = 0

abbrev pub weight : Stmt → ℕ
weight = fold-Stmt ℕ weight_step

abbrev pub weights : List Stmt → ℕ
weights xs = sum (map weight xs)

more_weigh : (x : Stmt) (xs : List Stmt) → weights (x ∷ xs) ≡ weight x + weights xs
more_weigh x xs = sum_by-cons (λ n. n) (weight x) (map weight xs)

pub item_weighs : (xs : List Stmt) (i : ℕ) (x d : Stmt) → i < length xs → x ≡ get_or xs i d → weight x ≤ weights xs
item_weighs [] i x d lt e = absurd (omega (arith, lt))
item_weighs (y ∷ xs) zero x d lt e = let h : weight x ≡ weight y = ap weight e in omega (arith, h, more_weigh y xs)
item_weighs (y ∷ xs) (suc i) x d lt e = let h : weight x ≤ weights xs = item_weighs xs i x d (omega (arith, lt)) e in omega (arith, h, more_weigh y xs)

module _ (x : Stmt) (body body' : List Stmt) (line last : ℕ) (same : body' ≡ body) where
  lighter : weight x ≡ suc (weights body) → 2 * weights body' + 1 < 2 * weight x
  lighter e = let h : weights body' ≡ weights body = ap weights same in omega (arith, e, h)

  pub block_weighs : x ≡ s.Block body line last → 2 * weights body' + 1 < 2 * weight x
  block_weighs is = lighter (ap weight is ∙ of_block ℕ weight_step body line last)

  pub loop_weighs : (var : ℕ) (range : Option (ℕ × ℕ)) (par : Bool) → x ≡ s.Loop var range par body line last → 2 * weights body' + 1 < 2 * weight x
  loop_weighs var range par is = lighter (ap weight is ∙ of_loop ℕ weight_step var range par body line last)

  pub cond_weighs : (test : Expr) → x ≡ s.Cond test body line last → 2 * weights body' + 1 < 2 * weight x
  cond_weighs test is = lighter (ap weight is ∙ of_cond ℕ weight_step test body line last)

  pub bind_weighs : (var : ℕ) (value : Expr) → x ≡ s.Bind var value body line last → 2 * weights body' + 1 < 2 * weight x
  bind_weighs var value is = lighter (ap weight is ∙ of_bind ℕ weight_step var value body line last)
