-- There is a range for each variable that a program binds.
use Rattle.std.proofs.Common.{◌≡◌, ◌+◌, ◌*◌, ℕ, List, [], ◌∷◌, ◌++◌, Option, Some, None, refl, sym, ap, ◌∙◌, subst, arith, length}
use Rattle.std.proofs.lemmas.List.{length-append}
use Rattle.std.proofs.lemmas.List.Elements.{filter_map-append}
use Rattle.fin_ast.specs.declared.place.Place.{Place}
use Rattle.fin_ast.specs.declared.place.Place.TheVariants.{Loop, Let, Use}
use Rattle.fin_ast.specs.declared.tree.Index.{Index}
use Rattle.fin_ast.specs.declared.tree.Expr.{Expr, ind-Expr, map-Expr, fold-roll-Expr}
use Rattle.fin_ast.specs.declared.tree.Expr.TheOpen.{Expr-F}
use Rattle.fin_ast.specs.declared.tree.Stmt.{Stmt, map-Stmt}
use Rattle.fin_ast.specs.declared.tree.Stmt.TheOpen.{Stmt-F}
use Rattle.fin_ast.specs.Bindings.{bindings_step, bindings_of, bindings_of_all}
use Rattle.fin_ast.specs.Places.{Gathering, uses_of, expr_places, places_of_expr, stmt_places, places_of, places_of_all}
use Rattle.fin_ast.specs.Sizes.{range_of, ranges_of}
use Rattle.fin_ast.specs.Ties.{Extents}
use Rattle.fin_ast.proofs.Induction.{AllOf, Held, bare, plain, all_of, each, by_two}

module _ (extent : Extents) where
  abbrev count : List Place → ℕ
  count places = length (ranges_of extent places)

  count_append : (before : List Place) (p : Place) → count (before ++ p ∷ []) ≡ count before + count (p ∷ [])
  count_append before p = ap length (filter_map-append (range_of extent) before (p ∷ [])) ∙ length-append (ranges_of extent before) (ranges_of extent (p ∷ []))

  loop_counts : (var : ℕ) (range : Option (ℕ × ℕ)) (line : ℕ) → count (Loop var range line ∷ []) ≡ 1
  loop_counts var None line = refl
  loop_counts var (Some r) line = refl

  uses_count : (line d : ℕ) (at : List Index) (before : List Place) → count (uses_of line d at before) ≡ count before
  uses_count line d [] before = refl
  uses_count line d (i ∷ at) before = uses_count line (d + 1) at (before ++ Use d i line ∷ []) ∙ count_append before (Use d i line) ∙ omega arith

  abbrev Level : Gathering → Type 0
  Level g = (before : List Place) → count (g before) ≡ count before

  abbrev Kept : Type 0
  Kept = (e : Expr) × Level (places_of_expr e)

  expr_step : (y : Expr-F Kept) → Level (expr_places (map-Expr Expr Gathering places_of_expr (map-Expr Kept Expr (λ k. k.0) y)))
  expr_step (Expr-F.Num n) before = refl
  expr_step (Expr-F.Var var line) before = refl
  expr_step (Expr-F.Read tensor at line) before = uses_count line (8 * tensor) at before
  expr_step (Expr-F.Neg inner) before = inner.1 before
  expr_step (Expr-F.Two op x y) before = y.1 (places_of_expr x.0 before) ∙ x.1 before

  expr_count : (e : Expr) → Level (places_of_expr e)
  expr_count = ind-Expr (λ e. Level (places_of_expr e)) (λ z y is. subst Level (ap (λ (u : Expr-F Expr). expr_places (map-Expr Expr Gathering places_of_expr u)) is ∙ sym (fold-roll-Expr Gathering expr_places z)) (expr_step y))

  abbrev CountsBy : Gathering → List ℕ → Type 0
  CountsBy g binds = (before : List Place) → count (g before) ≡ count before + length binds

  abbrev Counts : Stmt → Type 0
  Counts x = CountsBy (places_of x) (bindings_of x)

  all_count : (body : List Stmt) → AllOf Counts body → (before : List Place) → count (places_of_all body before) ≡ count before + length (bindings_of_all body)
  all_count [] all before = omega arith
  all_count (x ∷ body) all before = all_count body all.1 (places_of x before) ∙ omega (arith, all.0 before, length-append (bindings_of x) (bindings_of_all body))

  body_counts : (xs : List (Held Counts)) → CountsBy (places_of_all (bare Counts xs)) (bindings_of_all (bare Counts xs))
  body_counts xs = all_count (bare Counts xs) (all_of Counts xs)

  step : (y : Stmt-F (Held Counts)) → CountsBy (stmt_places (map-Stmt Stmt Gathering places_of (plain Counts y))) (bindings_step (map-Stmt Stmt (List ℕ) bindings_of (plain Counts y)))
  step (Stmt-F.Block body line last) before = body_counts body before
  step (Stmt-F.Loop var range par body line last) before = body_counts body (before ++ Loop var range line ∷ []) ∙ omega (arith, count_append before (Loop var range line), loop_counts var range line)
  step (Stmt-F.Cond test body line last) before = body_counts body (places_of_expr test before) ∙ omega (arith, expr_count test before)
  step (Stmt-F.Bind var value body line last) before = body_counts body (places_of_expr value (before ++ Let ∷ [])) ∙ omega (arith, expr_count value (before ++ Let ∷ []), count_append before Let)
  step (Stmt-F.Declare tensor value line) before = omega arith
  step (Stmt-F.Freeze tensor line) before = omega arith
  step (Stmt-F.Thaw tensor line) before = omega arith
  step (Stmt-F.Update tensor at by value line) before = omega (arith, expr_count value (uses_of line (8 * tensor) at before), uses_count line (8 * tensor) at before)

  counts : (x : Stmt) → Counts x
  counts = by_two stmt_places bindings_step CountsBy step

  pub ranges_count : (body : List Stmt) → count (places_of_all body []) ≡ length (bindings_of_all body)
  ranges_count body = omega (arith, all_count body (each Counts counts body) [])
