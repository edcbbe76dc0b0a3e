-- Induction over statements, by kinds.
use Rattle.std.proofs.Common.{ℕ, ℤ, Bool, List, [], ◌∷◌, map, Option, sym, subst}
use Rattle.fin_base.specs.declared.reduce.Reduce.{Reduce}
use Rattle.fin_ast.specs.declared.tree.Index.{Index}
use Rattle.fin_ast.specs.declared.tree.Expr.{Expr}
use Rattle.fin_ast.specs.declared.tree.Stmt.{Stmt, ind-Stmt, map-Stmt, roll-Stmt, fold-Stmt, fold-roll-Stmt}
use Rattle.fin_ast.specs.declared.tree.Stmt.TheOpen.{Stmt-F}
use Rattle.fin_ast.specs.declared.tree.Stmt.TheVariants as s

-- it holds of each statement
abbrev pub AllOf : (Stmt → Type 0) → List Stmt → Type 0
AllOf P [] = Unit {0}
AllOf P (x ∷ xs) = P x × AllOf P xs

-- what is to be shown for each kind, where it holds of the statements of bodies
pub record Cases (P : Stmt → Type 0) : Type 0 where
  pub block : (body : List Stmt) (line last : ℕ) → AllOf P body → P (s.Block body line last)
  pub loop : (var : ℕ) (range : Option (ℕ × ℕ)) (par : Bool) (body : List Stmt) (line last : ℕ) → AllOf P body → P (s.Loop var range par body line last)
  pub cond : (test : Expr) (body : List Stmt) (line last : ℕ) → AllOf P body → P (s.Cond test body line last)
  pub bind : (var : ℕ) (value : Expr) (body : List Stmt) (line last : ℕ) → AllOf P body → P (s.Bind var value body line last)
  pub declare : (tensor : ℕ) (value : ℤ) (line : ℕ) → P (s.Declare tensor value line)
  pub freeze : (tensor line : ℕ) → P (s.Freeze tensor line)
  pub thaw : (tensor line : ℕ) → P (s.Thaw tensor line)
  pub update : (tensor : ℕ) (at : List Index) (by : Reduce) (value : Expr) (line : ℕ) → P (s.Update tensor at by value line)

module _ (P : Stmt → Type 0) where
  abbrev pub Held : Type 0
  Held = (x : Stmt) × P x

  -- without what is held of them
  abbrev pub bare : List Held → List Stmt
  bare xs = map (λ e. e.0) xs

  abbrev pub plain : Stmt-F Held → Stmt-F Stmt
  plain y = map-Stmt Held Stmt (λ e. e.0) y

  pub all_of : (xs : List Held) → AllOf P (bare xs)
  all_of [] = tt
  all_of (e ∷ xs) = (e.1, all_of xs)

  -- by nodes, where it holds of the statements in them
  pub by_nodes : ((y : Stmt-F Held) → P (roll-Stmt (plain y))) → (x : Stmt) → P x
  by_nodes f = ind-Stmt P (λ z y is. subst (λ (u : Stmt-F Stmt). P (roll-Stmt u)) is (f y))

pub each : (P : Stmt → Type 0) → ((x : Stmt) → P x) → (xs : List Stmt) → AllOf P xs
each P f [] = tt
each P f (x ∷ xs) = (f x, each P f xs)

-- what is said of two folds, by their steps
module _ {A B : Type 0} (f : Stmt-F A → A) (g : Stmt-F B → B) (R : A → B → Type 0) where
  abbrev pub OfTwo : Stmt → Type 0
  OfTwo x = R (fold-Stmt A f x) (fold-Stmt B g x)

  pub by_two : ((y : Stmt-F (Held OfTwo)) → R (f (map-Stmt Stmt A (fold-Stmt A f) (plain OfTwo y))) (g (map-Stmt Stmt B (fold-Stmt B g) (plain OfTwo y)))) → (x : Stmt) → OfTwo x
  by_two step = by_nodes OfTwo (λ y. let u = plain OfTwo y in
      subst (λ (a : A). R a (fold-Stmt B g (roll-Stmt u))) (sym (fold-roll-Stmt A f u)) (subst (λ (b : B). R (f (map-Stmt Stmt A (fold-Stmt A f) u)) b) (sym (fold-roll-Stmt B g u)) (step y)))

-- of three
module _ {A B C : Type 0} (f : Stmt-F A → A) (g : Stmt-F B → B) (h : Stmt-F C → C) (R : A → B → C → Type 0) where
  abbrev pub OfThree : Stmt → Type 0
  OfThree x = R (fold-Stmt A f x) (fold-Stmt B g x) (fold-Stmt C h x)

  pub by_three : ((y : Stmt-F (Held OfThree)) → R (f (map-Stmt Stmt A (fold-Stmt A f) (plain OfThree y))) (g (map-Stmt Stmt B (fold-Stmt B g) (plain OfThree y))) (h (map-Stmt Stmt C (fold-Stmt C h) (plain OfThree y)))) → (x : Stmt) → OfThree x
  by_three step = by_nodes OfThree (λ y. let u = plain OfThree y in
      subst (λ (a : A). R a (fold-Stmt B g (roll-Stmt u)) (fold-Stmt C h (roll-Stmt u))) (sym (fold-roll-Stmt A f u))
      (subst (λ (b : B). R (f (map-Stmt Stmt A (fold-Stmt A f) u)) b (fold-Stmt C h (roll-Stmt u))) (sym (fold-roll-Stmt B g u))
      (subst (λ (c : C). R (f (map-Stmt Stmt A (fold-Stmt A f) u)) (g (map-Stmt Stmt B (fold-Stmt B g) u)) c) (sym (fold-roll-Stmt C h u)) (step y))))

module _ (P : Stmt → Type 0) (c : Cases P) where
  step : (y : Stmt-F (Held P)) → P (roll-Stmt (plain P y))
  step (Stmt-F.Block body line last) = subst P (sym (s.rolls-Block _ line last)) (c.block _ line last (all_of P body))
  step (Stmt-F.Loop var range par body line last) = subst P (sym (s.rolls-Loop var range par _ line last)) (c.loop var range par _ line last (all_of P body))
  step (Stmt-F.Cond test body line last) = subst P (sym (s.rolls-Cond test _ line last)) (c.cond test _ line last (all_of P body))
  step (Stmt-F.Bind var value body line last) = subst P (sym (s.rolls-Bind var value _ line last)) (c.bind var value _ line last (all_of P body))
  step (Stmt-F.Declare tensor value line) = subst P (sym (s.rolls-Declare tensor value line)) (c.declare tensor value line)
  step (Stmt-F.Freeze tensor line) = subst P (sym (s.rolls-Freeze tensor line)) (c.freeze tensor line)
  step (Stmt-F.Thaw tensor line) = subst P (sym (s.rolls-Thaw tensor line)) (c.thaw tensor line)
  step (Stmt-F.Update tensor at by value line) = subst P (sym (s.rolls-Update tensor at by value line)) (c.update tensor at by value line)

  pub by_kind : (x : Stmt) → P x
  by_kind = by_nodes P step

  pub all_by_kind : (xs : List Stmt) → AllOf P xs
  all_by_kind = each P by_kind
