-- One scope for all names of a loop's body: that around the loop, with the variables that the loop and its body bind.
use Rattle.std.proofs.Common.{◌≡◌, ℕ, true, ◌++◌, refl, ◌∙◌}
use Rattle.std.specs.Prelude.{nat_eq, ◌||◌}
use Rattle.std.proofs.lemmas.Bool.{or_left, or_right}
use Rattle.std.proofs.lemmas.List.Folds.{list_any-append}
use Rattle.fin_ast.specs.Bindings.{bindings_of_all}
use Rattle.fin_ast.specs.Scope.{Scope, is_among, within_loop}
use Rattle.fin_loops.specs.Loops.{Loop, bound_in}
use Rattle.fin_loops.proofs.Named.{Has, AllLoops, has_loop}
use Rattle.fin_loops.proofs.Standing.{itself}

module _ (l : Loop) (sc : Scope) where
  abbrev pub enclosing : Scope
  enclosing = record { headers = sc.headers; loops = bound_in l ++ sc.loops; lets = sc.lets }

  pub has_own : (y : ℕ) → is_among enclosing.loops y ≡ (is_among (bound_in l) y || is_among sc.loops y)
  has_own y = list_any-append (nat_eq y) (bound_in l) sc.loops

  bound_big : (y : ℕ) → is_among (bound_in l) y ≡ true → is_among enclosing.loops y ≡ true
  bound_big y e = has_own y ∙ or_left (is_among (bound_in l) y) (is_among sc.loops y) e

  has_scope : Has enclosing sc
  has_scope = record {
    headers = refl;
    loops = λ y e. has_own y ∙ or_right (is_among (bound_in l) y) (is_among sc.loops y) e;
    lets = λ y e. or_right (is_among enclosing.loops y) (is_among enclosing.lets y) e;
  }

  pub has_inner : Has enclosing (within_loop sc l.var)
  has_inner = has_loop enclosing sc l.var has_scope (bound_big l.var (itself l.var (bindings_of_all l.body)))

  pub all_loops : AllLoops enclosing (bindings_of_all l.body)
  all_loops v e = bound_big v (or_right (nat_eq v l.var) (is_among (bindings_of_all l.body) v) e)
