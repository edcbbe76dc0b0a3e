-- The indices of an accepted program are small: variables of loops are, and so are offsets.
use Rattle.std.proofs.Common.{◌≡◌, ◌≢◌, ◌<◌, ◌≤◌, ◌+◌, ◌*◌, ◌^◌, ℕ, zero, suc, ℤ, pos, Bool, true, false, ◌&&◌, ◌||◌, List, [], ◌∷◌, ◌++◌, Option, Some, None, refl, sym, ap, ◌∙◌, subst, inl, inr, ◌⊎◌, arith, get_or-set_other}
use Rattle.std.specs.Prelude.{slice_set, unsigned_abs, nat_le, nat_eq}
use Rattle.std.specs.Option.{option_or}
use Rattle.std.specs.List.{list_all}
use Rattle.std.proofs.lemmas.Bool.Decides.{nat_tests}
use Rattle.fin_base.specs.declared.refusal.Rule.{Rule}
use Rattle.fin_base.specs.declared.refusal.Refusal.{Refusal}
use Rattle.fin_ast.specs.declared.place.Place.{Place}
use Rattle.fin_ast.specs.declared.place.Place.TheVariants.{Use}
use Rattle.fin_ast.specs.declared.tree.Index.{Index}
use Rattle.fin_ast.specs.declared.tree.Expr.{Expr, ind-Expr, map-Expr, fold-roll-Expr}
use Rattle.fin_ast.specs.declared.tree.Expr.TheOpen.{Expr-F}
use Rattle.fin_ast.specs.Sizes.{first_of, is_large, large_in_place}
use Rattle.fin_ast.specs.Places.{Gathering, uses_of, expr_places, places_of_expr}
use Rattle.fin_ast.specs.Scope.{Scope, is_among, is_loop, is_index, is_access, expr_step, is_named_expr}
use Rattle.fin_ast.specs.Value.{Numbers, number, number_if}
use Rattle.fin_stage.specs.Staged.{is_small, is_small_index, are_small, indices_step, has_small_indices}
use Rattle.fin_ast.proofs.Unbroken.{first_none, second_none, unbroken}
use Rattle.fin_stage.proofs.Alive.{left, right, both}

-- ---- places without large numbers
abbrev pub NoneLarge : List Place → Type 0
NoneLarge places = first_of large_in_place places ≡ None

split_none : (a b : List Place) → NoneLarge (a ++ b) → NoneLarge a × NoneLarge b
split_none [] b e = (refl, e)
split_none (x ∷ a) b e = split (large_in_place x) e (split_none a b (second_none (large_in_place x) (first_of large_in_place (a ++ b)) e)) where
  split : (o : Option Refusal) → option_or o (first_of large_in_place (a ++ b)) ≡ None → NoneLarge a × NoneLarge b → (option_or o (first_of large_in_place a) ≡ None) × NoneLarge b
  split None e h = h
  split (Some r) e h = cc

pub last_none : (before : List Place) (x : Place) → NoneLarge (before ++ x ∷ []) → NoneLarge before × (large_in_place x ≡ None)
last_none before x e = let two = split_none before (x ∷ []) e in (two.0, first_none (large_in_place x) None two.1)

-- ---- numbers
small_by : (n : ℕ) → is_large n ≡ false → nat_le n (2 ^ 40) ≡ true
small_by n e = grind (arith, nat_tests)

pub small_number : (n : ℕ) → n ≤ 2 ^ 40 → is_small (pos n) ≡ true
small_number n h = grind (arith, nat_tests)

-- the numbers of the loops around are small
abbrev pub SmallLoops : List ℕ → Numbers → Type 0
SmallLoops loops vars = (v : ℕ) → is_among loops v ≡ true → is_small (number vars v) ≡ true

small_if : (sc : Scope) (vars : Numbers) → SmallLoops sc.loops vars → (o : Option ℕ) → is_loop sc o ≡ true → is_small (number_if vars o) ≡ true
small_if sc vars h None e = refl
small_if sc vars h (Some v) e = h v e

-- ---- the indices of an access
small_uses : (sc : Scope) (vars : Numbers) → SmallLoops sc.loops vars → (line d : ℕ) (at : List Index) (before : List Place) → list_all (is_index sc) at ≡ true → NoneLarge (uses_of line d at before) → NoneLarge before × (are_small vars at ≡ true)
small_uses sc vars h line d [] before e n = (n, refl)
small_uses sc vars h line d (i ∷ at) before e n =
    let rest = small_uses sc vars h line (d + 1) at (before ++ Use d i line ∷ []) (right (is_index sc i) (list_all (is_index sc) at) e) n in
    let here = last_none before (Use d i line) rest.0 in
    let named : is_index sc i ≡ true = left (is_index sc i) (list_all (is_index sc) at) e in
    let loops : (is_loop sc i.first && is_loop sc i.second) ≡ true = left (is_loop sc i.first && is_loop sc i.second) _ named in
    let one : is_small_index vars i ≡ true = both (is_small (number_if vars i.first) && is_small (number_if vars i.second)) (is_small i.offset)
    (both (is_small (number_if vars i.first)) (is_small (number_if vars i.second)) (small_if sc vars h i.first (left (is_loop sc i.first) (is_loop sc i.second) loops)) (small_if sc vars h i.second (right (is_loop sc i.first) (is_loop sc i.second) loops)))
    (small_by (unsigned_abs i.offset) (unbroken (is_large (unsigned_abs i.offset)) Rule.M5 line here.1)) in
    (here.0, both (is_small_index vars i) (are_small vars at) one rest.1)

pub small_access : (sc : Scope) (vars : Numbers) → SmallLoops sc.loops vars → (line tensor : ℕ) (at : List Index) (before : List Place) → is_access sc tensor at ≡ true → NoneLarge (uses_of line (8 * tensor) at before) → NoneLarge before × (are_small vars at ≡ true)
small_access sc vars h line tensor at before e n = small_uses sc vars h line (8 * tensor) at before (right _ (list_all (is_index sc) at) e) n

-- ---- expressions
module _ (sc : Scope) (vars : Numbers) (h : SmallLoops sc.loops vars) where
  abbrev Fine : (Scope → Bool) → Gathering → (Numbers → Bool) → Type 0
  Fine named places small = (before : List Place) → named sc ≡ true → NoneLarge (places before) → NoneLarge before × (small vars ≡ true)

  abbrev Kept : Type 0
  Kept = (e : Expr) × Fine (is_named_expr e) (places_of_expr e) (has_small_indices e)

  fine_step : (y : Expr-F Kept) → Fine (expr_step (map-Expr Expr (Scope → Bool) is_named_expr (map-Expr Kept Expr (λ k. k.0) y))) (expr_places (map-Expr Expr Gathering places_of_expr (map-Expr Kept Expr (λ k. k.0) y))) (indices_step (map-Expr Expr (Numbers → Bool) has_small_indices (map-Expr Kept Expr (λ k. k.0) y)))
  fine_step (Expr-F.Num n) before e l = (l, refl)
  fine_step (Expr-F.Var var line) before e l = (l, refl)
  fine_step (Expr-F.Read tensor at line) before e l = small_access sc vars h line tensor at before e l
  fine_step (Expr-F.Neg inner) before e l = inner.1 before e l
  fine_step (Expr-F.Two op x y) before e l =
      let second = y.1 (places_of_expr x.0 before) (right (is_named_expr x.0 sc) (is_named_expr y.0 sc) e) l in
      let first = x.1 before (left (is_named_expr x.0 sc) (is_named_expr y.0 sc) e) second.0 in
      (first.0, both (has_small_indices x.0 vars) (has_small_indices y.0 vars) first.1 second.1)

  pub fine_expr : (e : Expr) → Fine (is_named_expr e) (places_of_expr e) (has_small_indices e)
  fine_expr = ind-Expr (λ e. Fine (is_named_expr e) (places_of_expr e) (has_small_indices e)) (λ z y is before e l.
      let names = ap (λ (u : Expr-F Expr). expr_step (map-Expr Expr (Scope → Bool) is_named_expr u)) is ∙ sym (fold-roll-Expr (Scope → Bool) expr_step z) in
      let places = ap (λ (u : Expr-F Expr). expr_places (map-Expr Expr Gathering places_of_expr u)) is ∙ sym (fold-roll-Expr Gathering expr_places z) in
      let small = ap (λ (u : Expr-F Expr). indices_step (map-Expr Expr (Numbers → Bool) has_small_indices u)) is ∙ sym (fold-roll-Expr (Numbers → Bool) indices_step z) in
      let got = fine_step y before (ap (λ (f : Scope → Bool). f sc) names ∙ e) (subst (λ (g : Gathering). NoneLarge (g before)) (sym places) l) in
      (got.0, sym (ap (λ (f : Numbers → Bool). f vars) small) ∙ got.1))

-- ---- a variable is bound
number_set : (vars : Numbers) (v : ℕ) (x : ℤ) → (number (slice_set vars v x) v ≡ x) ⊎ (number (slice_set vars v x) v ≡ pos 0)
number_set [] v x = inr refl
number_set (y ∷ vars) zero x = inl refl
number_set (y ∷ vars) (suc v) x = number_set vars v x

pub small_set : (vars : Numbers) (v : ℕ) (x : ℤ) → is_small x ≡ true → is_small (number (slice_set vars v x) v) ≡ true
small_set vars v x e = elim (number_set vars v x) [ inl same ↦ ap is_small same ∙ e | inr none ↦ ap is_small none ]

among_other : (loops : List ℕ) (n u : ℕ) → ((k : ℕ) → is_among loops k ≡ true → k < n) → is_among loops u ≡ true → u ≢ n
among_other loops n u f e same = let lt : u < n = f u e in omega (arith, lt, same)

pub kept_small : (loops : List ℕ) (vars : Numbers) (n : ℕ) (x : ℤ) → ((k : ℕ) → is_among loops k ≡ true → k < n) → SmallLoops loops vars → SmallLoops loops (slice_set vars n x)
kept_small loops vars n x f h u e = subst (λ (z : ℤ). is_small z ≡ true) (sym (get_or-set_other vars n u x (pos 0) (among_other loops n u f e))) (h u e)

same_or : (a b : Bool) → (a || b) ≡ true → (a ≡ true) ⊎ (b ≡ true)
same_or true b e = inl refl
same_or false b e = inr e

equal : (a b : ℕ) → nat_eq a b ≡ true → a ≡ b
equal a b e = grind (arith, nat_tests)
