-- The indices of the reads of an accepted program stay inside their extents.
use Rattle.std.proofs.Common.{◌≡◌, ℕ, ◌+◌, ◌*◌, Bool, true, false, not, ◌&&◌, List, [], ◌∷◌, ◌++◌, length, Option, Some, None, refl, sym, ap, ◌∙◌, subst}
use Rattle.std.specs.Prelude.{slice_get, ◌==◌}
use Rattle.std.specs.List.{list_all}
use Rattle.std.specs.Option.{option_or}
use Rattle.fin_base.specs.declared.refusal.Rule.{Rule}
use Rattle.fin_base.specs.declared.refusal.Refusal.{Refusal}
use Rattle.fin_ast.specs.declared.header.Header.{Header}
use Rattle.fin_ast.specs.declared.place.Place.{Place}
use Rattle.fin_ast.specs.declared.place.Place.TheVariants.{Loop, Let, Use}
use Rattle.fin_ast.specs.declared.tree.Index.{Index}
use Rattle.fin_ast.specs.declared.tree.Expr.{Expr}
use Rattle.fin_ast.specs.declared.tree.Stmt.{Stmt}
use Rattle.fin_ast.specs.Ties.{Dimension, Extents}
use Rattle.fin_ast.specs.Sizes.{first_of, outside, leaves, range_at, number_of}
use Rattle.fin_ast.specs.Places.{Gathering, uses_of, expr_places, places_of_expr, stmt_places, places_of, places_of_all}
use Rattle.fin_ast.specs.Scope.{Scope, differ, is_loop, is_index, holds_of, is_access, expr_step, is_named_expr, stmt_step, is_named, are_named, within_loop, within_let}
use Rattle.fin_ast.proofs.Nodes as node
use Rattle.fin_ast.proofs.Induction.{AllOf, Cases, all_by_kind}
use Rattle.fin_ast.proofs.Unbroken.{first_none, second_none, unbroken}
use Rattle.fin_simp.specs.Numbered.{Here, past_expr, behind, behind_test, past_stmt, numbered_all}
use Rattle.fin_simp.specs.Rest.{Access, Rest, written_expr_step, reads_of, all_written, written_step, written}
use Rattle.fin_simp.proofs.Induction.{ExprCases, by_expr}
use Rattle.fin_simp.proofs.Equations.{at_num, at_var, at_read, at_neg, at_two, at_block, at_loop, at_cond, at_bind, at_declare, at_freeze, at_thaw, at_update}
use Rattle.fin_simp.proofs.Origins.{left_true, right_true, both}

also : (a b : Bool) → a ≡ true → b ≡ true → (a && b) ≡ true
also true b h k = k
also false b h k = let x : false ≡ true = h in cc

module _ (extent : Extents) (ranges : List (ℕ × ℕ)) where
  -- ---- places that don't leave an extent
  abbrev NoneOut : List Place → Type 0
  NoneOut places = first_of (outside extent ranges) places ≡ None

  split_none : (a b : List Place) → NoneOut (a ++ b) → NoneOut a × NoneOut b
  split_none [] b e = (refl, e)
  split_none (x ∷ a) b e = split (outside extent ranges x) e (split_none a b (second_none (outside extent ranges x) (first_of (outside extent ranges) (a ++ b)) e)) where
    split : (o : Option Refusal) → option_or o (first_of (outside extent ranges) (a ++ b)) ≡ None → NoneOut a × NoneOut b → (option_or o (first_of (outside extent ranges) a) ≡ None) × NoneOut b
    split None e h = h
    split (Some r) e h = cc

  last_none : (before : List Place) (x : Place) → NoneOut (before ++ x ∷ []) → NoneOut before × (outside extent ranges x ≡ None)
  last_none before x e = let two = split_none before (x ∷ []) e in (two.0, first_none (outside extent ranges x) None two.1)

  -- the indices of an access, from a dimension on
  abbrev pub leaves_at : ℕ → Index → Bool
  leaves_at d i = not i.loose && leaves i.offset (range_at ranges i.first) (number_of extent (Dimension d))

  abbrev pub uses_stay : ℕ → List Index → Bool
  uses_stay d [] = true
  uses_stay d (i ∷ is) = not (leaves_at d i) && uses_stay (d + 1) is

  out_uses : (line d : ℕ) (at : List Index) (before : List Place) → NoneOut (uses_of line d at before) → NoneOut before × (uses_stay d at ≡ true)
  out_uses line d [] before n = (n, refl)
  out_uses line d (i ∷ at) before n =
      let rest = out_uses line (d + 1) at (before ++ Use d i line ∷ []) n in
      let here = last_none before (Use d i line) rest.0 in
      (here.0, also (not (leaves_at d i)) (uses_stay (d + 1) at) (ap not (unbroken (leaves_at d i) Rule.M3 line here.1)) rest.1)

  -- an access has an index for each level, none names a variable twice, and they stay
  abbrev pub is_sized : List Header → ℕ → List Index → Bool
  is_sized hs tensor at = holds_of (λ h. length at == length h.format.levels) (slice_get hs tensor)

  abbrev pub differs : Index → Bool
  differs i = differ i.first i.second

  abbrev pub good : List Header → Access → Bool
  good hs a = is_sized hs a.tensor a.at && (list_all differs a.at && uses_stay (8 * a.tensor) a.at)

  all_differ : (sc : Scope) (at : List Index) → list_all (is_index sc) at ≡ true → list_all differs at ≡ true
  all_differ sc [] h = refl
  all_differ sc (i ∷ at) h =
      also (differs i) (list_all differs at) (right_true (is_loop sc i.first && is_loop sc i.second) (differs i) (left_true (is_index sc i) (list_all (is_index sc) at) h))
      (all_differ sc at (right_true (is_index sc i) (list_all (is_index sc) at) h))

  access_good : (sc : Scope) (line k tensor : ℕ) (at : List Index) (before : List Place) → is_access sc tensor at ≡ true → NoneOut (uses_of line (8 * tensor) at before)
      → NoneOut before × (good sc.headers (record { read = k; tensor = tensor; at = at }) ≡ true)
  access_good sc line k tensor at before e n =
      let sized = left_true (is_sized sc.headers tensor at) (list_all (is_index sc) at) e in
      let apart = all_differ sc at (right_true (is_sized sc.headers tensor at) (list_all (is_index sc) at) e) in
      let got = out_uses line (8 * tensor) at before n in
      (got.0, also (is_sized sc.headers tensor at) (list_all differs at && uses_stay (8 * tensor) at) sized (also (list_all differs at) (uses_stay (8 * tensor) at) apart got.1))

  -- ---- expressions
  abbrev all : Scope → List Access → Bool
  all sc reads = list_all (good sc.headers) reads

  abbrev Fine : Expr → Type 0
  Fine x = (sc : Scope) (before : List Place) (k : ℕ) → is_named_expr x sc ≡ true → NoneOut (places_of_expr x before) → NoneOut before × (all sc (reads_of x k) ≡ true)

  by_parts : (x : Expr) (names : Scope → Bool) (places : Gathering) (reads : ℕ → List Access) → is_named_expr x ≡ names → places_of_expr x ≡ places → ((k : ℕ) → reads_of x k ≡ reads k)
      → ((sc : Scope) (before : List Place) (k : ℕ) → names sc ≡ true → NoneOut (places before) → NoneOut before × (all sc (reads k) ≡ true)) → Fine x
  by_parts x names places reads en ep er h sc before k e n =
      let got = h sc before k (ap (λ (f : Scope → Bool). f sc) (sym en) ∙ e) (subst (λ (g : Gathering). NoneOut (g before)) ep n) in
      (got.0, ap (all sc) (er k) ∙ got.1)

  fine_cases : ExprCases Fine
  fine_cases = record {
    num = λ n. by_parts _ _ _ _ (node.of_num (Scope → Bool) expr_step n) (node.of_num Gathering expr_places n) (at_num (List Access) written_expr_step n) (λ sc before k e l. (l, refl));
    var = λ var line. by_parts _ _ _ _ (node.of_var (Scope → Bool) expr_step var line) (node.of_var Gathering expr_places var line) (at_var (List Access) written_expr_step var line) (λ sc before k e l. (l, refl));
    read = λ tensor at line. by_parts _ _ _ _ (node.of_read (Scope → Bool) expr_step tensor at line) (node.of_read Gathering expr_places tensor at line) (at_read (List Access) written_expr_step tensor at line)
        (λ sc before k e l. let got = access_good sc line k tensor at before e l in (got.0, ap (λ b. b && true) got.1));
    neg = λ x hx. by_parts _ _ _ _ (node.of_neg (Scope → Bool) expr_step x) (node.of_neg Gathering expr_places x) (at_neg (List Access) written_expr_step x) (λ sc before k e l. hx sc before k e l);
    two = λ o x y hx hy. by_parts _ _ _ _ (node.of_two (Scope → Bool) expr_step o x y) (node.of_two Gathering expr_places o x y) (at_two (List Access) written_expr_step o x y)
        (λ sc before k e l.
        let second = hy sc (places_of_expr x before) (past_expr x k) (right_true (is_named_expr x sc) (is_named_expr y sc) e) l in
        let first = hx sc before k (left_true (is_named_expr x sc) (is_named_expr y sc) e) second.0 in
        (first.0, both (good sc.headers) (reads_of x k) (reads_of y (past_expr x k)) first.1 second.1));
  }

  fine_expr : (x : Expr) → Fine x
  fine_expr = by_expr Fine fine_cases

  -- ---- statements
  abbrev texts : List Stmt → Here → Rest
  texts body h = all_written (numbered_all Rest written_step body h)

  abbrev Kept : (Scope → Bool) → Gathering → (Here → List Access) → Type 0
  Kept names places reads = (sc : Scope) (before : List Place) (h : Here) → names sc ≡ true → NoneOut (places before) → NoneOut before × (all sc (reads h) ≡ true)

  abbrev Stays : Stmt → Type 0
  Stays x = Kept (is_named x) (places_of x) (λ h. (written x h).reads)

  bodies : (body : List Stmt) → AllOf Stays body → Kept (are_named body) (places_of_all body) (λ h. (texts body h).reads)
  bodies [] each sc before h e n = (n, refl)
  bodies (x ∷ xs) each sc before h e n =
      let later = bodies xs each.1 sc (places_of x before) (past_stmt x h) (right_true (is_named x sc) (are_named xs sc) e) n in
      let here = each.0 sc before h (left_true (is_named x sc) (are_named xs sc) e) later.0 in
      (here.0, both (good sc.headers) (written x h).reads (texts xs (past_stmt x h)).reads here.1 later.1)

  by_nodes : (x : Stmt) (names : Scope → Bool) (places : Gathering) (rest : Here → Rest) → is_named x ≡ names → places_of x ≡ places → ((h : Here) → written x h ≡ rest h) → Kept names places (λ h. (rest h).reads) → Stays x
  by_nodes x names places rest en ep er f sc before h e n =
      let got = f sc before h (ap (λ (g : Scope → Bool). g sc) (sym en) ∙ e) (subst (λ (g : Gathering). NoneOut (g before)) ep n) in
      (got.0, ap (λ (r : Rest). all sc r.reads) (er h) ∙ got.1)

  stay_cases : Cases Stays
  stay_cases = record {
    block = λ body line last each. by_nodes _ _ _ _ (node.of_block (Scope → Bool) stmt_step body line last) (node.of_block Gathering stmt_places body line last) (at_block Rest written_step body line last)
        (λ sc before h e n. bodies body each sc before h e n);
    loop = λ var range par body line last each. by_nodes _ _ _ _ (node.of_loop (Scope → Bool) stmt_step var range par body line last) (node.of_loop Gathering stmt_places var range par body line last) (at_loop Rest written_step var range par body line last)
        (λ sc before h e n. let inner = bodies body each (within_loop sc var) (before ++ Loop var range line ∷ []) h e n in ((last_none before (Loop var range line) inner.0).0, inner.1));
    cond = λ test body line last each. by_nodes _ _ _ _ (node.of_cond (Scope → Bool) stmt_step test body line last) (node.of_cond Gathering stmt_places test body line last) (at_cond Rest written_step test body line last)
        (λ sc before h e n.
        let inner = bodies body each sc (places_of_expr test before) (behind_test test h) (right_true (is_named_expr test sc) (are_named body sc) e) n in
        let own = fine_expr test sc before h.read (left_true (is_named_expr test sc) (are_named body sc) e) inner.0 in
        (own.0, both (good sc.headers) (reads_of test h.read) (texts body (behind_test test h)).reads own.1 inner.1));
    bind = λ var value body line last each. by_nodes _ _ _ _ (node.of_bind (Scope → Bool) stmt_step var value body line last) (node.of_bind Gathering stmt_places var value body line last) (at_bind Rest written_step var value body line last)
        (λ sc before h e n.
        let inner = bodies body each (within_let sc var) (places_of_expr value (before ++ Let ∷ [])) (behind value h) (right_true (is_named_expr value sc) (are_named body (within_let sc var)) e) n in
        let own = fine_expr value sc (before ++ Let ∷ []) h.read (left_true (is_named_expr value sc) (are_named body (within_let sc var)) e) inner.0 in
        ((last_none before Let own.0).0, both (good sc.headers) (reads_of value h.read) (texts body (behind value h)).reads own.1 inner.1));
    declare = λ tensor value line. by_nodes _ _ _ _ (node.of_declare (Scope → Bool) stmt_step tensor value line) (node.of_declare Gathering stmt_places tensor value line) (at_declare Rest written_step tensor value line) (λ sc before h e n. (n, refl));
    freeze = λ tensor line. by_nodes _ _ _ _ (node.of_freeze (Scope → Bool) stmt_step tensor line) (node.of_freeze Gathering stmt_places tensor line) (at_freeze Rest written_step tensor line) (λ sc before h e n. (n, refl));
    thaw = λ tensor line. by_nodes _ _ _ _ (node.of_thaw (Scope → Bool) stmt_step tensor line) (node.of_thaw Gathering stmt_places tensor line) (at_thaw Rest written_step tensor line) (λ sc before h e n. (n, refl));
    update = λ tensor at by value line. by_nodes _ _ _ _ (node.of_update (Scope → Bool) stmt_step tensor at by value line) (node.of_update Gathering stmt_places tensor at by value line) (at_update Rest written_step tensor at by value line)
        (λ sc before h e n.
        let own = fine_expr value sc (uses_of line (8 * tensor) at before) h.read (right_true (is_access sc tensor at) (is_named_expr value sc) e) n in
        ((access_good sc line 0 tensor at before (left_true (is_access sc tensor at) (is_named_expr value sc) e) own.0).0, own.1));
  }

  pub body_good : (body : List Stmt) → Kept (are_named body) (places_of_all body) (λ h. (texts body h).reads)
  body_good body = bodies body (all_by_kind Stays stay_cases body)
