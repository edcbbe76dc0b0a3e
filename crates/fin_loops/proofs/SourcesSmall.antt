-- The reads of a program in which no number is large have small offsets.
use Rattle.std.proofs.Common.{◌≡◌, ◌+◌, ◌*◌, ◌^◌, ℕ, Bool, true, false, ◌&&◌, List, [], ◌∷◌, ◌++◌, refl, ap, ◌∙◌, subst, arith}
use Rattle.std.specs.Prelude.{unsigned_abs, nat_le}
use Rattle.std.specs.List.{list_all}
use Rattle.std.proofs.lemmas.Bool.Decides.{nat_tests}
use Rattle.std.proofs.lemmas.List.Folds.{list_all-append}
use Rattle.fin_base.specs.declared.refusal.Rule.{Rule}
use Rattle.fin_ast.specs.declared.place.Place.{Place}
use Rattle.fin_ast.specs.declared.place.Place.TheVariants.{Loop, Let, Use}
use Rattle.fin_ast.specs.declared.tree.Index.{Index}
use Rattle.fin_ast.specs.declared.tree.Expr.{Expr}
use Rattle.fin_ast.specs.declared.tree.Stmt.{Stmt}
use Rattle.fin_ast.specs.Sizes.{is_large}
use Rattle.fin_ast.specs.Places.{Gathering, uses_of, expr_places, places_of_expr, stmt_places, places_of, places_of_all}
use Rattle.fin_ast.proofs.Induction.{AllOf, Cases, all_by_kind}
use Rattle.fin_ast.proofs.Nodes as node
use Rattle.fin_ast.proofs.Unbroken.{unbroken}
use Rattle.fin_stage.specs.Staged.{is_small}
use Rattle.fin_stage.proofs.Alive.{both}
use Rattle.fin_stage.proofs.Smallness.{NoneLarge, last_none}
use Rattle.fin_simp.specs.Numbered.{Here, past_expr, behind, behind_test, past_stmt, numbered_all}
use Rattle.fin_simp.specs.Rest.{Access, Rest, written_expr_step, reads_of, all_written, written_step, written}
use Rattle.fin_simp.proofs.Induction.{ExprCases, by_expr}
use Rattle.fin_simp.proofs.Equations.{at_num, at_var, at_read, at_neg, at_two, at_block, at_loop, at_cond, at_bind, at_declare, at_freeze, at_thaw, at_update}
use Rattle.fin_enter.specs.Indices.{small_offsets}
use Rattle.fin_loops.specs.Sources.{has_small_offsets}

small_by : (n : ℕ) → is_large n ≡ false → nat_le n (2 ^ 40) ≡ true
small_by n e = grind (arith, nat_tests)

-- ---- accesses and expressions

abbrev near : List Access → Bool
near reads = list_all has_small_offsets reads

near_both : (some others : List Access) → near some ≡ true → near others ≡ true → near (some ++ others) ≡ true
near_both some others e f = list_all-append has_small_offsets some others ∙ both (near some) (near others) e f

uses_near : (line d : ℕ) (at : List Index) (before : List Place) → NoneLarge (uses_of line d at before) → NoneLarge before × (small_offsets at ≡ true)
uses_near line d [] before n = (n, refl)
uses_near line d (i ∷ at) before n =
    let rest = uses_near line (d + 1) at (before ++ Use d i line ∷ []) n in
    let own = last_none before (Use d i line) rest.0 in
    (own.0, both (is_small i.offset) (small_offsets at) (small_by (unsigned_abs i.offset) (unbroken (is_large (unsigned_abs i.offset)) Rule.M5 line own.1)) rest.1)

abbrev Fine : Expr → Type 0
Fine x = (before : List Place) (k : ℕ) → NoneLarge (places_of_expr x before) → NoneLarge before × (near (reads_of x k) ≡ true)

by_parts : (x : Expr) (places : Gathering) (reads : ℕ → List Access) → places_of_expr x ≡ places → ((k : ℕ) → reads_of x k ≡ reads k)
    → ((before : List Place) (k : ℕ) → NoneLarge (places before) → NoneLarge before × (near (reads k) ≡ true)) → Fine x
by_parts x places reads same found f before k n =
    let got = f before k (subst (λ (g : Gathering). NoneLarge (g before)) same n) in
    (got.0, ap near (found k) ∙ got.1)

fine_cases : ExprCases Fine
fine_cases = record {
  num = λ n. by_parts _ _ _ (node.of_num Gathering expr_places n) (at_num (List Access) written_expr_step n) (λ before k l. (l, refl));
  var = λ var line. by_parts _ _ _ (node.of_var Gathering expr_places var line) (at_var (List Access) written_expr_step var line) (λ before k l. (l, refl));
  read = λ tensor at line. by_parts _ _ _ (node.of_read Gathering expr_places tensor at line) (at_read (List Access) written_expr_step tensor at line)
      (λ before k l. let got = uses_near line (8 * tensor) at before l in (got.0, ap (λ (b : Bool). b && true) got.1));
  neg = λ x hx. by_parts _ _ _ (node.of_neg Gathering expr_places x) (at_neg (List Access) written_expr_step x) (λ before k l. hx before k l);
  two = λ o x y hx hy. by_parts _ _ _ (node.of_two Gathering expr_places o x y) (at_two (List Access) written_expr_step o x y)
      (λ before k l.
      let second = hy (places_of_expr x before) (past_expr x k) l in
      let first = hx before k second.0 in
      (first.0, near_both (reads_of x k) (reads_of y (past_expr x k)) first.1 second.1));
}

fine_expr : (x : Expr) → Fine x
fine_expr = by_expr Fine fine_cases

-- ---- statements

abbrev texts : List Stmt → Here → Rest
texts xs h = all_written (numbered_all Rest written_step xs h)

abbrev Kept : Gathering → (Here → List Access) → Type 0
Kept places reads = (before : List Place) (h : Here) → NoneLarge (places before) → NoneLarge before × (near (reads h) ≡ true)

abbrev Near : Stmt → Type 0
Near x = Kept (places_of x) (λ h. (written x h).reads)

bodies : (xs : List Stmt) → AllOf Near xs → Kept (places_of_all xs) (λ h. (texts xs h).reads)
bodies [] each before h n = (n, refl)
bodies (x ∷ xs) each before h n =
    let later = bodies xs each.1 (places_of x before) (past_stmt x h) n in
    let own = each.0 before h later.0 in
    (own.0, near_both (written x h).reads (texts xs (past_stmt x h)).reads own.1 later.1)

by_nodes : (x : Stmt) (places : Gathering) (rest : Here → Rest) → places_of x ≡ places → ((h : Here) → written x h ≡ rest h) → Kept places (λ h. (rest h).reads) → Near x
by_nodes x places rest same found f before h n =
    let got = f before h (subst (λ (g : Gathering). NoneLarge (g before)) same n) in
    (got.0, ap (λ (r : Rest). near r.reads) (found h) ∙ got.1)

near_cases : Cases Near
near_cases = record {
  block = λ body line last each. by_nodes _ _ _ (node.of_block Gathering stmt_places body line last) (at_block Rest written_step body line last) (λ before h n. bodies body each before h n);
  loop = λ var range par body line last each. by_nodes _ _ _ (node.of_loop Gathering stmt_places var range par body line last) (at_loop Rest written_step var range par body line last)
      (λ before h n. let inner = bodies body each (before ++ Loop var range line ∷ []) h n in ((last_none before (Loop var range line) inner.0).0, inner.1));
  cond = λ test body line last each. by_nodes _ _ _ (node.of_cond Gathering stmt_places test body line last) (at_cond Rest written_step test body line last)
      (λ before h n.
      let inner = bodies body each (places_of_expr test before) (behind_test test h) n in
      let own = fine_expr test before h.read inner.0 in
      (own.0, near_both (reads_of test h.read) (texts body (behind_test test h)).reads own.1 inner.1));
  bind = λ var value body line last each. by_nodes _ _ _ (node.of_bind Gathering stmt_places var value body line last) (at_bind Rest written_step var value body line last)
      (λ before h n.
      let inner = bodies body each (places_of_expr value (before ++ Let ∷ [])) (behind value h) n in
      let own = fine_expr value (before ++ Let ∷ []) h.read inner.0 in
      ((last_none before Let own.0).0, near_both (reads_of value h.read) (texts body (behind value h)).reads own.1 inner.1));
  declare = λ tensor value line. by_nodes _ _ _ (node.of_declare Gathering stmt_places tensor value line) (at_declare Rest written_step tensor value line) (λ before h n. (n, refl));
  freeze = λ tensor line. by_nodes _ _ _ (node.of_freeze Gathering stmt_places tensor line) (at_freeze Rest written_step tensor line) (λ before h n. (n, refl));
  thaw = λ tensor line. by_nodes _ _ _ (node.of_thaw Gathering stmt_places tensor line) (at_thaw Rest written_step tensor line) (λ before h n. (n, refl));
  update = λ tensor at by value line. by_nodes _ _ _ (node.of_update Gathering stmt_places tensor at by value line) (at_update Rest written_step tensor at by value line)
      (λ before h n.
      let own = fine_expr value (uses_of line (8 * tensor) at before) h.read n in
      ((uses_near line (8 * tensor) at before own.0).0, own.1));
}

pub body_near : (xs : List Stmt) → Kept (places_of_all xs) (λ h. (texts xs h).reads)
body_near xs = bodies xs (all_by_kind Near near_cases xs)
