-- Each read that remains of a statement is written in it.
use Rattle.std.proofs.Common.{◌≡◌, ℕ, ℤ, pos, Bool, true, false, ◌&&◌, List, [], ◌∷◌, ◌++◌, Option, Some, None, refl, sym, ap, ◌∙◌, if◌then◌else◌}
use Rattle.std.specs.List.{list_all}
use Rattle.std.specs.Ordering.{int_eq}
use Rattle.fin_ast.specs.declared.tree.Index.{Index}
use Rattle.fin_ast.specs.declared.tree.Expr.{Expr}
use Rattle.fin_ast.specs.declared.tree.Stmt.{Stmt}
use Rattle.fin_ast.proofs.Induction.{AllOf, Cases, by_kind, all_by_kind}
use Rattle.fin_simp.specs.Numbered.{Here, past_expr, behind, behind_test, past_stmt, numbered_all}
use Rattle.fin_simp.specs.Left.{Marks, binding, as_expr, left_of}
use Rattle.fin_simp.specs.Remaining.{joined_literal, turned_literal, is_identity_literal}
use Rattle.fin_simp.specs.Rest.{Access, ExprRest, Test, Kind, Nothing, OneUpdate, Other, Rest, no_expr, open_rest, rest_or, nothing, within_kind, chosen_rest, let_rest, updating_rest, test_rest, expr_rest_step, expr_rest, rest_step, rest_of, written_expr_step, reads_of, all_written, written_step, written}
use Rattle.fin_simp.specs.Found.{ReadsRemain}
use Rattle.fin_simp.proofs.Induction.{ExprCases, by_expr}
use Rattle.fin_simp.proofs.Equations.{at_num, at_var, at_read, at_neg, at_two, at_block, at_loop, at_cond, at_bind, at_declare, at_freeze, at_thaw, at_update}
use Rattle.fin_simp.proofs.Mentions.{rests, stmt_mentions}
use Rattle.fin_simp.proofs.Counting.{stmt_counts}

pub left_true : (a b : Bool) → (a && b) ≡ true → a ≡ true
left_true true b h = refl
left_true false b h = h

pub right_true : (a b : Bool) → (a && b) ≡ true → b ≡ true
right_true true b h = h
right_true false b h = let x : false ≡ true = h in cc

module _ (p : Access → Bool) where
  abbrev all : List Access → Bool
  all reads = list_all p reads

  all_append : (xs ys : List Access) → all (xs ++ ys) ≡ (all xs && all ys)
  all_append [] ys = refl
  all_append (x ∷ xs) ys = ap (λ b. p x && b) (all_append xs ys) ∙ grouped (p x) (all xs) (all ys) where
    grouped : (a b c : Bool) → (a && (b && c)) ≡ ((a && b) && c)
    grouped true b c = refl
    grouped false b c = refl

  first : (xs ys : List Access) → all (xs ++ ys) ≡ true → all xs ≡ true
  first xs ys h = left_true (all xs) (all ys) (sym (all_append xs ys) ∙ h)

  second : (xs ys : List Access) → all (xs ++ ys) ≡ true → all ys ≡ true
  second xs ys h = right_true (all xs) (all ys) (sym (all_append xs ys) ∙ h)

  pub both : (xs ys : List Access) → all xs ≡ true → all ys ≡ true → all (xs ++ ys) ≡ true
  both xs ys h k = all_append xs ys ∙ ap (λ b. b && all ys) h ∙ k

  -- ---- expressions
  or_all : (o : Option ℤ) (r : ExprRest) → all r.reads ≡ true → all (rest_or o r).reads ≡ true
  or_all None r h = h
  or_all (Some n) r h = refl

  abbrev Kept : Expr → Type 0
  Kept x = (k : ℕ) (m : Marks) → all (reads_of x k) ≡ true → all (expr_rest x k m).reads ≡ true

  abbrev rest_at : Marks → (Marks → ExprRest) → Bool
  rest_at m f = all (f m).reads

  kept_cases : ExprCases Kept
  kept_cases = record {
    num = λ n k m h. ap (rest_at m) (at_num (Marks → ExprRest) expr_rest_step n k);
    var = λ var line k m h. ap (rest_at m) (at_var (Marks → ExprRest) expr_rest_step var line k) ∙ or_all (m.vars var) (open_rest [] (var ∷ [])) refl;
    read = λ tensor at line k m h. ap (rest_at m) (at_read (Marks → ExprRest) expr_rest_step tensor at line k)
        ∙ or_all (m.reads k) (open_rest (record { read = k; tensor = tensor; at = at } ∷ []) []) (sym (ap all (at_read (List Access) written_expr_step tensor at line k)) ∙ h);
    neg = λ x hx k m h. ap (rest_at m) (at_neg (Marks → ExprRest) expr_rest_step x k)
        ∙ or_all (turned_literal (expr_rest x k m).literal) (expr_rest x k m) (hx k m (sym (ap all (at_neg (List Access) written_expr_step x k)) ∙ h));
    two = λ o x y hx hy k m h.
        let a = expr_rest x k m in
        let b = expr_rest y (past_expr x k) m in
        let xs = reads_of x k in
        let ys = reads_of y (past_expr x k) in
        let q : all (xs ++ ys) ≡ true = sym (ap all (at_two (List Access) written_expr_step o x y k)) ∙ h in
        ap (rest_at m) (at_two (Marks → ExprRest) expr_rest_step o x y k)
        ∙ or_all (joined_literal o a.literal b.literal) (open_rest (a.reads ++ b.reads) (a.vars ++ b.vars)) (both a.reads b.reads (hx k m (first xs ys q)) (hy (past_expr x k) m (second xs ys q)));
  }

  expr_kept : (x : Expr) → Kept x
  expr_kept = by_expr Kept kept_cases

  -- ---- statements around others
  within_all : (k : Kind) (ex : ExprRest) (tests : List Test) (r : Rest) → all ex.reads ≡ true → all r.reads ≡ true → all (within_kind k ex tests r).reads ≡ true
  within_all Nothing ex tests r h g = refl
  within_all OneUpdate ex tests r h g = both ex.reads r.reads h g
  within_all Other ex tests r h g = both ex.reads r.reads h g

  either_all : (b : Bool) (r : Rest) → all r.reads ≡ true → all (if b then nothing else r).reads ≡ true
  either_all true r h = refl
  either_all false r h = h

  chosen_all : (o : Option ℤ) (ex : ExprRest) (test : Test) (r : Rest) → all ex.reads ≡ true → all r.reads ≡ true → all (chosen_rest o ex test r).reads ≡ true
  chosen_all None ex test r h g = within_all r.kind ex (test ∷ []) r h g
  chosen_all (Some n) ex test r h g = either_all (int_eq n (pos 0)) r g

  let_all : (o : Option ℤ) (ex : ExprRest) (r : Rest) → all ex.reads ≡ true → all r.reads ≡ true → all (let_rest o ex r).reads ≡ true
  let_all None ex r h g = within_all r.kind ex [] r h g
  let_all (Some n) ex r h g = g

  update_all : (t : ℕ) (at : List Index) (b : Bool) (ex : ExprRest) → all ex.reads ≡ true → all (updating_rest t at b ex).reads ≡ true
  update_all t at true ex h = refl
  update_all t at false ex h = h

  -- ---- all kinds
  abbrev Stays : Stmt → Type 0
  Stays x = (h : Here) (m : Marks) → all (written x h).reads ≡ true → all (rest_of x h m).reads ≡ true

  abbrev stmt_at : Marks → (Marks → Rest) → Bool
  stmt_at m f = all (f m).reads

  abbrev written_at : Rest → Bool
  written_at r = all r.reads

  abbrev texts : List Stmt → Here → Rest
  texts body h = all_written (numbered_all Rest written_step body h)

  bodies : (body : List Stmt) → AllOf Stays body → (h : Here) (m : Marks) → all (texts body h).reads ≡ true → all (rests body h m).reads ≡ true
  bodies [] each h m q = refl
  bodies (x ∷ xs) each h m q =
      let a = (written x h).reads in
      let b = (texts xs (past_stmt x h)).reads in
      both (rest_of x h m).reads (rests xs (past_stmt x h) m).reads (each.0 h m (first a b q)) (bodies xs each.1 (past_stmt x h) m (second a b q))

  stay_cases : Cases Stays
  stay_cases = record {
    block = λ body line last each h m q. ap (stmt_at m) (at_block (Marks → Rest) rest_step body line last h) ∙ bodies body each h m (sym (ap written_at (at_block Rest written_step body line last h)) ∙ q);
    loop = λ var range par body line last each h m q.
        let m' = binding m var None in
        ap (stmt_at m) (at_loop (Marks → Rest) rest_step var range par body line last h)
        ∙ within_all (rests body h m').kind no_expr [] (rests body h m') refl (bodies body each h m' (sym (ap written_at (at_loop Rest written_step var range par body line last h)) ∙ q));
    cond = λ test body line last each h m q.
        let inner = behind_test test h in
        let a = reads_of test h.read in
        let b = (texts body inner).reads in
        let k : all (a ++ b) ≡ true = sym (ap written_at (at_cond Rest written_step test body line last h)) ∙ q in
        ap (stmt_at m) (at_cond (Marks → Rest) rest_step test body line last h)
        ∙ chosen_all (test_rest test h m) (expr_rest test h.read m) (record { test = h.test; expr = as_expr (left_of test h.read m) }) (rests body inner m) (expr_kept test h.read m (first a b k)) (bodies body each inner m (second a b k));
    bind = λ var value body line last each h m q.
        let inner = behind value h in
        let a = reads_of value h.read in
        let b = (texts body inner).reads in
        let k : all (a ++ b) ≡ true = sym (ap written_at (at_bind Rest written_step var value body line last h)) ∙ q in
        let ex = expr_rest value h.read m in
        let m' = binding m var ex.literal in
        ap (stmt_at m) (at_bind (Marks → Rest) rest_step var value body line last h)
        ∙ let_all ex.literal ex (rests body inner m') (expr_kept value h.read m (first a b k)) (bodies body each inner m' (second a b k));
    declare = λ tensor value line h m q. ap (stmt_at m) (at_declare (Marks → Rest) rest_step tensor value line h);
    freeze = λ tensor line h m q. ap (stmt_at m) (at_freeze (Marks → Rest) rest_step tensor line h);
    thaw = λ tensor line h m q. ap (stmt_at m) (at_thaw (Marks → Rest) rest_step tensor line h);
    update = λ tensor at by value line h m q.
        let ex = expr_rest value h.read m in
        ap (stmt_at m) (at_update (Marks → Rest) rest_step tensor at by value line h)
        ∙ update_all tensor at (is_identity_literal by ex.literal) ex (expr_kept value h.read m (sym (ap written_at (at_update Rest written_step tensor at by value line h)) ∙ q));
  }

  stmt_stays : (x : Stmt) → Stays x
  stmt_stays = by_kind Stays stay_cases

  pub body_stays : (body : List Stmt) (h : Here) (m : Marks) → all (texts body h).reads ≡ true → all (rests body h m).reads ≡ true
  body_stays body h m q = bodies body (all_by_kind Stays stay_cases body) h m q

pub reads_remain : ReadsRemain
reads_remain x h m = (record { text = stmt_mentions x h m; written = λ p q. stmt_stays p x h m q }, stmt_counts x h m)
