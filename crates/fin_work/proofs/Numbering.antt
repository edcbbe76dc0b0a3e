-- The reads of a text have numbers of their own, and those that remain of it are among them.
use Rattle.std.proofs.Common.{◌≡◌, ◌≤◌, ◌+◌, ℕ, ℤ, pos, Bool, true, false, List, [], ◌∷◌, ◌++◌, map, Option, Some, None, refl, sym, ap, ◌∙◌, subst, if◌then◌else◌, arith}
use Rattle.std.specs.Prelude.{nat_eq}
use Rattle.std.specs.Ordering.{int_eq}
use Rattle.std.proofs.lemmas.Bool.Decides.{nat_tests}
use Rattle.fin_ast.specs.declared.tree.Index.{Index}
use Rattle.fin_ast.specs.declared.tree.Expr.{Expr}
use Rattle.fin_ast.specs.declared.tree.Stmt.{Stmt}
use Rattle.fin_ast.proofs.Nodes as node
use Rattle.fin_ast.proofs.Induction.{AllOf, Cases, all_by_kind}
use Rattle.fin_simp.specs.Numbered.{Here, past_step, past_expr, behind, behind_test, past_all, past_stmt_step, past_stmt, numbered_all}
use Rattle.fin_simp.specs.Left.{Marks, binding, as_expr, left_of}
use Rattle.fin_simp.specs.Remaining.{joined_literal, turned_literal, is_identity_literal}
use Rattle.fin_simp.specs.Rest.{Access, ExprRest, Test, Kind, Nothing, OneUpdate, Other, Rest, no_expr, open_rest, rest_or, nothing, within_kind, chosen_rest, let_rest, updating_rest, test_rest, expr_rest_step, expr_rest, rest_step, rest_of, written_expr_step, reads_of, all_written, written_step, written}
use Rattle.fin_simp.proofs.Induction.{ExprCases, by_expr}
use Rattle.fin_simp.proofs.Equations.{at_num, at_var, at_read, at_neg, at_two, at_block, at_loop, at_cond, at_bind, at_declare, at_freeze, at_thaw, at_update}
use Rattle.fin_simp.proofs.Mentions.{rests}

abbrev pub texts : List Stmt → Here → Rest
texts body h = all_written (numbered_all Rest written_step body h)

-- ---- numbers one after another
abbrev pub Consecutive : ℕ → List Access → ℕ → Type 0
Consecutive k [] j = k ≡ j
Consecutive k (a ∷ more) j = (a.read ≡ k) × Consecutive (k + 1) more j

in_order : (k j l : ℕ) (xs ys : List Access) → Consecutive k xs j → Consecutive j ys l → Consecutive k (xs ++ ys) l
in_order k j l [] ys p q = subst (λ (n : ℕ). Consecutive n ys l) (sym p) q
in_order k j l (x ∷ xs) ys p q = (p.0, in_order (k + 1) j l xs ys p.1 q)

abbrev Counted : Expr → Type 0
Counted x = (k : ℕ) → Consecutive k (reads_of x k) (past_expr x k)

counted_by : (k : ℕ) (xs ys : List Access) (j l : ℕ) → xs ≡ ys → j ≡ l → Consecutive k ys l → Consecutive k xs j
counted_by k xs ys j l e d c = subst (λ (zs : List Access). Consecutive k zs j) (sym e) (subst (Consecutive k ys) (sym d) c)

abbrev past_of : ℕ → (ℕ → ℕ) → ℕ
past_of k f = f k

counted_cases : ExprCases Counted
counted_cases = record {
  num = λ n k. counted_by k _ [] _ k (at_num (List Access) written_expr_step n k) (ap (past_of k) (node.of_num (ℕ → ℕ) past_step n)) refl;
  var = λ x line k. counted_by k _ [] _ k (at_var (List Access) written_expr_step x line k) (ap (past_of k) (node.of_var (ℕ → ℕ) past_step x line)) refl;
  read = λ tensor at line k. counted_by k _ (record { read = k; tensor = tensor; at = at } ∷ []) _ (k + 1) (at_read (List Access) written_expr_step tensor at line k) (ap (past_of k) (node.of_read (ℕ → ℕ) past_step tensor at line)) (refl, refl);
  neg = λ x hx k. counted_by k _ (reads_of x k) _ (past_expr x k) (at_neg (List Access) written_expr_step x k) (ap (past_of k) (node.of_neg (ℕ → ℕ) past_step x)) (hx k);
  two = λ o x y hx hy k. counted_by k _ (reads_of x k ++ reads_of y (past_expr x k)) _ (past_expr y (past_expr x k)) (at_two (List Access) written_expr_step o x y k) (ap (past_of k) (node.of_two (ℕ → ℕ) past_step o x y))
      (in_order k (past_expr x k) (past_expr y (past_expr x k)) (reads_of x k) (reads_of y (past_expr x k)) (hx k) (hy (past_expr x k)));
}

counted : (x : Expr) → Counted x
counted = by_expr Counted counted_cases

abbrev Numbers' : Stmt → Type 0
Numbers' x = (h : Here) → Consecutive h.read (written x h).reads (past_stmt x h).read

bodies_numbered : (xs : List Stmt) → AllOf Numbers' xs → (h : Here) → Consecutive h.read (texts xs h).reads (past_all (map past_stmt xs) h).read
bodies_numbered [] all h = refl
bodies_numbered (x ∷ xs) all h =
    in_order h.read (past_stmt x h).read (past_all (map past_stmt xs) (past_stmt x h)).read (written x h).reads (texts xs (past_stmt x h)).reads (all.0 h) (bodies_numbered xs all.1 (past_stmt x h))

abbrev reads_in : Rest → List Access
reads_in r = r.reads

abbrev read_past : Here → (Here → Here) → ℕ
read_past h f = (f h).read

numbers_cases : Cases Numbers'
numbers_cases = record {
  block = λ body line last all h. counted_by h.read _ (texts body h).reads _ (past_all (map past_stmt body) h).read (ap reads_in (at_block Rest written_step body line last h)) (ap (read_past h) (node.of_block (Here → Here) past_stmt_step body line last)) (bodies_numbered body all h);
  loop = λ var range par body line last all h. counted_by h.read _ (texts body h).reads _ (past_all (map past_stmt body) h).read (ap reads_in (at_loop Rest written_step var range par body line last h)) (ap (read_past h) (node.of_loop (Here → Here) past_stmt_step var range par body line last)) (bodies_numbered body all h);
  cond = λ test body line last all h.
      let inner = behind_test test h in
      counted_by h.read _ (reads_of test h.read ++ (texts body inner).reads) _ (past_all (map past_stmt body) inner).read (ap reads_in (at_cond Rest written_step test body line last h)) (ap (read_past h) (node.of_cond (Here → Here) past_stmt_step test body line last))
      (in_order h.read (past_expr test h.read) (past_all (map past_stmt body) inner).read (reads_of test h.read) (texts body inner).reads (counted test h.read) (bodies_numbered body all inner));
  bind = λ var value body line last all h.
      let inner = behind value h in
      counted_by h.read _ (reads_of value h.read ++ (texts body inner).reads) _ (past_all (map past_stmt body) inner).read (ap reads_in (at_bind Rest written_step var value body line last h)) (ap (read_past h) (node.of_bind (Here → Here) past_stmt_step var value body line last))
      (in_order h.read (past_expr value h.read) (past_all (map past_stmt body) inner).read (reads_of value h.read) (texts body inner).reads (counted value h.read) (bodies_numbered body all inner));
  declare = λ t value line h. counted_by h.read _ [] _ h.read (ap reads_in (at_declare Rest written_step t value line h)) (ap (read_past h) (node.of_declare (Here → Here) past_stmt_step t value line)) refl;
  freeze = λ t line h. counted_by h.read _ [] _ h.read (ap reads_in (at_freeze Rest written_step t line h)) (ap (read_past h) (node.of_freeze (Here → Here) past_stmt_step t line)) refl;
  thaw = λ t line h. counted_by h.read _ [] _ h.read (ap reads_in (at_thaw Rest written_step t line h)) (ap (read_past h) (node.of_thaw (Here → Here) past_stmt_step t line)) refl;
  update = λ t at by value line h. counted_by h.read _ (reads_of value h.read) _ (past_expr value h.read) (ap reads_in (at_update Rest written_step t at by value line h)) (ap (read_past h) (node.of_update (Here → Here) past_stmt_step t at by value line)) (counted value h.read);
}

pub body_numbered : (xs : List Stmt) (h : Here) → Consecutive h.read (texts xs h).reads (past_all (map past_stmt xs) h).read
body_numbered xs = bodies_numbered xs (all_by_kind Numbers' numbers_cases xs)

-- ---- each access is found by its number
abbrev pub AllReads : (Access → Type 0) → List Access → Type 0
AllReads P [] = Unit {0}
AllReads P (a ∷ more) = P a × AllReads P more

abbrev pub lookup : List Access → ℕ → ℕ × List Index
lookup [] k = (0, [])
lookup (a ∷ more) k = if nat_eq a.read k then (a.tensor, a.at) else lookup more k

pub each_read : (P Q : Access → Type 0) → ((a : Access) → P a → Q a) → (more : List Access) → AllReads P more → AllReads Q more
each_read P Q f [] h = tt
each_read P Q f (a ∷ more) h = (f a h.0, each_read P Q f more h.1)

both_reads : (P Q : Access → Type 0) (more : List Access) → AllReads P more → AllReads Q more → AllReads (λ a. P a × Q a) more
both_reads P Q [] p q = tt
both_reads P Q (a ∷ more) p q = ((p.0, q.0), both_reads P Q more p.1 q.1)

later_numbers : (k : ℕ) (more : List Access) (j : ℕ) → Consecutive k more j → AllReads (λ a. k ≤ a.read) more
later_numbers k [] j c = tt
later_numbers k (a ∷ more) j c = (omega (arith, c.0), each_read (λ b. k + 1 ≤ b.read) (λ b. k ≤ b.read) (λ b h. omega (arith, h)) more (later_numbers (k + 1) more j c.1))

same_eq : (n m : ℕ) → n ≡ m → nat_eq n m ≡ true
same_eq n m e = grind (arith, nat_tests)

other_eq : (n m : ℕ) → n + 1 ≤ m → nat_eq n m ≡ false
other_eq n m e = grind (arith, nat_tests)

pub all_found : (k : ℕ) (more : List Access) (j : ℕ) → Consecutive k more j → AllReads (λ a. lookup more a.read ≡ (a.tensor, a.at)) more
all_found k [] j c = tt
all_found k (a ∷ more) j c = (
  ap (λ (b : Bool). if b then (a.tensor, a.at) else lookup more a.read) (same_eq a.read a.read refl),
  each_read (λ b. (k + 1 ≤ b.read) × (lookup more b.read ≡ (b.tensor, b.at))) (λ b. lookup (a ∷ more) b.read ≡ (b.tensor, b.at))
      (λ b h. ap (λ (z : Bool). if z then (a.tensor, a.at) else lookup more b.read) (other_eq a.read b.read (omega (arith, c.0, h.0))) ∙ h.1) more
      (both_reads (λ b. k + 1 ≤ b.read) (λ b. lookup more b.read ≡ (b.tensor, b.at)) more (later_numbers (k + 1) more j c.1) (all_found (k + 1) more j c.1)),
)

-- ---- what holds of the accesses of a text holds of those that remain
module _ (P : Access → Type 0) where
  abbrev all : List Access → Type 0
  all more = AllReads P more

  pub reads_both : (xs ys : List Access) → all xs → all ys → all (xs ++ ys)
  reads_both [] ys h k = k
  reads_both (x ∷ xs) ys h k = (h.0, reads_both xs ys h.1 k)

  pub reads_first : (xs ys : List Access) → all (xs ++ ys) → all xs
  reads_first [] ys h = tt
  reads_first (x ∷ xs) ys h = (h.0, reads_first xs ys h.1)

  pub reads_second : (xs ys : List Access) → all (xs ++ ys) → all ys
  reads_second [] ys h = h
  reads_second (x ∷ xs) ys h = reads_second xs ys h.1

  or_all : (o : Option ℤ) (r : ExprRest) → all r.reads → all (rest_or o r).reads
  or_all None r h = h
  or_all (Some n) r h = tt

  abbrev Kept : Expr → Type 0
  Kept x = (k : ℕ) (m : Marks) → all (reads_of x k) → all (expr_rest x k m).reads

  abbrev expr_at : Marks → (Marks → ExprRest) → ExprRest
  expr_at m f = f m

  back : (r r' : ExprRest) → r ≡ r' → all r'.reads → all r.reads
  back r r' e h = subst (λ (x : ExprRest). all x.reads) (sym e) h

  forth : (xs ys : List Access) → xs ≡ ys → all xs → all ys
  forth xs ys e h = subst all e h

  kept_cases : ExprCases Kept
  kept_cases = record {
    num = λ n k m h. back _ _ (ap (expr_at m) (at_num (Marks → ExprRest) expr_rest_step n k)) tt;
    var = λ var line k m h. back _ _ (ap (expr_at m) (at_var (Marks → ExprRest) expr_rest_step var line k)) (or_all (m.vars var) (open_rest [] (var ∷ [])) tt);
    read = λ tensor at line k m h. back _ _ (ap (expr_at m) (at_read (Marks → ExprRest) expr_rest_step tensor at line k))
        (or_all (m.reads k) (open_rest (record { read = k; tensor = tensor; at = at } ∷ []) []) (forth _ _ (at_read (List Access) written_expr_step tensor at line k) h));
    neg = λ x hx k m h. back _ _ (ap (expr_at m) (at_neg (Marks → ExprRest) expr_rest_step x k)) (or_all (turned_literal (expr_rest x k m).literal) (expr_rest x k m) (hx k m (forth _ _ (at_neg (List Access) written_expr_step x k) h)));
    two = λ o x y hx hy k m h.
        let a = expr_rest x k m in
        let b = expr_rest y (past_expr x k) m in
        let xs = reads_of x k in
        let ys = reads_of y (past_expr x k) in
        let q : all (xs ++ ys) = forth _ _ (at_two (List Access) written_expr_step o x y k) h in
        back _ _ (ap (expr_at m) (at_two (Marks → ExprRest) expr_rest_step o x y k))
        (or_all (joined_literal o a.literal b.literal) (open_rest (a.reads ++ b.reads) (a.vars ++ b.vars)) (reads_both a.reads b.reads (hx k m (reads_first xs ys q)) (hy (past_expr x k) m (reads_second xs ys q))));
  }

  expr_kept : (x : Expr) → Kept x
  expr_kept = by_expr Kept kept_cases

  within_all : (k : Kind) (ex : ExprRest) (tests : List Test) (r : Rest) → all ex.reads → all r.reads → all (within_kind k ex tests r).reads
  within_all Nothing ex tests r h g = tt
  within_all OneUpdate ex tests r h g = reads_both ex.reads r.reads h g
  within_all Other ex tests r h g = reads_both ex.reads r.reads h g

  either_all : (b : Bool) (r : Rest) → all r.reads → all (if b then nothing else r).reads
  either_all true r h = tt
  either_all false r h = h

  chosen_all : (o : Option ℤ) (ex : ExprRest) (test : Test) (r : Rest) → all ex.reads → all r.reads → all (chosen_rest o ex test r).reads
  chosen_all None ex test r h g = within_all r.kind ex (test ∷ []) r h g
  chosen_all (Some n) ex test r h g = either_all (int_eq n (pos 0)) r g

  let_all : (o : Option ℤ) (ex : ExprRest) (r : Rest) → all ex.reads → all r.reads → all (let_rest o ex r).reads
  let_all None ex r h g = within_all r.kind ex [] r h g
  let_all (Some n) ex r h g = g

  update_all : (t : ℕ) (at : List Index) (b : Bool) (ex : ExprRest) → all ex.reads → all (updating_rest t at b ex).reads
  update_all t at true ex h = tt
  update_all t at false ex h = h

  abbrev Stays : Stmt → Type 0
  Stays x = (h : Here) (m : Marks) → all (written x h).reads → all (rest_of x h m).reads

  abbrev stmt_at : Marks → (Marks → Rest) → List Access
  stmt_at m f = (f m).reads

  to : (xs ys : List Access) → xs ≡ ys → all ys → all xs
  to xs ys e h = subst all (sym e) h

  bodies : (body : List Stmt) → AllOf Stays body → (h : Here) (m : Marks) → all (texts body h).reads → all (rests body h m).reads
  bodies [] each h m q = tt
  bodies (x ∷ xs) each h m q =
      let a = (written x h).reads in
      let b = (texts xs (past_stmt x h)).reads in
      reads_both (rest_of x h m).reads (rests xs (past_stmt x h) m).reads (each.0 h m (reads_first a b q)) (bodies xs each.1 (past_stmt x h) m (reads_second a b q))

  stay_cases : Cases Stays
  stay_cases = record {
    block = λ body line last each h m q. to _ _ (ap (stmt_at m) (at_block (Marks → Rest) rest_step body line last h)) (bodies body each h m (forth _ _ (ap reads_in (at_block Rest written_step body line last h)) q));
    loop = λ var range par body line last each h m q.
        let n = binding m var None in
        to _ _ (ap (stmt_at m) (at_loop (Marks → Rest) rest_step var range par body line last h)) (within_all (rests body h n).kind no_expr [] (rests body h n) tt (bodies body each h n (forth _ _ (ap reads_in (at_loop Rest written_step var range par body line last h)) q)));
    cond = λ test body line last each h m q.
        let inner = behind_test test h in
        let a = reads_of test h.read in
        let b = (texts body inner).reads in
        let k : all (a ++ b) = forth _ _ (ap reads_in (at_cond Rest written_step test body line last h)) q in
        to _ _ (ap (stmt_at m) (at_cond (Marks → Rest) rest_step test body line last h))
        (chosen_all (test_rest test h m) (expr_rest test h.read m) (record { test = h.test; expr = as_expr (left_of test h.read m) }) (rests body inner m) (expr_kept test h.read m (reads_first a b k)) (bodies body each inner m (reads_second a b k)));
    bind = λ var value body line last each h m q.
        let inner = behind value h in
        let a = reads_of value h.read in
        let b = (texts body inner).reads in
        let k : all (a ++ b) = forth _ _ (ap reads_in (at_bind Rest written_step var value body line last h)) q in
        let ex = expr_rest value h.read m in
        let n = binding m var ex.literal in
        to _ _ (ap (stmt_at m) (at_bind (Marks → Rest) rest_step var value body line last h)) (let_all ex.literal ex (rests body inner n) (expr_kept value h.read m (reads_first a b k)) (bodies body each inner n (reads_second a b k)));
    declare = λ tensor value line h m q. to _ _ (ap (stmt_at m) (at_declare (Marks → Rest) rest_step tensor value line h)) tt;
    freeze = λ tensor line h m q. to _ _ (ap (stmt_at m) (at_freeze (Marks → Rest) rest_step tensor line h)) tt;
    thaw = λ tensor line h m q. to _ _ (ap (stmt_at m) (at_thaw (Marks → Rest) rest_step tensor line h)) tt;
    update = λ tensor at by value line h m q.
        let ex = expr_rest value h.read m in
        to _ _ (ap (stmt_at m) (at_update (Marks → Rest) rest_step tensor at by value line h)) (update_all tensor at (is_identity_literal by ex.literal) ex (expr_kept value h.read m (forth _ _ (ap reads_in (at_update Rest written_step tensor at by value line h)) q)));
  }

  pub remaining_reads : (body : List Stmt) (h : Here) (m : Marks) → all (texts body h).reads → all (rests body h m).reads
  remaining_reads body = bodies body (all_by_kind Stays stay_cases body)
