-- The reads that are left of statements have ascending numbers, and so have the tests.
use Rattle.std.proofs.Common.{◌≡◌, ℕ, ◌+◌, ◌≤◌, ℤ, pos, Bool, true, false, List, [], ◌∷◌, ◌++◌, map, Option, Some, None, sym, ap, subst, arith, if◌then◌else◌}
use Rattle.std.specs.Ordering.{int_eq}
use Rattle.std.proofs.lemmas.List.{map-append}
use Rattle.fin_ast.specs.declared.tree.Expr.{Expr}
use Rattle.fin_ast.specs.declared.tree.Index.{Index}
use Rattle.fin_ast.specs.declared.tree.Stmt.{Stmt}
use Rattle.fin_ast.proofs.Induction.{AllOf, Cases, all_by_kind}
use Rattle.fin_ast.proofs.Nodes as node
use Rattle.fin_simp.specs.Numbered.{Here, past_step, past_expr, behind, behind_test, past_all, past_stmt_step, past_stmt, numbered_all}
use Rattle.fin_simp.specs.Left.{Marks, binding, as_expr, left_of}
use Rattle.fin_simp.specs.Remaining.{joined_literal, turned_literal, is_identity_literal}
use Rattle.fin_simp.specs.Rest.{Access, Test, ExprRest, open_rest, rest_or, expr_rest_step, expr_rest, Kind, Nothing, OneUpdate, Other, Rest, nothing, beside, all_rest, no_expr, within_kind, chosen_rest, let_rest, updating_rest, test_rest, rest_step, rest_of, written_expr_step, reads_of, written_with, all_written, written_step, written}
use Rattle.fin_simp.specs.Found.{numbers_of}
use Rattle.fin_simp.proofs.Equations.{at_num, at_var, at_read, at_neg, at_two, at_block, at_loop, at_cond, at_bind, at_declare, at_freeze, at_thaw, at_update}
use Rattle.fin_simp.proofs.Induction.{ExprCases, by_expr}
use Rattle.fin_perform.specs.Places.{left_of_all}
use Rattle.fin_simp.specs.Work.{Context}

-- ---- numbers

-- from one on and below another
abbrev pub Ascend : ℕ → ℕ → List ℕ → Type 0
Ascend lo hi [] = lo ≤ hi
Ascend lo hi (n ∷ ns) = (lo ≤ n) × Ascend (n + 1) hi ns

pub wider : (a b c : ℕ) (ns : List ℕ) → a ≤ b → Ascend b c ns → Ascend a c ns
wider a b c [] le h = omega (arith, le, h)
wider a b c (n ∷ ns) le h = (omega (arith, le, h.0), h.1)

in_order : (a b : ℕ) (ns : List ℕ) → Ascend a b ns → a ≤ b
in_order a b [] h = h
in_order a b (n ∷ ns) h = omega (arith, in_order (n + 1) b ns h.1, h.0)

joined : (a b c : ℕ) (xs ys : List ℕ) → Ascend a b xs → Ascend b c ys → Ascend a c (xs ++ ys)
joined a b c [] ys h k = wider a b c ys h k
joined a b c (x ∷ xs) ys h k = (h.0, joined (x + 1) b c xs ys h.1 k)

still : (k : ℕ) → k ≤ k
still k = omega arith

as_are : (k p q : ℕ) (xs ys : List ℕ) → p ≡ q → xs ≡ ys → Ascend k q ys → Ascend k p xs
as_are k p q xs ys e f h = subst (λ (r : ℕ). Ascend k r xs) (sym e) (subst (Ascend k q) (sym f) h)

-- ---- expressions

or_rest : (o : Option ℤ) (r : ExprRest) (k p : ℕ) → Ascend k p (numbers_of r.reads) → Ascend k p (numbers_of (rest_or o r).reads)
or_rest None r k p h = h
or_rest (Some n) r k p h = in_order k p (numbers_of r.reads) h

two_reads : (a b c : ℕ) (xs ys : List Access) → Ascend a b (numbers_of xs) → Ascend b c (numbers_of ys) → Ascend a c (numbers_of (xs ++ ys))
two_reads a b c xs ys h k = subst (Ascend a c) (sym (map-append (λ (a : Access). a.read) xs ys)) (joined a b c (numbers_of xs) (numbers_of ys) h k)

abbrev at_k : ℕ → (ℕ → ℕ) → ℕ
at_k k f = f k

abbrev Ordered : Expr → Type 0
Ordered x = (k : ℕ) (m : Marks) → Ascend k (past_expr x k) (numbers_of (expr_rest x k m).reads)

abbrev left_at : Marks → (Marks → ExprRest) → List ℕ
left_at m f = numbers_of (f m).reads

ordered_cases : ExprCases Ordered
ordered_cases = record {
  num = λ n k m. as_are k _ k _ [] (ap (at_k k) (node.of_num (ℕ → ℕ) past_step n)) (ap (left_at m) (at_num (Marks → ExprRest) expr_rest_step n k)) (still k);
  var = λ var line k m. as_are k _ k _ _ (ap (at_k k) (node.of_var (ℕ → ℕ) past_step var line)) (ap (left_at m) (at_var (Marks → ExprRest) expr_rest_step var line k))
      (or_rest (m.vars var) (open_rest [] (var ∷ [])) k k (still k));
  read = λ tensor at line k m.
      as_are k _ (k + 1) _ _ (ap (at_k k) (node.of_read (ℕ → ℕ) past_step tensor at line)) (ap (left_at m) (at_read (Marks → ExprRest) expr_rest_step tensor at line k))
      (or_rest (m.reads k) (open_rest (record { read = k; tensor = tensor; at = at } ∷ []) []) k (k + 1) (still k, still (k + 1)));
  neg = λ x h k m. as_are k _ (past_expr x k) _ _ (ap (at_k k) (node.of_neg (ℕ → ℕ) past_step x)) (ap (left_at m) (at_neg (Marks → ExprRest) expr_rest_step x k))
      (or_rest (turned_literal (expr_rest x k m).literal) (expr_rest x k m) k (past_expr x k) (h k m));
  two = λ o x y hx hy k m.
      let j = past_expr x k in
      let a = expr_rest x k m in
      let b = expr_rest y j m in
      as_are k _ (past_expr y j) _ _ (ap (at_k k) (node.of_two (ℕ → ℕ) past_step o x y)) (ap (left_at m) (at_two (Marks → ExprRest) expr_rest_step o x y k))
      (or_rest (joined_literal o a.literal b.literal) (open_rest (a.reads ++ b.reads) (a.vars ++ b.vars)) k (past_expr y j)
      (two_reads k j (past_expr y j) a.reads b.reads (hx k m) (hy j m)));
}

ordered : (x : Expr) → Ordered x
ordered = by_expr Ordered ordered_cases

abbrev InOrder : Expr → Type 0
InOrder x = (k : ℕ) → Ascend k (past_expr x k) (numbers_of (reads_of x k))

written_cases : ExprCases InOrder
written_cases = record {
  num = λ n k. as_are k _ k _ [] (ap (at_k k) (node.of_num (ℕ → ℕ) past_step n)) (ap numbers_of (at_num (List Access) written_expr_step n k)) (still k);
  var = λ var line k. as_are k _ k _ [] (ap (at_k k) (node.of_var (ℕ → ℕ) past_step var line)) (ap numbers_of (at_var (List Access) written_expr_step var line k)) (still k);
  read = λ tensor at line k.
      as_are k _ (k + 1) _ (k ∷ []) (ap (at_k k) (node.of_read (ℕ → ℕ) past_step tensor at line)) (ap numbers_of (at_read (List Access) written_expr_step tensor at line k))
      (still k, still (k + 1));
  neg = λ x h k. as_are k _ (past_expr x k) _ _ (ap (at_k k) (node.of_neg (ℕ → ℕ) past_step x)) (ap numbers_of (at_neg (List Access) written_expr_step x k)) (h k);
  two = λ o x y hx hy k.
      let j = past_expr x k in
      as_are k _ (past_expr y j) _ _ (ap (at_k k) (node.of_two (ℕ → ℕ) past_step o x y)) (ap numbers_of (at_two (List Access) written_expr_step o x y k))
      (two_reads k j (past_expr y j) (reads_of x k) (reads_of y j) (hx k) (hy j));
}

written_order : (x : Expr) → InOrder x
written_order = by_expr InOrder written_cases

-- ---- what is left of a statement

abbrev pub tests_of : List Test → List ℕ
tests_of ts = map (λ (t : Test). t.test) ts

-- reads and tests between two places
abbrev pub Between : Here → Here → Rest → Type 0
Between h h' r = Ascend h.read h'.read (numbers_of r.reads) × Ascend h.test h'.test (tests_of r.tests)

both : (a b c : Here) (xs ys : List Access) (ts us : List Test) → Ascend a.read b.read (numbers_of xs) → Ascend a.test b.test (tests_of ts) → Ascend b.read c.read (numbers_of ys)
    → Ascend b.test c.test (tests_of us) → Ascend a.read c.read (numbers_of (xs ++ ys)) × Ascend a.test c.test (tests_of (ts ++ us))
both a b c xs ys ts us h i j k = (
  two_reads a.read b.read c.read xs ys h j,
  subst (Ascend a.test c.test) (sym (map-append (λ (t : Test). t.test) ts us)) (joined a.test b.test c.test (tests_of ts) (tests_of us) i k),
)

beside_between : (a b c : Here) (r s : Rest) → Between a b r → Between b c s → Between a c (beside r s)
beside_between a b c r s h k = both a b c r.reads s.reads r.tests s.tests h.0 h.1 k.0 k.1

moved : (h h' h'' : Here) (r r' : Rest) → h' ≡ h'' → r ≡ r' → Between h h'' r' → Between h h' r
moved h h' h'' r r' e f k = subst (λ (i : Here). Between h i r) (sym e) (subst (Between h h'') (sym f) k)

empty : (h h' : Here) (r : Rest) → Between h h' r → Between h h' nothing
empty h h' r k = (in_order h.read h'.read (numbers_of r.reads) k.0, in_order h.test h'.test (tests_of r.tests) k.1)

-- behind numbers that aren't left
later : (h i h' : Here) (ns ts : List ℕ) (r : Rest) → Ascend h.read i.read ns → Ascend h.test i.test ts → Between i h' r → Between h h' r
later h i h' ns ts r a b k = (
  wider h.read i.read h'.read (numbers_of r.reads) (in_order h.read i.read ns a) k.0,
  wider h.test i.test h'.test (tests_of r.tests) (in_order h.test i.test ts b) k.1,
)

within_between : (k : Kind) (e : ExprRest) (ts : List Test) (body : Rest) (h i h' : Here) → Ascend h.read i.read (numbers_of e.reads) → Ascend h.test i.test (tests_of ts) → Between i h' body
    → Between h h' (within_kind k e ts body)
within_between Nothing e ts body h i h' a b c = empty h h' body (later h i h' (numbers_of e.reads) (tests_of ts) body a b c)
within_between OneUpdate e ts body h i h' a b c = both h i h' e.reads body.reads ts body.tests a b c.0 c.1
within_between Other e ts body h i h' a b c = both h i h' e.reads body.reads ts body.tests a b c.0 c.1

if_between : (c : Bool) (h h' : Here) (r : Rest) → Between h h' r → Between h h' (if c then nothing else r)
if_between true h h' r k = empty h h' r k
if_between false h h' r k = k

chosen_between : (o : Option ℤ) (e : ExprRest) (t : Test) (body : Rest) (h i h' : Here) → Ascend h.read i.read (numbers_of e.reads) → Ascend h.test i.test (t.test ∷ []) → Between i h' body
    → Between h h' (chosen_rest o e t body)
chosen_between None e t body h i h' a b c = within_between body.kind e (t ∷ []) body h i h' a b c
chosen_between (Some n) e t body h i h' a b c = if_between (int_eq n (pos 0)) h h' body (later h i h' (numbers_of e.reads) (t.test ∷ []) body a b c)

let_between : (o : Option ℤ) (e : ExprRest) (body : Rest) (h i h' : Here) → Ascend h.read i.read (numbers_of e.reads) → h.test ≤ i.test → Between i h' body → Between h h' (let_rest o e body)
let_between None e body h i h' a b c = within_between body.kind e [] body h i h' a b c
let_between (Some n) e body h i h' a b c = later h i h' (numbers_of e.reads) [] body a b c

update_between : (tensor : ℕ) (at : List Index) (c : Bool) (e : ExprRest) (h i : Here) → Ascend h.read i.read (numbers_of e.reads) → h.test ≤ i.test → Between h i (updating_rest tensor at c e)
update_between tensor at true e h i a b = (in_order h.read i.read (numbers_of e.reads) a, b)
update_between tensor at false e h i a b = (a, b)

same_place : (h : Here) → Between h h nothing
same_place h = (still h.read, still h.test)

-- ---- under what is known

abbrev at_h : Here → (Here → Here) → Here
at_h h f = f h

abbrev rest_at : Marks → (Marks → Rest) → Rest
rest_at m f = f m

abbrev rests : List Stmt → Here → Marks → Rest
rests body h m = all_rest (numbered_all (Marks → Rest) rest_step body h) m

abbrev past_body : List Stmt → Here → Here
past_body body h = past_all (map past_stmt body) h

abbrev Left : Stmt → Type 0
Left x = (h : Here) (m : Marks) → Between h (past_stmt x h) (rest_of x h m)

bodies : (body : List Stmt) → AllOf Left body → (h : Here) (m : Marks) → Between h (past_body body h) (rests body h m)
bodies [] all h m = same_place h
bodies (x ∷ xs) all h m =
    let i = past_stmt x h in
    beside_between h i (past_body xs i) (rest_of x h m) (rests xs i m) (all.0 h m) (bodies xs all.1 i m)

left_cases : Cases Left
left_cases = record {
  block = λ body line last all h m.
      moved h _ (past_body body h) _ (rests body h m) (ap (at_h h) (node.of_block (Here → Here) past_stmt_step body line last))
      (ap (rest_at m) (at_block (Marks → Rest) rest_step body line last h)) (bodies body all h m);
  loop = λ var range par body line last all h m.
      let inside = rests body h (binding m var None) in
      moved h _ (past_body body h) _ _ (ap (at_h h) (node.of_loop (Here → Here) past_stmt_step var range par body line last))
      (ap (rest_at m) (at_loop (Marks → Rest) rest_step var range par body line last h))
      (within_between inside.kind no_expr [] inside h h (past_body body h) (still h.read) (still h.test) (bodies body all h (binding m var None)));
  cond = λ test body line last all h m.
      let i = behind_test test h in
      moved h _ (past_body body i) _ _ (ap (at_h h) (node.of_cond (Here → Here) past_stmt_step test body line last))
      (ap (rest_at m) (at_cond (Marks → Rest) rest_step test body line last h))
      (chosen_between (test_rest test h m) (expr_rest test h.read m) (record { test = h.test; expr = as_expr (left_of test h.read m) }) (rests body i m) h i (past_body body i)
      (ordered test h.read m) (still h.test, still (h.test + 1)) (bodies body all i m));
  bind = λ var value body line last all h m.
      let i = behind value h in
      let e = expr_rest value h.read m in
      let inside = binding m var e.literal in
      moved h _ (past_body body i) _ _ (ap (at_h h) (node.of_bind (Here → Here) past_stmt_step var value body line last))
      (ap (rest_at m) (at_bind (Marks → Rest) rest_step var value body line last h))
      (let_between e.literal e (rests body i inside) h i (past_body body i) (ordered value h.read m) (still h.test) (bodies body all i inside));
  declare = λ tensor value line h m.
      moved h _ h _ _ (ap (at_h h) (node.of_declare (Here → Here) past_stmt_step tensor value line)) (ap (rest_at m) (at_declare (Marks → Rest) rest_step tensor value line h))
      (same_place h);
  freeze = λ tensor line h m.
      moved h _ h _ _ (ap (at_h h) (node.of_freeze (Here → Here) past_stmt_step tensor line)) (ap (rest_at m) (at_freeze (Marks → Rest) rest_step tensor line h)) (same_place h);
  thaw = λ tensor line h m.
      moved h _ h _ _ (ap (at_h h) (node.of_thaw (Here → Here) past_stmt_step tensor line)) (ap (rest_at m) (at_thaw (Marks → Rest) rest_step tensor line h)) (same_place h);
  update = λ tensor at by value line h m.
      let e = expr_rest value h.read m in
      moved h _ (behind value h) _ _ (ap (at_h h) (node.of_update (Here → Here) past_stmt_step tensor at by value line))
      (ap (rest_at m) (at_update (Marks → Rest) rest_step tensor at by value line h))
      (update_between tensor at (is_identity_literal by e.literal) e h (behind value h) (ordered value h.read m) (still h.test));
}

-- ---- as it is written

abbrev writtens : List Stmt → Here → Rest
writtens body h = all_written (numbered_all Rest written_step body h)

abbrev Written : Stmt → Type 0
Written x = (h : Here) → Between h (past_stmt x h) (written x h)

all_in_order : (body : List Stmt) → AllOf Written body → (h : Here) → Between h (past_body body h) (writtens body h)
all_in_order [] all h = (still h.read, still h.test)
all_in_order (x ∷ xs) all h =
    let i = past_stmt x h in
    beside_between h i (past_body xs i) (written x h) (writtens xs i) (all.0 h) (all_in_order xs all.1 i)

text_cases : Cases Written
text_cases = record {
  block = λ body line last all h.
      moved h _ (past_body body h) _ (writtens body h) (ap (at_h h) (node.of_block (Here → Here) past_stmt_step body line last)) (at_block Rest written_step body line last h)
      (all_in_order body all h);
  loop = λ var range par body line last all h.
      moved h _ (past_body body h) _ (writtens body h) (ap (at_h h) (node.of_loop (Here → Here) past_stmt_step var range par body line last))
      (at_loop Rest written_step var range par body line last h) (all_in_order body all h);
  cond = λ test body line last all h.
      let i = behind_test test h in
      moved h _ (past_body body i) _ _ (ap (at_h h) (node.of_cond (Here → Here) past_stmt_step test body line last)) (at_cond Rest written_step test body line last h)
      (beside_between h i (past_body body i) (written_with (reads_of test h.read) (record { test = h.test; expr = test } ∷ []) []) (writtens body i)
      (written_order test h.read, (still h.test, still (h.test + 1))) (all_in_order body all i));
  bind = λ var value body line last all h.
      let i = behind value h in
      moved h _ (past_body body i) _ _ (ap (at_h h) (node.of_bind (Here → Here) past_stmt_step var value body line last)) (at_bind Rest written_step var value body line last h)
      (beside_between h i (past_body body i) (written_with (reads_of value h.read) [] []) (writtens body i) (written_order value h.read, still h.test) (all_in_order body all i));
  declare = λ tensor value line h.
      moved h _ h _ _ (ap (at_h h) (node.of_declare (Here → Here) past_stmt_step tensor value line)) (at_declare Rest written_step tensor value line h) (still h.read, still h.test);
  freeze = λ tensor line h.
      moved h _ h _ _ (ap (at_h h) (node.of_freeze (Here → Here) past_stmt_step tensor line)) (at_freeze Rest written_step tensor line h) (still h.read, still h.test);
  thaw = λ tensor line h.
      moved h _ h _ _ (ap (at_h h) (node.of_thaw (Here → Here) past_stmt_step tensor line)) (at_thaw Rest written_step tensor line h) (still h.read, still h.test);
  update = λ tensor at by value line h.
      moved h _ (behind value h) _ _ (ap (at_h h) (node.of_update (Here → Here) past_stmt_step tensor at by value line)) (at_update Rest written_step tensor at by value line h)
      (written_order value h.read, still h.test);
}

-- ---- of a body

pub left_between : (ctx : Context) (body : List Stmt) (h : Here) → Between h (past_body body h) (left_of_all body h ctx)
left_between None body h = all_in_order body (all_by_kind Written text_cases body) h
left_between (Some m) body h = bodies body (all_by_kind Left left_cases body) h m
