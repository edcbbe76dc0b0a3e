-- The tests in a body, each with what is known where it stands before the body is run.
use Rattle.std.proofs.Common.{◌≡◌, ◌≤◌, ◌+◌, ℕ, ℤ, pos, Bool, true, false, List, [], ◌∷◌, ◌++◌, map, Option, Some, None, refl, sym, ap, ◌∙◌, subst, if◌then◌else◌, arith}
use Rattle.std.specs.Prelude.{nat_eq}
use Rattle.std.specs.Ordering.{int_eq}
use Rattle.std.proofs.lemmas.Bool.Decides.{nat_tests}
use Rattle.fin_ast.specs.declared.tree.Index.{Index}
use Rattle.fin_ast.specs.declared.tree.Expr.{Expr}
use Rattle.fin_ast.specs.declared.tree.Expr.TheVariants.{Num}
use Rattle.fin_ast.specs.declared.tree.Stmt.{Stmt}
use Rattle.fin_ast.specs.declared.tree.Stmt.TheOpen.{Stmt-F}
use Rattle.fin_ast.specs.declared.tree.Stmt.TheVariants as s
use Rattle.fin_ast.specs.Literals.{is_worded, all_hold, worded_stmt_step, is_worded_stmt}
use Rattle.fin_ast.proofs.Nodes as node
use Rattle.fin_ast.proofs.Induction.{AllOf, Cases, all_by_kind}
use Rattle.fin_simp.specs.Numbered.{Here, behind, behind_test, past_all, past_stmt_step, past_stmt, numbered, numbered_all}
use Rattle.fin_simp.specs.Left.{Marks, nothing_known, binding, as_expr, left_of}
use Rattle.fin_simp.specs.Remaining.{is_identity_literal}
use Rattle.fin_simp.specs.Rest.{ExprRest, Test, Kind, Nothing, OneUpdate, Other, Rest, no_expr, nothing, within_kind, chosen_rest, let_rest, updating_rest, test_rest, expr_rest, rest_step, rest_of}
use Rattle.fin_simp.specs.Wording.{KnowsWords, Further}
use Rattle.fin_simp.proofs.Equations.{at_block, at_loop, at_cond, at_bind, at_declare, at_freeze, at_thaw, at_update}
use Rattle.fin_simp.proofs.Mentions.{rests}
use Rattle.fin_simp.proofs.Staying.{left_true, right_true, binding_stays, binding_words}
use Rattle.fin_work.proofs.Changing.{let_marks}

-- a test with its number, the number of its first read, and what is known there
pub record Look : Type 0 where
  pub test : ℕ
  pub expr : Expr
  pub read : ℕ
  pub marks : Marks

abbrev looks_in : List (Marks → List Look) → Marks → List Look
looks_in [] m = []
looks_in (s ∷ ss) m = s m ++ looks_in ss m

abbrev looks_step : Here → Stmt-F (Marks → List Look) → Marks → List Look
looks_step h (Stmt-F.Block body line last) m = looks_in body m
looks_step h (Stmt-F.Loop var range par body line last) m = looks_in body (binding m var None)
looks_step h (Stmt-F.Cond test body line last) m = record { test = h.test; expr = test; read = h.read; marks = m } ∷ looks_in body m
looks_step h (Stmt-F.Bind var value body line last) m = looks_in body (binding m var (expr_rest value h.read m).literal)
looks_step h (Stmt-F.Declare tensor value line) m = []
looks_step h (Stmt-F.Freeze tensor line) m = []
looks_step h (Stmt-F.Thaw tensor line) m = []
looks_step h (Stmt-F.Update tensor at by value line) m = []

abbrev pub looks_of : Stmt → Here → Marks → List Look
looks_of = numbered (Marks → List Look) looks_step

abbrev pub looks : List Stmt → Here → Marks → List Look
looks body h m = looks_in (numbered_all (Marks → List Look) looks_step body h) m

abbrev at_looks : Marks → (Marks → List Look) → List Look
at_looks m f = f m

-- ---- what is seen in each kind of statement
module _ (m : Marks) (h : Here) where
  pub looks_block : (body : List Stmt) (line last : ℕ) → looks_of (s.Block body line last) h m ≡ looks body h m
  looks_block body line last = ap (at_looks m) (at_block (Marks → List Look) looks_step body line last h)

  pub looks_loop : (var : ℕ) (range : Option (ℕ × ℕ)) (par : Bool) (body : List Stmt) (line last : ℕ) → looks_of (s.Loop var range par body line last) h m ≡ looks body h (binding m var None)
  looks_loop var range par body line last = ap (at_looks m) (at_loop (Marks → List Look) looks_step var range par body line last h)

  pub looks_cond : (test : Expr) (body : List Stmt) (line last : ℕ) → looks_of (s.Cond test body line last) h m ≡ record { test = h.test; expr = test; read = h.read; marks = m } ∷ looks body (behind_test test h) m
  looks_cond test body line last = ap (at_looks m) (at_cond (Marks → List Look) looks_step test body line last h)

  pub looks_bind : (var : ℕ) (value : Expr) (body : List Stmt) (line last : ℕ) → looks_of (s.Bind var value body line last) h m ≡ looks body (behind value h) (binding m var (expr_rest value h.read m).literal)
  looks_bind var value body line last = ap (at_looks m) (at_bind (Marks → List Look) looks_step var value body line last h)

-- ---- all of them
abbrev pub AllLooks : (Look → Type 0) → List Look → Type 0
AllLooks P [] = Unit {0}
AllLooks P (l ∷ ls) = P l × AllLooks P ls

pub each_look : (P Q : Look → Type 0) → ((l : Look) → P l → Q l) → (ls : List Look) → AllLooks P ls → AllLooks Q ls
each_look P Q f [] h = tt
each_look P Q f (l ∷ ls) h = (f l h.0, each_look P Q f ls h.1)

module _ (P : Look → Type 0) where
  pub looks_first : (xs ys : List Look) → AllLooks P (xs ++ ys) → AllLooks P xs
  looks_first [] ys h = tt
  looks_first (x ∷ xs) ys h = (h.0, looks_first xs ys h.1)

  pub looks_second : (xs ys : List Look) → AllLooks P (xs ++ ys) → AllLooks P ys
  looks_second [] ys h = h
  looks_second (x ∷ xs) ys h = looks_second xs ys h.1

  pub looks_both : (xs ys : List Look) → AllLooks P xs → AllLooks P ys → AllLooks P (xs ++ ys)
  looks_both [] ys h k = k
  looks_both (x ∷ xs) ys h k = (h.0, looks_both xs ys h.1 k)

-- ---- a test that remains is what is left of a test that is seen
abbrev pub as_test : Look → Test
as_test l = record { test = l.test; expr = as_expr (left_of l.expr l.read l.marks) }

abbrev pub AllTests : (Test → Type 0) → List Test → Type 0
AllTests P [] = Unit {0}
AllTests P (t ∷ ts) = P t × AllTests P ts

module _ (P : Test → Type 0) where
  abbrev Seen : Look → Type 0
  Seen l = P (as_test l)

  pub tests_both : (xs ys : List Test) → AllTests P xs → AllTests P ys → AllTests P (xs ++ ys)
  tests_both [] ys h k = k
  tests_both (x ∷ xs) ys h k = (h.0, tests_both xs ys h.1 k)

  tests_within : (k : Kind) (ex : ExprRest) (tests : List Test) (r : Rest) → AllTests P tests → AllTests P r.tests → AllTests P (within_kind k ex tests r).tests
  tests_within Nothing ex tests r h g = tt
  tests_within OneUpdate ex tests r h g = tests_both tests r.tests h g
  tests_within Other ex tests r h g = tests_both tests r.tests h g

  tests_either : (b : Bool) (r : Rest) → AllTests P r.tests → AllTests P (if b then nothing else r).tests
  tests_either true r h = tt
  tests_either false r h = h

  tests_chosen : (o : Option ℤ) (ex : ExprRest) (test : Test) (r : Rest) → P test → AllTests P r.tests → AllTests P (chosen_rest o ex test r).tests
  tests_chosen None ex test r h g = tests_within r.kind ex (test ∷ []) r (h, tt) g
  tests_chosen (Some n) ex test r h g = tests_either (int_eq n (pos 0)) r g

  tests_let : (o : Option ℤ) (ex : ExprRest) (r : Rest) → AllTests P r.tests → AllTests P (let_rest o ex r).tests
  tests_let None ex r g = tests_within r.kind ex [] r tt g
  tests_let (Some n) ex r g = g

  tests_update : (t : ℕ) (at : List Index) (b : Bool) (ex : ExprRest) → AllTests P (updating_rest t at b ex).tests
  tests_update t at true ex = tt
  tests_update t at false ex = tt

  abbrev Remain : Stmt → Type 0
  Remain x = (h : Here) (m : Marks) → AllLooks Seen (looks_of x h m) → AllTests P (rest_of x h m).tests

  abbrev tests_at : Marks → (Marks → Rest) → List Test
  tests_at m f = (f m).tests

  to : (xs ys : List Test) → xs ≡ ys → AllTests P ys → AllTests P xs
  to xs ys e h = subst (AllTests P) (sym e) h

  forth : (xs ys : List Look) → xs ≡ ys → AllLooks Seen xs → AllLooks Seen ys
  forth xs ys e h = subst (AllLooks Seen) e h

  remain_bodies : (body : List Stmt) → AllOf Remain body → (h : Here) (m : Marks) → AllLooks Seen (looks body h m) → AllTests P (rests body h m).tests
  remain_bodies [] each h m q = tt
  remain_bodies (x ∷ xs) each h m q =
      tests_both (rest_of x h m).tests (rests xs (past_stmt x h) m).tests (each.0 h m (looks_first Seen (looks_of x h m) (looks xs (past_stmt x h) m) q))
      (remain_bodies xs each.1 (past_stmt x h) m (looks_second Seen (looks_of x h m) (looks xs (past_stmt x h) m) q))

  remain_cases : Cases Remain
  remain_cases = record {
    block = λ body line last each h m q. to _ _ (ap (tests_at m) (at_block (Marks → Rest) rest_step body line last h)) (remain_bodies body each h m (forth _ _ (looks_block m h body line last) q));
    loop = λ var range par body line last each h m q.
        let n = binding m var None in
        to _ _ (ap (tests_at m) (at_loop (Marks → Rest) rest_step var range par body line last h)) (tests_within (rests body h n).kind no_expr [] (rests body h n) tt (remain_bodies body each h n (forth _ _ (looks_loop m h var range par body line last) q)));
    cond = λ test body line last each h m q.
        let inner = behind_test test h in
        let k = forth _ _ (looks_cond m h test body line last) q in
        to _ _ (ap (tests_at m) (at_cond (Marks → Rest) rest_step test body line last h))
        (tests_chosen (test_rest test h m) (expr_rest test h.read m) (record { test = h.test; expr = as_expr (left_of test h.read m) }) (rests body inner m) k.0 (remain_bodies body each inner m k.1));
    bind = λ var value body line last each h m q.
        let inner = behind value h in
        let ex = expr_rest value h.read m in
        let n = binding m var ex.literal in
        to _ _ (ap (tests_at m) (at_bind (Marks → Rest) rest_step var value body line last h)) (tests_let ex.literal ex (rests body inner n) (remain_bodies body each inner n (forth _ _ (looks_bind m h var value body line last) q)));
    declare = λ tensor value line h m q. to _ _ (ap (tests_at m) (at_declare (Marks → Rest) rest_step tensor value line h)) tt;
    freeze = λ tensor line h m q. to _ _ (ap (tests_at m) (at_freeze (Marks → Rest) rest_step tensor line h)) tt;
    thaw = λ tensor line h m q. to _ _ (ap (tests_at m) (at_thaw (Marks → Rest) rest_step tensor line h)) tt;
    update = λ tensor at by value line h m q.
        let ex = expr_rest value h.read m in
        to _ _ (ap (tests_at m) (at_update (Marks → Rest) rest_step tensor at by value line h)) (tests_update tensor at (is_identity_literal by ex.literal) ex);
  }

  pub remaining_tests : (body : List Stmt) (h : Here) (m : Marks) → AllLooks Seen (looks body h m) → AllTests P (rests body h m).tests
  remaining_tests body = remain_bodies body (all_by_kind Remain remain_cases body)

-- ---- where more is known
pub record Deeper (l l' : Look) : Type 0 where
  pub test : l'.test ≡ l.test
  pub expr : l'.expr ≡ l.expr
  pub read : l'.read ≡ l.read
  pub marks : Further l.marks l'.marks
  pub words : KnowsWords l'.marks
  pub worded : is_worded l.expr ≡ true

module _ (P Q : Look → Type 0) (step : (l l' : Look) → Deeper l l' → P l → Q l') where
  abbrev Deepens : Stmt → Type 0
  Deepens x = is_worded_stmt x ≡ true → (h : Here) (m m' : Marks) → KnowsWords m' → Further m m' → AllLooks P (looks_of x h m) → AllLooks Q (looks_of x h m')

  deepens_by : (xs ys xs' ys' : List Look) → xs ≡ ys → xs' ≡ ys' → (AllLooks P ys → AllLooks Q ys') → AllLooks P xs → AllLooks Q xs'
  deepens_by xs ys xs' ys' e d f k = subst (AllLooks Q) (sym d) (f (subst (AllLooks P) e k))

  deepen_bodies : (body : List Stmt) → AllOf Deepens body → all_hold (map is_worded_stmt body) ≡ true → (h : Here) (m m' : Marks) → KnowsWords m' → Further m m' → AllLooks P (looks body h m) → AllLooks Q (looks body h m')
  deepen_bodies [] all q h m m' w f k = tt
  deepen_bodies (x ∷ xs) all q h m m' w f k =
      looks_both Q (looks_of x h m') (looks xs (past_stmt x h) m')
      (all.0 (left_true (is_worded_stmt x) (all_hold (map is_worded_stmt xs)) q) h m m' w f (looks_first P (looks_of x h m) (looks xs (past_stmt x h) m) k))
      (deepen_bodies xs all.1 (right_true (is_worded_stmt x) (all_hold (map is_worded_stmt xs)) q) (past_stmt x h) m m' w f (looks_second P (looks_of x h m) (looks xs (past_stmt x h) m) k))

  none : (x : Stmt) (h : Here) (m' : Marks) (xs : List Look) → looks_of x h m' ≡ [] → AllLooks Q (looks_of x h m')
  none x h m' xs e = subst (AllLooks Q) (sym e) tt

  deepen_cases : Cases Deepens
  deepen_cases = record {
    block = λ body line last all q h m m' w f. deepens_by _ (looks body h m) _ (looks body h m') (looks_block m h body line last) (looks_block m' h body line last) (deepen_bodies body all (sym (node.of_block Bool worded_stmt_step body line last) ∙ q) h m m' w f);
    loop = λ var range par body line last all q h m m' w f. deepens_by _ (looks body h (binding m var None)) _ (looks body h (binding m' var None)) (looks_loop m h var range par body line last) (looks_loop m' h var range par body line last)
        (deepen_bodies body all (sym (node.of_loop Bool worded_stmt_step var range par body line last) ∙ q) h (binding m var None) (binding m' var None) (binding_words m' var None tt w) (binding_stays m m' var None None tt f));
    cond = λ test body line last all q h m m' w f.
        let both = sym (node.of_cond Bool worded_stmt_step test body line last) ∙ q in
        let qt = left_true (is_worded test) (all_hold (map is_worded_stmt body)) both in
        let qb = right_true (is_worded test) (all_hold (map is_worded_stmt body)) both in
        deepens_by _ (record { test = h.test; expr = test; read = h.read; marks = m } ∷ looks body (behind_test test h) m) _ (record { test = h.test; expr = test; read = h.read; marks = m' } ∷ looks body (behind_test test h) m')
        (looks_cond m h test body line last) (looks_cond m' h test body line last)
        (λ k. (step (record { test = h.test; expr = test; read = h.read; marks = m }) (record { test = h.test; expr = test; read = h.read; marks = m' }) (record { test = refl; expr = refl; read = refl; marks = f; words = w; worded = qt }) k.0, deepen_bodies body all qb (behind_test test h) m m' w f k.1));
    bind = λ var value body line last all q h m m' w f.
        let both = sym (node.of_bind Bool worded_stmt_step var value body line last) ∙ q in
        let qv = left_true (is_worded value) (all_hold (map is_worded_stmt body)) both in
        let qb = right_true (is_worded value) (all_hold (map is_worded_stmt body)) both in
        let o = expr_rest value h.read m in
        let o' = expr_rest value h.read m' in
        let two = let_marks var value qv h.read m m' w f in
        deepens_by _ (looks body (behind value h) (binding m var o.literal)) _ (looks body (behind value h) (binding m' var o'.literal)) (looks_bind m h var value body line last) (looks_bind m' h var value body line last)
        (deepen_bodies body all qb (behind value h) (binding m var o.literal) (binding m' var o'.literal) two.0 two.1);
    declare = λ tensor value line q h m m' w f k. none (s.Declare tensor value line) h m' [] (ap (at_looks m') (at_declare (Marks → List Look) looks_step tensor value line h));
    freeze = λ tensor line q h m m' w f k. none (s.Freeze tensor line) h m' [] (ap (at_looks m') (at_freeze (Marks → List Look) looks_step tensor line h));
    thaw = λ tensor line q h m m' w f k. none (s.Thaw tensor line) h m' [] (ap (at_looks m') (at_thaw (Marks → List Look) looks_step tensor line h));
    update = λ tensor at by value line q h m m' w f k. none (s.Update tensor at by value line) h m' [] (ap (at_looks m') (at_update (Marks → List Look) looks_step tensor at by value line h));
  }

  pub deeper_looks : (body : List Stmt) → all_hold (map is_worded_stmt body) ≡ true → (h : Here) (m m' : Marks) → KnowsWords m' → Further m m' → AllLooks P (looks body h m) → AllLooks Q (looks body h m')
  deeper_looks body = deepen_bodies body (all_by_kind Deepens deepen_cases body)

-- ---- tests have numbers of their own
abbrev InOrder : ℕ → List Look → ℕ → Type 0
InOrder k [] j = k ≡ j
InOrder k (l ∷ ls) j = (l.test ≡ k) × InOrder (k + 1) ls j

order_both : (k j n : ℕ) (xs ys : List Look) → InOrder k xs j → InOrder j ys n → InOrder k (xs ++ ys) n
order_both k j n [] ys p q = subst (λ (z : ℕ). InOrder z ys n) (sym p) q
order_both k j n (x ∷ xs) ys p q = (p.0, order_both (k + 1) j n xs ys p.1 q)

abbrev Ordered : Stmt → Type 0
Ordered x = (h : Here) (m : Marks) → InOrder h.test (looks_of x h m) (past_stmt x h).test

order_bodies : (body : List Stmt) → AllOf Ordered body → (h : Here) (m : Marks) → InOrder h.test (looks body h m) (past_all (map past_stmt body) h).test
order_bodies [] all h m = refl
order_bodies (x ∷ xs) all h m =
    order_both h.test (past_stmt x h).test (past_all (map past_stmt xs) (past_stmt x h)).test (looks_of x h m) (looks xs (past_stmt x h) m) (all.0 h m) (order_bodies xs all.1 (past_stmt x h) m)

order_by : (k : ℕ) (xs ys : List Look) (j n : ℕ) → xs ≡ ys → j ≡ n → InOrder k ys n → InOrder k xs j
order_by k xs ys j n e d c = subst (λ (zs : List Look). InOrder k zs j) (sym e) (subst (InOrder k ys) (sym d) c)

abbrev test_past : Here → (Here → Here) → ℕ
test_past h f = (f h).test

order_cases : Cases Ordered
order_cases = record {
  block = λ body line last all h m. order_by h.test _ (looks body h m) _ (past_all (map past_stmt body) h).test (looks_block m h body line last) (ap (test_past h) (node.of_block (Here → Here) past_stmt_step body line last)) (order_bodies body all h m);
  loop = λ var range par body line last all h m. order_by h.test _ (looks body h (binding m var None)) _ (past_all (map past_stmt body) h).test (looks_loop m h var range par body line last) (ap (test_past h) (node.of_loop (Here → Here) past_stmt_step var range par body line last)) (order_bodies body all h (binding m var None));
  cond = λ test body line last all h m. order_by h.test _ (record { test = h.test; expr = test; read = h.read; marks = m } ∷ looks body (behind_test test h) m) _ (past_all (map past_stmt body) (behind_test test h)).test (looks_cond m h test body line last)
      (ap (test_past h) (node.of_cond (Here → Here) past_stmt_step test body line last)) (refl, order_bodies body all (behind_test test h) m);
  bind = λ var value body line last all h m.
      let n = binding m var (expr_rest value h.read m).literal in
      order_by h.test _ (looks body (behind value h) n) _ (past_all (map past_stmt body) (behind value h)).test (looks_bind m h var value body line last) (ap (test_past h) (node.of_bind (Here → Here) past_stmt_step var value body line last)) (order_bodies body all (behind value h) n);
  declare = λ tensor value line h m. order_by h.test _ [] _ h.test (ap (at_looks m) (at_declare (Marks → List Look) looks_step tensor value line h)) (ap (test_past h) (node.of_declare (Here → Here) past_stmt_step tensor value line)) refl;
  freeze = λ tensor line h m. order_by h.test _ [] _ h.test (ap (at_looks m) (at_freeze (Marks → List Look) looks_step tensor line h)) (ap (test_past h) (node.of_freeze (Here → Here) past_stmt_step tensor line)) refl;
  thaw = λ tensor line h m. order_by h.test _ [] _ h.test (ap (at_looks m) (at_thaw (Marks → List Look) looks_step tensor line h)) (ap (test_past h) (node.of_thaw (Here → Here) past_stmt_step tensor line)) refl;
  update = λ tensor at by value line h m. order_by h.test _ [] _ h.test (ap (at_looks m) (at_update (Marks → List Look) looks_step tensor at by value line h)) (ap (test_past h) (node.of_update (Here → Here) past_stmt_step tensor at by value line)) refl;
}

-- each is found by its number
abbrev no_look : Look
no_look = record { test = 0; expr = Num (pos 0); read = 0; marks = nothing_known }

abbrev pub look_at : List Look → ℕ → Look
look_at [] k = no_look
look_at (l ∷ ls) k = if nat_eq l.test k then l else look_at ls k

same_eq : (n m : ℕ) → n ≡ m → nat_eq n m ≡ true
same_eq n m e = grind (arith, nat_tests)

other_eq : (n m : ℕ) → n + 1 ≤ m → nat_eq n m ≡ false
other_eq n m e = grind (arith, nat_tests)

later_tests : (k : ℕ) (ls : List Look) (j : ℕ) → InOrder k ls j → AllLooks (λ l. k ≤ l.test) ls
later_tests k [] j c = tt
later_tests k (l ∷ ls) j c = (omega (arith, c.0), each_look (λ b. k + 1 ≤ b.test) (λ b. k ≤ b.test) (λ b h. omega (arith, h)) ls (later_tests (k + 1) ls j c.1))

pub both_looks : (P Q : Look → Type 0) (ls : List Look) → AllLooks P ls → AllLooks Q ls → AllLooks (λ l. P l × Q l) ls
both_looks P Q [] p q = tt
both_looks P Q (l ∷ ls) p q = ((p.0, q.0), both_looks P Q ls p.1 q.1)

found_looks : (k : ℕ) (ls : List Look) (j : ℕ) → InOrder k ls j → AllLooks (λ l. look_at ls l.test ≡ l) ls
found_looks k [] j c = tt
found_looks k (l ∷ ls) j c = (
  ap (λ (b : Bool). if b then l else look_at ls l.test) (same_eq l.test l.test refl),
  each_look (λ b. (k + 1 ≤ b.test) × (look_at ls b.test ≡ b)) (λ b. look_at (l ∷ ls) b.test ≡ b)
      (λ b h. ap (λ (z : Bool). if z then l else look_at ls b.test) (other_eq l.test b.test (omega (arith, c.0, h.0))) ∙ h.1) ls
      (both_looks (λ b. k + 1 ≤ b.test) (λ b. look_at ls b.test ≡ b) ls (later_tests (k + 1) ls j c.1) (found_looks (k + 1) ls j c.1)),
)

pub all_looks_found : (body : List Stmt) (h : Here) (m : Marks) → AllLooks (λ l. look_at (looks body h m) l.test ≡ l) (looks body h m)
all_looks_found body h m = found_looks h.test (looks body h m) (past_all (map past_stmt body) h).test (order_bodies body (all_by_kind Ordered order_cases body) h m)
