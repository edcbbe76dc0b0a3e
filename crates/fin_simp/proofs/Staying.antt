-- What is a literal, and what is nothing, stays so where more is known.
use Rattle.std.proofs.Common.{◌≡◌, ℕ, ℤ, pos, Bool, true, false, ◌&&◌, ◌||◌, List, [], ◌∷◌, map, Option, Some, None, refl, sym, ap, ◌∙◌, arith, subst, if◌then◌else◌}
use Rattle.std.specs.Prelude.{IfSome, nat_eq, int_le}
use Rattle.std.proofs.lemmas.Int.{ints}
use Rattle.std.specs.Ordering.{int_eq}
use Rattle.fin_base.specs.Words.{IsWord}
use Rattle.fin_base.specs.declared.reduce.Reduce.{Reduce}
use Rattle.fin_base.specs.declared.terms.Op.{Op}
use Rattle.fin_ast.specs.declared.tree.Expr.{Expr}
use Rattle.fin_ast.specs.declared.tree.Expr.TheVariants as e
use Rattle.fin_ast.specs.declared.tree.Stmt.{Stmt}
use Rattle.fin_ast.proofs.Nodes as node
use Rattle.fin_ast.proofs.Induction.{AllOf, Cases, by_kind, all_by_kind}
use Rattle.fin_simp.specs.Numbered.{Here, behind, behind_test, past_expr, past_stmt}
use Rattle.fin_simp.specs.Left.{Marks, binding, absorbs, fails, least, greatest}
use Rattle.fin_simp.specs.Remaining.{joined_literal, turned_literal, literal_step, literal_of, is_identity_literal, settled_literal, nothing_step, is_nothing, are_nothing}
use Rattle.fin_ast.specs.Literals.{is_word, worded_step, is_worded, all_hold, worded_stmt_step, is_worded_stmt}
use Rattle.fin_simp.specs.Wording.{KnowsWords, StaysIn, Further}
use Rattle.fin_simp.proofs.Induction.{ExprCases, by_expr}
use Rattle.fin_simp.proofs.Equations.{at_num, at_var, at_read, at_neg, at_two, at_block, at_loop, at_cond, at_bind, at_declare, at_freeze, at_thaw, at_update}
use Rattle.fin_simp.proofs.Operators.{operate_is_word, negated_is_word, absorbs_before, absorbs_after}

-- ---- tests
pub left_true : (a b : Bool) → (a && b) ≡ true → a ≡ true
left_true true b h = refl
left_true false b h = h

pub right_true : (a b : Bool) → (a && b) ≡ true → b ≡ true
right_true true b h = h
right_true false b h = cc

pub word_from : (n : ℤ) → is_word n ≡ true → IsWord n
word_from n h = let a = left_true (int_le least n) (int_le n greatest) h in let b = right_true (int_le least n) (int_le n greatest) h in grind (arith, ints, a, b)

-- ---- literals are words
absorbed_word : (o : Op) (n : ℤ) (b : Bool) → IsWord n → IfSome (if b then Some n else None) IsWord
absorbed_word o n true h = h
absorbed_word o n false h = tt

pub joined_word : (o : Op) (a b : Option ℤ) → IfSome a IsWord → IfSome b IsWord → IfSome (joined_literal o a b) IsWord
joined_word o (Some n) (Some m) p q = operate_is_word o n m p q
joined_word o (Some n) None p q = absorbed_word o n (absorbs o n) p
joined_word o None (Some m) p q = absorbed_word o m (absorbs o m) q
joined_word o None None p q = tt

turned_word : (a : Option ℤ) → IfSome (turned_literal a) IsWord
turned_word None = tt
turned_word (Some n) = negated_is_word n

abbrev LiteralWord : Expr → Type 0
LiteralWord x = is_worded x ≡ true → (k : ℕ) (m : Marks) → KnowsWords m → IfSome (literal_of x k m) IsWord

abbrev IsWordIn : Option ℤ → Type 0
IsWordIn o = IfSome o IsWord

abbrev at_marks : Marks → (Marks → Option ℤ) → Option ℤ
at_marks m f = f m

pub two_worded : (o : Op) (x y : Expr) → is_worded (e.Two o x y) ≡ true → (is_worded x && is_worded y) ≡ true
two_worded o x y h = sym (node.of_two Bool worded_step o x y) ∙ h

word_cases : ExprCases LiteralWord
word_cases = record {
  num = λ n h k m w. subst IsWordIn (sym (ap (at_marks m) (at_num (Marks → Option ℤ) literal_step n k))) (word_from n (sym (node.of_num Bool worded_step n) ∙ h));
  var = λ var line h k m w. subst IsWordIn (sym (ap (at_marks m) (at_var (Marks → Option ℤ) literal_step var line k))) (w.vars var);
  read = λ tensor at line h k m w. subst IsWordIn (sym (ap (at_marks m) (at_read (Marks → Option ℤ) literal_step tensor at line k))) (w.reads k);
  neg = λ x hx h k m w. subst IsWordIn (sym (ap (at_marks m) (at_neg (Marks → Option ℤ) literal_step x k))) (turned_word (literal_of x k m));
  two = λ o x y hx hy h k m w. subst IsWordIn (sym (ap (at_marks m) (at_two (Marks → Option ℤ) literal_step o x y k)))
      (joined_word o (literal_of x k m) (literal_of y (past_expr x k) m)
      (hx (left_true (is_worded x) (is_worded y) (two_worded o x y h)) k m w)
      (hy (right_true (is_worded x) (is_worded y) (two_worded o x y h)) (past_expr x k) m w));
}

pub literal_is_word : (x : Expr) → LiteralWord x
literal_is_word = by_expr LiteralWord word_cases

-- ---- literals stay
with_word : (o : Op) (n : ℤ) (b : Option ℤ) → absorbs o n ≡ true → IfSome b IsWord → joined_literal o (Some n) b ≡ Some n
with_word o n None h w = ap (λ c. if c then Some n else None) h
with_word o n (Some z) h w = ap (λ (x : ℤ). Some x) (absorbs_before o n z h w)

with_word_after : (o : Op) (n : ℤ) (a : Option ℤ) → absorbs o n ≡ true → IfSome a IsWord → joined_literal o a (Some n) ≡ Some n
with_word_after o n None h w = ap (λ c. if c then Some n else None) h
with_word_after o n (Some z) h w = ap (λ (x : ℤ). Some x) (absorbs_after o n z h w)

stays_if : (c : Bool) (n : ℤ) (b : Option ℤ) → (c ≡ true → b ≡ Some n) → StaysIn (if c then Some n else None) b
stays_if true n b h = h refl
stays_if false n b h = tt

pub joined_stays : (o : Op) (a b a' b' : Option ℤ) → StaysIn a a' → StaysIn b b' → IfSome a' IsWord → IfSome b' IsWord → StaysIn (joined_literal o a b) (joined_literal o a' b')
joined_stays o (Some n) (Some m) a' b' p q v w = ap (λ x. joined_literal o x b') p ∙ ap (joined_literal o (Some n)) q
joined_stays o (Some n) None a' b' p q v w = stays_if (absorbs o n) n (joined_literal o a' b') (λ h. ap (λ x. joined_literal o x b') p ∙ with_word o n b' h w)
joined_stays o None (Some m) a' b' p q v w = stays_if (absorbs o m) m (joined_literal o a' b') (λ h. ap (joined_literal o a') q ∙ with_word_after o m a' h v)
joined_stays o None None a' b' p q v w = tt

turned_stays : (a a' : Option ℤ) → StaysIn a a' → StaysIn (turned_literal a) (turned_literal a')
turned_stays None a' h = tt
turned_stays (Some n) a' h = ap turned_literal h

abbrev LiteralStays : Expr → Type 0
LiteralStays x = is_worded x ≡ true → (k : ℕ) (m m' : Marks) → KnowsWords m' → Further m m' → StaysIn (literal_of x k m) (literal_of x k m')

same_stays : (a b c d : Option ℤ) → a ≡ b → c ≡ d → StaysIn b d → StaysIn a c
same_stays a b c d p q h = subst (λ x. StaysIn x c) (sym p) (subst (StaysIn b) (sym q) h)

stay_cases : ExprCases LiteralStays
stay_cases = record {
  num = λ n h k m m' w f. same_stays _ (Some n) _ (Some n) (ap (at_marks m) (at_num (Marks → Option ℤ) literal_step n k)) (ap (at_marks m') (at_num (Marks → Option ℤ) literal_step n k)) refl;
  var = λ var line h k m m' w f. same_stays _ (m.vars var) _ (m'.vars var) (ap (at_marks m) (at_var (Marks → Option ℤ) literal_step var line k)) (ap (at_marks m') (at_var (Marks → Option ℤ) literal_step var line k)) (f.vars var);
  read = λ tensor at line h k m m' w f. same_stays _ (m.reads k) _ (m'.reads k) (ap (at_marks m) (at_read (Marks → Option ℤ) literal_step tensor at line k)) (ap (at_marks m') (at_read (Marks → Option ℤ) literal_step tensor at line k)) (f.reads k);
  neg = λ x hx h k m m' w f. same_stays _ (turned_literal (literal_of x k m)) _ (turned_literal (literal_of x k m')) (ap (at_marks m) (at_neg (Marks → Option ℤ) literal_step x k)) (ap (at_marks m') (at_neg (Marks → Option ℤ) literal_step x k))
      (turned_stays (literal_of x k m) (literal_of x k m') (hx (sym (node.of_neg Bool worded_step x) ∙ h) k m m' w f));
  two = λ o x y hx hy h k m m' w f.
      let left = left_true (is_worded x) (is_worded y) (two_worded o x y h) in
      let right = right_true (is_worded x) (is_worded y) (two_worded o x y h) in
      let j = past_expr x k in
      same_stays _ (joined_literal o (literal_of x k m) (literal_of y j m)) _ (joined_literal o (literal_of x k m') (literal_of y j m'))
      (ap (at_marks m) (at_two (Marks → Option ℤ) literal_step o x y k)) (ap (at_marks m') (at_two (Marks → Option ℤ) literal_step o x y k))
      (joined_stays o (literal_of x k m) (literal_of y j m) (literal_of x k m') (literal_of y j m') (hx left k m m' w f) (hy right j m m' w f) (literal_is_word x left k m' w) (literal_is_word y right j m' w));
}

-- a literal stays the same literal
pub literal_stays : (x : Expr) → LiteralStays x
literal_stays = by_expr LiteralStays stay_cases

-- ---- what is nothing stays nothing
fails_stays : (a a' : Option ℤ) → StaysIn a a' → fails a ≡ true → fails a' ≡ true
fails_stays None a' p h = cc
fails_stays (Some n) a' p h = ap fails p ∙ h

settled_some : (b : Bool) (l : Option ℤ) (n : ℤ) → b ≡ fails l → (fails l || int_eq n (pos 0)) ≡ fails (if b then l else Some n)
settled_some true l n h = ap (λ c. c || int_eq n (pos 0)) (sym h) ∙ h
settled_some false l n h = ap (λ c. c || int_eq n (pos 0)) (sym h)

or_none : (b : Bool) → (b || false) ≡ b
or_none true = refl
or_none false = refl

-- a test fails where its mark or its literal is 0
pub settled_fails : (o l : Option ℤ) → (fails l || fails o) ≡ fails (settled_literal o l)
settled_fails None l = or_none (fails l)
settled_fails (Some n) l = settled_some (fails l) l n refl

or_stays : (a b c d : Bool) → (a ≡ true → c ≡ true) → (b ≡ true → d ≡ true) → (a || b) ≡ true → (c || d) ≡ true
or_stays true b c d h k p = ap (λ x. x || d) (h refl)
or_stays false b true d h k p = refl
or_stays false b false d h k p = k p

and_stays : (a b c d : Bool) → (a ≡ true → c ≡ true) → (b ≡ true → d ≡ true) → (a && b) ≡ true → (c && d) ≡ true
and_stays true b c d h k p = ap (λ x. x && d) (h refl) ∙ k p
and_stays false b c d h k p = cc

identity_stays : (by : Reduce) (a a' : Option ℤ) → StaysIn a a' → is_identity_literal by a ≡ true → is_identity_literal by a' ≡ true
identity_stays by None a' p h = cc
identity_stays by (Some n) a' p h = ap (is_identity_literal by) p ∙ h

-- the marks inside a loop or `let`
either_stays : (b : Bool) (a a' c c' : Option ℤ) → StaysIn a a' → StaysIn c c' → StaysIn (if b then a else c) (if b then a' else c')
either_stays true a a' c c' h k = h
either_stays false a a' c c' h k = k

either_word : (b : Bool) (a c : Option ℤ) → IfSome a IsWord → IfSome c IsWord → IfSome (if b then a else c) IsWord
either_word true a c h k = h
either_word false a c h k = k

pub binding_stays : (m m' : Marks) (var : ℕ) (a a' : Option ℤ) → StaysIn a a' → Further m m' → Further (binding m var a) (binding m' var a')
binding_stays m m' var a a' h f = record { reads = f.reads; tests = f.tests; vars = λ x. either_stays (nat_eq x var) a a' (m.vars x) (m'.vars x) h (f.vars x) }

pub binding_words : (m : Marks) (var : ℕ) (a : Option ℤ) → IfSome a IsWord → KnowsWords m → KnowsWords (binding m var a)
binding_words m var a h w = record { reads = w.reads; vars = λ x. either_word (nat_eq x var) a (m.vars x) h (w.vars x) }

abbrev NothingStays : Stmt → Type 0
NothingStays x = is_worded_stmt x ≡ true → (h : Here) (m m' : Marks) → KnowsWords m' → Further m m' → is_nothing x h m ≡ true → is_nothing x h m' ≡ true

abbrev to_test : Marks → (Marks → Bool) → Bool
to_test m f = f m

bodies_stay : (body : List Stmt) → AllOf NothingStays body → all_hold (map is_worded_stmt body) ≡ true → (h : Here) (m m' : Marks) → KnowsWords m' → Further m m' → are_nothing body h m ≡ true → are_nothing body h m' ≡ true
bodies_stay [] all q h m m' w f p = refl
bodies_stay (x ∷ xs) all q h m m' w f p =
    and_stays (is_nothing x h m) (are_nothing xs (past_stmt x h) m) (is_nothing x h m') (are_nothing xs (past_stmt x h) m')
    (λ t. all.0 (left_true (is_worded_stmt x) (all_hold (map is_worded_stmt xs)) q) h m m' w f t)
    (λ t. bodies_stay xs all.1 (right_true (is_worded_stmt x) (all_hold (map is_worded_stmt xs)) q) (past_stmt x h) m m' w f t) p

nothing_cases : Cases NothingStays
nothing_cases = record {
  block = λ body line last all q h m m' w f p.
      ap (to_test m') (at_block (Marks → Bool) nothing_step body line last h)
      ∙ bodies_stay body all (sym (node.of_block Bool worded_stmt_step body line last) ∙ q) h m m' w f (sym (ap (to_test m) (at_block (Marks → Bool) nothing_step body line last h)) ∙ p);
  loop = λ var range par body line last all q h m m' w f p.
      ap (to_test m') (at_loop (Marks → Bool) nothing_step var range par body line last h)
      ∙ bodies_stay body all (sym (node.of_loop Bool worded_stmt_step var range par body line last) ∙ q) h (binding m var None) (binding m' var None) (binding_words m' var None tt w) (binding_stays m m' var None None tt f) (sym (ap (to_test m) (at_loop (Marks → Bool) nothing_step var range par body line last h)) ∙ p);
  cond = λ test body line last all q h m m' w f p.
      let inner = behind_test test h in
      let both = sym (node.of_cond Bool worded_stmt_step test body line last) ∙ q in
      let qt = left_true (is_worded test) (all_hold (map is_worded_stmt body)) both in
      let qb = right_true (is_worded test) (all_hold (map is_worded_stmt body)) both in
      let now = ap (λ b. b || are_nothing body inner m) (settled_fails (m.tests h.test) (literal_of test h.read m)) ∙ sym (ap (to_test m) (at_cond (Marks → Bool) nothing_step test body line last h)) ∙ p in
      ap (to_test m') (at_cond (Marks → Bool) nothing_step test body line last h)
      ∙ ap (λ b. b || are_nothing body inner m') (sym (settled_fails (m'.tests h.test) (literal_of test h.read m')))
      ∙ or_stays (fails (literal_of test h.read m) || fails (m.tests h.test)) (are_nothing body inner m) (fails (literal_of test h.read m') || fails (m'.tests h.test)) (are_nothing body inner m')
      (or_stays (fails (literal_of test h.read m)) (fails (m.tests h.test)) (fails (literal_of test h.read m')) (fails (m'.tests h.test))
      (fails_stays (literal_of test h.read m) (literal_of test h.read m') (literal_stays test qt h.read m m' w f))
      (fails_stays (m.tests h.test) (m'.tests h.test) (f.tests h.test)))
      (λ t. bodies_stay body all qb inner m m' w f t) now;
  bind = λ var value body line last all q h m m' w f p.
      let inner = behind value h in
      let both = sym (node.of_bind Bool worded_stmt_step var value body line last) ∙ q in
      let qv = left_true (is_worded value) (all_hold (map is_worded_stmt body)) both in
      let qb = right_true (is_worded value) (all_hold (map is_worded_stmt body)) both in
      let a = literal_of value h.read m in
      let a' = literal_of value h.read m' in
      ap (to_test m') (at_bind (Marks → Bool) nothing_step var value body line last h)
      ∙ bodies_stay body all qb inner (binding m var a) (binding m' var a') (binding_words m' var a' (literal_is_word value qv h.read m' w) w) (binding_stays m m' var a a' (literal_stays value qv h.read m m' w f) f)
      (sym (ap (to_test m) (at_bind (Marks → Bool) nothing_step var value body line last h)) ∙ p);
  declare = λ tensor value line q h m m' w f p. ap (to_test m') (at_declare (Marks → Bool) nothing_step tensor value line h) ∙ sym (ap (to_test m) (at_declare (Marks → Bool) nothing_step tensor value line h)) ∙ p;
  freeze = λ tensor line q h m m' w f p. ap (to_test m') (at_freeze (Marks → Bool) nothing_step tensor line h) ∙ sym (ap (to_test m) (at_freeze (Marks → Bool) nothing_step tensor line h)) ∙ p;
  thaw = λ tensor line q h m m' w f p. ap (to_test m') (at_thaw (Marks → Bool) nothing_step tensor line h) ∙ sym (ap (to_test m) (at_thaw (Marks → Bool) nothing_step tensor line h)) ∙ p;
  update = λ tensor at by value line q h m m' w f p.
      ap (to_test m') (at_update (Marks → Bool) nothing_step tensor at by value line h)
      ∙ identity_stays by (literal_of value h.read m) (literal_of value h.read m') (literal_stays value (sym (node.of_update Bool worded_stmt_step tensor at by value line) ∙ q) h.read m m' w f)
      (sym (ap (to_test m) (at_update (Marks → Bool) nothing_step tensor at by value line h)) ∙ p);
}

-- what is nothing stays nothing where more is known
pub nothing_stays : (x : Stmt) → NothingStays x
nothing_stays = by_kind NothingStays nothing_cases

pub nothing_all_stays : (body : List Stmt) → all_hold (map is_worded_stmt body) ≡ true → (h : Here) (m m' : Marks) → KnowsWords m' → Further m m' → are_nothing body h m ≡ true → are_nothing body h m' ≡ true
nothing_all_stays body q h m m' w f p = bodies_stay body (all_by_kind NothingStays nothing_cases body) q h m m' w f p
