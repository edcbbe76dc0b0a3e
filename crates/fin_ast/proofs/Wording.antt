-- Trees whose literals are words, and words as results.
use Rattle.std.proofs.Common.{◌≡◌, ℕ, ℤ, Bool, true, false, not, ◌&&◌, List, [], ◌∷◌, ◌++◌, map, refl, sym, ap, ◌∙◌, subst, arith}
use Rattle.std.specs.Prelude.{int_le, int_lt}
use Rattle.std.specs.Ordering.{int_eq}
use Rattle.std.specs.Int.{w64}
use Rattle.std.proofs.lemmas.Int.{ints, SFits-int_wrap}
use Rattle.fin_base.specs.declared.terms.Op.{Op}
use Rattle.fin_base.specs.declared.terms.Op.TheVariants as op
use Rattle.fin_base.specs.declared.reduce.Reduce.TheVariants as r
use Rattle.fin_base.specs.Words.{IsWord, wrap, truth, operate}
use Rattle.fin_base.proofs.Reductions.{keeps_words}
use Rattle.fin_ast.specs.declared.tree.Index.{Index}
use Rattle.fin_ast.specs.declared.tree.Expr.{Expr, ind-Expr, map-Expr, fold-roll-Expr}
use Rattle.fin_ast.specs.declared.tree.Expr.TheOpen.{Expr-F}
use Rattle.fin_ast.specs.declared.tree.Expr.TheVariants as e
use Rattle.fin_ast.specs.declared.tree.Stmt.{Stmt}
use Rattle.fin_ast.specs.Value.{Numbers, Tensors, Reading, number, place, read, value_step, value_of}
use Rattle.fin_ast.specs.Literals.{is_word, worded_step, is_worded, is_worded_stmt, are_worded}
use Rattle.fin_ast.proofs.Nodes.{of_num, of_var, of_read, of_neg, of_two}

-- ---- the test of words

pub word_by : (z : ℤ) → is_word z ≡ true → IsWord z
word_by z h = grind (arith, ints)

pub by_word : (z : ℤ) → IsWord z → is_word z ≡ true
by_word z h = grind (arith, ints)

pub wrapped_is_word : (z : ℤ) → is_word (wrap z) ≡ true
wrapped_is_word z = by_word (wrap z) (SFits-int_wrap w64 z)

both : (a b : Bool) → a ≡ true → b ≡ true → (a && b) ≡ true
both true b h k = k
both false b h k = h

-- ---- expressions

pub num_worded : (n : ℤ) → is_word n ≡ true → is_worded (e.Num n) ≡ true
num_worded n h = of_num Bool worded_step n ∙ h

pub var_worded : (var line : ℕ) → is_worded (e.Var var line) ≡ true
var_worded = of_var Bool worded_step

pub read_worded : (tensor : ℕ) (at : List Index) (line : ℕ) → is_worded (e.Read tensor at line) ≡ true
read_worded = of_read Bool worded_step

pub neg_worded : (x : Expr) → is_worded x ≡ true → is_worded (e.Neg x) ≡ true
neg_worded x h = of_neg Bool worded_step x ∙ h

pub two_worded : (o : Op) (x y : Expr) → is_worded x ≡ true → is_worded y ≡ true → is_worded (e.Two o x y) ≡ true
two_worded o x y h k = of_two Bool worded_step o x y ∙ both (is_worded x) (is_worded y) h k

-- ---- statements

pub one_worded : (x : Stmt) → is_worded_stmt x ≡ true → are_worded (x ∷ []) ≡ true
one_worded x h = both (is_worded_stmt x) true h refl

pub worded_joined : (xs ys : List Stmt) → are_worded xs ≡ true → are_worded ys ≡ true → are_worded (xs ++ ys) ≡ true
worded_joined [] ys h k = k
worded_joined (x ∷ xs) ys h k = elim (is_worded_stmt x) as (λ b. (b && are_worded xs) ≡ true → (b && are_worded (xs ++ ys)) ≡ true) [ true ↦ λ g. worded_joined xs ys g k | false ↦ λ g. g ] h

-- ---- values

truth_is_word : (b : Bool) → IsWord (truth b)
truth_is_word true = omega arith
truth_is_word false = omega arith

pub operate_is_word : (o : Op) (a b : ℤ) → IsWord a → IsWord b → IsWord (operate o a b)
operate_is_word op.Add a b p q = SFits-int_wrap w64 _
operate_is_word op.Sub a b p q = SFits-int_wrap w64 _
operate_is_word op.Mul a b p q = SFits-int_wrap w64 _
operate_is_word op.Min a b p q = keeps_words r.Min a b p q
operate_is_word op.Max a b p q = keeps_words r.Max a b p q
operate_is_word op.And a b p q = keeps_words r.And a b p q
operate_is_word op.Or a b p q = keeps_words r.Or a b p q
operate_is_word op.Xor a b p q = keeps_words r.Xor a b p q
operate_is_word op.Lt a b p q = truth_is_word (int_lt a b)
operate_is_word op.Le a b p q = truth_is_word (int_le a b)
operate_is_word op.Gt a b p q = truth_is_word (int_lt b a)
operate_is_word op.Ge a b p q = truth_is_word (int_le b a)
operate_is_word op.Eq a b p q = truth_is_word (int_eq a b)
operate_is_word op.Ne a b p q = truth_is_word (not (int_eq a b))

-- the numbers of variables, and the values of tensors, are words
pub record SeesWords (vars : Numbers) (ts : Tensors) : Type 0 where
  pub numbers : (x : ℕ) → IsWord (number vars x)
  pub reads : (tensor : ℕ) (at : List ℤ) → IsWord (read (ts tensor) at)

left : (a b : Bool) → (a && b) ≡ true → a ≡ true
left true b h = refl
left false b h = h

right : (a b : Bool) → (a && b) ≡ true → b ≡ true
right true b h = h
right false b h = cc

module _ (vars : Numbers) (ts : Tensors) (sees : SeesWords vars ts) where
  abbrev Kept : Type 0
  Kept = (x : Expr) × (is_worded x ≡ true → IsWord (value_of x vars ts))

  word_step : (y : Expr-F Kept) → worded_step (map-Expr Expr Bool is_worded (map-Expr Kept Expr (λ k. k.0) y)) ≡ true → IsWord (value_step (map-Expr Expr Reading value_of (map-Expr Kept Expr (λ k. k.0) y)) vars ts)
  word_step (Expr-F.Num n) h = word_by n h
  word_step (Expr-F.Var var line) h = sees.numbers var
  word_step (Expr-F.Read tensor at line) h = sees.reads tensor (map (place vars) at)
  word_step (Expr-F.Neg inner) h = SFits-int_wrap w64 _
  word_step (Expr-F.Two o x y) h = operate_is_word o (value_of x.0 vars ts) (value_of y.0 vars ts) (x.1 (left (is_worded x.0) (is_worded y.0) h)) (y.1 (right (is_worded x.0) (is_worded y.0) h))

  -- the value of an expression over words is a word
  pub value_is_word : (x : Expr) → is_worded x ≡ true → IsWord (value_of x vars ts)
  value_is_word = ind-Expr (λ x. is_worded x ≡ true → IsWord (value_of x vars ts)) (λ z y is h.
      let words = ap (λ (u : Expr-F Expr). worded_step (map-Expr Expr Bool is_worded u)) is ∙ sym (fold-roll-Expr Bool worded_step z) in
      let values = ap (λ (u : Expr-F Expr). value_step (map-Expr Expr Reading value_of u)) is ∙ sym (fold-roll-Expr Reading value_step z) in
      subst (λ (f : Reading). IsWord (f vars ts)) values (word_step y (words ∙ h)))
