-- A simplified expression has the value of the expression.
use Rattle.std.proofs.Common.{◌≡◌, ℕ, ℤ, Bool, true, false, List, map, Option, Some, None, refl, sym, ap, ◌∙◌, subst, if◌then◌else◌}
use Rattle.std.specs.Prelude.{IfSome, unwrap_or}
use Rattle.fin_base.specs.Words.{IsWord, operate, negated}
use Rattle.fin_base.specs.declared.terms.Op.{Op}
use Rattle.fin_ast.specs.declared.tree.Expr.{Expr}
use Rattle.fin_ast.specs.declared.tree.Expr.TheVariants as e
use Rattle.fin_ast.specs.Value.{Numbers, Tensors, Reading, number, place, read, value_of}
use Rattle.fin_ast.proofs.Nodes as node
use Rattle.fin_ast.proofs.Values.{value_num, value_var, value_read, value_neg, value_two}
use Rattle.fin_simp.specs.Numbered.{past_expr}
use Rattle.fin_simp.specs.declared.remainder.Left.{Left}
use Rattle.fin_simp.specs.declared.remainder.Left.TheVariants.{Literal, Open}
use Rattle.fin_simp.specs.Left.{Marks, as_expr, is_neutral, is_neutral_before, absorbs, joined, turned, known_or, left_step, left_of}
use Rattle.fin_ast.specs.Literals.{worded_step, is_worded}
use Rattle.fin_simp.specs.Wording.{KnowsWords}
use Rattle.fin_simp.specs.Marked.{marked_value_step, marked_value}
use Rattle.fin_simp.proofs.Induction.{ExprCases, by_expr}
use Rattle.fin_simp.proofs.Equations.{at_num, at_var, at_read, at_neg, at_two}
use Rattle.fin_simp.proofs.Operators.{operate_is_word, negated_is_word, neutral_keeps, neutral_before_keeps, absorbs_before, absorbs_after}
use Rattle.fin_simp.proofs.Staying.{left_true, right_true, word_from, two_worded}

-- numbers of variables, and values of tensors, are words
pub record SeesWords (vars : Numbers) (ts : Tensors) : Type 0 where
  pub numbers : (x : ℕ) → IsWord (number vars x)
  pub reads : (tensor : ℕ) (at : List ℤ) → IsWord (read (ts tensor) at)

module _ (vars : Numbers) (ts : Tensors) where
  abbrev value : Expr → ℤ
  value x = value_of x vars ts

  after_value : (o : Op) (n : ℤ) (y : Expr) (b c : Bool) → is_neutral_before o n ≡ b → absorbs o n ≡ c → IsWord (value y)
      → value (as_expr (if b then Open y else (if c then Literal n else Open (e.Two o (e.Num n) y)))) ≡ operate o n (value y)
  after_value o n y true c h k p = sym (neutral_before_keeps o n (value y) h p)
  after_value o n y false true h k p = value_num vars ts n ∙ sym (absorbs_before o n (value y) k p)
  after_value o n y false false h k p = value_two vars ts o (e.Num n) y ∙ ap (λ z. operate o z (value y)) (value_num vars ts n)

  before_value : (o : Op) (n : ℤ) (y : Expr) (b c : Bool) → is_neutral o n ≡ b → absorbs o n ≡ c → IsWord (value y)
      → value (as_expr (if b then Open y else (if c then Literal n else Open (e.Two o y (e.Num n))))) ≡ operate o (value y) n
  before_value o n y true c h k p = sym (neutral_keeps o n (value y) h p)
  before_value o n y false true h k p = value_num vars ts n ∙ sym (absorbs_after o n (value y) k p)
  before_value o n y false false h k p = value_two vars ts o y (e.Num n) ∙ ap (operate o (value y)) (value_num vars ts n)

  pub joined_value : (o : Op) (l r : Left) → IsWord (value (as_expr l)) → IsWord (value (as_expr r)) → value (as_expr (joined o l r)) ≡ operate o (value (as_expr l)) (value (as_expr r))
  joined_value o (Literal n) (Literal m) p q = value_num vars ts (operate o n m) ∙ sym (ap (λ z. operate o z m) (value_num vars ts n)) ∙ sym (ap (operate o (value (e.Num n))) (value_num vars ts m))
  joined_value o (Literal n) (Open y) p q = after_value o n y (is_neutral_before o n) (absorbs o n) refl refl q ∙ sym (ap (λ z. operate o z (value y)) (value_num vars ts n))
  joined_value o (Open x) (Literal m) p q = before_value o m x (is_neutral o m) (absorbs o m) refl refl p ∙ sym (ap (operate o (value x)) (value_num vars ts m))
  joined_value o (Open x) (Open y) p q = value_two vars ts o x y

  pub turned_value : (l : Left) → value (as_expr (turned l)) ≡ negated (value (as_expr l))
  turned_value (Literal n) = value_num vars ts (negated n) ∙ sym (ap negated (value_num vars ts n))
  turned_value (Open x) = value_neg vars ts x

  known_value : (o : Option ℤ) (x : Expr) → value (as_expr (known_or o x)) ≡ unwrap_or o (value x)
  known_value None x = refl
  known_value (Some n) x = value_num vars ts n

  either_is_word : (o : Option ℤ) (z : ℤ) → IfSome o IsWord → IsWord z → IsWord (unwrap_or o z)
  either_is_word None z h k = k
  either_is_word (Some n) z h k = h

  module _ (sees : SeesWords vars ts) where
    abbrev MarkedWord : Expr → Type 0
    MarkedWord x = is_worded x ≡ true → (k : ℕ) (m : Marks) → KnowsWords m → IsWord (marked_value x k m vars ts)

    abbrev at_all : Marks → (Marks → Reading) → ℤ
    at_all m f = f m vars ts

    marked_word_cases : ExprCases MarkedWord
    marked_word_cases = record {
      num = λ n h k m w. subst IsWord (sym (ap (at_all m) (at_num (Marks → Reading) marked_value_step n k))) (word_from n (sym (node.of_num Bool worded_step n) ∙ h));
      var = λ var line h k m w. subst IsWord (sym (ap (at_all m) (at_var (Marks → Reading) marked_value_step var line k))) (either_is_word (m.vars var) (number vars var) (w.vars var) (sees.numbers var));
      read = λ tensor at line h k m w. subst IsWord (sym (ap (at_all m) (at_read (Marks → Reading) marked_value_step tensor at line k))) (either_is_word (m.reads k) (read (ts tensor) (map (place vars) at)) (w.reads k) (sees.reads tensor (map (place vars) at)));
      neg = λ x hx h k m w. subst IsWord (sym (ap (at_all m) (at_neg (Marks → Reading) marked_value_step x k))) (negated_is_word (marked_value x k m vars ts));
      two = λ o x y hx hy h k m w. subst IsWord (sym (ap (at_all m) (at_two (Marks → Reading) marked_value_step o x y k)))
          (operate_is_word o (marked_value x k m vars ts) (marked_value y (past_expr x k) m vars ts)
          (hx (left_true (is_worded x) (is_worded y) (two_worded o x y h)) k m w)
          (hy (right_true (is_worded x) (is_worded y) (two_worded o x y h)) (past_expr x k) m w));
    }

    pub marked_is_word : (x : Expr) → MarkedWord x
    marked_is_word = by_expr MarkedWord marked_word_cases

    abbrev LeftValue : Expr → Type 0
    LeftValue x = is_worded x ≡ true → (k : ℕ) (m : Marks) → KnowsWords m → value (as_expr (left_of x k m)) ≡ marked_value x k m vars ts

    abbrev left_at : Marks → (Marks → Left) → ℤ
    left_at m f = value (as_expr (f m))

    left_cases : ExprCases LeftValue
    left_cases = record {
      num = λ n h k m w. ap (left_at m) (at_num (Marks → Left) left_step n k) ∙ value_num vars ts n ∙ sym (ap (at_all m) (at_num (Marks → Reading) marked_value_step n k));
      var = λ var line h k m w. ap (left_at m) (at_var (Marks → Left) left_step var line k) ∙ known_value (m.vars var) (e.Var var line) ∙ ap (unwrap_or (m.vars var)) (value_var vars ts var line) ∙ sym (ap (at_all m) (at_var (Marks → Reading) marked_value_step var line k));
      read = λ tensor at line h k m w. ap (left_at m) (at_read (Marks → Left) left_step tensor at line k) ∙ known_value (m.reads k) (e.Read tensor at line) ∙ ap (unwrap_or (m.reads k)) (value_read vars ts tensor at line) ∙ sym (ap (at_all m) (at_read (Marks → Reading) marked_value_step tensor at line k));
      neg = λ x hx h k m w. ap (left_at m) (at_neg (Marks → Left) left_step x k) ∙ turned_value (left_of x k m) ∙ ap negated (hx (sym (node.of_neg Bool worded_step x) ∙ h) k m w) ∙ sym (ap (at_all m) (at_neg (Marks → Reading) marked_value_step x k));
      two = λ o x y hx hy h k m w.
          let left = left_true (is_worded x) (is_worded y) (two_worded o x y h) in
          let right = right_true (is_worded x) (is_worded y) (two_worded o x y h) in
          let j = past_expr x k in
          let ex = hx left k m w in
          let ey = hy right j m w in
          ap (left_at m) (at_two (Marks → Left) left_step o x y k)
          ∙ joined_value o (left_of x k m) (left_of y j m) (subst IsWord (sym ex) (marked_is_word x left k m w)) (subst IsWord (sym ey) (marked_is_word y right j m w))
          ∙ ap (λ z. operate o z (value (as_expr (left_of y j m)))) ex ∙ ap (operate o (marked_value x k m vars ts)) ey
          ∙ sym (ap (at_all m) (at_two (Marks → Reading) marked_value_step o x y k));
    }

    -- what is left of an expression has its value under the marks
    pub left_value : (x : Expr) → LeftValue x
    left_value = by_expr LeftValue left_cases
