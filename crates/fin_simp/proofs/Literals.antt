-- The literal that is left, by either definition.
use Rattle.std.proofs.Common.{◌≡◌, ℕ, ℤ, pos, negsuc, Bool, true, false, Option, Some, None, refl, sym, ap, ◌∙◌, arith, if◌then◌else◌}
use Rattle.std.proofs.lemmas.Int.{ints}
use Rattle.std.specs.Ordering.{int_eq}
use Rattle.fin_base.specs.declared.terms.Op.{Op}
use Rattle.fin_base.specs.declared.terms.Op.TheVariants as op
use Rattle.fin_ast.specs.declared.tree.Expr.{Expr}
use Rattle.fin_ast.specs.declared.tree.Expr.TheVariants as e
use Rattle.fin_simp.specs.Numbered.{past_expr}
use Rattle.fin_simp.specs.declared.remainder.Left.{Left}
use Rattle.fin_simp.specs.declared.remainder.Left.TheVariants.{Literal, Open}
use Rattle.fin_simp.specs.Left.{Marks, literal_in, least, greatest, is_neutral, is_neutral_before, absorbs, joined, turned, known_or, left_step, left_of}
use Rattle.fin_simp.specs.Remaining.{absorbed, joined_literal, turned_literal, literal_step, literal_of}
use Rattle.fin_simp.specs.Rest.{ExprRest, rest_or, expr_rest_step, expr_rest}
use Rattle.fin_simp.proofs.Induction.{ExprCases, by_expr}
use Rattle.fin_simp.proofs.Equations.{at_num, at_var, at_read, at_neg, at_two}

pub same_number : (v w : ℤ) → int_eq v w ≡ true → v ≡ w
same_number v w e = grind (arith, ints)

other : (n a b : ℤ) → int_eq n a ≡ true → int_eq a b ≡ false → int_eq n b ≡ false
other n a b e f = ap (λ x. int_eq x b) (same_number n a e) ∙ f

-- what changes nothing on one side absorbs nothing
pub neutral_absorbs : (o : Op) (n : ℤ) → is_neutral o n ≡ true → absorbs o n ≡ false
neutral_absorbs op.Add n h = refl
neutral_absorbs op.Sub n h = refl
neutral_absorbs op.Mul n h = other n (pos 1) (pos 0) h refl
neutral_absorbs op.Min n h = other n greatest least h refl
neutral_absorbs op.Max n h = other n least greatest h refl
neutral_absorbs op.And n h = other n (negsuc 0) (pos 0) h refl
neutral_absorbs op.Or n h = other n (pos 0) (negsuc 0) h refl
neutral_absorbs op.Xor n h = refl
neutral_absorbs op.Lt n h = refl
neutral_absorbs op.Le n h = refl
neutral_absorbs op.Gt n h = refl
neutral_absorbs op.Ge n h = refl
neutral_absorbs op.Eq n h = refl
neutral_absorbs op.Ne n h = refl

pub before_is_neutral : (o : Op) (n : ℤ) → is_neutral_before o n ≡ true → is_neutral o n ≡ true
before_is_neutral op.Add n h = h
before_is_neutral op.Sub n h = cc
before_is_neutral op.Mul n h = h
before_is_neutral op.Min n h = h
before_is_neutral op.Max n h = h
before_is_neutral op.And n h = h
before_is_neutral op.Or n h = h
before_is_neutral op.Xor n h = h
before_is_neutral op.Lt n h = h
before_is_neutral op.Le n h = h
before_is_neutral op.Gt n h = h
before_is_neutral op.Ge n h = h
before_is_neutral op.Eq n h = h
before_is_neutral op.Ne n h = h

either_literal : (b : Bool) (n : ℤ) (t : Expr) → literal_in (if b then Literal n else Open t) ≡ (if b then Some n else None)
either_literal true n t = refl
either_literal false n t = refl

chosen_literal : (o : Op) (n : ℤ) (e t : Expr) (c : Bool) → (c ≡ true → is_neutral o n ≡ true) → literal_in (if c then Open e else (if absorbs o n then Literal n else Open t)) ≡ absorbed o n
chosen_literal o n e t true h = sym (ap (λ b. if b then Some n else None) (neutral_absorbs o n (h refl)))
chosen_literal o n e t false h = either_literal (absorbs o n) n t

pub joined_is : (o : Op) (l r : Left) → joined_literal o (literal_in l) (literal_in r) ≡ literal_in (joined o l r)
joined_is o (Literal n) (Literal m) = refl
joined_is o (Literal n) (Open x) = sym (chosen_literal o n x _ (is_neutral_before o n) (before_is_neutral o n))
joined_is o (Open x) (Literal n) = sym (chosen_literal o n x _ (is_neutral o n) (λ h. h))
joined_is o (Open x) (Open y) = refl

pub turned_is : (l : Left) → turned_literal (literal_in l) ≡ literal_in (turned l)
turned_is (Literal n) = refl
turned_is (Open x) = refl

known_is : (o : Option ℤ) (x : Expr) → o ≡ literal_in (known_or o x)
known_is None x = refl
known_is (Some n) x = refl

abbrev LiteralIs : Expr → Type 0
LiteralIs x = (k : ℕ) (m : Marks) → literal_of x k m ≡ literal_in (left_of x k m)

abbrev at_marks : (A : Type 0) → Marks → (Marks → A) → A
at_marks A m f = f m

literal_cases : ExprCases LiteralIs
literal_cases = record {
  num = λ n k m. ap (at_marks (Option ℤ) m) (at_num (Marks → Option ℤ) literal_step n k) ∙ sym (ap (λ (f : Marks → Left). literal_in (f m)) (at_num (Marks → Left) left_step n k));
  var = λ var line k m. ap (at_marks (Option ℤ) m) (at_var (Marks → Option ℤ) literal_step var line k) ∙ known_is (m.vars var) (e.Var var line) ∙ sym (ap (λ (f : Marks → Left). literal_in (f m)) (at_var (Marks → Left) left_step var line k));
  read = λ tensor at line k m. ap (at_marks (Option ℤ) m) (at_read (Marks → Option ℤ) literal_step tensor at line k) ∙ known_is (m.reads k) (e.Read tensor at line) ∙ sym (ap (λ (f : Marks → Left). literal_in (f m)) (at_read (Marks → Left) left_step tensor at line k));
  neg = λ x h k m. ap (at_marks (Option ℤ) m) (at_neg (Marks → Option ℤ) literal_step x k) ∙ ap turned_literal (h k m) ∙ turned_is (left_of x k m) ∙ sym (ap (λ (f : Marks → Left). literal_in (f m)) (at_neg (Marks → Left) left_step x k));
  two = λ o x y hx hy k m. ap (at_marks (Option ℤ) m) (at_two (Marks → Option ℤ) literal_step o x y k)
      ∙ ap (λ a. joined_literal o a (literal_of y (past_expr x k) m)) (hx k m) ∙ ap (joined_literal o (literal_in (left_of x k m))) (hy (past_expr x k) m)
      ∙ joined_is o (left_of x k m) (left_of y (past_expr x k) m)
      ∙ sym (ap (λ (f : Marks → Left). literal_in (f m)) (at_two (Marks → Left) left_step o x y k));
}

-- the literal that is left is that of the simplified expression
pub literal_is : (x : Expr) → LiteralIs x
literal_is = by_expr LiteralIs literal_cases

-- ---- the same in what remains of an expression
abbrev RestLiteral : Expr → Type 0
RestLiteral x = (k : ℕ) (m : Marks) → (expr_rest x k m).literal ≡ literal_of x k m

or_open : (o : Option ℤ) (r : ExprRest) → r.literal ≡ None → (rest_or o r).literal ≡ o
or_open None r h = h
or_open (Some n) r h = refl

or_turned : (r : ExprRest) (o : Option ℤ) → r.literal ≡ o → (rest_or (turned_literal o) r).literal ≡ turned_literal o
or_turned r None h = h
or_turned r (Some n) h = refl

rest_cases : ExprCases RestLiteral
rest_cases = record {
  num = λ n k m. ap (λ (f : Marks → ExprRest). (f m).literal) (at_num (Marks → ExprRest) expr_rest_step n k) ∙ sym (ap (at_marks (Option ℤ) m) (at_num (Marks → Option ℤ) literal_step n k));
  var = λ var line k m. ap (λ (f : Marks → ExprRest). (f m).literal) (at_var (Marks → ExprRest) expr_rest_step var line k) ∙ or_open (m.vars var) _ refl ∙ sym (ap (at_marks (Option ℤ) m) (at_var (Marks → Option ℤ) literal_step var line k));
  read = λ tensor at line k m. ap (λ (f : Marks → ExprRest). (f m).literal) (at_read (Marks → ExprRest) expr_rest_step tensor at line k) ∙ or_open (m.reads k) _ refl ∙ sym (ap (at_marks (Option ℤ) m) (at_read (Marks → Option ℤ) literal_step tensor at line k));
  neg = λ x h k m. ap (λ (f : Marks → ExprRest). (f m).literal) (at_neg (Marks → ExprRest) expr_rest_step x k) ∙ or_turned (expr_rest x k m) (expr_rest x k m).literal refl ∙ ap turned_literal (h k m) ∙ sym (ap (at_marks (Option ℤ) m) (at_neg (Marks → Option ℤ) literal_step x k));
  two = λ o x y hx hy k m. ap (λ (f : Marks → ExprRest). (f m).literal) (at_two (Marks → ExprRest) expr_rest_step o x y k)
      ∙ or_open (joined_literal o (expr_rest x k m).literal (expr_rest y (past_expr x k) m).literal) _ refl
      ∙ ap (λ a. joined_literal o a (expr_rest y (past_expr x k) m).literal) (hx k m) ∙ ap (joined_literal o (literal_of x k m)) (hy (past_expr x k) m)
      ∙ sym (ap (at_marks (Option ℤ) m) (at_two (Marks → Option ℤ) literal_step o x y k));
}

pub rest_literal : (x : Expr) → RestLiteral x
rest_literal = by_expr RestLiteral rest_cases
