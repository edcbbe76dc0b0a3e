-- What a run by pieces knows at a place is right of each expression that is looked at there.
use Rattle.std.proofs.Common.{◌≡◌, ◌<◌, ℕ, ℤ, pos, Bool, true, false, ◌&&◌, List, [], ◌∷◌, map, Option, Some, None, refl, sym, ap, ◌∙◌, subst, arith, if◌then◌else◌}
use Rattle.std.specs.Prelude.{IfSome, is_some, is_none}
use Rattle.std.specs.List.{list_all}
use Rattle.std.specs.Ordering.{int_eq}
use Rattle.std.proofs.lemmas.Int.{ints}
use Rattle.fin_base.specs.Words.{IsWord}
use Rattle.fin_tensor.specs.TensorFunction.{TensorFunction}
use Rattle.fin_ast.specs.declared.tree.Index.{Index}
use Rattle.fin_ast.specs.declared.tree.Expr.{Expr}
use Rattle.fin_ast.specs.declared.tree.Stmt.{Stmt}
use Rattle.fin_ast.specs.Literals.{is_worded}
use Rattle.fin_ast.specs.Scope as scope
use Rattle.fin_ast.specs.Scope.{Scope, is_among, is_loop, differ, is_index, is_access, holds_of, is_named_expr}
use Rattle.fin_ast.specs.Value.{Numbers, Tensors, number, place, read, value_of}
use Rattle.fin_ast.proofs.Nodes as node
use Rattle.fin_ast.proofs.Values.{value_num}
use Rattle.fin_stage.specs.Staged.{Run, tensors_of, reads_step, can_read}
use Rattle.fin_stage.proofs.Alive.{left, right, both}
use Rattle.fin_simp.specs.Numbered.{Here, past_expr}
use Rattle.fin_simp.specs.declared.remainder.Left.{Left}
use Rattle.fin_simp.specs.declared.remainder.Left.TheVariants.{Literal, Open}
use Rattle.fin_simp.specs.Left.{Marks, nothing_known, as_expr, literal_in, left_of}
use Rattle.fin_simp.specs.Remaining.{literal_of, settled_literal}
use Rattle.fin_simp.specs.Rest.{Access, written_expr_step, reads_of}
use Rattle.fin_simp.specs.Right.{agrees, is_unknown, is_clear, Judging, right_expr_step, right_expr}
use Rattle.fin_simp.specs.Wording.{KnowsWords}
use Rattle.fin_simp.specs.Work.{World, is_in}
use Rattle.fin_simp.proofs.Induction.{ExprCases, by_expr}
use Rattle.fin_simp.proofs.Equations.{at_num, at_var, at_read, at_neg, at_two}
use Rattle.fin_simp.proofs.Literals.{literal_is}
use Rattle.fin_simp.proofs.Judging.{SameUnknown, right_value}
use Rattle.fin_simp.proofs.Values.{SeesWords, marked_is_word, left_value}
use Rattle.fin_work.specs.Gaps.{Stands}
use Rattle.fin_work.specs.Changing.{changed_by}
use Rattle.fin_work.proofs.Carrying.{IsRight, IsRightTest}
use Rattle.fin_work.proofs.Looking.{Look, looks, AllLooks}
use Rattle.fin_work.proofs.Numbering.{AllReads, reads_first, reads_second}

-- numbers that are the same below a variable; what is bound later is numbered from it on
abbrev pub Below : ℕ → Numbers → Numbers → Type 0
Below n vars later = (k : ℕ) → k < n → number later k ≡ number vars k

-- what is known of a test is right whenever it is run
abbrev pub TestRight : Marks → ℕ → Numbers → Look → Type 0
TestRight m n vars l = (z : ℤ) → m.tests l.test ≡ Some z → (later : Numbers) (ts : Tensors) → Below n vars later → SeesWords later ts → is_worded l.expr ≡ true → KnowsWords l.marks → right_expr l.expr l.read l.marks later ts ≡ true
    → int_eq z (pos 0) ≡ int_eq (value_of l.expr later ts) (pos 0)

-- each access of a program by its number
abbrev pub Table : Type 0
Table = ℕ → ℕ × List Index

abbrev pub Matches : Table → List Access → Type 0
Matches T reads = AllReads (λ a. T a.read ≡ (a.tensor, a.at)) reads

-- what is known of a read is right whenever it is run
abbrev pub ReadRight : World → Table → List Stmt → Here → Marks → ℕ → Numbers → Run → ℕ → Type 0
ReadRight w T xs h m n vars r k = (z : ℤ) → m.reads k ≡ Some z → (later : Numbers) → Below n vars later → (f : TensorFunction) → Stands w (T k).0 f
    → (is_in (changed_by xs h m) (T k).0 ≡ false → tensors_of w.setting r (T k).0 ≡ Some f) → read (Some f) (map (place later) (T k).1) ≡ z

pub record Known (w : World) (T : Table) (xs : List Stmt) (h : Here) (m : Marks) (loops : List ℕ) (n : ℕ) (vars : Numbers) (r : Run) : Type 0 where
  pub words : KnowsWords m
  pub numbers : (v : ℕ) → IfSome (m.vars v) (λ z. number vars v ≡ z)
  pub free : (v : ℕ) → is_among loops v ≡ true → m.vars v ≡ None
  pub reads : (k : ℕ) → ReadRight w T xs h m n vars r k
  pub tests : AllLooks (TestRight m n vars) (looks xs h m)

-- ---- words
known_sides : (m : Marks) (vars : Numbers) → SameUnknown m vars vars
known_sides m vars = record { long = refl; same = λ x h. refl }

same_int : (n z : ℤ) → z ≡ n → int_eq n z ≡ true
same_int n z e = grind (arith, ints, e)

agrees_by : (o : Option ℤ) (z : ℤ) → IfSome o (λ n. z ≡ n) → agrees o z ≡ true
agrees_by None z h = refl
agrees_by (Some n) z h = same_int n z h

-- ---- the value of an expression whose marks are right
module _ (vars : Numbers) (ts : Tensors) (sees : SeesWords vars ts) (x : Expr) (worded : is_worded x ≡ true) (k : ℕ) (m : Marks) (words : KnowsWords m) (rights : right_expr x k m vars ts ≡ true) where
  pub left_same : value_of (as_expr (left_of x k m)) vars ts ≡ value_of x vars ts
  left_same = left_value vars ts sees x worded k m words ∙ right_value m vars vars (known_sides m vars) ts x k rights

  pub value_word : IsWord (value_of x vars ts)
  value_word = subst IsWord (right_value m vars vars (known_sides m vars) ts x k rights) (marked_is_word vars ts sees x worded k m words)

  pub literal_right : IsRight (literal_of x k m) (value_of x vars ts)
  literal_right = subst (λ (o : Option ℤ). IsRight o (value_of x vars ts)) (sym (literal_is x k m)) (by (left_of x k m) left_same) where
    by : (l : Left) → value_of (as_expr l) vars ts ≡ value_of x vars ts → IsRight (literal_in l) (value_of x vars ts)
    by (Literal n) e = sym (value_num vars ts n) ∙ e
    by (Open y) e = tt

-- a test that is settled
settled_right : (o l : Option ℤ) (v : ℤ) → IsRight l v → IsRightTest o v → IsRightTest (settled_literal o l) v
settled_right None None v p q = tt
settled_right None (Some n) v p q = ap (λ (z : ℤ). int_eq z (pos 0)) p
settled_right (Some z) None v p q = q
settled_right (Some z) (Some n) v p q = by (int_eq n (pos 0)) where
  by : (b : Bool) → IsRightTest (if b then Some n else Some z) v
  by true = ap (λ (y : ℤ). int_eq y (pos 0)) p
  by false = q

pub test_right : (o l : Option ℤ) (v : ℤ) → IsRight l v → IsRightTest o v → IsRightTest (settled_literal o l) v
test_right = settled_right

-- ---- marks are right of an expression
module _ (w : World) (T : Table) (xs : List Stmt) (h : Here) (m : Marks) (sc : Scope) (n : ℕ) (vars : Numbers) (r' : Run) (known : Known w T xs h m sc.loops n vars r') (ts : Tensors) (same : tensors_of w.setting r' ≡ ts)
    (stands : (t : ℕ) (f : TensorFunction) → ts t ≡ Some f → Stands w t f) where
  none_is : (o : Option ℤ) → o ≡ None → is_none o ≡ true
  none_is None e = refl
  none_is (Some z) e = cc

  unknown : (o : Option ℕ) → is_loop sc o ≡ true → is_unknown m o ≡ true
  unknown None e = refl
  unknown (Some v) e = none_is (m.vars v) (known.free v e)

  clear : (i : Index) → is_index sc i ≡ true → is_clear m i ≡ true
  clear i e =
      let loops = left (is_loop sc i.first && is_loop sc i.second) (differ i.first i.second) e in
      both (is_unknown m i.first) (is_unknown m i.second) (unknown i.first (left (is_loop sc i.first) (is_loop sc i.second) loops)) (unknown i.second (right (is_loop sc i.first) (is_loop sc i.second) loops))

  all_clear : (at : List Index) → list_all (is_index sc) at ≡ true → list_all (is_clear m) at ≡ true
  all_clear [] e = refl
  all_clear (i ∷ at) e = both (is_clear m i) (list_all (is_clear m) at) (clear i (left (is_index sc i) (list_all (is_index sc) at) e)) (all_clear at (right (is_index sc i) (list_all (is_index sc) at) e))

  some_of : (o : Option TensorFunction) → is_some o ≡ true → (f : TensorFunction) × (o ≡ Some f)
  some_of None e = cc
  some_of (Some f) e = (f, refl)

  read_agrees : (k tensor : ℕ) (at : List Index) → T k ≡ (tensor, at) → is_some (ts tensor) ≡ true → (o : Option ℤ) → m.reads k ≡ o → agrees o (read (ts tensor) (map (place vars) at)) ≡ true
  read_agrees k tensor at match can None q = refl
  read_agrees k tensor at match can (Some z) q =
      let (f, is) = some_of (ts tensor) can in
      let held = known.reads k z q vars (λ j lt. refl) f (subst (λ (p : ℕ × List Index). Stands w p.0 f) (sym match) (stands tensor f is))
      (λ free. ap (λ (p : ℕ × List Index). tensors_of w.setting r' p.0) match ∙ ap (λ (us : Tensors). us tensor) same ∙ is) in
      same_int z (read (ts tensor) (map (place vars) at))
      (ap (λ (o : Option TensorFunction). read o (map (place vars) at)) is ∙ sym (ap (λ (p : ℕ × List Index). read (Some f) (map (place vars) p.1)) match) ∙ held)

  abbrev Rights : Expr → Type 0
  Rights x = is_named_expr x sc ≡ true → can_read x ts ≡ true → (k : ℕ) → Matches T (reads_of x k) → right_expr x k m vars ts ≡ true

  abbrev judge : Judging → Bool
  judge f = f m vars ts

  abbrev named : (Scope → Bool) → Bool
  named f = f sc

  abbrev readable : (Tensors → Bool) → Bool
  readable f = f ts

  abbrev Match : Access → Type 0
  Match a = T a.read ≡ (a.tensor, a.at)

  rights_cases : ExprCases Rights
  rights_cases = record {
    num = λ z a c k t. ap judge (at_num Judging right_expr_step z k);
    var = λ x line a c k t. ap judge (at_var Judging right_expr_step x line k) ∙ agrees_by (m.vars x) (number vars x) (known.numbers x);
    read = λ tensor at line a c k t.
        let t' : Matches T (record { read = k; tensor = tensor; at = at } ∷ []) = subst (Matches T) (at_read (List Access) written_expr_step tensor at line k) t in
        let access : is_access sc tensor at ≡ true = sym (ap named (node.of_read (Scope → Bool) scope.expr_step tensor at line)) ∙ a in
        let can : is_some (ts tensor) ≡ true = sym (ap readable (node.of_read (Tensors → Bool) reads_step tensor at line)) ∙ c in
        ap judge (at_read Judging right_expr_step tensor at line k)
        ∙ both (list_all (is_clear m) at) (agrees (m.reads k) (read (ts tensor) (map (place vars) at))) (all_clear at (right _ (list_all (is_index sc) at) access)) (read_agrees k tensor at t'.0 can (m.reads k) refl);
    neg = λ x hx a c k t.
        ap judge (at_neg Judging right_expr_step x k)
        ∙ hx (sym (ap named (node.of_neg (Scope → Bool) scope.expr_step x)) ∙ a) (sym (ap readable (node.of_neg (Tensors → Bool) reads_step x)) ∙ c) k (subst (Matches T) (at_neg (List Access) written_expr_step x k) t);
    two = λ o x y hx hy a c k t.
        let j = past_expr x k in
        let a' = sym (ap named (node.of_two (Scope → Bool) scope.expr_step o x y)) ∙ a in
        let c' = sym (ap readable (node.of_two (Tensors → Bool) reads_step o x y)) ∙ c in
        let t' = subst (Matches T) (at_two (List Access) written_expr_step o x y k) t in
        ap judge (at_two Judging right_expr_step o x y k)
        ∙ both (right_expr x k m vars ts) (right_expr y j m vars ts)
        (hx (left (is_named_expr x sc) (is_named_expr y sc) a') (left (can_read x ts) (can_read y ts) c') k (reads_first Match (reads_of x k) (reads_of y j) t'))
        (hy (right (is_named_expr x sc) (is_named_expr y sc) a') (right (can_read x ts) (can_read y ts) c') j (reads_second Match (reads_of x k) (reads_of y j) t'));
  }

  pub expr_right : (x : Expr) → Rights x
  expr_right = by_expr Rights rights_cases

-- ---- nothing is known
no_tests : (n : ℕ) (vars : Numbers) (ls : List Look) → AllLooks (TestRight nothing_known n vars) ls
no_tests n vars [] = tt
no_tests n vars (l ∷ ls) = ((λ z q later ts below sees worded words rights. cc), no_tests n vars ls)

pub nothing_right : (w : World) (T : Table) (xs : List Stmt) (h : Here) (loops : List ℕ) (n : ℕ) (vars : Numbers) (r : Run) → Known w T xs h nothing_known loops n vars r
nothing_right w T xs h loops n vars r = record {
  words = record { reads = λ k. tt; vars = λ x. tt };
  numbers = λ v. tt;
  free = λ v e. refl;
  reads = λ k z q later below f st seen. cc;
  tests = no_tests n vars (looks xs h nothing_known);
}
