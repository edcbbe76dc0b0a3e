-- Where the marks are right, a statement makes under them what it makes by dense evaluation.
use Rattle.std.proofs.Common.{◌≡◌, ℕ, zero, suc, ◌+◌, ◌-◌, ℤ, pos, ◌+ℤ◌, Bool, true, false, ◌&&◌, List, [], ◌∷◌, map, length, Option, Some, None, refl, sym, ap, ◌∙◌, arith, if◌then◌else◌}
use Rattle.std.specs.Prelude.{slice_set, is_some, is_none, unwrap_or, nat_eq}
use Rattle.std.specs.List.{list_all}
use Rattle.std.proofs.lemmas.Bool.Decides.{nat_tests}
use Rattle.std.specs.Ordering.{int_eq}
use Rattle.fin_base.specs.Words.{operate, negated}
use Rattle.fin_ast.specs.declared.tree.Index.{Index}
use Rattle.fin_ast.specs.declared.tree.Expr.{Expr}
use Rattle.fin_ast.specs.declared.tree.Stmt.{Stmt}
use Rattle.fin_ast.specs.Value.{Numbers, Tensors, Reading, number, number_if, place, read, value_of}
use Rattle.fin_ast.specs.Dense.{Made, Setting, range_of, kept}
use Rattle.fin_ast.proofs.Values.{value_num, value_var, value_read, value_neg, value_two}
use Rattle.fin_ast.proofs.Induction.{AllOf, Cases, by_kind, all_by_kind}
use Rattle.fin_simp.specs.Numbered.{Here, behind, behind_test, past_expr, past_stmt, numbered_all}
use Rattle.fin_simp.specs.Left.{Marks, binding, fails}
use Rattle.fin_simp.specs.Remaining.{literal_of}
use Rattle.fin_ast.specs.Actions.{in_turn}
use Rattle.fin_simp.specs.Marked.{Making, tensors_at, braced, repeated, updated, if_holds, making, making_all, marked_value_step, marked_value, settled_value, bound_to, marked_step, marked, marked_all}
use Rattle.fin_simp.specs.Right.{agrees, same_truth, agrees_as_test, is_unknown, is_clear, Judging, right_expr_step, right_expr, Judged, all_right, all_make, repeated_right, judged_step, judged, is_right, are_right}
use Rattle.fin_simp.proofs.Induction.{ExprCases, by_expr}
use Rattle.fin_simp.proofs.Equations.{at_num, at_var, at_read, at_neg, at_two, at_block, at_loop, at_cond, at_bind, at_declare, at_freeze, at_thaw, at_update}
use Rattle.fin_simp.proofs.Literals.{same_number}
use Rattle.fin_simp.proofs.Staying.{left_true, right_true}
use Rattle.fin_simp.proofs.Makings.{make_block, make_loop, make_cond, make_bind, make_declare, make_freeze, make_thaw, make_update}

-- numbers that are the same but for known variables
pub record SameUnknown (m : Marks) (own vars : Numbers) : Type 0 where
  pub long : length own ≡ length vars
  pub same : (x : ℕ) → m.vars x ≡ None → number own x ≡ number vars x

set_same : (own vars : Numbers) (var x : ℕ) (z : ℤ) → length own ≡ length vars → number own x ≡ number vars x → number (slice_set own var z) x ≡ number (slice_set vars var z) x
set_same [] [] var x z l h = refl
set_same [] (v ∷ vars) var x z l h = absurd (omega (arith, l))
set_same (o ∷ own) [] var x z l h = absurd (omega (arith, l))
set_same (o ∷ own) (v ∷ vars) zero zero z l h = refl
set_same (o ∷ own) (v ∷ vars) zero (suc x) z l h = h
set_same (o ∷ own) (v ∷ vars) (suc k) zero z l h = h
set_same (o ∷ own) (v ∷ vars) (suc k) (suc x) z l h = set_same own vars k x z (omega (arith, l)) h

set_there : (own vars : Numbers) (var : ℕ) (z : ℤ) → length own ≡ length vars → number (slice_set own var z) var ≡ number (slice_set vars var z) var
set_there [] [] var z l = refl
set_there [] (v ∷ vars) var z l = absurd (omega (arith, l))
set_there (o ∷ own) [] var z l = absurd (omega (arith, l))
set_there (o ∷ own) (v ∷ vars) zero z l = refl
set_there (o ∷ own) (v ∷ vars) (suc k) z l = set_there own vars k z (omega (arith, l))

eq_next : (x k : ℕ) → nat_eq (suc x) (suc k) ≡ nat_eq x k
eq_next x k = grind (arith, nat_tests)

set_other : (vars : Numbers) (var x : ℕ) (z : ℤ) → nat_eq x var ≡ false → number (slice_set vars var z) x ≡ number vars x
set_other [] var x z h = refl
set_other (v ∷ vars) zero zero z h = let y : true ≡ false = h in cc
set_other (v ∷ vars) zero (suc x) z h = refl
set_other (v ∷ vars) (suc k) zero z h = refl
set_other (v ∷ vars) (suc k) (suc x) z h = set_other vars k x z (sym (eq_next x k) ∙ h)

set_length : (vars : Numbers) (var : ℕ) (z : ℤ) → length (slice_set vars var z) ≡ length vars
set_length [] var z = refl
set_length (v ∷ vars) zero z = refl
set_length (v ∷ vars) (suc k) z = ap suc (set_length vars k z)

subst_there : (own vars : Numbers) (var x : ℕ) (z : ℤ) → x ≡ var → length own ≡ length vars → number (slice_set own var z) x ≡ number (slice_set vars var z) x
subst_there own vars var x z i l = ap (number (slice_set own var z)) i ∙ set_there own vars var z l ∙ sym (ap (number (slice_set vars var z)) i)

pub same_bound : (m : Marks) (own vars : Numbers) (var : ℕ) (z : ℤ) → SameUnknown m own vars → SameUnknown (binding m var None) (slice_set own var z) (slice_set vars var z)
same_bound m own vars var z r = record {
  long = set_length own var z ∙ r.long ∙ sym (set_length vars var z);
  same = λ x. elim (nat_eq x var) as (λ b. nat_eq x var ≡ b → (if b then None else m.vars x) ≡ None → number (slice_set own var z) x ≡ number (slice_set vars var z) x) [
    | true ↦ λ q h. let i : x ≡ var = grind (arith, nat_tests, q) in subst_there own vars var x z i r.long
    | false ↦ λ q h. set_same own vars var x z r.long (r.same x h)
  ] refl;
}

pub same_known : (m : Marks) (own vars : Numbers) (var : ℕ) (n z : ℤ) → SameUnknown m own vars → SameUnknown (binding m var (Some n)) own (slice_set vars var z)
same_known m own vars var n z r = record {
  long = r.long ∙ sym (set_length vars var z);
  same = λ x. elim (nat_eq x var) as (λ b. nat_eq x var ≡ b → (if b then Some n else m.vars x) ≡ None → number own x ≡ number (slice_set vars var z) x) [
    | true ↦ λ q h. cc
    | false ↦ λ q h. r.same x h ∙ sym (set_other vars var x z q)
  ] refl;
}

pub same_let : (o : Option ℤ) (m : Marks) (own vars : Numbers) (var : ℕ) (z : ℤ) → SameUnknown m own vars → SameUnknown (binding m var o) (bound_to o var z own) (slice_set vars var z)
same_let None m own vars var z r = same_bound m own vars var z r
same_let (Some n) m own vars var z r = same_known m own vars var n z r

-- ---- indices
unknown_is : (o : Option ℤ) → is_none o ≡ true → o ≡ None
unknown_is None h = refl
unknown_is (Some n) h = let y : false ≡ true = h in cc

module _ (m : Marks) (own vars : Numbers) (r : SameUnknown m own vars) where
  same_if : (x : Option ℕ) → is_unknown m x ≡ true → number_if own x ≡ number_if vars x
  same_if None h = refl
  same_if (Some x) h = r.same x (unknown_is (m.vars x) h)

  same_place : (i : Index) → is_clear m i ≡ true → place own i ≡ place vars i
  same_place i h =
      ap (λ z. (z +ℤ number_if own i.second) +ℤ i.offset) (same_if i.first (left_true (is_unknown m i.first) (is_unknown m i.second) h))
      ∙ ap (λ z. (number_if vars i.first +ℤ z) +ℤ i.offset) (same_if i.second (right_true (is_unknown m i.first) (is_unknown m i.second) h))

  pub same_places : (at : List Index) → list_all (is_clear m) at ≡ true → map (place own) at ≡ map (place vars) at
  same_places [] h = refl
  same_places (i ∷ at) h =
      ap (λ z. z ∷ map (place own) at) (same_place i (left_true (is_clear m i) (list_all (is_clear m) at) h))
      ∙ ap (λ (zs : List ℤ). place vars i ∷ zs) (same_places at (right_true (is_clear m i) (list_all (is_clear m) at) h))

  -- ---- values
  known_right : (o : Option ℤ) (y z : ℤ) → (o ≡ None → y ≡ z) → agrees o z ≡ true → unwrap_or o y ≡ z
  known_right None y z f h = f refl
  known_right (Some n) y z f h = same_number n z h

  module _ (ts : Tensors) where
    abbrev RightValue : Expr → Type 0
    RightValue x = (k : ℕ) → right_expr x k m vars ts ≡ true → marked_value x k m own ts ≡ value_of x vars ts

    abbrev at_own : (Marks → Reading) → ℤ
    at_own f = f m own ts

    abbrev judge : Judging → Bool
    judge f = f m vars ts

    right_cases : ExprCases RightValue
    right_cases = record {
      num = λ n k h. ap at_own (at_num (Marks → Reading) marked_value_step n k) ∙ sym (value_num vars ts n);
      var = λ var line k h. ap at_own (at_var (Marks → Reading) marked_value_step var line k) ∙ known_right (m.vars var) (number own var) (number vars var) (r.same var) (sym (ap judge (at_var Judging right_expr_step var line k)) ∙ h) ∙ sym (value_var vars ts var line);
      read = λ tensor at line k h.
          let both = sym (ap judge (at_read Judging right_expr_step tensor at line k)) ∙ h in
          let z = read (ts tensor) (map (place vars) at) in
          let clear = left_true (list_all (is_clear m) at) (agrees (m.reads k) z) both in
          ap at_own (at_read (Marks → Reading) marked_value_step tensor at line k)
          ∙ known_right (m.reads k) (read (ts tensor) (map (place own) at)) z (λ o. ap (read (ts tensor)) (same_places at clear)) (right_true (list_all (is_clear m) at) (agrees (m.reads k) z) both)
          ∙ sym (value_read vars ts tensor at line);
      neg = λ x hx k h. ap at_own (at_neg (Marks → Reading) marked_value_step x k) ∙ ap negated (hx k (sym (ap judge (at_neg Judging right_expr_step x k)) ∙ h)) ∙ sym (value_neg vars ts x);
      two = λ o x y hx hy k h.
          let both = sym (ap judge (at_two Judging right_expr_step o x y k)) ∙ h in
          let j = past_expr x k in
          ap at_own (at_two (Marks → Reading) marked_value_step o x y k)
          ∙ ap (λ z. operate o z (marked_value y j m own ts)) (hx k (left_true (right_expr x k m vars ts) (right_expr y j m vars ts) both))
          ∙ ap (operate o (value_of x vars ts)) (hy j (right_true (right_expr x k m vars ts) (right_expr y j m vars ts) both))
          ∙ sym (value_two vars ts o x y);
    }

    pub right_value : (x : Expr) → RightValue x
    right_value = by_expr RightValue right_cases

equal_truths : (a b : Bool) → same_truth a b ≡ true → a ≡ b
equal_truths true b h = sym h
equal_truths false true h = h
equal_truths false false h = refl

-- a test that is settled holds as it does
same_test : (n v : ℤ) → same_truth (int_eq n (pos 0)) (int_eq v (pos 0)) ≡ true → int_eq n (pos 0) ≡ int_eq v (pos 0)
same_test n v h = equal_truths (int_eq n (pos 0)) (int_eq v (pos 0)) h

either_test : (b : Bool) (n v : ℤ) → same_truth (int_eq n (pos 0)) (int_eq v (pos 0)) ≡ true → int_eq (if b then v else n) (pos 0) ≡ int_eq v (pos 0)
either_test true n v h = refl
either_test false n v h = same_test n v h

pub settled_test : (o literal : Option ℤ) (v : ℤ) → agrees_as_test o v ≡ true → int_eq (settled_value o literal v) (pos 0) ≡ int_eq v (pos 0)
settled_test None literal v h = refl
settled_test (Some n) literal v h = either_test (fails literal) n v h

module _ (w : Setting) where
  -- ---- the judge makes what dense evaluation makes
  abbrev MakesSame : Stmt → Type 0
  MakesSame x = (h : Here) (vars : Numbers) (ts : Made) → (judged w x h).make vars ts ≡ making w x vars ts

  abbrev make_at : Numbers → Made → Judged → Made
  make_at vars ts f = f.make vars ts

  parts_make : (body : List Stmt) → AllOf MakesSame body → (h : Here) (vars : Numbers) (ts : Made) → in_turn (map (λ (x : Judged). x.make) (numbered_all Judged (judged_step w) body h)) vars ts ≡ making_all w body vars ts
  parts_make [] all h vars ts = refl
  parts_make (x ∷ xs) all h vars ts = parts_make xs all.1 (past_stmt x h) vars ((judged w x h).make vars ts) ∙ ap (making_all w xs vars) (all.0 h vars ts)

  whole_make : (body : List Stmt) → AllOf MakesSame body → (h : Here) (vars : Numbers) (ts : Made) → all_make (numbered_all Judged (judged_step w) body h) vars ts ≡ braced (making_all w body) vars ts
  whole_make body all h vars ts = ap (kept (map is_some ts)) (parts_make body all h vars ts)

  loop_makes : (n lo var : ℕ) (body : List Stmt) → AllOf MakesSame body → (h : Here) (vars : Numbers) (ts : Made) → repeated n lo var (all_make (numbered_all Judged (judged_step w) body h)) vars ts ≡ repeated n lo var (braced (making_all w body)) vars ts
  loop_makes zero lo var body all h vars ts = refl
  loop_makes (suc n) lo var body all h vars ts =
      let inner = slice_set vars var (pos lo) in
      loop_makes n (lo + 1) var body all h vars (all_make (numbered_all Judged (judged_step w) body h) inner ts)
      ∙ ap (repeated n (lo + 1) var (braced (making_all w body)) vars) (whole_make body all h inner ts)

  if_also : (b : Bool) (ts x y : Made) → x ≡ y → (if b then ts else x) ≡ (if b then ts else y)
  if_also true ts x y h = refl
  if_also false ts x y h = h

  judge_cases : Cases MakesSame
  judge_cases = record {
    block = λ body line last all h vars ts. ap (make_at vars ts) (at_block Judged (judged_step w) body line last h) ∙ whole_make body all h vars ts ∙ sym (make_block w vars ts body line last);
    loop = λ var range par body line last all h vars ts. ap (make_at vars ts) (at_loop Judged (judged_step w) var range par body line last h) ∙ loop_makes ((range_of w var).1 - (range_of w var).0) (range_of w var).0 var body all h vars ts ∙ sym (make_loop w vars ts var range par body line last);
    cond = λ test body line last all h vars ts. ap (make_at vars ts) (at_cond Judged (judged_step w) test body line last h) ∙ if_also (int_eq (value_of test vars (tensors_at w ts)) (pos 0)) ts _ _ (whole_make body all (behind_test test h) vars ts) ∙ sym (make_cond w vars ts test body line last);
    bind = λ var value body line last all h vars ts. ap (make_at vars ts) (at_bind Judged (judged_step w) var value body line last h) ∙ whole_make body all (behind value h) (slice_set vars var (value_of value vars (tensors_at w ts))) ts ∙ sym (make_bind w vars ts var value body line last);
    declare = λ tensor value line h vars ts. ap (make_at vars ts) (at_declare Judged (judged_step w) tensor value line h) ∙ sym (make_declare w vars ts tensor value line);
    freeze = λ tensor line h vars ts. ap (make_at vars ts) (at_freeze Judged (judged_step w) tensor line h) ∙ sym (make_freeze w vars ts tensor line);
    thaw = λ tensor line h vars ts. ap (make_at vars ts) (at_thaw Judged (judged_step w) tensor line h) ∙ sym (make_thaw w vars ts tensor line);
    update = λ tensor at by value line h vars ts. ap (make_at vars ts) (at_update Judged (judged_step w) tensor at by value line h) ∙ sym (make_update w vars ts tensor at by value line);
  }

  pub judge_makes : (x : Stmt) → MakesSame x
  judge_makes = by_kind MakesSame judge_cases

  -- ---- right marks
  abbrev Right : Stmt → Type 0
  Right x = (h : Here) (m : Marks) (own vars : Numbers) (ts : Made) → SameUnknown m own vars → is_right w x h m vars ts ≡ true → marked w x h m own ts ≡ making w x vars ts

  parts_right : (body : List Stmt) → AllOf Right body → (h : Here) (m : Marks) (own vars : Numbers) (ts : Made) → SameUnknown m own vars → are_right w body h m vars ts ≡ true → marked_all w body h m own ts ≡ making_all w body vars ts
  parts_right [] all h m own vars ts r q = refl
  parts_right (x ∷ xs) all h m own vars ts r q =
      let first = left_true (is_right w x h m vars ts) (are_right w xs (past_stmt x h) m vars ((judged w x h).make vars ts)) q in
      let rest = right_true (is_right w x h m vars ts) (are_right w xs (past_stmt x h) m vars ((judged w x h).make vars ts)) q in
      ap (marked_all w xs (past_stmt x h) m own) (all.0 h m own vars ts r first)
      ∙ parts_right xs all.1 (past_stmt x h) m own vars (making w x vars ts) r (sym (ap (are_right w xs (past_stmt x h) m vars) (judge_makes x h vars ts)) ∙ rest)

  whole_right : (body : List Stmt) → AllOf Right body → (h : Here) (m : Marks) (own vars : Numbers) (ts : Made) → SameUnknown m own vars → are_right w body h m vars ts ≡ true → braced (marked_all w body h m) own ts ≡ braced (making_all w body) vars ts
  whole_right body all h m own vars ts r q = ap (kept (map is_some ts)) (parts_right body all h m own vars ts r q)

  loop_right : (n lo var : ℕ) (body : List Stmt) → AllOf Right body → (h : Here) (m : Marks) (own vars : Numbers) (ts : Made) → SameUnknown m own vars
      → repeated_right n lo var (numbered_all Judged (judged_step w) body h) (binding m var None) vars ts ≡ true → repeated n lo var (braced (marked_all w body h (binding m var None))) own ts ≡ repeated n lo var (braced (making_all w body)) vars ts
  loop_right zero lo var body all h m own vars ts r q = refl
  loop_right (suc n) lo var body all h m own vars ts r q =
      let inner = slice_set vars var (pos lo) in
      let js = numbered_all Judged (judged_step w) body h in
      let m' = binding m var None in
      let first = left_true (all_right js m' inner ts) (repeated_right n (lo + 1) var js m' vars (all_make js inner ts)) q in
      let rest = right_true (all_right js m' inner ts) (repeated_right n (lo + 1) var js m' vars (all_make js inner ts)) q in
      ap (repeated n (lo + 1) var (braced (marked_all w body h m')) own) (whole_right body all h m' (slice_set own var (pos lo)) inner ts (same_bound m own vars var (pos lo) r) first)
      ∙ loop_right n (lo + 1) var body all h m own vars (braced (making_all w body) inner ts) r
      (sym (ap (repeated_right n (lo + 1) var js m' vars) (whole_make body (all_by_kind MakesSame judge_cases body) h inner ts)) ∙ rest)

  if_right : (b : Bool) (ts x y : Made) (c : Bool) → (if b then true else c) ≡ true → (c ≡ true → x ≡ y) → (if b then ts else x) ≡ (if b then ts else y)
  if_right true ts x y c h f = refl
  if_right false ts x y c h f = f h

  abbrev right_at : Marks → Numbers → Made → Judged → Bool
  right_at m vars ts f = f.right m vars ts

  abbrev marked_at : Marks → Numbers → Made → (Marks → Making) → Made
  marked_at m own ts f = f m own ts

  right_stmt_cases : Cases Right
  right_stmt_cases = record {
    block = λ body line last all h m own vars ts r q.
        ap (marked_at m own ts) (at_block (Marks → Making) (marked_step w) body line last h)
        ∙ whole_right body all h m own vars ts r (sym (ap (right_at m vars ts) (at_block Judged (judged_step w) body line last h)) ∙ q)
        ∙ sym (make_block w vars ts body line last);
    loop = λ var range par body line last all h m own vars ts r q.
        ap (marked_at m own ts) (at_loop (Marks → Making) (marked_step w) var range par body line last h)
        ∙ loop_right ((range_of w var).1 - (range_of w var).0) (range_of w var).0 var body all h m own vars ts r (sym (ap (right_at m vars ts) (at_loop Judged (judged_step w) var range par body line last h)) ∙ q)
        ∙ sym (make_loop w vars ts var range par body line last);
    cond = λ test body line last all h m own vars ts r q.
        let inner = behind_test test h in
        let v = value_of test vars (tensors_at w ts) in
        let goes = if int_eq v (pos 0) then true else are_right w body inner m vars ts in
        let three = sym (ap (right_at m vars ts) (at_cond Judged (judged_step w) test body line last h)) ∙ q in
        let re = right_expr test h.read m vars (tensors_at w ts) in
        let mark = agrees_as_test (m.tests h.test) v in
        let a = left_true re (mark && goes) three in
        let rest = right_true re (mark && goes) three in
        let b = left_true mark goes rest in
        let c = right_true mark goes rest in
        ap (marked_at m own ts) (at_cond (Marks → Making) (marked_step w) test body line last h)
        ∙ ap (λ z. if_holds (settled_value (m.tests h.test) (literal_of test h.read m) z) (braced (marked_all w body inner m)) own ts) (right_value m own vars r (tensors_at w ts) test h.read a)
        ∙ ap (λ t. if t then ts else braced (marked_all w body inner m) own ts) (settled_test (m.tests h.test) (literal_of test h.read m) v b)
        ∙ if_right (int_eq v (pos 0)) ts (braced (marked_all w body inner m) own ts) (braced (making_all w body) vars ts) (are_right w body inner m vars ts) c (whole_right body all inner m own vars ts r)
        ∙ sym (make_cond w vars ts test body line last);
    bind = λ var value body line last all h m own vars ts r q.
        let inner = behind value h in
        let o = literal_of value h.read m in
        let v = value_of value vars (tensors_at w ts) in
        let both = sym (ap (right_at m vars ts) (at_bind Judged (judged_step w) var value body line last h)) ∙ q in
        let re = right_expr value h.read m vars (tensors_at w ts) in
        let rs = are_right w body inner (binding m var o) (slice_set vars var v) ts in
        ap (marked_at m own ts) (at_bind (Marks → Making) (marked_step w) var value body line last h)
        ∙ ap (λ z. braced (marked_all w body inner (binding m var o)) (bound_to o var z own) ts) (right_value m own vars r (tensors_at w ts) value h.read (left_true re rs both))
        ∙ whole_right body all inner (binding m var o) (bound_to o var v own) (slice_set vars var v) ts (same_let o m own vars var v r) (right_true re rs both)
        ∙ sym (make_bind w vars ts var value body line last);
    declare = λ tensor value line h m own vars ts r q. ap (marked_at m own ts) (at_declare (Marks → Making) (marked_step w) tensor value line h) ∙ sym (make_declare w vars ts tensor value line);
    freeze = λ tensor line h m own vars ts r q. ap (marked_at m own ts) (at_freeze (Marks → Making) (marked_step w) tensor line h) ∙ sym (make_freeze w vars ts tensor line);
    thaw = λ tensor line h m own vars ts r q. ap (marked_at m own ts) (at_thaw (Marks → Making) (marked_step w) tensor line h) ∙ sym (make_thaw w vars ts tensor line);
    update = λ tensor at by value line h m own vars ts r q.
        let both = sym (ap (right_at m vars ts) (at_update Judged (judged_step w) tensor at by value line h)) ∙ q in
        let clear = list_all (is_clear m) at in
        let re = right_expr value h.read m vars (tensors_at w ts) in
        ap (marked_at m own ts) (at_update (Marks → Making) (marked_step w) tensor at by value line h)
        ∙ ap (λ z. updated tensor (map (place own) at) by z ts) (right_value m own vars r (tensors_at w ts) value h.read (right_true clear re both))
        ∙ ap (λ (zs : List ℤ). updated tensor zs by (value_of value vars (tensors_at w ts)) ts) (same_places m own vars r at (left_true clear re both))
        ∙ sym (make_update w vars ts tensor at by value line);
  }

  -- where the marks are right, a statement makes under them what it makes
  pub right_marks : (x : Stmt) → Right x
  right_marks = by_kind Right right_stmt_cases

  pub right_marks_all : (body : List Stmt) (h : Here) (m : Marks) (own vars : Numbers) (ts : Made) → SameUnknown m own vars → are_right w body h m vars ts ≡ true → marked_all w body h m own ts ≡ making_all w body vars ts
  right_marks_all body = parts_right body (all_by_kind Right right_stmt_cases body)
