-- The law of simplification: what is left of a statement makes what the statement makes under the marks.
use Rattle.std.proofs.Common.{◌≡◌, ℕ, zero, suc, ◌+◌, ◌-◌, ◌<◌, ◌≤◌, ℤ, pos, Bool, true, false, List, [], ◌∷◌, map, Option, Some, None, refl, sym, ap, ◌∙◌, arith, subst, if◌then◌else◌}
use Rattle.std.specs.Prelude.{slice_set, is_some}
use Rattle.std.specs.Ordering.{int_eq}
use Rattle.fin_base.specs.Words.{IsWord, identity}
use Rattle.fin_base.specs.declared.reduce.Reduce.{Reduce}
use Rattle.fin_ast.specs.declared.tree.Index.{Index}
use Rattle.fin_ast.specs.declared.tree.Stmt.{Stmt}
use Rattle.fin_ast.specs.declared.tree.Stmt.TheVariants as s
use Rattle.fin_ast.specs.Value.{Numbers, place, value_of}
use Rattle.fin_ast.specs.Dense.{Made, Setting, range_of, kept}
use Rattle.fin_ast.proofs.Nodes as node
use Rattle.fin_ast.proofs.Values.{value_num}
use Rattle.fin_ast.proofs.Induction.{AllOf, Cases, by_kind, all_by_kind}
use Rattle.fin_simp.specs.Numbered.{Here, behind, behind_test, past_stmt}
use Rattle.fin_simp.specs.declared.remainder.Left.{Left}
use Rattle.fin_simp.specs.declared.remainder.Left.TheVariants.{Literal, Open}
use Rattle.fin_simp.specs.Left.{Marks, binding, as_expr, literal_in, fails, left_of}
use Rattle.fin_simp.specs.Simplified.{is_some_number, is_identity, settled, test_left, bound, simplified_step, simplified, simplified_all}
use Rattle.fin_simp.specs.Remaining.{literal_of}
use Rattle.fin_ast.specs.Literals.{is_worded, all_hold, worded_stmt_step, is_worded_stmt}
use Rattle.fin_simp.specs.Wording.{KnowsWords}
use Rattle.fin_simp.specs.Marked.{Making, tensors_at, braced, repeated, updated, if_holds, making_all, marked_value, settled_value, bound_to, marked_step, marked, marked_all}
use Rattle.fin_simp.specs.Worthy.{IsWorthy, WordNumbers}
use Rattle.fin_simp.proofs.Equations.{at_block, at_loop, at_cond, at_bind, at_declare, at_freeze, at_thaw, at_update}
use Rattle.fin_simp.proofs.Literals.{same_number, literal_is}
use Rattle.fin_simp.proofs.Staying.{left_true, right_true, literal_is_word, binding_words}
use Rattle.fin_simp.proofs.Values.{SeesWords, marked_is_word, left_value}
use Rattle.fin_simp.proofs.Makings.{make_loop, make_bind, make_declare, make_freeze, make_thaw, make_update, kept_self}
use Rattle.fin_simp.proofs.Simplifying.{number_is_word, set_words, made_append, opened_makes, around_makes, chosen_makes, repeated_nothing}

module _ (w : Setting) (Q : Made → Type 0) (worthy : IsWorthy w Q) where
  pub sees : (vars : Numbers) (ts : Made) → WordNumbers vars → Q ts → SeesWords vars (tensors_at w ts)
  sees vars ts h q = record { numbers = number_is_word vars h; reads = worthy.reads ts q }

  abbrev at_all : Marks → Numbers → Made → (Marks → Making) → Made
  at_all m vars ts f = f m vars ts

  abbrev left_at : Marks → Numbers → Made → (Marks → List Stmt) → Made
  left_at m vars ts f = making_all w (f m) vars ts

  -- ---- a statement under marks keeps what the law asks for
  abbrev Keeps : Making → Type 0
  Keeps a = (vars : Numbers) (ts : Made) → WordNumbers vars → Q ts → Q (a vars ts)

  abbrev MarkedKeeps : Stmt → Type 0
  MarkedKeeps x = is_worded_stmt x ≡ true → (h : Here) (m : Marks) → KnowsWords m → Keeps (marked w x h m)

  all_keep : (body : List Stmt) → AllOf MarkedKeeps body → all_hold (map is_worded_stmt body) ≡ true → (h : Here) (m : Marks) → KnowsWords m → Keeps (marked_all w body h m)
  all_keep [] all g h m k vars ts v q = q
  all_keep (x ∷ xs) all g h m k vars ts v q =
      all_keep xs all.1 (right_true (is_worded_stmt x) (all_hold (map is_worded_stmt xs)) g) (past_stmt x h) m k vars (marked w x h m vars ts) v
      (all.0 (left_true (is_worded_stmt x) (all_hold (map is_worded_stmt xs)) g) h m k vars ts v q)

  braced_keeps : (a : Making) → Keeps a → Keeps (braced a)
  braced_keeps a f vars ts v q = worthy.closes ts (a vars ts) (f vars ts v q)

  repeated_keeps : (n lo var : ℕ) (a : Making) → ((c : ℕ) → lo ≤ c → c < lo + n → IsWord (pos c)) → Keeps a → Keeps (repeated n lo var a)
  repeated_keeps zero lo var a r f vars ts v q = q
  repeated_keeps (suc n) lo var a r f vars ts v q =
      repeated_keeps n (lo + 1) var a (λ c a l. r c (omega (arith, a)) (omega (arith, l))) f vars (a (slice_set vars var (pos lo)) ts) v
      (f (slice_set vars var (pos lo)) ts (set_words vars var (pos lo) v (r lo (omega arith) (omega arith))) q)

  if_keeps : (b : Bool) (ts ts' : Made) → Q ts → Q ts' → Q (if b then ts else ts')
  if_keeps true ts ts' p q = p
  if_keeps false ts ts' p q = q

  bound_words : (o : Option ℤ) (var : ℕ) (z : ℤ) (vars : Numbers) → WordNumbers vars → IsWord z → WordNumbers (bound_to o var z vars)
  bound_words None var z vars v p = set_words vars var z v p
  bound_words (Some n) var z vars v p = v

  keep_cases : Cases MarkedKeeps
  keep_cases = record {
    block = λ body line last all g h m k vars ts v q.
        subst Q (sym (ap (at_all m vars ts) (at_block (Marks → Making) (marked_step w) body line last h)))
        (braced_keeps (marked_all w body h m) (all_keep body all (sym (node.of_block Bool worded_stmt_step body line last) ∙ g) h m k) vars ts v q);
    loop = λ var range par body line last all g h m k vars ts v q.
        subst Q (sym (ap (at_all m vars ts) (at_loop (Marks → Making) (marked_step w) var range par body line last h)))
        (repeated_keeps ((range_of w var).1 - (range_of w var).0) (range_of w var).0 var (braced (marked_all w body h (binding m var None)))
        (worthy.ranges var)
        (braced_keeps (marked_all w body h (binding m var None)) (all_keep body all (sym (node.of_loop Bool worded_stmt_step var range par body line last) ∙ g) h (binding m var None) (binding_words m var None tt k))) vars ts v q);
    cond = λ test body line last all g h m k vars ts v q.
        let both = sym (node.of_cond Bool worded_stmt_step test body line last) ∙ g in
        subst Q (sym (ap (at_all m vars ts) (at_cond (Marks → Making) (marked_step w) test body line last h)))
        (if_keeps (int_eq (settled_value (m.tests h.test) (literal_of test h.read m) (marked_value test h.read m vars (tensors_at w ts))) (pos 0)) ts (braced (marked_all w body (behind_test test h) m) vars ts) q
        (braced_keeps (marked_all w body (behind_test test h) m) (all_keep body all (right_true (is_worded test) (all_hold (map is_worded_stmt body)) both) (behind_test test h) m k) vars ts v q));
    bind = λ var value body line last all g h m k vars ts v q.
        let both = sym (node.of_bind Bool worded_stmt_step var value body line last) ∙ g in
        let gv = left_true (is_worded value) (all_hold (map is_worded_stmt body)) both in
        let o = literal_of value h.read m in
        let z = marked_value value h.read m vars (tensors_at w ts) in
        subst Q (sym (ap (at_all m vars ts) (at_bind (Marks → Making) (marked_step w) var value body line last h)))
        (braced_keeps (marked_all w body (behind value h) (binding m var o)) (all_keep body all (right_true (is_worded value) (all_hold (map is_worded_stmt body)) both) (behind value h) (binding m var o) (binding_words m var o (literal_is_word value gv h.read m k) k))
        (bound_to o var z vars) ts (bound_words o var z vars v (marked_is_word vars (tensors_at w ts) (sees vars ts v q) value gv h.read m k)) q);
    declare = λ tensor value line g h m k vars ts v q. subst Q (sym (ap (at_all m vars ts) (at_declare (Marks → Making) (marked_step w) tensor value line h))) (worthy.declares tensor ts q);
    freeze = λ tensor line g h m k vars ts v q. subst Q (sym (ap (at_all m vars ts) (at_freeze (Marks → Making) (marked_step w) tensor line h))) q;
    thaw = λ tensor line g h m k vars ts v q. subst Q (sym (ap (at_all m vars ts) (at_thaw (Marks → Making) (marked_step w) tensor line h))) q;
    update = λ tensor at by value line g h m k vars ts v q.
        subst Q (sym (ap (at_all m vars ts) (at_update (Marks → Making) (marked_step w) tensor at by value line h)))
        (worthy.updates tensor (map (place vars) at) by (marked_value value h.read m vars (tensors_at w ts)) ts
        (marked_is_word vars (tensors_at w ts) (sees vars ts v q) value (sym (node.of_update Bool worded_stmt_step tensor at by value line) ∙ g) h.read m k) q);
  }

  pub marked_keeps : (x : Stmt) → MarkedKeeps x
  marked_keeps = by_kind MarkedKeeps keep_cases

  -- ---- the law
  abbrev Same : Making → Making → Type 0
  Same a b = (vars : Numbers) (ts : Made) → WordNumbers vars → Q ts → a vars ts ≡ b vars ts

  abbrev Simplifies : Stmt → Type 0
  Simplifies x = is_worded_stmt x ≡ true → (h : Here) (m : Marks) → KnowsWords m → Same (making_all w (simplified x h m)) (marked w x h m)

  all_simplify : (body : List Stmt) → AllOf Simplifies body → all_hold (map is_worded_stmt body) ≡ true → (h : Here) (m : Marks) → KnowsWords m → Same (making_all w (simplified_all body h m)) (marked_all w body h m)
  all_simplify [] all g h m k vars ts v q = refl
  all_simplify (x ∷ xs) all g h m k vars ts v q =
      let gx = left_true (is_worded_stmt x) (all_hold (map is_worded_stmt xs)) g in
      let gs = right_true (is_worded_stmt x) (all_hold (map is_worded_stmt xs)) g in
      made_append w (simplified x h m) (simplified_all xs (past_stmt x h) m) vars ts
      ∙ ap (making_all w (simplified_all xs (past_stmt x h) m) vars) (all.0 gx h m k vars ts v q)
      ∙ all_simplify xs all.1 gs (past_stmt x h) m k vars (marked w x h m vars ts) v (marked_keeps x gx h m k vars ts v q)

  braced_same : (a b : Making) → Same a b → Same (braced a) (braced b)
  braced_same a b f vars ts v q = ap (kept (map is_some ts)) (f vars ts v q)

  repeated_same : (n lo var : ℕ) (a b : Making) → ((c : ℕ) → lo ≤ c → c < lo + n → IsWord (pos c)) → Keeps b → Same a b → Same (repeated n lo var a) (repeated n lo var b)
  repeated_same zero lo var a b r f e vars ts v q = refl
  repeated_same (suc n) lo var a b r f e vars ts v q =
      let inner = slice_set vars var (pos lo) in
      let vi = set_words vars var (pos lo) v (r lo (omega arith) (omega arith)) in
      ap (repeated n (lo + 1) var a vars) (e inner ts vi q)
      ∙ repeated_same n (lo + 1) var a b (λ c a l. r c (omega (arith, a)) (omega (arith, l))) f e vars (b inner ts) v (f inner ts vi q)

  settled_either : (b : Bool) (l : Left) (n z : ℤ) (vars : Numbers) (ts : Made) → value_of (as_expr l) vars (tensors_at w ts) ≡ z → value_of (as_expr (if b then l else Literal n)) vars (tensors_at w ts) ≡ (if b then z else n)
  settled_either true l n z vars ts e = e
  settled_either false l n z vars ts e = value_num vars (tensors_at w ts) n

  settled_is_value : (o : Option ℤ) (l : Left) (z : ℤ) (vars : Numbers) (ts : Made) → value_of (as_expr l) vars (tensors_at w ts) ≡ z → value_of (as_expr (settled o l)) vars (tensors_at w ts) ≡ settled_value o (literal_in l) z
  settled_is_value None l z vars ts e = e
  settled_is_value (Some n) l z vars ts e = settled_either (fails (literal_in l)) l n z vars ts e

  if_same_in : (b : Bool) (ts x y : Made) → x ≡ y → (if b then ts else x) ≡ (if b then ts else y)
  if_same_in true ts x y h = refl
  if_same_in false ts x y h = h

  bound_makes : (var line last : ℕ) (l : Left) (xs : List Stmt) (vars : Numbers) (ts : Made) → making_all w (bound var line last l xs) vars ts ≡ braced (making_all w xs) (bound_to (literal_in l) var (value_of (as_expr l) vars (tensors_at w ts)) vars) ts
  bound_makes var line last (Literal n) xs vars ts = opened_makes w line last xs vars ts
  bound_makes var line last (Open x) xs vars ts =
      around_makes w (λ b. s.Bind var x b line last) xs vars ts (make_bind w vars ts var x [] line last ∙ kept_self ts) ∙ make_bind w vars ts var x xs line last

  some_number : (o : Option ℤ) (n : ℤ) → is_some_number o n ≡ true → o ≡ Some n
  some_number None n h = let x : false ≡ true = h in cc
  some_number (Some a) n h = ap (λ (x : ℤ). Some x) (same_number a n h)

  updating_makes : (tensor : ℕ) (at : List Index) (by : Reduce) (line : ℕ) (l : Left) (b : Bool) → is_identity by l ≡ b → (vars : Numbers) (ts : Made) → Q ts
      → making_all w (if b then [] else s.Update tensor at by (as_expr l) line ∷ []) vars ts ≡ updated tensor (map (place vars) at) by (value_of (as_expr l) vars (tensors_at w ts)) ts
  updating_makes tensor at by line (Literal n) true h vars ts q =
      sym (ap (λ z. updated tensor (map (place vars) at) by z ts) (value_num vars (tensors_at w ts) n) ∙ worthy.same tensor (map (place vars) at) by n ts (some_number (identity by) n h) q)
  updating_makes tensor at by line (Open x) true h vars ts q = let y : false ≡ true = h in cc
  updating_makes tensor at by line l false h vars ts q = make_update w vars ts tensor at by (as_expr l) line

  simplify_cases : Cases Simplifies
  simplify_cases = record {
    block = λ body line last all g h m k vars ts v q.
        ap (left_at m vars ts) (at_block (Marks → List Stmt) simplified_step body line last h)
        ∙ opened_makes w line last (simplified_all body h m) vars ts
        ∙ braced_same (making_all w (simplified_all body h m)) (marked_all w body h m) (all_simplify body all (sym (node.of_block Bool worded_stmt_step body line last) ∙ g) h m k) vars ts v q
        ∙ sym (ap (at_all m vars ts) (at_block (Marks → Making) (marked_step w) body line last h));
    loop = λ var range par body line last all g h m k vars ts v q.
        let gb = sym (node.of_loop Bool worded_stmt_step var range par body line last) ∙ g in
        let m' = binding m var None in
        let k' = binding_words m var None tt k in
        let xs = simplified_all body h m' in
        let len = (range_of w var).1 - (range_of w var).0 in
        let lo = (range_of w var).0 in
        ap (left_at m vars ts) (at_loop (Marks → List Stmt) simplified_step var range par body line last h)
        ∙ around_makes w (λ b. s.Loop var range par b line last) xs vars ts (make_loop w vars ts var range par [] line last ∙ repeated_nothing w len lo var vars ts)
        ∙ make_loop w vars ts var range par xs line last
        ∙ repeated_same len lo var (braced (making_all w xs)) (braced (marked_all w body h m')) (worthy.ranges var)
        (braced_keeps (marked_all w body h m') (all_keep body (all_by_kind MarkedKeeps keep_cases body) gb h m' k'))
        (braced_same (making_all w xs) (marked_all w body h m') (all_simplify body all gb h m' k')) vars ts v q
        ∙ sym (ap (at_all m vars ts) (at_loop (Marks → Making) (marked_step w) var range par body line last h));
    cond = λ test body line last all g h m k vars ts v q.
        let both = sym (node.of_cond Bool worded_stmt_step test body line last) ∙ g in
        let gt = left_true (is_worded test) (all_hold (map is_worded_stmt body)) both in
        let gb = right_true (is_worded test) (all_hold (map is_worded_stmt body)) both in
        let inner = behind_test test h in
        let xs = simplified_all body inner m in
        let l = left_of test h.read m in
        let z = marked_value test h.read m vars (tensors_at w ts) in
        let done = braced (marked_all w body inner m) in
        ap (left_at m vars ts) (at_cond (Marks → List Stmt) simplified_step test body line last h)
        ∙ chosen_makes w line last (test_left test h m) xs vars ts
        ∙ if_same_in (int_eq (value_of (as_expr (test_left test h m)) vars (tensors_at w ts)) (pos 0)) ts _ _ (braced_same (making_all w xs) (marked_all w body inner m) (all_simplify body all gb inner m k) vars ts v q)
        ∙ ap (λ y. if_holds y done vars ts) (settled_is_value (m.tests h.test) l z vars ts (left_value vars (tensors_at w ts) (sees vars ts v q) test gt h.read m k))
        ∙ ap (λ o. if_holds (settled_value (m.tests h.test) o z) done vars ts) (sym (literal_is test h.read m))
        ∙ sym (ap (at_all m vars ts) (at_cond (Marks → Making) (marked_step w) test body line last h));
    bind = λ var value body line last all g h m k vars ts v q.
        let both = sym (node.of_bind Bool worded_stmt_step var value body line last) ∙ g in
        let gv = left_true (is_worded value) (all_hold (map is_worded_stmt body)) both in
        let gb = right_true (is_worded value) (all_hold (map is_worded_stmt body)) both in
        let inner = behind value h in
        let l = left_of value h.read m in
        let o = literal_of value h.read m in
        let z = marked_value value h.read m vars (tensors_at w ts) in
        let m' = binding m var o in
        let k' = binding_words m var o (literal_is_word value gv h.read m k) k in
        let xs = simplified_all body inner m' in
        ap (left_at m vars ts) (at_bind (Marks → List Stmt) simplified_step var value body line last h)
        ∙ ap (λ (p : Option ℤ). making_all w (bound var line last l (simplified_all body inner (binding m var p))) vars ts) (sym (literal_is value h.read m))
        ∙ bound_makes var line last l xs vars ts
        ∙ ap (λ (p : Option ℤ). braced (making_all w xs) (bound_to p var (value_of (as_expr l) vars (tensors_at w ts)) vars) ts) (sym (literal_is value h.read m))
        ∙ ap (λ y. braced (making_all w xs) (bound_to o var y vars) ts) (left_value vars (tensors_at w ts) (sees vars ts v q) value gv h.read m k)
        ∙ braced_same (making_all w xs) (marked_all w body inner m') (all_simplify body all gb inner m' k') (bound_to o var z vars) ts
        (bound_words o var z vars v (marked_is_word vars (tensors_at w ts) (sees vars ts v q) value gv h.read m k)) q
        ∙ sym (ap (at_all m vars ts) (at_bind (Marks → Making) (marked_step w) var value body line last h));
    declare = λ tensor value line g h m k vars ts v q. ap (left_at m vars ts) (at_declare (Marks → List Stmt) simplified_step tensor value line h) ∙ make_declare w vars ts tensor value line ∙ sym (ap (at_all m vars ts) (at_declare (Marks → Making) (marked_step w) tensor value line h));
    freeze = λ tensor line g h m k vars ts v q. ap (left_at m vars ts) (at_freeze (Marks → List Stmt) simplified_step tensor line h) ∙ make_freeze w vars ts tensor line ∙ sym (ap (at_all m vars ts) (at_freeze (Marks → Making) (marked_step w) tensor line h));
    thaw = λ tensor line g h m k vars ts v q. ap (left_at m vars ts) (at_thaw (Marks → List Stmt) simplified_step tensor line h) ∙ make_thaw w vars ts tensor line ∙ sym (ap (at_all m vars ts) (at_thaw (Marks → Making) (marked_step w) tensor line h));
    update = λ tensor at by value line g h m k vars ts v q.
        let gv = sym (node.of_update Bool worded_stmt_step tensor at by value line) ∙ g in
        let l = left_of value h.read m in
        ap (left_at m vars ts) (at_update (Marks → List Stmt) simplified_step tensor at by value line h)
        ∙ updating_makes tensor at by line l (is_identity by l) refl vars ts q
        ∙ ap (λ y. updated tensor (map (place vars) at) by y ts) (left_value vars (tensors_at w ts) (sees vars ts v q) value gv h.read m k)
        ∙ sym (ap (at_all m vars ts) (at_update (Marks → Making) (marked_step w) tensor at by value line h));
  }

  -- what is left of a statement makes what the statement makes with the known numbers in their places
  pub simplifies : (x : Stmt) → Simplifies x
  simplifies = by_kind Simplifies simplify_cases

  pub all_simplifies : (body : List Stmt) → all_hold (map is_worded_stmt body) ≡ true → (h : Here) (m : Marks) → KnowsWords m → Same (making_all w (simplified_all body h m)) (marked_all w body h m)
  all_simplifies body = all_simplify body (all_by_kind Simplifies simplify_cases body)
