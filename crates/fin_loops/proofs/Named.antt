-- The reads and tests that remain of statements are named in one scope, which has the variables of all loops and lets in
-- them.
use Rattle.std.proofs.Common.{◌≡◌, ℕ, ℤ, Bool, true, false, ◌&&◌, ◌⊎◌, inl, inr, ⊎_elim, List, [], ◌∷◌, ◌++◌, Option, Some, None, if◌then◌else◌, refl, sym, ap, ◌∙◌, subst, pos, arith}
use Rattle.std.specs.Prelude.{nat_eq, ◌||◌, ◌==◌, slice_get, length}
use Rattle.std.specs.List.{list_all}
use Rattle.std.specs.Ordering.{int_eq}
use Rattle.std.proofs.lemmas.Bool.{or_cases, or_left, or_right}
use Rattle.std.proofs.lemmas.Bool.Decides.{nat_tests}
use Rattle.std.proofs.lemmas.List.Folds.{list_all-append, list_any-append}
use Rattle.fin_base.specs.declared.terms.Op.{Op}
use Rattle.fin_ast.specs.declared.header.Header.{Header}
use Rattle.fin_ast.specs.declared.tree.Index.{Index}
use Rattle.fin_ast.specs.declared.tree.Expr.{Expr}
use Rattle.fin_ast.specs.declared.tree.Expr.TheVariants as e
use Rattle.fin_ast.specs.declared.tree.Stmt.{Stmt}
use Rattle.fin_ast.specs.Bindings.{bindings_step, bindings_of, bindings_of_all}
use Rattle.fin_ast.specs.Scope.{Scope, is_among, is_bound, is_loop, differ, is_index, holds_of, is_access, expr_step, is_named_expr, stmt_step, is_named, are_named, within_loop, within_let}
use Rattle.fin_ast.proofs.Nodes as node
use Rattle.fin_ast.proofs.Induction.{AllOf, Cases, all_by_kind}
use Rattle.fin_stage.proofs.Alive.{left, right}
use Rattle.fin_read.proofs.Equations.{named_var, named_read, named_neg, named_two}
use Rattle.fin_simp.specs.declared.remainder.Left.{Left}
use Rattle.fin_simp.specs.declared.remainder.Left.TheVariants.{Literal, Open}
use Rattle.fin_simp.specs.Numbered.{Here, past_expr, behind, behind_test, past_stmt, numbered_all}
use Rattle.fin_simp.specs.Left.{Marks, binding, as_expr, is_neutral, is_neutral_before, absorbs, joined, turned, known_or, left_step, left_of}
use Rattle.fin_simp.specs.Remaining.{is_identity_literal}
use Rattle.fin_simp.specs.Rest.{Access, ExprRest, Test, Kind, Nothing, OneUpdate, Other, Rest, no_expr, nothing, within_kind, chosen_rest, let_rest, updating_rest, test_rest}
use Rattle.fin_simp.specs.Rest.{expr_rest, rest_step, rest_of, written_expr_step, reads_of, all_written, written_step, written}
use Rattle.fin_simp.specs.Work.{Context}
use Rattle.fin_simp.proofs.Induction.{ExprCases, by_expr}
use Rattle.fin_simp.proofs.Equations.{at_num, at_var, at_read, at_neg, at_two, at_block, at_loop, at_cond, at_bind, at_declare, at_freeze, at_thaw, at_update}
use Rattle.fin_simp.proofs.Mentions.{rests}
use Rattle.fin_simp.proofs.Origins.{body_stays}
use Rattle.fin_perform.specs.Places.{left_of_all}
use Rattle.fin_loops.proofs.Standing.{itself}

module _ (big : Scope) where
  -- ---- scopes that the large one has

  pub record Has (sc : Scope) : Type 0 where
    pub headers : sc.headers ≡ big.headers
    pub loops : (x : ℕ) → is_among sc.loops x ≡ true → is_among big.loops x ≡ true
    pub lets : (x : ℕ) → is_among sc.lets x ≡ true → is_bound big x ≡ true

  bound_in : (sc : Scope) → Has sc → (x : ℕ) → is_bound sc x ≡ true → is_bound big x ≡ true
  bound_in sc has x e = ⊎_elim (λ among. or_left (is_among big.loops x) (is_among big.lets x) (has.loops x among)) (λ among. has.lets x among) (or_cases (is_among sc.loops x) (is_among sc.lets x) e)

  among_first : (v x : ℕ) (vars : List ℕ) → is_among (v ∷ vars) x ≡ true → (x ≡ v) ⊎ (is_among vars x ≡ true)
  among_first v x vars e = by_test (nat_eq x v) refl e where
    by_test : (b : Bool) → nat_eq x v ≡ b → (b || is_among vars x) ≡ true → (x ≡ v) ⊎ (is_among vars x ≡ true)
    by_test true t h = inl (grind (arith, nat_tests))
    by_test false t h = inr h

  pub has_loop : (sc : Scope) (v : ℕ) → Has sc → is_among big.loops v ≡ true → Has (within_loop sc v)
  has_loop sc v has own = record {
    headers = has.headers;
    loops = λ x e. ⊎_elim (λ same. subst (λ (y : ℕ). is_among big.loops y ≡ true) (sym same) own) (λ old. has.loops x old) (among_first v x sc.loops e);
    lets = has.lets;
  }

  has_let : (sc : Scope) (v : ℕ) → Has sc → is_among big.loops v ≡ true → Has (within_let sc v)
  has_let sc v has own = record {
    headers = has.headers;
    loops = has.loops;
    lets = λ x e. ⊎_elim (λ same. subst (λ (y : ℕ). is_bound big y ≡ true) (sym same) (or_left (is_among big.loops v) (is_among big.lets v) own)) (λ old. has.lets x old) (among_first v x sc.lets e);
  }

  -- ---- accesses

  also : (a b : Bool) → a ≡ true → b ≡ true → (a && b) ≡ true
  also a b h k = ap (λ (x : Bool). x && b) h ∙ k

  has_index : (sc : Scope) → Has sc → (i : Index) → is_index sc i ≡ true → is_index big i ≡ true
  has_index sc has i h =
      let loops = left (is_loop sc i.first && is_loop sc i.second) (differ i.first i.second) h in
      also (is_loop big i.first && is_loop big i.second) (differ i.first i.second)
      (also (is_loop big i.first) (is_loop big i.second) (one i.first (left (is_loop sc i.first) (is_loop sc i.second) loops)) (one i.second (right (is_loop sc i.first) (is_loop sc i.second) loops)))
      (right (is_loop sc i.first && is_loop sc i.second) (differ i.first i.second) h) where
        one : (o : Option ℕ) → is_loop sc o ≡ true → is_loop big o ≡ true
        one None k = refl
        one (Some x) k = has.loops x k

  has_indices : (sc : Scope) → Has sc → (at : List Index) → list_all (is_index sc) at ≡ true → list_all (is_index big) at ≡ true
  has_indices sc has [] h = refl
  has_indices sc has (i ∷ at) h =
      also (is_index big i) (list_all (is_index big) at) (has_index sc has i (left (is_index sc i) (list_all (is_index sc) at) h))
      (has_indices sc has at (right (is_index sc i) (list_all (is_index sc) at) h))

  abbrev sized : List Header → ℕ → List Index → Bool
  sized hs tensor at = holds_of (λ (x : Header). length at == length x.format.levels) (slice_get hs tensor)

  has_access : (sc : Scope) → Has sc → (tensor : ℕ) (at : List Index) → is_access sc tensor at ≡ true → is_access big tensor at ≡ true
  has_access sc has tensor at h =
      also (sized big.headers tensor at) (list_all (is_index big) at)
      (subst (λ (hs : List Header). sized hs tensor at ≡ true) has.headers (left (sized sc.headers tensor at) (list_all (is_index sc) at) h))
      (has_indices sc has at (right (sized sc.headers tensor at) (list_all (is_index sc) at) h))

  -- ---- expressions

  abbrev Rises : Expr → Type 0
  Rises x = (sc : Scope) → Has sc → is_named_expr x sc ≡ true → is_named_expr x big ≡ true

  rise_cases : ExprCases Rises
  rise_cases = record {
    num = λ n sc has h. ap (λ (f : Scope → Bool). f big) (node.of_num (Scope → Bool) expr_step n);
    var = λ v line sc has h. named_var big v line ∙ bound_in sc has v (sym (named_var sc v line) ∙ h);
    read = λ tensor at line sc has h. named_read big tensor at line ∙ has_access sc has tensor at (sym (named_read sc tensor at line) ∙ h);
    neg = λ x hx sc has h. named_neg big x ∙ hx sc has (sym (named_neg sc x) ∙ h);
    two = λ o x y hx hy sc has h.
        let both : (is_named_expr x sc && is_named_expr y sc) ≡ true = sym (named_two sc o x y) ∙ h in
        named_two big o x y ∙ also (is_named_expr x big) (is_named_expr y big)
        (hx sc has (left (is_named_expr x sc) (is_named_expr y sc) both)) (hy sc has (right (is_named_expr x sc) (is_named_expr y sc) both));
  }

  rises : (x : Expr) → Rises x
  rises = by_expr Rises rise_cases

  abbrev good : Access → Bool
  good a = is_access big a.tensor a.at

  abbrev fine : Test → Bool
  fine t = is_named_expr t.expr big

  all_both : {X : Type 0} (p : X → Bool) (xs ys : List X) → list_all p xs ≡ true → list_all p ys ≡ true → list_all p (xs ++ ys) ≡ true
  all_both p xs ys h k = list_all-append p xs ys ∙ also (list_all p xs) (list_all p ys) h k

  abbrev Reads : Expr → Type 0
  Reads x = is_named_expr x big ≡ true → (k : ℕ) → list_all good (reads_of x k) ≡ true

  read_cases : ExprCases Reads
  read_cases = record {
    num = λ n h k. ap (list_all good) (at_num (List Access) written_expr_step n k);
    var = λ v line h k. ap (list_all good) (at_var (List Access) written_expr_step v line k);
    read = λ tensor at line h k. ap (list_all good) (at_read (List Access) written_expr_step tensor at line k) ∙ also (is_access big tensor at) true (sym (named_read big tensor at line) ∙ h) refl;
    neg = λ x hx h k. ap (list_all good) (at_neg (List Access) written_expr_step x k) ∙ hx (sym (named_neg big x) ∙ h) k;
    two = λ o x y hx hy h k.
        let both : (is_named_expr x big && is_named_expr y big) ≡ true = sym (named_two big o x y) ∙ h in
        ap (list_all good) (at_two (List Access) written_expr_step o x y k)
        ∙ all_both good (reads_of x k) (reads_of y (past_expr x k)) (hx (left (is_named_expr x big) (is_named_expr y big) both) k)
        (hy (right (is_named_expr x big) (is_named_expr y big) both) (past_expr x k));
  }

  reads_named : (x : Expr) → Reads x
  reads_named = by_expr Reads read_cases

  -- ---- what is left of them

  abbrev named : Expr → Type 0
  named x = is_named_expr x big ≡ true

  num_named : (n : ℤ) → named (e.Num n)
  num_named n = ap (λ (f : Scope → Bool). f big) (node.of_num (Scope → Bool) expr_step n)

  two_are : (o : Op) (x y : Expr) → named x → named y → named (e.Two o x y)
  two_are o x y h k = named_two big o x y ∙ also (is_named_expr x big) (is_named_expr y big) h k

  known_named : (o : Option ℤ) (x : Expr) → named x → named (as_expr (known_or o x))
  known_named None x h = h
  known_named (Some n) x h = num_named n

  turned_named : (l : Left) → named (as_expr l) → named (as_expr (turned l))
  turned_named (Literal n) h = num_named _
  turned_named (Open x) h = named_neg big x ∙ h

  either_named : (a b : Bool) (n : ℤ) (x y : Expr) → named x → named y → named (as_expr (if a then Open x else (if b then Literal n else Open y)))
  either_named true b n x y h k = h
  either_named false true n x y h k = num_named n
  either_named false false n x y h k = k

  joined_named : (o : Op) (l r : Left) → named (as_expr l) → named (as_expr r) → named (as_expr (joined o l r))
  joined_named o (Literal n) (Literal m) h k = num_named _
  joined_named o (Literal n) (Open x) h k = either_named (is_neutral_before o n) (absorbs o n) n x (e.Two o (e.Num n) x) k (two_are o (e.Num n) x h k)
  joined_named o (Open x) (Literal n) h k = either_named (is_neutral o n) (absorbs o n) n x (e.Two o x (e.Num n)) h (two_are o x (e.Num n) h k)
  joined_named o (Open x) (Open y) h k = two_are o x y h k

  abbrev LeftNamed : Expr → Type 0
  LeftNamed x = named x → (k : ℕ) (m : Marks) → named (as_expr (left_of x k m))

  abbrev left_at : Marks → (Marks → Left) → Bool
  left_at m f = is_named_expr (as_expr (f m)) big

  left_cases : ExprCases LeftNamed
  left_cases = record {
    num = λ n h k m. ap (left_at m) (at_num (Marks → Left) left_step n k) ∙ num_named n;
    var = λ v line h k m. ap (left_at m) (at_var (Marks → Left) left_step v line k) ∙ known_named (m.vars v) (e.Var v line) h;
    read = λ tensor at line h k m. ap (left_at m) (at_read (Marks → Left) left_step tensor at line k) ∙ known_named (m.reads k) (e.Read tensor at line) h;
    neg = λ x hx h k m. ap (left_at m) (at_neg (Marks → Left) left_step x k) ∙ turned_named (left_of x k m) (hx (sym (named_neg big x) ∙ h) k m);
    two = λ o x y hx hy h k m.
        let both : (is_named_expr x big && is_named_expr y big) ≡ true = sym (named_two big o x y) ∙ h in
        ap (left_at m) (at_two (Marks → Left) left_step o x y k)
        ∙ joined_named o (left_of x k m) (left_of y (past_expr x k) m) (hx (left (is_named_expr x big) (is_named_expr y big) both) k m)
        (hy (right (is_named_expr x big) (is_named_expr y big) both) (past_expr x k) m);
  }

  left_named : (x : Expr) → LeftNamed x
  left_named = by_expr LeftNamed left_cases

  -- ---- statements

  -- what is written has its names there, and the tests that remain have theirs
  pub record AreThere (text : Rest) (rest : Marks → Rest) : Type 0 where
    pub reads : list_all good text.reads ≡ true
    pub tests : list_all fine text.tests ≡ true
    pub remain : (m : Marks) → list_all fine (rest m).tests ≡ true

  abbrev pub AllLoops : List ℕ → Type 0
  AllLoops vs = (v : ℕ) → is_among vs v ≡ true → is_among big.loops v ≡ true

  abbrev There : (Scope → Bool) → List ℕ → (Here → Rest) → (Here → Marks → Rest) → Type 0
  There names binds text rest = (sc : Scope) → Has sc → AllLoops binds → names sc ≡ true → (h : Here) → AreThere (text h) (rest h)

  abbrev IsThere : Stmt → Type 0
  IsThere x = There (is_named x) (bindings_of x) (written x) (rest_of x)

  by_nodes : (x : Stmt) (names : Scope → Bool) (binds : List ℕ) (text : Here → Rest) (rest : Here → Marks → Rest) → is_named x ≡ names → bindings_of x ≡ binds
      → ((h : Here) → written x h ≡ text h) → ((h : Here) → rest_of x h ≡ rest h) → There names binds text rest → IsThere x
  by_nodes x names binds text rest en eb et er f sc has all h here =
      let got = f sc has (subst AllLoops eb all) (ap (λ (g : Scope → Bool). g sc) (sym en) ∙ h) here in
      record {
        reads = ap (λ (r : Rest). list_all good r.reads) (et here) ∙ got.reads;
        tests = ap (λ (r : Rest). list_all fine r.tests) (et here) ∙ got.tests;
        remain = λ m. ap (λ (g : Marks → Rest). list_all fine (g m).tests) (er here) ∙ got.remain m;
      }

  first_loops : (a b : List ℕ) → AllLoops (a ++ b) → AllLoops a
  first_loops a b all v h = all v (list_any-append (nat_eq v) a b ∙ or_left (is_among a v) (is_among b v) h)

  second_loops : (a b : List ℕ) → AllLoops (a ++ b) → AllLoops b
  second_loops a b all v h = all v (list_any-append (nat_eq v) a b ∙ or_right (is_among a v) (is_among b v) h)

  first_loop : (v : ℕ) (vs : List ℕ) → AllLoops (v ∷ vs) → is_among big.loops v ≡ true
  first_loop v vs all = all v (itself v vs)

  later_loops : (v : ℕ) (vs : List ℕ) → AllLoops (v ∷ vs) → AllLoops vs
  later_loops v vs all x h = all x (or_right (nat_eq x v) (is_among vs x) h)

  abbrev texts : List Stmt → Here → Rest
  texts body h = all_written (numbered_all Rest written_step body h)

  bodies : (body : List Stmt) → AllOf IsThere body → There (are_named body) (bindings_of_all body) (texts body) (rests body)
  bodies [] each sc has all h here = record { reads = refl; tests = refl; remain = λ m. refl }
  bodies (x ∷ xs) each sc has all h here =
      let next = past_stmt x here in
      let p = each.0 sc has (first_loops (bindings_of x) (bindings_of_all xs) all) (left (is_named x sc) (are_named xs sc) h) here in
      let q = bodies xs each.1 sc has (second_loops (bindings_of x) (bindings_of_all xs) all) (right (is_named x sc) (are_named xs sc) h) next in
      record {
        reads = all_both good (written x here).reads (texts xs next).reads p.reads q.reads;
        tests = all_both fine (written x here).tests (texts xs next).tests p.tests q.tests;
        remain = λ m. all_both fine (rest_of x here m).tests (rests xs next m).tests (p.remain m) (q.remain m);
      }

  within_fine : (k : Kind) (ex : ExprRest) (ts : List Test) (r : Rest) → list_all fine ts ≡ true → list_all fine r.tests ≡ true → list_all fine (within_kind k ex ts r).tests ≡ true
  within_fine Nothing ex ts r h g = refl
  within_fine OneUpdate ex ts r h g = all_both fine ts r.tests h g
  within_fine Other ex ts r h g = all_both fine ts r.tests h g

  either_fine : (b : Bool) (r : Rest) → list_all fine r.tests ≡ true → list_all fine (if b then nothing else r).tests ≡ true
  either_fine true r h = refl
  either_fine false r h = h

  chosen_fine : (o : Option ℤ) (ex : ExprRest) (t : Test) (r : Rest) → fine t ≡ true → list_all fine r.tests ≡ true → list_all fine (chosen_rest o ex t r).tests ≡ true
  chosen_fine None ex t r h g = within_fine r.kind ex (t ∷ []) r (also (fine t) true h refl) g
  chosen_fine (Some n) ex t r h g = either_fine (int_eq n (pos 0)) r g

  let_fine : (o : Option ℤ) (ex : ExprRest) (r : Rest) → list_all fine r.tests ≡ true → list_all fine (let_rest o ex r).tests ≡ true
  let_fine None ex r g = within_fine r.kind ex [] r refl g
  let_fine (Some n) ex r g = g

  update_fine : (t : ℕ) (at : List Index) (b : Bool) (ex : ExprRest) → list_all fine (updating_rest t at b ex).tests ≡ true
  update_fine t at true ex = refl
  update_fine t at false ex = refl

  there_cases : Cases IsThere
  there_cases = record {
    block = λ body line last each. by_nodes _ _ _ _ _ (node.of_block (Scope → Bool) stmt_step body line last) (node.of_block (List ℕ) bindings_step body line last)
        (at_block Rest written_step body line last) (at_block (Marks → Rest) rest_step body line last)
        (λ sc has all h here. bodies body each sc has all h here);
    loop = λ var range par body line last each. by_nodes _ _ _ _ _
        (node.of_loop (Scope → Bool) stmt_step var range par body line last) (node.of_loop (List ℕ) bindings_step var range par body line last)
        (at_loop Rest written_step var range par body line last) (at_loop (Marks → Rest) rest_step var range par body line last)
        (λ sc has all h here.
        let q = bodies body each (within_loop sc var) (has_loop sc var has (first_loop var (bindings_of_all body) all)) (later_loops var (bindings_of_all body) all) h here in
        record { reads = q.reads; tests = q.tests; remain = λ m. let r = rests body here (binding m var None) in within_fine r.kind no_expr [] r refl (q.remain (binding m var None)) });
    cond = λ test body line last each. by_nodes _ _ _ _ _ (node.of_cond (Scope → Bool) stmt_step test body line last) (node.of_cond (List ℕ) bindings_step test body line last)
        (at_cond Rest written_step test body line last) (at_cond (Marks → Rest) rest_step test body line last)
        (λ sc has all h here.
        let inner = behind_test test here in
        let own = rises test sc has (left (is_named_expr test sc) (are_named body sc) h) in
        let q = bodies body each sc has all (right (is_named_expr test sc) (are_named body sc) h) inner in
        record {
          reads = all_both good (reads_of test here.read) (texts body inner).reads (reads_named test own here.read) q.reads;
          tests = also (is_named_expr test big) (list_all fine (texts body inner).tests) own q.tests;
          remain = λ m. chosen_fine (test_rest test here m) (expr_rest test here.read m) (record { test = here.test; expr = as_expr (left_of test here.read m) }) (rests body inner m)
              (left_named test own here.read m) (q.remain m);
        });
    bind = λ var value body line last each. by_nodes _ _ _ _ _
        (node.of_bind (Scope → Bool) stmt_step var value body line last) (node.of_bind (List ℕ) bindings_step var value body line last)
        (at_bind Rest written_step var value body line last) (at_bind (Marks → Rest) rest_step var value body line last)
        (λ sc has all h here.
        let inner = behind value here in
        let own = rises value sc has (left (is_named_expr value sc) (are_named body (within_let sc var)) h) in
        let q = bodies body each (within_let sc var) (has_let sc var has (first_loop var (bindings_of_all body) all)) (later_loops var (bindings_of_all body) all)
        (right (is_named_expr value sc) (are_named body (within_let sc var)) h) inner in
        record {
          reads = all_both good (reads_of value here.read) (texts body inner).reads (reads_named value own here.read) q.reads;
          tests = q.tests;
          remain = λ m. let ex = expr_rest value here.read m in let m' = binding m var ex.literal in let_fine ex.literal ex (rests body inner m') (q.remain m');
        });
    declare = λ tensor value line. by_nodes _ _ _ _ _ (node.of_declare (Scope → Bool) stmt_step tensor value line) (node.of_declare (List ℕ) bindings_step tensor value line)
        (at_declare Rest written_step tensor value line) (at_declare (Marks → Rest) rest_step tensor value line)
        (λ sc has all h here. record { reads = refl; tests = refl; remain = λ m. refl });
    freeze = λ tensor line. by_nodes _ _ _ _ _ (node.of_freeze (Scope → Bool) stmt_step tensor line) (node.of_freeze (List ℕ) bindings_step tensor line)
        (at_freeze Rest written_step tensor line) (at_freeze (Marks → Rest) rest_step tensor line)
        (λ sc has all h here. record { reads = refl; tests = refl; remain = λ m. refl });
    thaw = λ tensor line. by_nodes _ _ _ _ _ (node.of_thaw (Scope → Bool) stmt_step tensor line) (node.of_thaw (List ℕ) bindings_step tensor line)
        (at_thaw Rest written_step tensor line) (at_thaw (Marks → Rest) rest_step tensor line)
        (λ sc has all h here. record { reads = refl; tests = refl; remain = λ m. refl });
    update = λ tensor at by value line. by_nodes _ _ _ _ _
        (node.of_update (Scope → Bool) stmt_step tensor at by value line) (node.of_update (List ℕ) bindings_step tensor at by value line)
        (at_update Rest written_step tensor at by value line) (at_update (Marks → Rest) rest_step tensor at by value line)
        (λ sc has all h here.
        let own = rises value sc has (right (is_access sc tensor at) (is_named_expr value sc) h) in
        record {
          reads = reads_named value own here.read;
          tests = refl;
          remain = λ m. let ex = expr_rest value here.read m in update_fine tensor at (is_identity_literal by ex.literal) ex;
        });
  }

  body_there : (body : List Stmt) → There (are_named body) (bindings_of_all body) (texts body) (rests body)
  body_there body = bodies body (all_by_kind IsThere there_cases body)

-- ---- what is left, outside all loops or where something is known

-- what holds of each read that is written holds of each that remains
pub reads_remain : (p : Access → Bool) (body : List Stmt) (h : Here) (ctx : Context) → list_all p (left_of_all body h None).reads ≡ true → list_all p (left_of_all body h ctx).reads ≡ true
reads_remain p body h None all = all
reads_remain p body h (Some m) all = body_stays p body h m all

module _ (big sc : Scope) (has : Has big sc) (body : List Stmt) (all : AllLoops big (bindings_of_all body)) (is : are_named body sc ≡ true) (h : Here) where
  pub accesses_named : (ctx : Context) → list_all (λ (a : Access). is_access big a.tensor a.at) (left_of_all body h ctx).reads ≡ true
  accesses_named ctx = reads_remain (λ (a : Access). is_access big a.tensor a.at) body h ctx (body_there big body sc has all is h).reads

  pub tests_named : (ctx : Context) → list_all (λ (t : Test). is_named_expr t.expr big) (left_of_all body h ctx).tests ≡ true
  tests_named None = (body_there big body sc has all is h).tests
  tests_named (Some m) = (body_there big body sc has all is h).remain m
