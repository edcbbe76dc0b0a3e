-- What the modes of tensors say of the reads that are left of a body, and of the tensors that a loop's body declares.
use Rattle.std.proofs.Common.{◌≡◌, ◌==◌, ℕ, ℤ, pos, Bool, true, false, ◌&&◌, ◌||◌, List, [], ◌∷◌, ◌++◌, Option, Some, None, refl, sym, ap, ◌∙◌, if◌then◌else◌, eqb-true, eq-eqb}
use Rattle.std.proofs.Math.Bool.{or-true}
use Rattle.std.proofs.lemmas.List.Folds.{list_all-append}
use Rattle.std.specs.Prelude.{not}
use Rattle.std.specs.List.{list_all}
use Rattle.std.specs.Ordering.{int_eq}
use Rattle.fin_base.specs.declared.reduce.Reduce.{Reduce}
use Rattle.fin_base.specs.declared.refusal.Rule.{Rule}
use Rattle.fin_base.specs.declared.refusal.Refusal.{Refusal}
use Rattle.fin_ast.specs.declared.header.Header.{Header}
use Rattle.fin_ast.specs.declared.mode.Mode.{Mode}
use Rattle.fin_ast.specs.declared.mode.Mode.TheVariants.{Update, Read}
use Rattle.fin_ast.specs.declared.tree.Index.{Index}
use Rattle.fin_ast.specs.declared.tree.Expr.{Expr}
use Rattle.fin_ast.specs.declared.tree.Expr.TheVariants as expr
use Rattle.fin_ast.specs.declared.tree.Stmt.{Stmt}
use Rattle.fin_ast.specs.declared.tree.Stmt.TheVariants as s
use Rattle.fin_ast.specs.Text.{Updates, Declares}
use Rattle.fin_ast.specs.Modes.{is_input_at}
use Rattle.fin_ast.specs.Life.{is_update, is_read, is_declared, breach_by}
use Rattle.fin_ast.proofs.Nodes as node
use Rattle.fin_ast.proofs.Induction.{AllOf, Cases, by_kind, all_by_kind}
use Rattle.fin_ast.proofs.Unbroken.{first_none, second_none, unbroken}
use Rattle.fin_life.specs.Passage.{ModeOf, turned, expr_breach, breach_of_expr, Passage, breach_in, stmt_passage, passage_of, passages_of}
use Rattle.fin_simp.specs.Numbered.{Here, past_expr, behind, behind_test, past_stmt, numbered_all}
use Rattle.fin_simp.specs.Left.{Marks, nothing_known, binding, as_expr, left_of}
use Rattle.fin_simp.specs.Remaining.{joined_literal, turned_literal, is_identity_literal}
use Rattle.fin_simp.specs.Rest.{Access, ExprRest, Test, Kind, Nothing, OneUpdate, Other, Rest, nothing, all_rest, all_written, beside, no_expr, open_rest, rest_or, within_kind, chosen_rest, let_rest, updating_rest, test_rest, expr_rest_step, expr_rest, rest_step, rest_of, written_expr_step, reads_of, written_with, written_step, written}
use Rattle.fin_simp.specs.Fresh.{fresh_step, fresh_of, fresh_in}
use Rattle.fin_simp.specs.Work.{is_in}
use Rattle.fin_simp.proofs.Induction.{ExprCases, by_expr}
use Rattle.fin_simp.proofs.Equations.{at_num, at_var, at_read, at_neg, at_two, at_block, at_loop, at_cond, at_bind, at_declare, at_freeze, at_thaw, at_update}
use Rattle.fin_simp.proofs.Mentions.{rests}
use Rattle.fin_simp.proofs.Origins.{both, left_true, right_true}
use Rattle.fin_work.proofs.Changing.{free_append}
use Rattle.fin_work.proofs.Numbering.{texts}

-- ---- tests and lists
not_not : (b : Bool) → not b ≡ false → b ≡ true
not_not true e = refl
not_not false e = cc

either_not : (a b : Bool) → (a || b) ≡ false → b ≡ false
either_not true b e = cc
either_not false b e = e

or_right : (a b : Bool) → b ≡ true → (a || b) ≡ true
or_right true b e = refl
or_right false b e = e

or_grows : (a b c : Bool) → (b ≡ true → c ≡ true) → (a || b) ≡ true → (a || c) ≡ true
or_grows true b c f e = refl
or_grows false b c f e = f e

or_left_grows : (a b c : Bool) → (a || c) ≡ true → ((a || b) || c) ≡ true
or_left_grows true b c e = refl
or_left_grows false b c e = or_right b c e

and_both : (a b : Bool) → a ≡ true → b ≡ true → (a && b) ≡ true
and_both true b e h = h
and_both false b e h = e

module _ {A : Type 0} (p q : A → Bool) (f : (x : A) → p x ≡ true → q x ≡ true) where
  all_pass : (xs : List A) → list_all p xs ≡ true → list_all q xs ≡ true
  all_pass [] h = refl
  all_pass (x ∷ xs) h = and_both (q x) (list_all q xs) (f x (left_true (p x) (list_all p xs) h)) (all_pass xs (right_true (p x) (list_all p xs) h))

-- ---- what an expression that breaks no rule reads is in read mode
abbrev is_readable : ModeOf → Access → Bool
is_readable now a = is_read (now a.tensor)

abbrev AllRead : ModeOf → List Access → Type 0
AllRead now reads = list_all (is_readable now) reads ≡ true

module _ (now : ModeOf) where
  abbrev breach : Expr → Option Refusal
  breach = breach_of_expr now

  reads_it : (tensor : ℕ) (at : List Index) (line k : ℕ) → breach (expr.Read tensor at line) ≡ None → AllRead now (record { read = k; tensor = tensor; at = at } ∷ [])
  reads_it tensor at line k h =
      and_both (is_read (now tensor)) true (not_not (is_read (now tensor)) (unbroken _ Rule.L2 line (sym (node.of_read (Option Refusal) (expr_breach now) tensor at line) ∙ h))) refl

  abbrev Written : Expr → Type 0
  Written x = breach x ≡ None → (k : ℕ) → AllRead now (reads_of x k)

  to : (xs ys : List Access) → xs ≡ ys → AllRead now ys → AllRead now xs
  to xs ys e h = ap (list_all (is_readable now)) e ∙ h

  written_cases : ExprCases Written
  written_cases = record {
    num = λ n h k. to _ [] (at_num (List Access) written_expr_step n k) refl;
    var = λ var line h k. to _ [] (at_var (List Access) written_expr_step var line k) refl;
    read = λ tensor at line h k. to _ _ (at_read (List Access) written_expr_step tensor at line k) (reads_it tensor at line k h);
    neg = λ x hx h k. to _ _ (at_neg (List Access) written_expr_step x k) (hx (sym (node.of_neg (Option Refusal) (expr_breach now) x) ∙ h) k);
    two = λ o x y hx hy h k.
        let none = sym (node.of_two (Option Refusal) (expr_breach now) o x y) ∙ h in
        to _ _ (at_two (List Access) written_expr_step o x y k)
        (both (is_readable now) (reads_of x k) (reads_of y (past_expr x k)) (hx (first_none (breach x) (breach y) none) k) (hy (second_none (breach x) (breach y) none) (past_expr x k)));
  }

  pub text_reads : (x : Expr) → Written x
  text_reads = by_expr Written written_cases

  abbrev Left : Expr → Type 0
  Left x = breach x ≡ None → (k : ℕ) (m : Marks) → AllRead now (expr_rest x k m).reads

  abbrev reads_at : Marks → (Marks → ExprRest) → List Access
  reads_at m f = (f m).reads

  or_reads : (o : Option ℤ) (r : ExprRest) → AllRead now r.reads → AllRead now (rest_or o r).reads
  or_reads None r h = h
  or_reads (Some n) r h = refl

  left_cases : ExprCases Left
  left_cases = record {
    num = λ n h k m. to _ [] (ap (reads_at m) (at_num (Marks → ExprRest) expr_rest_step n k)) refl;
    var = λ var line h k m. to _ _ (ap (reads_at m) (at_var (Marks → ExprRest) expr_rest_step var line k)) (or_reads (m.vars var) (open_rest [] (var ∷ [])) refl);
    read = λ tensor at line h k m. to _ _ (ap (reads_at m) (at_read (Marks → ExprRest) expr_rest_step tensor at line k))
        (or_reads (m.reads k) (open_rest (record { read = k; tensor = tensor; at = at } ∷ []) []) (reads_it tensor at line k h));
    neg = λ x hx h k m. to _ _ (ap (reads_at m) (at_neg (Marks → ExprRest) expr_rest_step x k))
        (or_reads (turned_literal (expr_rest x k m).literal) (expr_rest x k m) (hx (sym (node.of_neg (Option Refusal) (expr_breach now) x) ∙ h) k m));
    two = λ o x y hx hy h k m.
        let a = expr_rest x k m in
        let b = expr_rest y (past_expr x k) m in
        let none = sym (node.of_two (Option Refusal) (expr_breach now) o x y) ∙ h in
        to _ _ (ap (reads_at m) (at_two (Marks → ExprRest) expr_rest_step o x y k))
        (or_reads (joined_literal o a.literal b.literal) (open_rest (a.reads ++ b.reads) (a.vars ++ b.vars))
        (both (is_readable now) a.reads b.reads (hx (first_none (breach x) (breach y) none) k m) (hy (second_none (breach x) (breach y) none) (past_expr x k) m)));
  }

  pub left_reads : (x : Expr) → Left x
  left_reads = by_expr Left left_cases

-- ---- reads of what is changed before them, or in read mode
abbrev stands : List ℕ → ModeOf → Access → Bool
stands changed now a = is_in changed a.tensor || is_read (now a.tensor)

abbrev Stands : ModeOf → Rest → Type 0
Stands now r = list_all (stands r.changed now) r.reads ≡ true

-- what is in read mode behind a statement was so before it, or is changed by it
abbrev Leads : ModeOf → ModeOf → List ℕ → Type 0
Leads now after changed = (t : ℕ) → is_read (after t) ≡ true → (is_in changed t || is_read (now t)) ≡ true

module _ (now : ModeOf) where
  stand_read : (changed : List ℕ) (reads : List Access) → AllRead now reads → list_all (stands changed now) reads ≡ true
  stand_read changed = all_pass (is_readable now) (stands changed now) (λ a e. or_right (is_in changed a.tensor) (is_read (now a.tensor)) e)

  in_first : (xs ys : List ℕ) (t : ℕ) → (is_in xs t || is_read (now t)) ≡ true → (is_in (xs ++ ys) t || is_read (now t)) ≡ true
  in_first xs ys t e = ap (λ b. b || is_read (now t)) (free_append t xs ys) ∙ or_left_grows (is_in xs t) (is_in ys t) (is_read (now t)) e

  in_second : (after : ModeOf) (xs ys : List ℕ) → Leads now after xs → (t : ℕ) → (is_in ys t || is_read (after t)) ≡ true → (is_in (xs ++ ys) t || is_read (now t)) ≡ true
  in_second after xs ys leads t e = ap (λ b. b || is_read (now t)) (free_append t xs ys) ∙ by (is_in ys t) (is_in xs t) e (leads t) where
    by : (b a : Bool) → (b || is_read (after t)) ≡ true → (is_read (after t) ≡ true → (a || is_read (now t)) ≡ true) → ((a || b) || is_read (now t)) ≡ true
    by true a h f = ap (λ c. c || is_read (now t)) (or-true a)
    by false a h f = or_left_grows a false (is_read (now t)) (f h)

  stands_beside : (after : ModeOf) (a b : Rest) → Leads now after a.changed → Stands now a → Stands after b → Stands now (beside a b)
  stands_beside after a b leads h k = both (stands (a.changed ++ b.changed) now) a.reads b.reads
      (all_pass (stands a.changed now) (stands (a.changed ++ b.changed) now) (λ x e. in_first a.changed b.changed x.tensor e) a.reads h)
      (all_pass (stands b.changed after) (stands (a.changed ++ b.changed) now) (λ x e. in_second after a.changed b.changed leads x.tensor e) b.reads k)

  stands_within : (k : Kind) (e : ExprRest) (tests : List Test) (r : Rest) → AllRead now e.reads → Stands now r → Stands now (within_kind k e tests r)
  stands_within Nothing e tests r h q = refl
  stands_within OneUpdate e tests r h q = both (stands r.changed now) e.reads r.reads (stand_read r.changed e.reads h) q
  stands_within Other e tests r h q = both (stands r.changed now) e.reads r.reads (stand_read r.changed e.reads h) q

  stands_either : (b : Bool) (r : Rest) → Stands now r → Stands now (if b then nothing else r)
  stands_either true r q = refl
  stands_either false r q = q

  stands_chosen : (o : Option ℤ) (e : ExprRest) (test : Test) (r : Rest) → AllRead now e.reads → Stands now r → Stands now (chosen_rest o e test r)
  stands_chosen None e test r h q = stands_within r.kind e (test ∷ []) r h q
  stands_chosen (Some n) e test r h q = stands_either (int_eq n (pos 0)) r q

  stands_let : (o : Option ℤ) (e : ExprRest) (r : Rest) → AllRead now e.reads → Stands now r → Stands now (let_rest o e r)
  stands_let None e r h q = stands_within r.kind e [] r h q
  stands_let (Some n) e r h q = q

  stands_update : (tensor : ℕ) (at : List Index) (b : Bool) (e : ExprRest) → AllRead now e.reads → Stands now (updating_rest tensor at b e)
  stands_update tensor at true e h = refl
  stands_update tensor at false e h = stand_read (tensor ∷ []) e.reads h

  stands_by : (r r' : Rest) → r ≡ r' → Stands now r' → Stands now r
  stands_by r r' e q = ap (λ (x : Rest). list_all (stands x.changed now) x.reads) e ∙ q

  turned_leads : (tensor : ℕ) (mode : Mode) → Leads now (turned now tensor mode) (tensor ∷ [])
  turned_leads tensor mode t e = by (tensor == t) refl e where
    by : (b : Bool) → (tensor == t) ≡ b → is_read (if b then mode else now t) ≡ true → (is_in (tensor ∷ []) t || is_read (now t)) ≡ true
    by true q h = ap (λ b. (b || false) || is_read (now t)) (eq-eqb t tensor (sym (eqb-true tensor t q)))
    by false q h = or_right (is_in (tensor ∷ []) t) (is_read (now t)) h

  same_leads : (after : ModeOf) (changed : List ℕ) → after ≡ now → Leads now after changed
  same_leads after changed e t h = or_right (is_in changed t) (is_read (now t)) (ap (λ (f : ModeOf). is_read (f t)) (sym e) ∙ h)

-- ---- statements
module _ (hs : List Header) where
  abbrev passage : Stmt → Passage
  passage = passage_of hs

  abbrev Unbroken : Stmt → ModeOf → ModeOf → Type 0
  Unbroken x begin now = (passage x).breach begin now ≡ None

  abbrev same_after : ModeOf → Passage → ModeOf
  same_after now p = p.after now

  abbrev breach_from : ModeOf → ModeOf → Passage → Option Refusal
  breach_from begin now p = p.breach begin now

  -- ---- only a declaration, a freeze or a thaw leads a tensor to a mode
  abbrev Leading : Stmt → Type 0
  Leading x = (now : ModeOf) (h : Here) (m : Marks) → Leads now ((passage x).after now) (rest_of x h m).changed × Leads now ((passage x).after now) (written x h).changed

  unled : (x : Stmt) → ((now : ModeOf) → (passage x).after now ≡ now) → Leading x
  unled x e now h m = (same_leads now ((passage x).after now) (rest_of x h m).changed (e now), same_leads now ((passage x).after now) (written x h).changed (e now))

  abbrev changed_at : Marks → (Marks → Rest) → List ℕ
  changed_at m f = (f m).changed

  led : (x : Stmt) (tensor : ℕ) (mode : Mode) → ((now : ModeOf) → (passage x).after now ≡ turned now tensor mode)
      → ((h : Here) (m : Marks) → (rest_of x h m).changed ≡ tensor ∷ []) → ((h : Here) → (written x h).changed ≡ tensor ∷ []) → Leading x
  led x tensor mode e r w now h m = (by (rest_of x h m).changed (r h m), by (written x h).changed (w h)) where
    by : (changed : List ℕ) → changed ≡ tensor ∷ [] → Leads now ((passage x).after now) changed
    by changed q t k = ap (λ (xs : List ℕ). is_in xs t || is_read (now t)) q ∙ turned_leads now tensor mode t (sym (ap (λ (f : ModeOf). is_read (f t)) (e now)) ∙ k)

  leading_cases : Cases Leading
  leading_cases = record {
    block = λ body line last all. unled (s.Block body line last) (λ now. ap (same_after now) (node.of_block Passage (stmt_passage hs) body line last));
    loop = λ var range par body line last all. unled (s.Loop var range par body line last) (λ now. ap (same_after now) (node.of_loop Passage (stmt_passage hs) var range par body line last));
    cond = λ test body line last all. unled (s.Cond test body line last) (λ now. ap (same_after now) (node.of_cond Passage (stmt_passage hs) test body line last));
    bind = λ var value body line last all. unled (s.Bind var value body line last) (λ now. ap (same_after now) (node.of_bind Passage (stmt_passage hs) var value body line last));
    declare = λ tensor value line. led (s.Declare tensor value line) tensor Update (λ now. ap (same_after now) (node.of_declare Passage (stmt_passage hs) tensor value line))
        (λ h m. ap (changed_at m) (at_declare (Marks → Rest) rest_step tensor value line h)) (λ h. ap (λ (r : Rest). r.changed) (at_declare Rest written_step tensor value line h));
    freeze = λ tensor line. led (s.Freeze tensor line) tensor Read (λ now. ap (same_after now) (node.of_freeze Passage (stmt_passage hs) tensor line))
        (λ h m. ap (changed_at m) (at_freeze (Marks → Rest) rest_step tensor line h)) (λ h. ap (λ (r : Rest). r.changed) (at_freeze Rest written_step tensor line h));
    thaw = λ tensor line. led (s.Thaw tensor line) tensor Update (λ now. ap (same_after now) (node.of_thaw Passage (stmt_passage hs) tensor line))
        (λ h m. ap (changed_at m) (at_thaw (Marks → Rest) rest_step tensor line h)) (λ h. ap (λ (r : Rest). r.changed) (at_thaw Rest written_step tensor line h));
    update = λ tensor at by value line. unled (s.Update tensor at by value line) (λ now. ap (same_after now) (node.of_update Passage (stmt_passage hs) tensor at by value line));
  }

  leading : (x : Stmt) → Leading x
  leading = by_kind Leading leading_cases

  -- ---- the parts of a statement that breaks no rule break none
  module _ (begin now : ModeOf) where
    abbrev BodyUnbroken : List Stmt → Type 0
    BodyUnbroken body = breach_in (passages_of hs body) now now ≡ None

    in_block : (body : List Stmt) (line last : ℕ) → Unbroken (s.Block body line last) begin now → BodyUnbroken body
    in_block body line last q = first_none (breach_in (passages_of hs body) now now) _ (sym (ap (breach_from begin now) (node.of_block Passage (stmt_passage hs) body line last)) ∙ q)

    in_loop : (var : ℕ) (range : Option (ℕ × ℕ)) (par : Bool) (body : List Stmt) (line last : ℕ) → Unbroken (s.Loop var range par body line last) begin now → BodyUnbroken body
    in_loop var range par body line last q =
        first_none (breach_in (passages_of hs body) now now) _ (sym (ap (breach_from begin now) (node.of_loop Passage (stmt_passage hs) var range par body line last)) ∙ q)

    in_cond : (test : Expr) (body : List Stmt) (line last : ℕ) → Unbroken (s.Cond test body line last) begin now → (breach_of_expr now test ≡ None) × BodyUnbroken body
    in_cond test body line last q =
        let none = sym (ap (breach_from begin now) (node.of_cond Passage (stmt_passage hs) test body line last)) ∙ q in
        (first_none (breach_of_expr now test) _ none, first_none (breach_in (passages_of hs body) now now) _ (second_none (breach_of_expr now test) _ none))

    in_bind : (var : ℕ) (value : Expr) (body : List Stmt) (line last : ℕ) → Unbroken (s.Bind var value body line last) begin now → (breach_of_expr now value ≡ None) × BodyUnbroken body
    in_bind var value body line last q =
        let none = sym (ap (breach_from begin now) (node.of_bind Passage (stmt_passage hs) var value body line last)) ∙ q in
        (first_none (breach_of_expr now value) _ none, first_none (breach_in (passages_of hs body) now now) _ (second_none (breach_of_expr now value) _ none))

    in_update : (tensor : ℕ) (at : List Index) (by : Reduce) (value : Expr) (line : ℕ) → Unbroken (s.Update tensor at by value line) begin now → breach_of_expr now value ≡ None
    in_update tensor at by value line q =
        second_none (breach_by hs begin now (Updates tensor [] line)) _ (sym (ap (breach_from begin now) (node.of_update Passage (stmt_passage hs) tensor at by value line)) ∙ q)

  -- ---- what is left of statements
  abbrev Keeps : Stmt → Type 0
  Keeps x = (begin now : ModeOf) → Unbroken x begin now → (h : Here) (m : Marks) → Stands now (rest_of x h m)

  abbrev at_rest : Marks → (Marks → Rest) → Rest
  at_rest m f = f m

  keep_bodies : (body : List Stmt) → AllOf Keeps body → (begin now : ModeOf) → breach_in (passages_of hs body) begin now ≡ None → (h : Here) (m : Marks) → Stands now (rests body h m)
  keep_bodies [] all begin now q h m = refl
  keep_bodies (x ∷ xs) all begin now q h m =
      let after = (passage x).after now in
      stands_beside now after (rest_of x h m) (rests xs (past_stmt x h) m) (leading x now h m).0 (all.0 begin now (first_none ((passage x).breach begin now) _ q) h m)
      (keep_bodies xs all.1 begin after (second_none ((passage x).breach begin now) _ q) (past_stmt x h) m)

  keep_cases : Cases Keeps
  keep_cases = record {
    block = λ body line last all begin now q h m.
        stands_by now _ (rests body h m) (ap (at_rest m) (at_block (Marks → Rest) rest_step body line last h)) (keep_bodies body all now now (in_block begin now body line last q) h m);
    loop = λ var range par body line last all begin now q h m.
        let r = rests body h (binding m var None) in
        stands_by now _ (within_kind r.kind no_expr [] r) (ap (at_rest m) (at_loop (Marks → Rest) rest_step var range par body line last h))
        (stands_within now r.kind no_expr [] r refl (keep_bodies body all now now (in_loop begin now var range par body line last q) h (binding m var None)));
    cond = λ test body line last all begin now q h m.
        let inner = behind_test test h in
        let two = in_cond begin now test body line last q in
        stands_by now _ _ (ap (at_rest m) (at_cond (Marks → Rest) rest_step test body line last h))
        (stands_chosen now (test_rest test h m) (expr_rest test h.read m) (record { test = h.test; expr = as_expr (left_of test h.read m) }) (rests body inner m)
        (left_reads now test two.0 h.read m) (keep_bodies body all now now two.1 inner m));
    bind = λ var value body line last all begin now q h m.
        let ex = expr_rest value h.read m in
        let two = in_bind begin now var value body line last q in
        stands_by now _ _ (ap (at_rest m) (at_bind (Marks → Rest) rest_step var value body line last h))
        (stands_let now ex.literal ex (rests body (behind value h) (binding m var ex.literal)) (left_reads now value two.0 h.read m)
        (keep_bodies body all now now two.1 (behind value h) (binding m var ex.literal)));
    declare = λ tensor value line begin now q h m. stands_by now _ _ (ap (at_rest m) (at_declare (Marks → Rest) rest_step tensor value line h)) refl;
    freeze = λ tensor line begin now q h m. stands_by now _ _ (ap (at_rest m) (at_freeze (Marks → Rest) rest_step tensor line h)) refl;
    thaw = λ tensor line begin now q h m. stands_by now _ _ (ap (at_rest m) (at_thaw (Marks → Rest) rest_step tensor line h)) refl;
    update = λ tensor at by value line begin now q h m.
        let ex = expr_rest value h.read m in
        stands_by now _ _ (ap (at_rest m) (at_update (Marks → Rest) rest_step tensor at by value line h))
        (stands_update now tensor at (is_identity_literal by ex.literal) ex (left_reads now value (in_update begin now tensor at by value line q) h.read m));
  }

  keep : (body : List Stmt) (h : Here) (m : Marks) (begin now : ModeOf) → breach_in (passages_of hs body) begin now ≡ None → Stands now (rests body h m)
  keep body h m begin now q = keep_bodies body (all_by_kind Keeps keep_cases body) begin now q h m

  -- ---- what is written in them
  abbrev Writes : Stmt → Type 0
  Writes x = (begin now : ModeOf) → Unbroken x begin now → (h : Here) → Stands now (written x h)

  write_bodies : (body : List Stmt) → AllOf Writes body → (begin now : ModeOf) → breach_in (passages_of hs body) begin now ≡ None → (h : Here) → Stands now (texts body h)
  write_bodies [] all begin now q h = refl
  write_bodies (x ∷ xs) all begin now q h =
      let after = (passage x).after now in
      stands_beside now after (written x h) (texts xs (past_stmt x h)) (leading x now h nothing_known).1 (all.0 begin now (first_none ((passage x).breach begin now) _ q) h)
      (write_bodies xs all.1 begin after (second_none ((passage x).breach begin now) _ q) (past_stmt x h))

  -- an expression before a body
  stands_before : (now : ModeOf) (reads : List Access) (tests : List Test) (r : Rest) → AllRead now reads → Stands now r → Stands now (beside (written_with reads tests []) r)
  stands_before now reads tests r h q = stands_beside now now (written_with reads tests []) r (λ t e. e) (stand_read now [] reads h) q

  write_cases : Cases Writes
  write_cases = record {
    block = λ body line last all begin now q h. stands_by now _ (texts body h) (at_block Rest written_step body line last h) (write_bodies body all now now (in_block begin now body line last q) h);
    loop = λ var range par body line last all begin now q h.
        stands_by now _ (texts body h) (at_loop Rest written_step var range par body line last h) (write_bodies body all now now (in_loop begin now var range par body line last q) h);
    cond = λ test body line last all begin now q h.
        let two = in_cond begin now test body line last q in
        stands_by now _ _ (at_cond Rest written_step test body line last h)
        (stands_before now (reads_of test h.read) (record { test = h.test; expr = test } ∷ []) (texts body (behind_test test h)) (text_reads now test two.0 h.read)
        (write_bodies body all now now two.1 (behind_test test h)));
    bind = λ var value body line last all begin now q h.
        let two = in_bind begin now var value body line last q in
        stands_by now _ _ (at_bind Rest written_step var value body line last h)
        (stands_before now (reads_of value h.read) [] (texts body (behind value h)) (text_reads now value two.0 h.read) (write_bodies body all now now two.1 (behind value h)));
    declare = λ tensor value line begin now q h. stands_by now _ _ (at_declare Rest written_step tensor value line h) refl;
    freeze = λ tensor line begin now q h. stands_by now _ _ (at_freeze Rest written_step tensor line h) refl;
    thaw = λ tensor line begin now q h. stands_by now _ _ (at_thaw Rest written_step tensor line h) refl;
    update = λ tensor at by value line begin now q h. stands_by now _ _ (at_update Rest written_step tensor at by value line h)
        (stand_read now (tensor ∷ []) (reads_of value h.read) (text_reads now value (in_update begin now tensor at by value line q) h.read));
  }

  write : (body : List Stmt) (h : Here) (begin now : ModeOf) → breach_in (passages_of hs body) begin now ≡ None → Stands now (texts body h)
  write body h begin now q = write_bodies body (all_by_kind Writes write_cases body) begin now q h

-- what is left of a body that breaks no rule reads only what it changes, or what is in read mode before it
pub reads_stand : (hs : List Header) (body : List Stmt) (h : Here) (m : Marks) (begin now : ModeOf) → breach_in (passages_of hs body) begin now ≡ None
    → let rest = all_rest (numbered_all (Marks → Rest) rest_step body h) m in list_all (λ (a : Access). is_in rest.changed a.tensor || is_read (now a.tensor)) rest.reads ≡ true
reads_stand = keep

pub written_reads_stand : (hs : List Header) (body : List Stmt) (h : Here) (begin now : ModeOf) → breach_in (passages_of hs body) begin now ≡ None
    → let rest = all_written (numbered_all Rest written_step body h) in list_all (λ (a : Access). is_in rest.changed a.tensor || is_read (now a.tensor)) rest.reads ≡ true
written_reads_stand = write

-- ---- the tensors that a body declares, anywhere in it
abbrev is_fresh : ModeOf → ℕ → Bool
is_fresh begin t = not (is_declared (begin t))

abbrev AllFresh : ModeOf → List ℕ → Type 0
AllFresh begin ts = list_all (is_fresh begin) ts ≡ true

-- what was declared stays declared
abbrev StayDeclared : ModeOf → ModeOf → Type 0
StayDeclared begin now = (t : ℕ) → is_declared (begin t) ≡ true → is_declared (now t) ≡ true

fresh_before : (begin now : ModeOf) → StayDeclared begin now → (ts : List ℕ) → AllFresh now ts → AllFresh begin ts
fresh_before begin now f = all_pass (is_fresh now) (is_fresh begin) (λ t e. by (is_declared (begin t)) (is_declared (now t)) (f t) e) where
  by : (a b : Bool) → (a ≡ true → b ≡ true) → not b ≡ true → not a ≡ true
  by true b f e = ap not (sym (f refl)) ∙ e
  by false b f e = refl

turned_stays : (begin now : ModeOf) (tensor : ℕ) (mode : Mode) → is_declared mode ≡ true → StayDeclared begin now → StayDeclared begin (turned now tensor mode)
turned_stays begin now tensor mode d f t e = by (tensor == t) where
  by : (b : Bool) → is_declared (if b then mode else now t) ≡ true
  by true = d
  by false = f t e

same_stays : (begin now after : ModeOf) → after ≡ now → StayDeclared begin now → StayDeclared begin after
same_stays begin now after e f t q = ap (λ (g : ModeOf). is_declared (g t)) e ∙ f t q

fresh_append : (begin : ModeOf) (xs ys : List ℕ) → AllFresh begin xs → AllFresh begin ys → AllFresh begin (xs ++ ys)
fresh_append begin xs ys h k = list_all-append (is_fresh begin) xs ys ∙ and_both (list_all (is_fresh begin) xs) (list_all (is_fresh begin) ys) h k

module _ (hs : List Header) where
  abbrev Stays : Stmt → Type 0
  Stays x = (begin now : ModeOf) → StayDeclared begin now → StayDeclared begin ((passage hs x).after now)

  unturned : (x : Stmt) → ((now : ModeOf) → (passage hs x).after now ≡ now) → Stays x
  unturned x e begin now f = same_stays begin now ((passage hs x).after now) (e now) f

  turns : (x : Stmt) (tensor : ℕ) (mode : Mode) → is_declared mode ≡ true → ((now : ModeOf) → (passage hs x).after now ≡ turned now tensor mode) → Stays x
  turns x tensor mode d e begin now f = same_stays begin (turned now tensor mode) ((passage hs x).after now) (e now) (turned_stays begin now tensor mode d f)

  stay_cases : Cases Stays
  stay_cases = record {
    block = λ body line last all. unturned (s.Block body line last) (λ now. ap (same_after hs now) (node.of_block Passage (stmt_passage hs) body line last));
    loop = λ var range par body line last all. unturned (s.Loop var range par body line last) (λ now. ap (same_after hs now) (node.of_loop Passage (stmt_passage hs) var range par body line last));
    cond = λ test body line last all. unturned (s.Cond test body line last) (λ now. ap (same_after hs now) (node.of_cond Passage (stmt_passage hs) test body line last));
    bind = λ var value body line last all. unturned (s.Bind var value body line last) (λ now. ap (same_after hs now) (node.of_bind Passage (stmt_passage hs) var value body line last));
    declare = λ tensor value line. turns (s.Declare tensor value line) tensor Update refl (λ now. ap (same_after hs now) (node.of_declare Passage (stmt_passage hs) tensor value line));
    freeze = λ tensor line. turns (s.Freeze tensor line) tensor Read refl (λ now. ap (same_after hs now) (node.of_freeze Passage (stmt_passage hs) tensor line));
    thaw = λ tensor line. turns (s.Thaw tensor line) tensor Update refl (λ now. ap (same_after hs now) (node.of_thaw Passage (stmt_passage hs) tensor line));
    update = λ tensor at by value line. unturned (s.Update tensor at by value line) (λ now. ap (same_after hs now) (node.of_update Passage (stmt_passage hs) tensor at by value line));
  }

  stay : (x : Stmt) → Stays x
  stay = by_kind Stays stay_cases

  -- ---- a declaration breaks a rule where its tensor was declared at the beginning of its body
  abbrev Fresh : Stmt → Type 0
  Fresh x = (begin now : ModeOf) → Unbroken hs x begin now → StayDeclared begin now → AllFresh begin (fresh_of x)

  fresh_bodies : (body : List Stmt) → AllOf Fresh body → (begin now : ModeOf) → breach_in (passages_of hs body) begin now ≡ None → StayDeclared begin now → AllFresh begin (fresh_in body)
  fresh_bodies [] all begin now q f = refl
  fresh_bodies (x ∷ xs) all begin now q f =
      fresh_append begin (fresh_of x) (fresh_in xs) (all.0 begin now (first_none ((passage hs x).breach begin now) _ q) f)
      (fresh_bodies xs all.1 begin ((passage hs x).after now) (second_none ((passage hs x).breach begin now) _ q) (stay x begin now f))

  fresh_by : (begin : ModeOf) (ts us : List ℕ) → ts ≡ us → AllFresh begin us → AllFresh begin ts
  fresh_by begin ts us e h = ap (list_all (is_fresh begin)) e ∙ h

  -- a body in a body
  fresh_inside : (body : List Stmt) → AllOf Fresh body → (begin now : ModeOf) → breach_in (passages_of hs body) now now ≡ None → StayDeclared begin now → AllFresh begin (fresh_in body)
  fresh_inside body all begin now q f = fresh_before begin now f (fresh_in body) (fresh_bodies body all now now q (λ t e. e))

  fresh_declare : (begin now : ModeOf) (tensor line : ℕ) → breach_by hs begin now (Declares tensor line) ≡ None → AllFresh begin (tensor ∷ [])
  fresh_declare begin now tensor line q =
      let none = either_not (is_input_at hs tensor || is_update (now tensor)) (is_declared (begin tensor)) (unbroken _ Rule.L3 line q) in
      and_both (is_fresh begin tensor) true (ap not none) refl

  fresh_cases : Cases Fresh
  fresh_cases = record {
    block = λ body line last all begin now q f.
        fresh_by begin _ (fresh_in body) (node.of_block (List ℕ) fresh_step body line last) (fresh_inside body all begin now (in_block hs begin now body line last q) f);
    loop = λ var range par body line last all begin now q f.
        fresh_by begin _ (fresh_in body) (node.of_loop (List ℕ) fresh_step var range par body line last) (fresh_inside body all begin now (in_loop hs begin now var range par body line last q) f);
    cond = λ test body line last all begin now q f.
        fresh_by begin _ (fresh_in body) (node.of_cond (List ℕ) fresh_step test body line last) (fresh_inside body all begin now (in_cond hs begin now test body line last q).1 f);
    bind = λ var value body line last all begin now q f.
        fresh_by begin _ (fresh_in body) (node.of_bind (List ℕ) fresh_step var value body line last) (fresh_inside body all begin now (in_bind hs begin now var value body line last q).1 f);
    declare = λ tensor value line begin now q f. fresh_by begin _ (tensor ∷ []) (node.of_declare (List ℕ) fresh_step tensor value line)
        (fresh_declare begin now tensor line (sym (ap (breach_from hs begin now) (node.of_declare Passage (stmt_passage hs) tensor value line)) ∙ q));
    freeze = λ tensor line begin now q f. fresh_by begin _ [] (node.of_freeze (List ℕ) fresh_step tensor line) refl;
    thaw = λ tensor line begin now q f. fresh_by begin _ [] (node.of_thaw (List ℕ) fresh_step tensor line) refl;
    update = λ tensor at by value line begin now q f. fresh_by begin _ [] (node.of_update (List ℕ) fresh_step tensor at by value line) refl;
  }

  fresh_body : (body : List Stmt) (now : ModeOf) → breach_in (passages_of hs body) now now ≡ None → AllFresh now (fresh_in body)
  fresh_body body now q = fresh_bodies body (all_by_kind Fresh fresh_cases body) now now q (λ t e. e)

-- the tensors that a loop's body declares aren't declared before the loop
pub fresh_are_undeclared : (hs : List Header) (var : ℕ) (range : Option (ℕ × ℕ)) (par : Bool) (body : List Stmt) (line last : ℕ) (begin now : ModeOf)
    → breach_in (passages_of hs (s.Loop var range par body line last ∷ [])) begin now ≡ None → list_all (λ t. not (is_declared (now t))) (fresh_in body) ≡ true
fresh_are_undeclared hs var range par body line last begin now q =
    fresh_body hs body now (in_loop hs begin now var range par body line last (first_none ((passage_of hs (s.Loop var range par body line last)).breach begin now) _ q))
