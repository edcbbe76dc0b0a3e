-- What insertion leaves as it is: what a program binds, its names and its depth.
use Rattle.std.proofs.Common.{◌≡◌, ◌<◌, ◌≤◌, ℕ, zero, suc, ◌+◌, List, [], ◌∷◌, ◌++◌, map, refl, ap, sym, ◌∙◌, length, Option, Bool, true, false, not, ◌&&◌, if◌then◌else◌, arith, max, append_assoc, append-nil, slice_get}
use Rattle.fin_ast.specs.declared.header.Header.{Header}
use Rattle.fin_ast.specs.declared.program.Program.{Program}
use Rattle.fin_ast.specs.declared.tree.Expr.{Expr}
use Rattle.fin_ast.specs.declared.tree.Stmt.{Stmt, ind-Stmt, map-Stmt, roll-Stmt, fold-roll-Stmt}
use Rattle.fin_ast.specs.declared.tree.Stmt.TheOpen.{Stmt-F}
use Rattle.fin_ast.specs.declared.tree.Stmt.TheVariants as s
use Rattle.std.proofs.Math.Bool.{and_assoc}
use Rattle.std.proofs.Math.Path.{fun_ext}
use Rattle.fin_ast.specs.Bindings.{bindings_step, bindings_of, bindings_of_all}
use Rattle.fin_ast.specs.Depth.{depth_step, depth_of, depth_of_all}
use Rattle.fin_ast.specs.Literals.{is_worded, worded_stmt_step, is_worded_stmt, are_worded}
use Rattle.fin_ast.specs.Scope.{Scope, holds_of, is_named_expr, stmt_step, is_named, are_named, outermost}
use Rattle.fin_ast.specs.Text.{Text}
use Rattle.fin_life.proofs.Equations.{at-Block, at-Loop, at-Cond, at-Bind, at-Freeze, at-Thaw}
use Rattle.fin_ast.specs.Modes.{mode_before, is_input_at}
use Rattle.fin_ast.specs.Kinds.{is_output}
use Rattle.fin_ast.specs.Life.{is_update, is_read}
use Rattle.fin_ast.specs.Insertion.{Draft, put, put_for, put_at_end, in_header_order, Completion, put_before, put_whole, completed, completed_body, whole_of, stmt_completion, completion_of, completions_of, completed_program, only_reads, only_updates}

-- something that is found of statements, and of lists of them by an operation with a neutral element; a freeze or a
-- thaw of a tensor with a header is neutral
pub record IsAdditive (hs : List Header) (A : Type 0) (one : Stmt → A) (all : List Stmt → A) (neutral : A) (plus : A → A → A) : Type 0 where
  pub none : all [] ≡ neutral
  pub more : (x : Stmt) (ss : List Stmt) → all (x ∷ ss) ≡ plus (one x) (all ss)
  pub left : (a : A) → plus neutral a ≡ a
  pub right : (a : A) → plus a neutral ≡ a
  pub assoc : (a b c : A) → plus (plus a b) c ≡ plus a (plus b c)
  pub freeze : (t line : ℕ) → t < length hs → one (s.Freeze t line) ≡ neutral
  pub thaw : (t line : ℕ) → t < length hs → one (s.Thaw t line) ≡ neutral
  pub block : (ss rs : List Stmt) (line last : ℕ) → all ss ≡ all rs → one (s.Block ss line last) ≡ one (s.Block rs line last)
  pub loop : (var : ℕ) (range : Option (ℕ × ℕ)) (par : Bool) (ss rs : List Stmt) (line last : ℕ) → all ss ≡ all rs → one (s.Loop var range par ss line last) ≡ one (s.Loop var range par rs line last)
  pub cond : (test : Expr) (ss rs : List Stmt) (line last : ℕ) → all ss ≡ all rs → one (s.Cond test ss line last) ≡ one (s.Cond test rs line last)
  pub bind : (var : ℕ) (value : Expr) (ss rs : List Stmt) (line last : ℕ) → all ss ≡ all rs → one (s.Bind var value ss line last) ≡ one (s.Bind var value rs line last)

module _ (hs : List Header) (A : Type 0) (one : Stmt → A) (all : List Stmt → A) (neutral : A) (plus : A → A → A) (a : IsAdditive hs A one all neutral plus) where
  snoc : (ss : List Stmt) (x : Stmt) → all (ss ++ x ∷ []) ≡ plus (all ss) (one x)
  snoc [] x = a.more x [] ∙ ap (plus (one x)) a.none ∙ a.right (one x) ∙ sym (a.left (one x)) ∙ ap (λ (n : A). plus n (one x)) (sym a.none)
  snoc (y ∷ ss) x = a.more y (ss ++ x ∷ []) ∙ ap (plus (one y)) (snoc ss x) ∙ sym (a.assoc (one y) (all ss) (one x)) ∙ ap (λ (n : A). plus n (one x)) (sym (a.more y ss))

  neutral_put : (x : Stmt) (d : Draft) → one x ≡ neutral → all (put x d).statements ≡ all d.statements
  neutral_put x d e = snoc d.statements x ∙ ap (plus (all d.statements)) e ∙ a.right (all d.statements)

  if_same : (b : Bool) (d e f : Draft) → all d.statements ≡ all f.statements → all e.statements ≡ all f.statements → all (if b then d else e).statements ≡ all f.statements
  if_same true d e f p q = p
  if_same false d e f p q = q

  one_same : (text : Text) (line t : ℕ) (d : Draft) → t < length hs → all (put_for hs text line t d).statements ≡ all d.statements
  one_same text line t d l =
      if_same (is_update (mode_before hs d.text t) && only_reads t text) _ _ d (neutral_put (s.Freeze t line) d (a.freeze t line l))
      (if_same (is_read (mode_before hs d.text t) && not (is_input_at hs t) && only_updates t text) _ _ d (neutral_put (s.Thaw t line) d (a.thaw t line l)) refl)

  last_same : (line t : ℕ) (h : Header) (d : Draft) → t < length hs → all (put_at_end hs line t h d).statements ≡ all d.statements
  last_same line t h d l = if_same (is_output h.kind && is_update (mode_before hs d.text t)) _ _ d (neutral_put (s.Freeze t line) d (a.freeze t line l)) refl

  order_same : (f : ℕ → Header → Draft → Draft) → ((t : ℕ) (h : Header) (d : Draft) → t < length hs → all (f t h d).statements ≡ all d.statements) → (n : ℕ) (xs : List Header) (d : Draft) → n + length xs ≤ length hs → all (in_header_order f n xs d).statements ≡ all d.statements
  order_same f e n [] d l = refl
  order_same f e n (x ∷ xs) d l = order_same f e (n + 1) xs (f n x d) (omega arith) ∙ e n x d (omega arith)

  IsSame : Completion → Stmt → Type 0
  IsSame k x = (b : Text) → one (k.whole b) ≡ one x

  whole_same : (k : Completion) (x : Stmt) (d : Draft) → IsSame k x → all (put_whole k (put_before hs k d)).statements ≡ plus (all d.statements) (one x)
  unfolding IsSame
  whole_same k x d e =
      snoc (put_before hs k d).statements (k.whole (put_before hs k d).text)
      ∙ ap (plus (all (put_before hs k d).statements)) (e (put_before hs k d).text)
      ∙ ap (λ (n : A). plus n (one x)) (order_same (λ t h. put_for hs (k.writing []) k.line t) (λ t h d l. one_same (k.writing []) k.line t d l) zero hs d (omega arith))

  abbrev Known : Type 0
  Known = (x : Stmt) × ((b : Text) → one ((completion_of hs x).whole b) ≡ one x)

  abbrev plain : List Known → List Stmt
  plain ks = map (λ k. k.0) ks

  list_same : (ks : List Known) (d : Draft) → all (completed hs (map (completion_of hs) (plain ks)) d).statements ≡ plus (all d.statements) (all (plain ks))
  unfolding IsSame
  list_same [] d = sym (a.right (all d.statements)) ∙ ap (plus (all d.statements)) (sym a.none)
  list_same (k ∷ ks) d =
      list_same ks (put_whole (completion_of hs k.0) (put_before hs (completion_of hs k.0) d))
      ∙ ap (λ (n : A). plus n (all (plain ks))) (whole_same (completion_of hs k.0) k.0 d k.1)
      ∙ a.assoc (all d.statements) (one k.0) (all (plain ks))
      ∙ ap (plus (all d.statements)) (sym (a.more k.0 (plain ks)))

  body_same : (ks : List Known) (b : Text) → all (completed_body hs (map (completion_of hs) (plain ks)) b) ≡ all (plain ks)
  body_same ks b = list_same ks (record { statements = []; text = b }) ∙ ap (λ (n : A). plus n (all (plain ks))) a.none ∙ a.left (all (plain ks))

  step_same : (y : Stmt-F Known) (b : Text) → one (whole_of hs (map-Stmt Stmt Completion (completion_of hs) (map-Stmt Known Stmt (λ k. k.0) y)) b) ≡ one (roll-Stmt (map-Stmt Known Stmt (λ k. k.0) y))
  step_same (Stmt-F.Block ks line last) b = a.block _ (plain ks) line last (body_same ks _) ∙ ap one (sym (s.rolls-Block (plain ks) line last))
  step_same (Stmt-F.Loop var range par ks line last) b = a.loop var range par _ (plain ks) line last (body_same ks _) ∙ ap one (sym (s.rolls-Loop var range par (plain ks) line last))
  step_same (Stmt-F.Cond test ks line last) b = a.cond test _ (plain ks) line last (body_same ks _) ∙ ap one (sym (s.rolls-Cond test (plain ks) line last))
  step_same (Stmt-F.Bind var value ks line last) b = a.bind var value _ (plain ks) line last (body_same ks _) ∙ ap one (sym (s.rolls-Bind var value (plain ks) line last))
  step_same (Stmt-F.Declare t value line) b = ap one (sym (s.rolls-Declare t value line))
  step_same (Stmt-F.Freeze t line) b = ap one (sym (s.rolls-Freeze t line))
  step_same (Stmt-F.Thaw t line) b = ap one (sym (s.rolls-Thaw t line))
  step_same (Stmt-F.Update t at by value line) b = ap one (sym (s.rolls-Update t at by value line))

  all_same : (x : Stmt) (b : Text) → one ((completion_of hs x).whole b) ≡ one x
  all_same = ind-Stmt (λ x. (b : Text) → one ((completion_of hs x).whole b) ≡ one x) (λ z y is b.
      ap (λ (k : Completion). one (k.whole b)) (fold-roll-Stmt Completion (stmt_completion hs) z)
      ∙ ap (λ (u : Stmt-F Stmt). one (whole_of hs (map-Stmt Stmt Completion (completion_of hs) u) b)) (sym is)
      ∙ step_same y b
      ∙ ap (λ (u : Stmt-F Stmt). one (roll-Stmt u)) is)

  statements_same : (ss : List Stmt) (d : Draft) → all (completed hs (completions_of hs ss) d).statements ≡ plus (all d.statements) (all ss)
  unfolding IsSame
  statements_same [] d = sym (a.right (all d.statements)) ∙ ap (plus (all d.statements)) (sym a.none)
  statements_same (x ∷ ss) d =
      statements_same ss (put_whole (completion_of hs x) (put_before hs (completion_of hs x) d))
      ∙ ap (λ (n : A). plus n (all ss)) (whole_same (completion_of hs x) x d (all_same x))
      ∙ a.assoc (all d.statements) (one x) (all ss)
      ∙ ap (plus (all d.statements)) (sym (a.more x ss))

  pub kept_at_end : (ss : List Stmt) (last : ℕ) → all (in_header_order (put_at_end hs last) zero hs (completed hs (completions_of hs ss) (record { statements = []; text = [] }))).statements ≡ all ss
  kept_at_end ss last =
      order_same (put_at_end hs last) (last_same last) zero hs _ (omega arith)
      ∙ statements_same ss (record { statements = []; text = [] })
      ∙ ap (λ (n : A). plus n (all ss)) a.none
      ∙ a.left (all ss)

true_right : (b : Bool) → (b && true) ≡ b
true_right true = refl
true_right false = refl

-- what is bound
binds : (hs : List Header) → IsAdditive hs (List ℕ) bindings_of bindings_of_all [] (λ xs ys. xs ++ ys)
binds hs = record {
  none = refl;
  more = λ x ss. refl;
  left = λ xs. refl;
  right = λ xs. append-nil xs;
  assoc = λ xs ys zs. append_assoc xs ys zs;
  freeze = λ t line l. at-Freeze (List ℕ) bindings_step t line;
  thaw = λ t line l. at-Thaw (List ℕ) bindings_step t line;
  block = λ ss rs line last e. at-Block (List ℕ) bindings_step ss line last ∙ e ∙ sym (at-Block (List ℕ) bindings_step rs line last);
  loop = λ var range par ss rs line last e. at-Loop (List ℕ) bindings_step var range par ss line last ∙ ap (λ (xs : List ℕ). var ∷ xs) e ∙ sym (at-Loop (List ℕ) bindings_step var range par rs line last);
  cond = λ test ss rs line last e. at-Cond (List ℕ) bindings_step test ss line last ∙ e ∙ sym (at-Cond (List ℕ) bindings_step test rs line last);
  bind = λ var value ss rs line last e. at-Bind (List ℕ) bindings_step var value ss line last ∙ ap (λ (xs : List ℕ). var ∷ xs) e ∙ sym (at-Bind (List ℕ) bindings_step var value rs line last);
}

pub bindings_kept : (p : Program) → bindings_of_all (completed_program p) ≡ bindings_of_all p.body
bindings_kept p = kept_at_end p.headers (List ℕ) bindings_of bindings_of_all [] (λ xs ys. xs ++ ys) (binds p.headers) p.body p.last

-- how deep loops stand
deepens : (hs : List Header) → IsAdditive hs ℕ depth_of depth_of_all 0 max
deepens hs = record {
  none = refl;
  more = λ x ss. refl;
  left = λ n. omega arith;
  right = λ n. omega arith;
  assoc = λ a b c. omega arith;
  freeze = λ t line l. at-Freeze ℕ depth_step t line;
  thaw = λ t line l. at-Thaw ℕ depth_step t line;
  block = λ ss rs line last e. at-Block ℕ depth_step ss line last ∙ e ∙ sym (at-Block ℕ depth_step rs line last);
  loop = λ var range par ss rs line last e. at-Loop ℕ depth_step var range par ss line last ∙ ap (λ (n : ℕ). n + 1) e ∙ sym (at-Loop ℕ depth_step var range par rs line last);
  cond = λ test ss rs line last e. at-Cond ℕ depth_step test ss line last ∙ e ∙ sym (at-Cond ℕ depth_step test rs line last);
  bind = λ var value ss rs line last e. at-Bind ℕ depth_step var value ss line last ∙ e ∙ sym (at-Bind ℕ depth_step var value rs line last);
}

pub depth_kept : (p : Program) → depth_of_all (completed_program p) ≡ depth_of_all p.body
depth_kept p = kept_at_end p.headers ℕ depth_of depth_of_all 0 max (deepens p.headers) p.body p.last

-- whether literals are words
words : (hs : List Header) → IsAdditive hs Bool is_worded_stmt are_worded true (λ a b. a && b)
words hs = record {
  none = refl;
  more = λ x ss. refl;
  left = λ b. refl;
  right = true_right;
  assoc = and_assoc;
  freeze = λ t line l. at-Freeze Bool worded_stmt_step t line;
  thaw = λ t line l. at-Thaw Bool worded_stmt_step t line;
  block = λ ss rs line last e. at-Block Bool worded_stmt_step ss line last ∙ e ∙ sym (at-Block Bool worded_stmt_step rs line last);
  loop = λ var range par ss rs line last e. at-Loop Bool worded_stmt_step var range par ss line last ∙ e ∙ sym (at-Loop Bool worded_stmt_step var range par rs line last);
  cond = λ test ss rs line last e. at-Cond Bool worded_stmt_step test ss line last ∙ ap (λ (b : Bool). is_worded test && b) e ∙ sym (at-Cond Bool worded_stmt_step test rs line last);
  bind = λ var value ss rs line last e. at-Bind Bool worded_stmt_step var value ss line last ∙ ap (λ (b : Bool). is_worded value && b) e ∙ sym (at-Bind Bool worded_stmt_step var value rs line last);
}

pub words_kept : (p : Program) → are_worded (completed_program p) ≡ are_worded p.body
words_kept p = kept_at_end p.headers Bool is_worded_stmt are_worded true (λ a b. a && b) (words p.headers) p.body p.last

-- the names, in scopes with these headers
abbrev Named : Type 0
Named = List ℕ → List ℕ → Bool

abbrev scope : List Header → List ℕ → List ℕ → Scope
scope hs loops lets = record { headers = hs; loops = loops; lets = lets }

both_named : Named → Named → Named
both_named f g loops lets = f loops lets && g loops lets

has_header : (hs : List Header) (t : ℕ) → t < length hs → holds_of (λ h. true) (slice_get hs t) ≡ true
has_header [] t l = absurd (omega arith)
has_header (h ∷ hs) zero l = refl
has_header (h ∷ hs) (suc t) l = has_header hs t (omega arith)

names : (hs : List Header) → IsAdditive hs Named (λ x loops lets. is_named x (scope hs loops lets)) (λ ss loops lets. are_named ss (scope hs loops lets)) (λ loops lets. true) both_named
unfolding both_named
names hs = record {
  none = refl;
  more = λ x ss. refl;
  left = λ f. refl;
  right = λ f. fun_ext (λ loops. fun_ext (λ lets. true_right (f loops lets)));
  assoc = λ f g h. fun_ext (λ loops. fun_ext (λ lets. and_assoc (f loops lets) (g loops lets) (h loops lets)));
  freeze = λ t line l. fun_ext (λ loops. fun_ext (λ lets. at_scope (at-Freeze (Scope → Bool) stmt_step t line) (scope hs loops lets) ∙ has_header hs t l));
  thaw = λ t line l. fun_ext (λ loops. fun_ext (λ lets. at_scope (at-Thaw (Scope → Bool) stmt_step t line) (scope hs loops lets) ∙ has_header hs t l));
  block = λ ss rs line last e. fun_ext (λ loops. fun_ext (λ lets.
      at_scope (at-Block (Scope → Bool) stmt_step ss line last) (scope hs loops lets) ∙ at_both e loops lets ∙ sym (at_scope (at-Block (Scope → Bool) stmt_step rs line last) (scope hs loops lets))));
  loop = λ var range par ss rs line last e. fun_ext (λ loops. fun_ext (λ lets.
      at_scope (at-Loop (Scope → Bool) stmt_step var range par ss line last) (scope hs loops lets) ∙ at_both e (var ∷ loops) lets ∙ sym (at_scope (at-Loop (Scope → Bool) stmt_step var range par rs line last) (scope hs loops lets))));
  cond = λ test ss rs line last e. fun_ext (λ loops. fun_ext (λ lets.
      at_scope (at-Cond (Scope → Bool) stmt_step test ss line last) (scope hs loops lets) ∙ ap (λ (b : Bool). is_named_expr test (scope hs loops lets) && b) (at_both e loops lets) ∙ sym (at_scope (at-Cond (Scope → Bool) stmt_step test rs line last) (scope hs loops lets))));
  bind = λ var value ss rs line last e. fun_ext (λ loops. fun_ext (λ lets.
      at_scope (at-Bind (Scope → Bool) stmt_step var value ss line last) (scope hs loops lets) ∙ ap (λ (b : Bool). is_named_expr value (scope hs loops lets) && b) (at_both e loops (var ∷ lets)) ∙ sym (at_scope (at-Bind (Scope → Bool) stmt_step var value rs line last) (scope hs loops lets))));
}
  where
    at_scope : {f g : Scope → Bool} → f ≡ g → (s : Scope) → f s ≡ g s
    at_scope e s = ap (λ (h : Scope → Bool). h s) e

    at_both : {f g : Named} → f ≡ g → (loops lets : List ℕ) → f loops lets ≡ g loops lets
    at_both e loops lets = ap (λ (h : Named). h loops lets) e

pub names_kept : (p : Program) → are_named (completed_program p) (outermost p.headers) ≡ are_named p.body (outermost p.headers)
unfolding both_named
names_kept p = ap (λ (f : Named). f [] []) (kept_at_end p.headers Named (λ x loops lets. is_named x (scope p.headers loops lets)) (λ ss loops lets. are_named ss (scope p.headers loops lets)) (λ loops lets. true) both_named (names p.headers) p.body p.last)
