-- What the codes of the parts mean without their work, those of the whole mean, where one update is left.
use Rattle.std.proofs.Common.{◌≡◌, ℕ, ◌≤◌, Bool, true, false, ◌&&◌, List, [], ◌∷◌, append-nil, length, Option, Some, refl, sym, ap, ◌∙◌, subst, ℤ, arith}
use Rattle.std.specs.Prelude.{slice_set, slice_get, ◌==◌}
use Rattle.std.specs.List.{list_all}
use Rattle.fin_base.specs.declared.reduce.Reduce.{Reduce}
use Rattle.fin_ast.specs.declared.checked.Checked.{Checked}
use Rattle.fin_ast.specs.declared.header.Header.{Header}
use Rattle.fin_ast.specs.declared.tree.Index.{Index}
use Rattle.fin_ast.specs.declared.tree.Expr.{Expr}
use Rattle.fin_ast.specs.declared.tree.Stmt.{Stmt}
use Rattle.fin_ast.specs.declared.tree.Stmt.TheOpen.{Stmt-F}
use Rattle.fin_ast.specs.declared.tree.Stmt.TheVariants as s
use Rattle.fin_ast.specs.Actions as acts
use Rattle.fin_ast.specs.Bindings.{bindings_of, bindings_of_all}
use Rattle.fin_ast.specs.Dense.{setting_of}
use Rattle.fin_ast.specs.Scope.{Scope, holds_of, within_let, is_index, is_access, is_named_expr, is_named, are_named, stmt_step}
use Rattle.fin_ast.specs.Value.{Numbers}
use Rattle.fin_ast.proofs.Nodes.{of_update}
use Rattle.fin_ir.specs.declared.code.Code.{Code}
use Rattle.fin_ir.specs.declared.code.Code.TheVariants.{Assign}
use Rattle.fin_ir.specs.declared.expression.IExpr.TheVariants.{Num}
use Rattle.fin_ir.proofs.Values.{value_num}
use Rattle.fin_ir.specs.Machine.{seen}
use Rattle.fin_stage.specs.Staged.{Run, Action, leaf}
use Rattle.fin_stage.proofs.Alive.{left, right}
use Rattle.fin_read.specs.Values.{value_code}
use Rattle.fin_nest.specs.Performs.{Place}
use Rattle.fin_simp.specs.Left.{Marks, binding}
use Rattle.fin_simp.specs.Numbered.{Here, behind, behind_test, past_stmt}
use Rattle.fin_simp.specs.Remaining.{is_nothing, are_nothing}
use Rattle.fin_simp.specs.Work.{World, Worked, Context, work_step, world_of, chosen, costing, inside}
use Rattle.fin_simp.specs.Moving.{worked_all}
use Rattle.fin_simp.proofs.Equations.{at_block, at_cond, at_update}
use Rattle.fin_perform.specs.Codes.{unpaid_update, end_of}
use Rattle.fin_perform.specs.Inside.{place_inside, InsideStands}
use Rattle.fin_perform.specs.Layouts.{heads_in}
use Rattle.fin_perform.specs.Meanings.{Means, stmt_deed, turns_deed}
use Rattle.fin_perform.specs.Once.{unpaid, once_deed, OnceCompose}
use Rattle.fin_perform.specs.Performing.{Does}
use Rattle.fin_perform.specs.Places.{Suits, changes, change_all}
use Rattle.fin_perform.specs.Working.{run_of, turns_of, body_of, literal_at, test_at}
use Rattle.fin_perform.proofs.Bodies.{closing_does}
use Rattle.fin_perform.proofs.Changed.{single_changes, block_changes, cond_changes, bind_changes, update_changes}
use Rattle.fin_perform.proofs.Composing.{does_as}
use Rattle.fin_perform.proofs.Lets.{assign_does, bind_is}
use Rattle.fin_perform.proofs.Meanings.{block_bound, block_named, cond_bound, cond_named, bind_bound, bind_named}
use Rattle.fin_perform.proofs.Suiting.{suits_as, suits_left, suits_right, binds_inside, inside_is, suits_inside}
use Rattle.fin_perform.proofs.Unpaid.{unpaid_does}
use Rattle.fin_perform.proofs.Working.{run_left, nothing_runs}

-- statements of which nothing is left do nothing
nothing_turns : (w : World) (xs : List Stmt) (h : Here) (m : Marks) → are_nothing xs h m ≡ true → (vars : Numbers) (r : Run) → turns_of w xs h (Some m) vars r ≡ r
nothing_turns w [] h m e vars r = refl
nothing_turns w (x ∷ xs) h m e vars r =
    let rest : Here = past_stmt x h in
    ap (turns_of w xs rest (Some m) vars) (nothing_runs w x h (Some m) (left (is_nothing x h m) (are_nothing xs rest m) e) vars r)
    ∙ nothing_turns w xs rest m (right (is_nothing x h m) (are_nothing xs rest m) e) vars r

module _ (c : Checked) (next need : ℕ) (m : Marks) where
  abbrev ctx : Context
  ctx = Some m

  -- ---- one after another
  later_means : (x : Stmt) (xs : List Stmt) (h : Here) (cs : List Code) → is_nothing x h m ≡ true → Means c next need cs (unpaid (turns_deed xs (past_stmt x h) ctx))
      → Means c next need cs (unpaid (turns_deed (x ∷ xs) h ctx))
  later_means x xs h cs e a room inputs sc vars p le fits given_fit u named =
      let w : World = world_of c inputs in
      let rest : Run → Run = turns_of w xs (past_stmt x h) ctx vars in
      does_as c room inputs p cs (λ r. costing 0 r (turns_of w (x ∷ xs) h ctx vars r)) (λ r. costing 0 r (rest r)) (λ r. ap (λ (n : Run). costing 0 r (rest n)) (nothing_runs w x h ctx e vars r))
      (a room inputs sc vars p le fits given_fit (suits_right c next sc vars p (x ∷ []) xs h ctx u) (right (is_named x sc) (are_named xs sc) named))

  alone_means : (x : Stmt) (xs : List Stmt) (h : Here) (cs : List Code) → are_nothing xs (past_stmt x h) m ≡ true → Means c next need cs (unpaid (stmt_deed x h ctx))
      → Means c next need cs (unpaid (turns_deed (x ∷ xs) h ctx))
  alone_means x xs h cs e a room inputs sc vars p le fits given_fit u named =
      let w : World = world_of c inputs in
      let one : Run → Run = run_of w x h ctx vars in
      let first : Suits c next (bindings_of_all (x ∷ [])) (change_all (x ∷ []) h ctx) sc vars p = suits_left c next sc vars p (x ∷ []) xs h ctx u in
      does_as c room inputs p cs (λ r. costing 0 r (turns_of w (x ∷ xs) h ctx vars r)) (λ r. costing 0 r (one r)) (λ r. ap (costing 0 r) (nothing_turns w xs (past_stmt x h) m e vars (one r)))
      (a room inputs sc vars p le fits given_fit
      (suits_as c next sc vars p (bindings_of_all (x ∷ [])) (bindings_of x) (change_all (x ∷ []) h ctx) (changes x h ctx) (append-nil (bindings_of x)) (single_changes x h ctx) first)
      (left (is_named x sc) (are_named xs sc) named))

  body_means : (xs : List Stmt) (h : Here) (cs : List Code) → Means c next need cs (unpaid (turns_deed xs h ctx)) → Means c next need cs (once_deed xs h ctx)
  body_means xs h cs a room inputs sc vars p le fits given_fit u named =
      closing_does c room inputs p cs (λ r. costing 0 r (turns_of (world_of c inputs) xs h ctx vars r)) (a room inputs sc vars p le fits given_fit u named)

  -- ---- blocks and tests
  block_means : (xs : List Stmt) (line last : ℕ) (h : Here) (cs : List Code) → is_nothing (s.Block xs line last) h m ≡ false → Means c next need cs (once_deed xs h ctx)
      → Means c next need cs (unpaid (stmt_deed (s.Block xs line last) h ctx))
  block_means xs line last h cs some a room inputs sc vars p le fits given_fit u named =
      let w : World = world_of c inputs in
      does_as c room inputs p cs (λ r. costing 0 r (run_of w (s.Block xs line last) h ctx vars r)) (λ r. costing 0 r (body_of w xs h ctx vars r))
      (λ r. ap (costing 0 r) (run_left w (s.Block xs line last) h (Stmt-F.Block (worked_all w xs h) line last) (at_block Worked (work_step w) xs line last h) vars r ctx some))
      (a room inputs sc vars p le fits given_fit
      (suits_as c next sc vars p _ (bindings_of_all xs) _ (change_all xs h ctx) (block_bound xs line last) (λ t. block_changes xs line last h t ctx) u)
      (block_named xs line last sc named))

  known_means : (test : Expr) (xs : List Stmt) (line last : ℕ) (h : Here) (n : ℤ) (cs : List Code) → is_nothing (s.Cond test xs line last) h m ≡ false → test_at test h ctx ≡ Some n
      → Means c next need cs (once_deed xs (behind_test test h) ctx) → Means c next need cs (unpaid (stmt_deed (s.Cond test xs line last) h ctx))
  known_means test xs line last h n cs some e a room inputs sc vars p le fits given_fit u named =
      let w : World = world_of c inputs in
      let body : Action = λ ns r. body_of w xs (behind_test test h) ctx ns r in
      does_as c room inputs p cs (λ r. costing 0 r (run_of w (s.Cond test xs line last) h ctx vars r)) (λ r. costing 0 r (body vars r))
      (λ r. ap (costing 0 r)
      (run_left w (s.Cond test xs line last) h (Stmt-F.Cond test (worked_all w xs (behind_test test h)) line last)
      (at_cond Worked (work_step w) test xs line last h) vars r ctx some
      ∙ ap (λ (o : Option ℤ). chosen (setting_of c inputs) o test body vars r) e))
      (a room inputs sc vars p le fits given_fit
      (suits_as c next sc vars p _ (bindings_of_all xs) _ (change_all xs (behind_test test h) ctx) (cond_bound xs line last test) (λ t. cond_changes xs line last h t test ctx some) u)
      (right (is_named_expr test sc) (are_named xs sc) (cond_named xs line last test sc named)))

  -- ---- lets of literals
  literal_means : (var : ℕ) (value : Expr) (xs : List Stmt) (line last : ℕ) (h : Here) (n : ℤ) (cs : List Code) → is_nothing (s.Bind var value xs line last) h m ≡ false
      → literal_at value h ctx ≡ Some n → next ≤ need → Means c next need cs (once_deed xs (behind value h) (Some (binding m var (Some n))))
      → Means c next need (Assign var (Num n) ∷ cs) (unpaid (stmt_deed (s.Bind var value xs line last) h ctx))
  literal_means var value xs line last h n cs some e low a room inputs sc vars p le fits given_fit u named =
      let w : World = world_of c inputs in
      let within : Context = inside ctx var (Some n) in
      let changed : ℕ → Bool = change_all xs (behind value h) within in
      let bound_suits : Suits c next (var ∷ bindings_of_all xs) changed sc vars p =
      suits_as c next sc vars p _ (var ∷ bindings_of_all xs) _ changed (bind_bound xs line last var value) (λ t. bind_changes xs line last h t var value ctx (Some n) e some) u in
      let b = bound_suits.may_bind.0 in
      let inner : Place = place_inside p (binds_inside c next sc vars p var) var n in
      let is : InsideStands c sc vars p (binds_inside c next sc vars p var) var n = inside_is c next sc vars p var n (bindings_of_all xs) changed bound_suits in
      let f : Run → Run = λ r. costing 0 r (body_of w xs (behind value h) within (slice_set vars var n) r) in
      let d : Does c room inputs inner cs f =
      a room inputs (within_let sc var) (slice_set vars var n) inner le fits given_fit (suits_inside c next sc vars p var n (bindings_of_all xs) changed bound_suits)
      (right (is_named_expr value sc) (are_named xs (within_let sc var)) (bind_named xs line last var value sc named)) in
      does_as c room inputs p (Assign var (Num n) ∷ cs) (λ r. costing 0 r (run_of w (s.Bind var value xs line last) h ctx vars r)) f
      (λ r. ap (costing 0 r) (bind_is c room inputs sc vars p var fits given_fit u.stands (omega (arith, b.below, u.next_is, low, le)) b.binds value xs line last h ctx some (Some n) e r))
      (assign_does c room inputs p u.stands.stay var (omega (arith, b.below, u.next_is, low, le)) b.binds inner n is.inside (Num n) cs f d p refl refl refl
      (λ k ready. (ready, value_num (seen k) k.locals n)))

  -- ---- the update
  update_means : (t : ℕ) (at : List Index) (by : Reduce) (value : Expr) (line : ℕ) (h : Here) → is_nothing (s.Update t at by value line) h m ≡ false
      → end_of (value_code (heads_in c) value next) ≤ need
      → Means c next need (unpaid_update (heads_in c) t at by (value_code (heads_in c) value next)) (unpaid (stmt_deed (s.Update t at by value line) h ctx))
  update_means t at by value line h some enough room inputs sc vars p le fits given_fit u named =
      let w : World = world_of c inputs in
      let x : Stmt = s.Update t at by value line in
      let does : Run → Run = λ r. costing 0 r (run_of w x h ctx vars r) in
      let fine : end_of (value_code (heads_in c) value p.next) ≤ room = subst (λ (n : ℕ). end_of (value_code (heads_in c) value n) ≤ room) (sym u.next_is) (omega (arith, enough, le)) in
      let loose : p.steady t ≡ false = u.loose t (update_changes h t at by value line ctx some) in
      let both : (is_access sc t at && is_named_expr value sc) ≡ true = sym (ap (λ (g : Scope → Bool). g sc) (of_update (Scope → Bool) stmt_step t at by value line)) ∙ named in
      let access : is_access sc t at ≡ true = left (is_access sc t at) (is_named_expr value sc) both in
      let indices : list_all (is_index sc) at ≡ true = right (holds_of (λ (y : Header). length at == length y.format.levels) (slice_get sc.headers t)) (list_all (is_index sc) at) access in
      subst (λ (n : ℕ). Does c room inputs p (unpaid_update (heads_in c) t at by (value_code (heads_in c) value n)) does) u.next_is
      (does_as c room inputs p (unpaid_update (heads_in c) t at by (value_code (heads_in c) value p.next)) does (λ r. costing 0 r (leaf (setting_of c inputs) (acts.Update t at by value) vars r))
      (λ r. ap (costing 0 r) (run_left w x h (Stmt-F.Update t at by value line) (at_update Worked (work_step w) t at by value line h) vars r ctx some))
      (unpaid_does c room inputs fits given_fit sc vars p u.stands t loose at by value indices (right (is_access sc t at) (is_named_expr value sc) both) fine))

pub once_compose : OnceCompose
once_compose c next need m = record {
  later = later_means c next need m;
  alone = alone_means c next need m;
  body = body_means c next need m;
  block = block_means c next need m;
  known = known_means c next need m;
  literal = literal_means c next need m;
  update = update_means c next need m;
}
