-- The one update that is left of a part of statements is all that is left of the whole.
use Rattle.std.proofs.Common.{◌≡◌, ℕ, zero, suc, Bool, true, false, ◌&&◌, List, [], ◌∷◌, map, Option, Some, None, if◌then◌else◌, refl, sym, ap, ◌∙◌, subst, ℤ}
use Rattle.std.specs.Prelude.{nat_eq, ◌||◌, slice_set}
use Rattle.std.proofs.lemmas.Bool.{or_left, or_right}
use Rattle.std.proofs.lemmas.List.Folds.{list_any-append}
use Rattle.fin_base.specs.declared.reduce.Reduce.{Reduce}
use Rattle.fin_base.specs.Words.{apply}
use Rattle.fin_tensor.specs.Building.{Building, follows, updated}
use Rattle.fin_ast.specs.declared.tree.Index.{Index}
use Rattle.fin_ast.specs.declared.tree.Expr.{Expr}
use Rattle.fin_ast.specs.declared.tree.Stmt.{Stmt}
use Rattle.fin_ast.specs.declared.tree.Stmt.TheOpen.{Stmt-F}
use Rattle.fin_ast.specs.declared.tree.Stmt.TheVariants as s
use Rattle.fin_ast.specs.Dense.{Setting}
use Rattle.fin_ast.specs.Scope.{Scope, is_named_expr, is_named, are_named, stmt_step, within_let}
use Rattle.fin_ast.specs.Value.{Numbers, place, coordinates, value_of}
use Rattle.fin_ast.proofs.Nodes.{of_update}
use Rattle.fin_stage.specs.Stages.{Stage, Absent, Built, Frozen, stage_at, is_declared, kept}
use Rattle.fin_stage.specs.Staged.{Run, Action, closed, with_stage, unalive, unordered, is_made, tensors_of, can_read, has_small_indices, are_small, asked_to_read, asked_for_small, put_at, update_at, update}
use Rattle.fin_stage.proofs.Alive.{left, right}
use Rattle.fin_simp.specs.Left.{Marks, binding}
use Rattle.fin_simp.specs.Numbered.{Here, behind, behind_test, past_stmt}
use Rattle.fin_simp.specs.Remaining.{is_nothing, are_nothing}
use Rattle.fin_simp.specs.Rest.{rest_of}
use Rattle.fin_simp.specs.Work.{World, Worked, Context, work_step, chosen, bound, costing}
use Rattle.fin_simp.specs.Moving.{worked_all}
use Rattle.fin_simp.proofs.Equations.{at_block, at_cond, at_bind, at_update}
use Rattle.fin_perform.specs.Meanings.{stmt_deed, turns_deed, body_deed}
use Rattle.fin_perform.specs.Places.{left_of_all}
use Rattle.fin_perform.specs.Working.{turns_of, body_of, literal_at, test_at}
use Rattle.fin_perform.proofs.Changed.{block_changes, cond_changes, bind_changes, update_changes}
use Rattle.fin_perform.proofs.Meanings.{block_named, cond_named, bind_named}
use Rattle.fin_perform.proofs.Working.{run_left, nothing_runs}
use Rattle.fin_loops.specs.Only.{Written, put_by, is_named_update, update_names, IsOnly, OnlyCompose}
use Rattle.fin_loops.proofs.Unnamed.{put_same, named_outside_let}

-- ---- an update declares nothing, so that nothing of it is gone at a body's end

kept_one : (b : Stage) → (if is_declared b then b else Absent) ≡ b
kept_one Absent = refl
kept_one (Built b) = refl
kept_one (Frozen format f) = refl

kept_self : (before : List Stage) → kept before before ≡ before
kept_self [] = refl
kept_self (b ∷ before) = ap (λ (x : Stage). x ∷ kept before before) (kept_one b) ∙ ap (λ (xs : List Stage). b ∷ xs) (kept_self before)

kept_set : (before : List Stage) (t : ℕ) (x : Stage) → is_declared (stage_at before t) ≡ true → kept before (slice_set before t x) ≡ slice_set before t x
kept_set [] t x e = refl
kept_set (b ∷ before) zero x e = ap (λ (d : Bool). (if d then x else Absent) ∷ kept before before) e ∙ ap (λ (xs : List Stage). x ∷ xs) (kept_self before)
kept_set (b ∷ before) (suc t) x e = ap (λ (y : Stage). y ∷ kept before (slice_set before t x)) (kept_one b) ∙ ap (λ (xs : List Stage). b ∷ xs) (kept_set before t x e)

abbrev Keeps : Run → Run → Type 0
Keeps r x = kept r.stages x.stages ≡ x.stages

if_keeps : (r : Run) (b : Bool) (x y : Run) → Keeps r x → Keeps r y → Keeps r (if b then x else y)
if_keeps r true x y e f = e
if_keeps r false x y e f = f

module _ (w : Setting) (t : ℕ) (zs : List ℤ) (by : Reduce) (v : ℤ) (r : Run) where
  put_keeps : (b : Building) → stage_at r.stages t ≡ Built b → (o : Option (List ℕ)) → Keeps r (put_at t b o by v r)
  put_keeps b is None = kept_self r.stages
  put_keeps b is (Some cs) =
      if_keeps r (follows b cs) (with_stage t (Built (updated b cs (λ old. apply by old v))) r) (unordered r)
      (kept_set r.stages t (Built (updated b cs (λ old. apply by old v))) (ap is_declared is)) (kept_self r.stages)

  stage_keeps : (x : Stage) → stage_at r.stages t ≡ x → Keeps r (update_at t x zs by v r)
  stage_keeps Absent is = kept_self r.stages
  stage_keeps (Built b) is = put_keeps b is (coordinates b.function.shape zs)
  stage_keeps (Frozen format f) is = kept_self r.stages

  update_keeps : Keeps r (update w t zs by v r)
  update_keeps = if_keeps r (is_made w t) (update_at t (stage_at r.stages t) zs by v r) (unalive r) (stage_keeps (stage_at r.stages t) refl) (kept_self r.stages)

read_stages : (b : Bool) (r : Run) → (asked_to_read b r).stages ≡ r.stages
read_stages true r = refl
read_stages false r = refl

small_stages : (b : Bool) (r : Run) → (asked_for_small b r).stages ≡ r.stages
small_stages true r = refl
small_stages false r = refl

put_closes : (w : World) (u : Written) (vars : Numbers) (r : Run) → closed r.stages (put_by w u vars r) ≡ put_by w u vars r
put_closes w u vars r =
    let ts = tensors_of w.setting r in
    let can : Run = asked_to_read (can_read u.value ts) r in
    let few : Run = asked_for_small (has_small_indices u.value vars) can in
    let asked : Run = asked_for_small (are_small vars u.at) few in
    let same : asked.stages ≡ r.stages = small_stages (are_small vars u.at) few ∙ small_stages (has_small_indices u.value vars) can ∙ read_stages (can_read u.value ts) r in
    let put : Run = update w.setting u.tensor (map (place vars) u.at) u.by (value_of u.value vars ts) asked in
    let keeps : kept asked.stages put.stages ≡ put.stages = update_keeps w.setting u.tensor (map (place vars) u.at) u.by (value_of u.value vars ts) asked in
    ap (λ (xs : List Stage). record put { stages = xs }) (ap (λ (xs : List Stage). kept xs put.stages) (sym same) ∙ keeps)

-- ---- one after another

-- statements of which nothing is left do nothing
nothing_turns : (w : World) (xs : List Stmt) (h : Here) (m : Marks) → are_nothing xs h m ≡ true → (vars : Numbers) (r : Run) → turns_of w xs h (Some m) vars r ≡ r
nothing_turns w [] h m e vars r = refl
nothing_turns w (x ∷ xs) h m e vars r =
    let rest : Here = past_stmt x h in
    ap (turns_of w xs rest (Some m) vars) (nothing_runs w x h (Some m) (left (is_nothing x h m) (are_nothing xs rest m) e) vars r)
    ∙ nothing_turns w xs rest m (right (is_nothing x h m) (are_nothing xs rest m) e) vars r

module _ (m : Marks) where
  abbrev ctx : Context
  ctx = Some m

  changed_first : (x : Stmt) (xs : List Stmt) (h : Here) (t : ℕ) → (stmt_deed x h (Some m)).written t ≡ true → (turns_deed (x ∷ xs) h (Some m)).written t ≡ true
  changed_first x xs h t e =
      let own = (rest_of x h m).changed in
      let others = (left_of_all xs (past_stmt x h) ctx).changed in
      list_any-append (nat_eq t) own others ∙ or_left ((stmt_deed x h ctx).written t) ((turns_deed xs (past_stmt x h) ctx).written t) e

  changed_later : (x : Stmt) (xs : List Stmt) (h : Here) (t : ℕ) → (turns_deed xs (past_stmt x h) (Some m)).written t ≡ true → (turns_deed (x ∷ xs) h (Some m)).written t ≡ true
  changed_later x xs h t e =
      let own = (rest_of x h m).changed in
      let others = (left_of_all xs (past_stmt x h) ctx).changed in
      list_any-append (nat_eq t) own others ∙ or_right ((stmt_deed x h ctx).written t) ((turns_deed xs (past_stmt x h) ctx).written t) e

  later_only : (x : Stmt) (xs : List Stmt) (h : Here) (u : Written) → is_nothing x h m ≡ true → IsOnly (turns_deed xs (past_stmt x h) (Some m)) u → IsOnly (turns_deed (x ∷ xs) h (Some m)) u
  later_only x xs h u e a = record {
    does = λ w vars r. ap (λ (k : Run). costing 0 r (turns_of w xs (past_stmt x h) ctx vars k)) (nothing_runs w x h ctx e vars r) ∙ a.does w vars r;
    named = λ sc n. a.named sc (right (is_named x sc) (are_named xs sc) n);
    written = changed_later x xs h u.tensor a.written;
  }

  alone_only : (x : Stmt) (xs : List Stmt) (h : Here) (u : Written) → are_nothing xs (past_stmt x h) m ≡ true → IsOnly (stmt_deed x h (Some m)) u → IsOnly (turns_deed (x ∷ xs) h (Some m)) u
  alone_only x xs h u e a = record {
    does = λ w vars r. ap (costing 0 r) (nothing_turns w xs (past_stmt x h) m e vars ((stmt_deed x h ctx).does w vars r)) ∙ a.does w vars r;
    named = λ sc n. a.named sc (left (is_named x sc) (are_named xs sc) n);
    written = changed_first x xs h u.tensor a.written;
  }

  body_only : (xs : List Stmt) (h : Here) (u : Written) → IsOnly (turns_deed xs h (Some m)) u → IsOnly (body_deed xs h (Some m)) u
  body_only xs h u a = record {
    does = λ w vars r. ap (closed r.stages) (a.does w vars r) ∙ ap (costing 0 r) (put_closes w u vars r);
    named = a.named;
    written = a.written;
  }

  -- ---- blocks and tests

  block_only : (xs : List Stmt) (line last : ℕ) (h : Here) (u : Written) → is_nothing (s.Block xs line last) h m ≡ false → IsOnly (body_deed xs h (Some m)) u
      → IsOnly (stmt_deed (s.Block xs line last) h (Some m)) u
  block_only xs line last h u some a = record {
    does = λ w vars r.
        ap (costing 0 r) (run_left w (s.Block xs line last) h (Stmt-F.Block (worked_all w xs h) line last) (at_block Worked (work_step w) xs line last h) vars r ctx some) ∙ a.does w vars r;
    named = λ sc n. a.named sc (block_named xs line last sc n);
    written = block_changes xs line last h u.tensor ctx a.written;
  }

  known_only : (test : Expr) (xs : List Stmt) (line last : ℕ) (h : Here) (n : ℤ) (u : Written) → is_nothing (s.Cond test xs line last) h m ≡ false → test_at test h (Some m) ≡ Some n
      → IsOnly (body_deed xs (behind_test test h) (Some m)) u → IsOnly (stmt_deed (s.Cond test xs line last) h (Some m)) u
  known_only test xs line last h n u some e a = record {
    does = λ w vars r.
        let body : Action = λ ns k. body_of w xs (behind_test test h) ctx ns k in
        ap (costing 0 r)
        (run_left w (s.Cond test xs line last) h (Stmt-F.Cond test (worked_all w xs (behind_test test h)) line last) (at_cond Worked (work_step w) test xs line last h) vars r ctx some
        ∙ ap (λ (o : Option ℤ). chosen w.setting o test body vars r) e)
        ∙ a.does w vars r;
    named = λ sc k. a.named sc (right (is_named_expr test sc) (are_named xs sc) (cond_named xs line last test sc k));
    written = cond_changes xs line last h u.tensor test ctx some a.written;
  }

  -- ---- lets of literals

  literal_only : (var : ℕ) (value : Expr) (xs : List Stmt) (line last : ℕ) (h : Here) (n : ℤ) (u : Written) → is_nothing (s.Bind var value xs line last) h m ≡ false
      → literal_at value h (Some m) ≡ Some n → update_names var u ≡ false → IsOnly (body_deed xs (behind value h) (Some (binding m var (Some n)))) u
      → IsOnly (stmt_deed (s.Bind var value xs line last) h (Some m)) u
  literal_only var value xs line last h n u some e free a = record {
    does = λ w vars r.
        let body : Option ℤ → Action = λ o ns k. body_of w xs (behind value h) (Some (binding m var o)) ns k in
        ap (costing 0 r)
        (run_left w (s.Bind var value xs line last) h (Stmt-F.Bind var value (worked_all w xs (behind value h)) line last) (at_bind Worked (work_step w) var value xs line last h) vars r ctx some
        ∙ ap (λ (o : Option ℤ). bound w.setting o var value (body o) vars r) e)
        ∙ a.does w (slice_set vars var n) r ∙ ap (costing 0 r) (put_same var n vars w u r free);
    named = λ sc k.
        named_outside_let var sc u free (a.named (within_let sc var) (right (is_named_expr value sc) (are_named xs (within_let sc var)) (bind_named xs line last var value sc k)));
    written = bind_changes xs line last h u.tensor var value ctx (Some n) e some a.written;
  }

  -- ---- the update

  update_only : (t : ℕ) (at : List Index) (by : Reduce) (value : Expr) (line : ℕ) (h : Here) → is_nothing (s.Update t at by value line) h m ≡ false
      → IsOnly (stmt_deed (s.Update t at by value line) h (Some m)) (record { tensor = t; at = at; by = by; value = value })
  update_only t at by value line h some = record {
    does = λ w vars r.
        ap (costing 0 r) (run_left w (s.Update t at by value line) h (Stmt-F.Update t at by value line) (at_update Worked (work_step w) t at by value line h) vars r ctx some);
    named = λ sc n. sym (ap (λ (g : Scope → Bool). g sc) (of_update (Scope → Bool) stmt_step t at by value line)) ∙ n;
    written = update_changes h t at by value line ctx some;
  }

pub only_compose : OnlyCompose
only_compose m = record {
  later = later_only m;
  alone = alone_only m;
  body = body_only m;
  block = block_only m;
  known = known_only m;
  literal = literal_only m;
  update = update_only m;
}
