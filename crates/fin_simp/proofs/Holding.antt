-- What each step of a fold with numbers keeps holds of the whole fold.
use Rattle.std.proofs.Common.{List, [], ◌∷◌, map, sym, ap, subst}
use Rattle.fin_ast.specs.declared.tree.Stmt.{Stmt, fold-Stmt}
use Rattle.fin_ast.specs.declared.tree.Stmt.TheOpen.{Stmt-F}
use Rattle.fin_ast.proofs.Nodes as node
use Rattle.fin_ast.proofs.Induction.{AllOf, Cases, by_kind}
use Rattle.fin_simp.specs.Numbered.{Here, behind, behind_test, past_stmt, NumberedStmt, at_parts, numbered_step, numbered, numbered_all}

abbrev pub Each : {A : Type 0} → (A → Type 0) → List A → Type 0
Each P [] = Unit {0}
Each P (x ∷ xs) = P x × Each P xs

-- of each statement in a node
abbrev pub InNode : {A : Type 0} → (A → Type 0) → Stmt-F A → Type 0
InNode P (Stmt-F.Block body line last) = Each P body
InNode P (Stmt-F.Loop var range par body line last) = Each P body
InNode P (Stmt-F.Cond test body line last) = Each P body
InNode P (Stmt-F.Bind var value body line last) = Each P body
InNode P (Stmt-F.Declare tensor value line) = Unit {0}
InNode P (Stmt-F.Freeze tensor line) = Unit {0}
InNode P (Stmt-F.Thaw tensor line) = Unit {0}
InNode P (Stmt-F.Update tensor at by value line) = Unit {0}

module _ (A : Type 0) (step : Here → Stmt-F A → A) (P : A → Type 0) (keeps : (h : Here) (y : Stmt-F A) → InNode P y → P (step h y)) where
  abbrev done : Stmt → NumberedStmt A
  done = fold-Stmt (NumberedStmt A) (numbered_step A step)

  abbrev Held : Stmt → Type 0
  Held x = (h : Here) → P (numbered A step x h)

  parts_held : (body : List Stmt) → AllOf Held body → (h : Here) → Each P (at_parts (map done body) h)
  parts_held [] all h = tt
  parts_held (x ∷ xs) all h = (all.0 h, parts_held xs all.1 ((done x).past h))

  held_cases : Cases Held
  held_cases = record {
    block = λ body line last all h. subst P (sym (ap (λ (f : NumberedStmt A). f.at h) (node.of_block (NumberedStmt A) (numbered_step A step) body line last)))
        (keeps h (Stmt-F.Block (at_parts (map done body) h) line last) (parts_held body all h));
    loop = λ var range par body line last all h. subst P (sym (ap (λ (f : NumberedStmt A). f.at h) (node.of_loop (NumberedStmt A) (numbered_step A step) var range par body line last)))
        (keeps h (Stmt-F.Loop var range par (at_parts (map done body) h) line last) (parts_held body all h));
    cond = λ test body line last all h. subst P (sym (ap (λ (f : NumberedStmt A). f.at h) (node.of_cond (NumberedStmt A) (numbered_step A step) test body line last)))
        (keeps h (Stmt-F.Cond test (at_parts (map done body) (behind_test test h)) line last) (parts_held body all (behind_test test h)));
    bind = λ var value body line last all h. subst P (sym (ap (λ (f : NumberedStmt A). f.at h) (node.of_bind (NumberedStmt A) (numbered_step A step) var value body line last)))
        (keeps h (Stmt-F.Bind var value (at_parts (map done body) (behind value h)) line last) (parts_held body all (behind value h)));
    declare = λ tensor value line h. subst P (sym (ap (λ (f : NumberedStmt A). f.at h) (node.of_declare (NumberedStmt A) (numbered_step A step) tensor value line))) (keeps h (Stmt-F.Declare tensor value line) tt);
    freeze = λ tensor line h. subst P (sym (ap (λ (f : NumberedStmt A). f.at h) (node.of_freeze (NumberedStmt A) (numbered_step A step) tensor line))) (keeps h (Stmt-F.Freeze tensor line) tt);
    thaw = λ tensor line h. subst P (sym (ap (λ (f : NumberedStmt A). f.at h) (node.of_thaw (NumberedStmt A) (numbered_step A step) tensor line))) (keeps h (Stmt-F.Thaw tensor line) tt);
    update = λ tensor at by value line h. subst P (sym (ap (λ (f : NumberedStmt A). f.at h) (node.of_update (NumberedStmt A) (numbered_step A step) tensor at by value line))) (keeps h (Stmt-F.Update tensor at by value line) tt);
  }

  one_held : (x : Stmt) → Held x
  one_held = by_kind Held held_cases

  pub all_held : (body : List Stmt) (h : Here) → Each P (numbered_all A step body h)
  all_held [] h = tt
  all_held (x ∷ xs) h = (one_held x h, all_held xs (past_stmt x h))
