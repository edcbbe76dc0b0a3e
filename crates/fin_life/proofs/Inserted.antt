-- Insertion by places is insertion with the modes carried along.
use Rattle.std.proofs.Common.{◌≡◌, ℕ, zero, ◌+◌, List, [], ◌∷◌, ◌++◌, map, refl, ap, sym, ◌∙◌, subst, Option, Some, None, Bool, true, false, not, ◌&&◌, if◌then◌else◌}
use Rattle.fin_ast.specs.declared.header.Header.{Header}
use Rattle.fin_ast.specs.declared.mode.Mode.TheVariants.{Update, Read}
use Rattle.fin_ast.specs.declared.program.Program.{Program}
use Rattle.fin_ast.specs.declared.tree.Expr.{Expr}
use Rattle.fin_ast.specs.declared.tree.Stmt.{Stmt, ind-Stmt, map-Stmt, fold-roll-Stmt}
use Rattle.fin_ast.specs.declared.tree.Stmt.TheOpen.{Stmt-F}
use Rattle.fin_ast.specs.declared.tree.Stmt.TheVariants as s
use Rattle.fin_ast.specs.Text.{Opens, Updates, Text, Writing, text_of_expr, in_a_row, stmt_text, text_of}
use Rattle.fin_ast.specs.Modes.{mode_before, is_input_at}
use Rattle.fin_ast.specs.Kinds.{is_output}
use Rattle.fin_ast.specs.Life.{is_update, is_read}
use Rattle.fin_ast.specs.Insertion.{Draft, put, put_for, put_at_end, in_header_order, Completion, put_before, put_whole, completed, completed_body, stmt_completion, completion_of, completions_of, completed_program, only_reads, only_updates}
use Rattle.fin_life.specs.Passage.{ModeOf, turned, Passage, stmt_passage, passage_of}
use Rattle.fin_life.specs.Mentions.{MentionOf, only_updates_of}
use Rattle.fin_life.specs.Drafts.{Carried, frozen, thawed, put_one, put_last, in_turn}
use Rattle.fin_life.specs.Completing.{Completing, noted_in, put_all, put_whole as carry_whole, carried, carried_body, stmt_completing, completing_of, completings_of, carried_program}
use Rattle.fin_life.proofs.Behaviour.{all_exprs_behave, all_stmts_behave}
use Rattle.fin_life.proofs.Equations.{at-Block, at-Loop, at-Cond, at-Bind, at-Declare, at-Freeze, at-Thaw, at-Update}
use Rattle.fin_life.proofs.Noted.{mentioned, only_reads_is, only_updates_is, IsNoted, expr_noted}

module _ (hs : List Header) where
  abbrev pub carry : Draft → Carried
  carry d = record { statements = d.statements; modes = mode_before hs d.text }

  freeze_put : (tensor line : ℕ) (d : Draft) → frozen tensor line (carry d) ≡ carry (put (s.Freeze tensor line) d)
  freeze_put tensor line d = ap (λ (t : Text). let r : Carried = record { statements = d.statements ++ s.Freeze tensor line ∷ []; modes = mode_before hs t } in r) (sym (ap (λ (w : Writing). w d.text) (at-Freeze Writing stmt_text tensor line)))

  thaw_put : (tensor line : ℕ) (d : Draft) → thawed tensor line (carry d) ≡ carry (put (s.Thaw tensor line) d)
  thaw_put tensor line d = ap (λ (t : Text). let r : Carried = record { statements = d.statements ++ s.Thaw tensor line ∷ []; modes = mode_before hs t } in r) (sym (ap (λ (w : Writing). w d.text) (at-Thaw Writing stmt_text tensor line)))

  if_carry : (b : Bool) (x y : Carried) (d e : Draft) → x ≡ carry d → y ≡ carry e → (if b then x else y) ≡ carry (if b then d else e)
  if_carry true x y d e p q = p
  if_carry false x y d e p q = q

  one_put : (text : Text) (line tensor : ℕ) (d : Draft) → put_one hs (mentioned text) line tensor (carry d) ≡ carry (put_for hs text line tensor d)
  one_put text line tensor d =
      ap (λ (r : Bool). if is_update (mode_before hs d.text tensor) && r then frozen tensor line (carry d)
      else if is_read (mode_before hs d.text tensor) && not (is_input_at hs tensor) && only_updates_of (mentioned text tensor) then thawed tensor line (carry d)
      else carry d) (only_reads_is tensor text)
      ∙ ap (λ (u : Bool). if is_update (mode_before hs d.text tensor) && only_reads tensor text then frozen tensor line (carry d)
      else if is_read (mode_before hs d.text tensor) && not (is_input_at hs tensor) && u then thawed tensor line (carry d)
      else carry d) (only_updates_is tensor text)
      ∙ if_carry (is_update (mode_before hs d.text tensor) && only_reads tensor text) _ _ _ _ (freeze_put tensor line d)
      (if_carry (is_read (mode_before hs d.text tensor) && not (is_input_at hs tensor) && only_updates tensor text) _ _ _ _ (thaw_put tensor line d) refl)

  last_put : (line tensor : ℕ) (h : Header) (d : Draft) → put_last line tensor h (carry d) ≡ carry (put_at_end hs line tensor h d)
  last_put line tensor h d = if_carry (is_output h.kind && is_update (mode_before hs d.text tensor)) _ _ _ _ (freeze_put tensor line d) refl

  in_order : (f : ℕ → Header → Carried → Carried) (g : ℕ → Header → Draft → Draft) → ((t : ℕ) (h : Header) (d : Draft) → f t h (carry d) ≡ carry (g t h d)) → (n : ℕ) (xs : List Header) (d : Draft) → in_turn f n xs (carry d) ≡ carry (in_header_order g n xs d)
  in_order f g e n [] d = refl
  in_order f g e n (x ∷ xs) d = ap (in_turn f (n + 1) xs) (e n x d) ∙ in_order f g e (n + 1) xs (g n x d)

  pub record Simulates (c : Completing) (k : Completion) : Type 0 where
    pub line : c.line ≡ k.line
    pub note : IsNoted c.note k.writing
    pub whole : (b : Text) → c.whole (mode_before hs b) ≡ k.whole b
    pub after : (b : Text) → c.after (mode_before hs b) ≡ mode_before hs (text_of (k.whole b) b)

  all_put : (c : Completing) (k : Completion) → Simulates c k → (d : Draft) → put_all hs c (carry d) ≡ carry (put_before hs k d)
  all_put c k e d =
      ap (λ (m : MentionOf). in_turn (λ tensor h. put_one hs m c.line tensor) zero hs (carry d)) (e.note [])
      ∙ ap (λ (l : ℕ). in_turn (λ tensor h. put_one hs (mentioned (k.writing [])) l tensor) zero hs (carry d)) e.line
      ∙ in_order (λ tensor h. put_one hs (mentioned (k.writing [])) k.line tensor) (λ tensor h. put_for hs (k.writing []) k.line tensor) (λ t h d. one_put (k.writing []) k.line t d) zero hs d

  whole_put : (c : Completing) (k : Completion) → Simulates c k → (d : Draft) → carry_whole c (carry d) ≡ carry (put_whole k d)
  whole_put c k e d =
      ap (λ (x : Stmt). let r : Carried = record { statements = d.statements ++ x ∷ []; modes = c.after (mode_before hs d.text) } in r) (e.whole d.text)
      ∙ ap (λ (m : ModeOf). let r : Carried = record { statements = d.statements ++ k.whole d.text ∷ []; modes = m } in r) (e.after d.text)

  abbrev IsSimulated : Stmt → Type 0
  IsSimulated x = Simulates (completing_of hs x) (completion_of hs x)

  abbrev Known : Type 0
  Known = (x : Stmt) × IsSimulated x

  abbrev plain : List Known → List Stmt
  plain ks = map (λ k. k.0) ks

  list_carried : (ks : List Known) (d : Draft) → carried hs (map (completing_of hs) (plain ks)) (carry d) ≡ carry (completed hs (map (completion_of hs) (plain ks)) d)
  list_carried [] d = refl
  list_carried (k ∷ ks) d =
      ap (λ (x : Carried). carried hs (map (completing_of hs) (plain ks)) (carry_whole (completing_of hs k.0) x)) (all_put (completing_of hs k.0) (completion_of hs k.0) k.1 d)
      ∙ ap (carried hs (map (completing_of hs) (plain ks))) (whole_put (completing_of hs k.0) (completion_of hs k.0) k.1 (put_before hs (completion_of hs k.0) d))
      ∙ list_carried ks (put_whole (completion_of hs k.0) (put_before hs (completion_of hs k.0) d))

  list_noted : (ks : List Known) → IsNoted (noted_in (map (completing_of hs) (plain ks))) (in_a_row (map (λ c. c.writing) (map (completion_of hs) (plain ks))))
  list_noted [] b = refl
  list_noted (k ∷ ks) b = ap (noted_in (map (completing_of hs) (plain ks))) (k.1.note b) ∙ list_noted ks ((completion_of hs k.0).writing b)

  body_carried : (ks : List Known) (var : Option ℕ) (b : Text) → carried_body hs (map (completing_of hs) (plain ks)) (mode_before hs b) ≡ completed_body hs (map (completion_of hs) (plain ks)) (Opens var ∷ b)
  body_carried ks var b = ap (λ (x : Carried). x.statements) (list_carried ks (record { statements = []; text = Opens var ∷ b }))

  body_after_expr : (ks : List Known) (e : Expr) (b : Text) → carried_body hs (map (completing_of hs) (plain ks)) (mode_before hs b) ≡ completed_body hs (map (completion_of hs) (plain ks)) (Opens None ∷ text_of_expr e b)
  body_after_expr ks e b = ap (carried_body hs (map (completing_of hs) (plain ks))) (sym ((all_exprs_behave hs e).modes b)) ∙ body_carried ks None (text_of_expr e b)

  -- the modes after a statement, by its text
  led : (x : Stmt) (f : ModeOf → ModeOf) (b : Text) → (passage_of hs x).after ≡ f → f (mode_before hs b) ≡ mode_before hs (text_of x b)
  led x f b e = sym ((all_stmts_behave hs x).modes b ∙ ap (λ (g : ModeOf → ModeOf). g (mode_before hs b)) e)

  after_at : {p : Passage} {q : Passage} → p ≡ q → p.after ≡ q.after
  after_at e = ap (λ (p : Passage). p.after) e

  step_simulates : (y : Stmt-F Known) → Simulates (stmt_completing hs (map-Stmt Stmt Completing (completing_of hs) (map-Stmt Known Stmt (λ k. k.0) y))) (stmt_completion hs (map-Stmt Stmt Completion (completion_of hs) (map-Stmt Known Stmt (λ k. k.0) y)))
  step_simulates (Stmt-F.Block ks line last) = record {
    line = refl;
    note = λ b. list_noted ks (Opens None ∷ b);
    whole = λ b. ap (λ (ss : List Stmt). s.Block ss line last) (body_carried ks None b);
    after = λ b. led _ (λ now. now) b (after_at (at-Block Passage (stmt_passage hs) _ line last));
  }
  step_simulates (Stmt-F.Loop var range par ks line last) = record {
    line = refl;
    note = λ b. list_noted ks (Opens (Some var) ∷ b);
    whole = λ b. ap (λ (ss : List Stmt). s.Loop var range par ss line last) (body_carried ks (Some var) b);
    after = λ b. led _ (λ now. now) b (after_at (at-Loop Passage (stmt_passage hs) var range par _ line last));
  }
  step_simulates (Stmt-F.Cond test ks line last) = record {
    line = refl;
    note = λ b. ap (noted_in (map (completing_of hs) (plain ks))) (expr_noted test b) ∙ list_noted ks (Opens None ∷ text_of_expr test b);
    whole = λ b. ap (λ (ss : List Stmt). s.Cond test ss line last) (body_after_expr ks test b);
    after = λ b. led _ (λ now. now) b (after_at (at-Cond Passage (stmt_passage hs) test _ line last));
  }
  step_simulates (Stmt-F.Bind var value ks line last) = record {
    line = refl;
    note = λ b. ap (noted_in (map (completing_of hs) (plain ks))) (expr_noted value b) ∙ list_noted ks (Opens None ∷ text_of_expr value b);
    whole = λ b. ap (λ (ss : List Stmt). s.Bind var value ss line last) (body_after_expr ks value b);
    after = λ b. led _ (λ now. now) b (after_at (at-Bind Passage (stmt_passage hs) var value _ line last));
  }
  step_simulates (Stmt-F.Declare t value line) = record {
    line = refl;
    note = λ b. refl;
    whole = λ b. refl;
    after = λ b. led (s.Declare t value line) (λ now. turned now t Update) b (after_at (at-Declare Passage (stmt_passage hs) t value line));
  }
  step_simulates (Stmt-F.Freeze t line) = record {
    line = refl;
    note = λ b. refl;
    whole = λ b. refl;
    after = λ b. led (s.Freeze t line) (λ now. turned now t Read) b (after_at (at-Freeze Passage (stmt_passage hs) t line));
  }
  step_simulates (Stmt-F.Thaw t line) = record {
    line = refl;
    note = λ b. refl;
    whole = λ b. refl;
    after = λ b. led (s.Thaw t line) (λ now. turned now t Update) b (after_at (at-Thaw Passage (stmt_passage hs) t line));
  }
  step_simulates (Stmt-F.Update t at by value line) = record {
    line = refl;
    note = λ b. expr_noted value (Updates t at line ∷ b);
    whole = λ b. refl;
    after = λ b. led (s.Update t at by value line) (λ now. now) b (after_at (at-Update Passage (stmt_passage hs) t at by value line));
  }

  both : (c c' : Completing) (k k' : Completion) → c ≡ c' → k ≡ k' → Simulates c k → Simulates c' k'
  both c c' k k' p q e = subst (λ (x : Completing). Simulates x k') p (subst (λ (x : Completion). Simulates c x) q e)

  pub all_simulated : (x : Stmt) → Simulates (completing_of hs x) (completion_of hs x)
  all_simulated = ind-Stmt IsSimulated (λ z y is.
      both _ _ _ _
      (ap (λ (u : Stmt-F Stmt). stmt_completing hs (map-Stmt Stmt Completing (completing_of hs) u)) is ∙ sym (fold-roll-Stmt Completing (stmt_completing hs) z))
      (ap (λ (u : Stmt-F Stmt). stmt_completion hs (map-Stmt Stmt Completion (completion_of hs) u)) is ∙ sym (fold-roll-Stmt Completion (stmt_completion hs) z))
      (step_simulates y))

  pub body_completed : (ss : List Stmt) (d : Draft) → carried hs (completings_of hs ss) (carry d) ≡ carry (completed hs (completions_of hs ss) d)
  body_completed [] d = refl
  body_completed (x ∷ ss) d =
      ap (λ (r : Carried). carried hs (completings_of hs ss) (carry_whole (completing_of hs x) r)) (all_put (completing_of hs x) (completion_of hs x) (all_simulated x) d)
      ∙ ap (carried hs (completings_of hs ss)) (whole_put (completing_of hs x) (completion_of hs x) (all_simulated x) (put_before hs (completion_of hs x) d))
      ∙ body_completed ss (put_whole (completion_of hs x) (put_before hs (completion_of hs x) d))

  pub ended : (last : ℕ) (d : Draft) → in_turn (put_last last) zero hs (carry d) ≡ carry (in_header_order (put_at_end hs last) zero hs d)
  ended last d = in_order (put_last last) (put_at_end hs last) (last_put last) zero hs d

-- insertion with the modes that are carried along is insertion by places
pub insertion_is : (p : Program) → carried_program p.headers p.body p.last ≡ completed_program p
insertion_is p =
    let start : Draft = record { statements = []; text = [] } in
    ap (λ (r : Carried). (in_turn (put_last p.last) zero p.headers r).statements) (body_completed p.headers p.body start)
    ∙ ap (λ (r : Carried). r.statements) (ended p.headers p.last (completed p.headers (completions_of p.headers p.body) start))
