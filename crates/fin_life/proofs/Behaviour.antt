-- What statements do to the modes and breaches of a text is what is carried along them.
use Rattle.std.proofs.Common.{◌≡◌, ℕ, zero, suc, List, [], ◌∷◌, map, refl, ap, sym, ◌∙◌, subst, Option, Some, None}
use Rattle.std.specs.Option.{option_or}
use Rattle.fin_base.specs.declared.refusal.Refusal.{Refusal}
use Rattle.fin_ast.specs.declared.header.Header.{Header}
use Rattle.fin_ast.specs.declared.program.Program.{Program}
use Rattle.fin_ast.specs.declared.tree.Index.{Index}
use Rattle.fin_ast.specs.declared.tree.Expr.{Expr, ind-Expr, map-Expr, roll-Expr, fold-roll-Expr}
use Rattle.fin_ast.specs.declared.tree.Expr.TheOpen.{Expr-F}
use Rattle.fin_ast.specs.declared.tree.Stmt.{Stmt, ind-Stmt, map-Stmt, roll-Stmt, fold-roll-Stmt}
use Rattle.fin_ast.specs.declared.tree.Stmt.TheOpen.{Stmt-F}
use Rattle.fin_ast.specs.Text.{Opens, Reads, Updates, Text, Writing, expr_text, text_of_expr, in_a_row, body_text, stmt_text, text_of, text_of_all}
use Rattle.fin_ast.specs.Modes.{around, before_body, last_mode, mode_at_start, mode_before}
use Rattle.fin_ast.specs.Life.{breach_by, breach_at, first_breach, first_changed, first_unread, life_in}
use Rattle.fin_life.specs.Passage.{ModeOf, Passage, expr_breach, breach_of_expr, breach_in, after_all, body_breach, stmt_passage, passage_of, passages_of, life_of}

pub or_assoc : {A : Type 0} (a b c : Option A) → option_or (option_or a b) c ≡ option_or a (option_or b c)
or_assoc None b c = refl
or_assoc (Some x) b c = refl

pub or_none : {A : Type 0} (a : Option A) → option_or a None ≡ a
or_none None = refl
or_none (Some x) = refl

module _ (hs : List Header) where
  abbrev pub found : Text → Option Refusal
  found = first_breach (breach_at hs)

  pub record Behaves (w : Writing) (breach : ModeOf → ModeOf → Option Refusal) (after : ModeOf → ModeOf) : Type 0 where
    pub passed : (n : ℕ) (b : Text) → around (suc n) (w b) ≡ around (suc n) b
    pub opened : (n : ℕ) (b : Text) → before_body n (w b) ≡ before_body n b
    pub modes : (b : Text) → mode_before hs (w b) ≡ after (mode_before hs b)
    pub first : (b : Text) → found (w b) ≡ option_or (found b) (breach (mode_before hs (before_body zero b)) (mode_before hs b))

  pub nothing : Behaves (λ b. b) (λ begin now. None) (λ now. now)
  nothing = record {
    passed = λ n b. refl;
    opened = λ n b. refl;
    modes = λ b. refl;
    first = λ b. sym (or_none (found b));
  }

  pub then : (v w : Writing) (p q : ModeOf → ModeOf → Option Refusal) (f g : ModeOf → ModeOf) → Behaves v p f → Behaves w q g → Behaves (λ b. w (v b)) (λ begin now. option_or (p begin now) (q begin (f now))) (λ now. g (f now))
  then v w p q f g a c = record {
    passed = λ n b. c.passed n (v b) ∙ a.passed n b;
    opened = λ n b. c.opened n (v b) ∙ a.opened n b;
    modes = λ b. c.modes (v b) ∙ ap g (a.modes b);
    first = λ b. c.first (v b)
        ∙ ap (λ (o : Option Refusal). option_or o (q (mode_before hs (before_body zero (v b))) (mode_before hs (v b)))) (a.first b)
        ∙ ap (λ (t : Text). option_or (option_or (found b) (p (mode_before hs (before_body zero b)) (mode_before hs b))) (q (mode_before hs t) (mode_before hs (v b)))) (a.opened zero b)
        ∙ ap (λ (m : ModeOf). option_or (option_or (found b) (p (mode_before hs (before_body zero b)) (mode_before hs b))) (q (mode_before hs (before_body zero b)) m)) (a.modes b)
        ∙ or_assoc (found b) (p (mode_before hs (before_body zero b)) (mode_before hs b)) (q (mode_before hs (before_body zero b)) (f (mode_before hs b)));
  }

  pub braced : (var : Option ℕ) (parts : List Writing) (last : ℕ) (p : ModeOf → ModeOf → Option Refusal) (f : ModeOf → ModeOf) → Behaves (in_a_row parts) p f → Behaves (body_text var parts last) (λ begin now. option_or (p now now) (first_changed now (f now) last hs)) (λ now. now)
  braced var parts last p f a = record {
    passed = λ n b. a.passed (suc n) (Opens var ∷ b);
    opened = λ n b. a.opened (suc n) (Opens var ∷ b);
    modes = λ b. ap (λ (t : Text). λ (tensor : ℕ). last_mode (mode_at_start hs tensor) tensor t) (a.passed zero (Opens var ∷ b));
    first = λ b.
        let inner : Text = in_a_row parts (Opens var ∷ b) in
        ap (λ (o : Option Refusal). option_or o (first_changed (mode_before hs (before_body zero inner)) (mode_before hs inner) last hs)) (a.first (Opens var ∷ b))
        ∙ ap (λ (t : Text). option_or (option_or (option_or (found b) None) (p (mode_before hs b) (mode_before hs b))) (first_changed (mode_before hs t) (mode_before hs inner) last hs)) (a.opened zero (Opens var ∷ b))
        ∙ ap (λ (m : ModeOf). option_or (option_or (option_or (found b) None) (p (mode_before hs b) (mode_before hs b))) (first_changed (mode_before hs b) m last hs)) (a.modes (Opens var ∷ b))
        ∙ ap (λ (o : Option Refusal). option_or (option_or o (p (mode_before hs b) (mode_before hs b))) (first_changed (mode_before hs b) (f (mode_before hs b)) last hs)) (or_none (found b))
        ∙ or_assoc (found b) (p (mode_before hs b) (mode_before hs b)) (first_changed (mode_before hs b) (f (mode_before hs b)) last hs);
  }

  pub same : (w : Writing) (p q : ModeOf → ModeOf → Option Refusal) (f g : ModeOf → ModeOf) → Behaves w p f → ((begin now : ModeOf) → p begin now ≡ q begin now) → ((now : ModeOf) → f now ≡ g now) → Behaves w q g
  same w p q f g a ep ef = record {
    passed = a.passed;
    opened = a.opened;
    modes = λ b. a.modes b ∙ ef (mode_before hs b);
    first = λ b. a.first b ∙ ap (λ (o : Option Refusal). option_or (found b) o) (ep (mode_before hs (before_body zero b)) (mode_before hs b));
  }

  abbrev pub ExprBehaves : Expr → Type 0
  ExprBehaves e = Behaves (text_of_expr e) (λ begin now. breach_of_expr now e) (λ now. now)

  abbrev Known : Type 0
  Known = (e : Expr) × ExprBehaves e

  read_behaves : (tensor line : ℕ) → Behaves (λ b. Reads tensor line ∷ b) (λ begin now. breach_by hs begin now (Reads tensor line)) (λ now. now)
  read_behaves tensor line = record {
    passed = λ n b. refl;
    opened = λ n b. refl;
    modes = λ b. refl;
    first = λ b. refl;
  }

  expr_behaves : (y : Expr-F Known) → Behaves (expr_text (map-Expr Expr Writing text_of_expr (map-Expr Known Expr (λ k. k.0) y))) (λ begin now. expr_breach now (map-Expr Expr (Option Refusal) (breach_of_expr now) (map-Expr Known Expr (λ k. k.0) y))) (λ now. now)
  expr_behaves (Expr-F.Num z) = nothing
  expr_behaves (Expr-F.Var var line) = nothing
  expr_behaves (Expr-F.Read tensor at line) = read_behaves tensor line
  expr_behaves (Expr-F.Neg a) = a.1
  expr_behaves (Expr-F.Two op a b) = then (text_of_expr a.0) (text_of_expr b.0) (λ begin now. breach_of_expr now a.0) (λ begin now. breach_of_expr now b.0) (λ now. now) (λ now. now) a.1 b.1

  pub all_exprs_behave : (e : Expr) → ExprBehaves e
  all_exprs_behave = ind-Expr ExprBehaves (λ z y is.
      same (text_of_expr (roll-Expr z)) (λ begin now. expr_breach now (map-Expr Expr (Option Refusal) (breach_of_expr now) (map-Expr Known Expr (λ k. k.0) y))) (λ begin now. breach_of_expr now (roll-Expr z)) (λ now. now) (λ now. now)
      (subst (λ (w : Writing). Behaves w (λ begin now. expr_breach now (map-Expr Expr (Option Refusal) (breach_of_expr now) (map-Expr Known Expr (λ k. k.0) y))) (λ now. now)) (ap (λ (u : Expr-F Expr). expr_text (map-Expr Expr Writing text_of_expr u)) is ∙ sym (fold-roll-Expr Writing expr_text z)) (expr_behaves y))
      (λ begin now. ap (λ (u : Expr-F Expr). expr_breach now (map-Expr Expr (Option Refusal) (breach_of_expr now) u)) is ∙ sym (fold-roll-Expr (Option Refusal) (expr_breach now) z))
      (λ now. refl))

  abbrev pub StmtBehaves : Stmt → Type 0
  StmtBehaves s = Behaves (text_of s) (passage_of hs s).breach (passage_of hs s).after

  abbrev Kept : Type 0
  Kept = (s : Stmt) × StmtBehaves s

  all_behave : (ks : List Kept) → Behaves (in_a_row (map text_of (map (λ k. k.0) ks))) (breach_in (map (passage_of hs) (map (λ k. k.0) ks))) (after_all (map (passage_of hs) (map (λ k. k.0) ks)))
  all_behave [] = nothing
  all_behave (k ∷ ks) = then (text_of k.0) (in_a_row (map text_of (map (λ k. k.0) ks))) (passage_of hs k.0).breach (breach_in (map (passage_of hs) (map (λ k. k.0) ks))) (passage_of hs k.0).after (after_all (map (passage_of hs) (map (λ k. k.0) ks))) k.1 (all_behave ks)

  body_behaves : (var : Option ℕ) (ks : List Kept) (last : ℕ) → Behaves (body_text var (map text_of (map (λ k. k.0) ks)) last) (λ begin now. body_breach hs (map (passage_of hs) (map (λ k. k.0) ks)) last now) (λ now. now)
  body_behaves var ks last = braced var (map text_of (map (λ k. k.0) ks)) last (breach_in (map (passage_of hs) (map (λ k. k.0) ks))) (after_all (map (passage_of hs) (map (λ k. k.0) ks))) (all_behave ks)

  valued : (e : Expr) (ks : List Kept) (last : ℕ) → Behaves (λ b. body_text None (map text_of (map (λ k. k.0) ks)) last (text_of_expr e b)) (λ begin now. option_or (breach_of_expr now e) (body_breach hs (map (passage_of hs) (map (λ k. k.0) ks)) last now)) (λ now. now)
  valued e ks last = then (text_of_expr e) (body_text None (map text_of (map (λ k. k.0) ks)) last) (λ begin now. breach_of_expr now e) (λ begin now. body_breach hs (map (passage_of hs) (map (λ k. k.0) ks)) last now) (λ now. now) (λ now. now) (all_exprs_behave e) (body_behaves None ks last)

  update_behaves : (tensor : ℕ) (at : List Index) (line : ℕ) → Behaves (λ b. Updates tensor at line ∷ b) (λ begin now. breach_by hs begin now (Updates tensor [] line)) (λ now. now)
  update_behaves tensor at line = record {
    passed = λ n b. refl;
    opened = λ n b. refl;
    modes = λ b. refl;
    first = λ b. refl;
  }

  stmt_behaves : (y : Stmt-F Kept) → Behaves (stmt_text (map-Stmt Stmt Writing text_of (map-Stmt Kept Stmt (λ k. k.0) y))) (stmt_passage hs (map-Stmt Stmt Passage (passage_of hs) (map-Stmt Kept Stmt (λ k. k.0) y))).breach (stmt_passage hs (map-Stmt Stmt Passage (passage_of hs) (map-Stmt Kept Stmt (λ k. k.0) y))).after
  stmt_behaves (Stmt-F.Block body line last) = body_behaves None body last
  stmt_behaves (Stmt-F.Loop var range par body line last) = body_behaves (Some var) body last
  stmt_behaves (Stmt-F.Cond test body line last) = valued test body last
  stmt_behaves (Stmt-F.Bind var value body line last) = valued value body last
  stmt_behaves (Stmt-F.Declare t value line) = record {
    passed = λ n b. refl;
    opened = λ n b. refl;
    modes = λ b. refl;
    first = λ b. refl;
  }
  stmt_behaves (Stmt-F.Freeze t line) = record {
    passed = λ n b. refl;
    opened = λ n b. refl;
    modes = λ b. refl;
    first = λ b. refl;
  }
  stmt_behaves (Stmt-F.Thaw t line) = record {
    passed = λ n b. refl;
    opened = λ n b. refl;
    modes = λ b. refl;
    first = λ b. refl;
  }
  stmt_behaves (Stmt-F.Update t at by value line) = then (λ b. Updates t at line ∷ b) (text_of_expr value) (λ begin now. breach_by hs begin now (Updates t [] line)) (λ begin now. breach_of_expr now value) (λ now. now) (λ now. now) (update_behaves t at line) (all_exprs_behave value)

  both : (w v : Writing) (p q : Passage) → w ≡ v → p ≡ q → Behaves w p.breach p.after → Behaves v q.breach q.after
  both w v p q ew ep a = subst (λ (u : Writing). Behaves u q.breach q.after) ew (subst (λ (r : Passage). Behaves w r.breach r.after) ep a)

  pub all_stmts_behave : (s : Stmt) → StmtBehaves s
  all_stmts_behave = ind-Stmt StmtBehaves (λ z y is.
      both (stmt_text (map-Stmt Stmt Writing text_of (map-Stmt Kept Stmt (λ k. k.0) y))) (text_of (roll-Stmt z)) (stmt_passage hs (map-Stmt Stmt Passage (passage_of hs) (map-Stmt Kept Stmt (λ k. k.0) y))) (passage_of hs (roll-Stmt z))
      (ap (λ (u : Stmt-F Stmt). stmt_text (map-Stmt Stmt Writing text_of u)) is ∙ sym (fold-roll-Stmt Writing stmt_text z))
      (ap (λ (u : Stmt-F Stmt). stmt_passage hs (map-Stmt Stmt Passage (passage_of hs) u)) is ∙ sym (fold-roll-Stmt Passage (stmt_passage hs) z))
      (stmt_behaves y))

  pub statements_behave : (ss : List Stmt) → Behaves (text_of_all ss) (breach_in (passages_of hs ss)) (after_all (passages_of hs ss))
  statements_behave [] = nothing
  statements_behave (s ∷ ss) = then (text_of s) (text_of_all ss) (passage_of hs s).breach (breach_in (passages_of hs ss)) (passage_of hs s).after (after_all (passages_of hs ss)) (all_stmts_behave s) (statements_behave ss)

-- the verdict on the text of a program is what is carried along its statements
pub life_is : (p : Program) → life_of p.headers p.body ≡ life_in p
life_is p =
    let whole = statements_behave p.headers p.body in
    let text : Text = text_of_all p.body [] in
    ap (λ (m : ModeOf). option_or (breach_in (passages_of p.headers p.body) (mode_at_start p.headers) (mode_at_start p.headers)) (first_unread m p.headers)) (sym (whole.modes []))
    ∙ ap (λ (o : Option Refusal). option_or o (first_unread (mode_before p.headers text) p.headers)) (sym (whole.first []))
