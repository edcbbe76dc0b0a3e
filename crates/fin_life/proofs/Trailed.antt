-- What is carried along for the order of updates is found in the text.
use Rattle.std.proofs.Common.{◌≡◌, ℕ, zero, suc, List, [], ◌∷◌, ◌++◌, map, refl, ap, sym, ◌∙◌, subst, length, Option, Some, None}
use Rattle.std.specs.Option.{option_or}
use Rattle.fin_base.specs.declared.refusal.Refusal.{Refusal}
use Rattle.fin_ast.specs.declared.header.Header.{Header}
use Rattle.fin_ast.specs.declared.tree.Index.{Index}
use Rattle.fin_ast.specs.declared.tree.Expr.{Expr, ind-Expr, map-Expr, fold-roll-Expr}
use Rattle.fin_ast.specs.declared.tree.Expr.TheOpen.{Expr-F}
use Rattle.fin_ast.specs.declared.tree.Stmt.{Stmt, ind-Stmt, map-Stmt, fold-roll-Stmt}
use Rattle.fin_ast.specs.declared.tree.Stmt.TheOpen.{Stmt-F}
use Rattle.fin_ast.specs.Text.{Mark, Opens, Closes, Reads, Updates, Declares, Freezes, Thaws, Text, Writing, expr_text, text_of_expr, in_a_row, body_text, stmt_text, text_of, text_of_all}
use Rattle.fin_ast.specs.Modes.{around}
use Rattle.fin_ast.specs.Life.{first_breach}
use Rattle.fin_life.specs.Tracks.{Tracks, declared, updated}
use Rattle.fin_life.specs.Trails.{update_breach, Trail, breach_along, after_all, stmt_trail, trail_of, trails_of, no_tracks}
use Rattle.fin_life.proofs.Behaviour.{or_assoc, or_none}

-- the loops of a text, outermost first
abbrev pub loops_of : Text → List ℕ
loops_of [] = []
loops_of (Opens None ∷ b) = loops_of b
loops_of (Opens (Some var) ∷ b) = loops_of b ++ var ∷ []
loops_of (Closes line ∷ b) = loops_of b
loops_of (Reads t line ∷ b) = loops_of b
loops_of (Updates t at line ∷ b) = loops_of b
loops_of (Declares t line ∷ b) = loops_of b
loops_of (Freezes t line ∷ b) = loops_of b
loops_of (Thaws t line ∷ b) = loops_of b

-- those around its end
abbrev pub loops_around : Text → List ℕ
loops_around b = loops_of (around zero b)

abbrev pub tracks_after : Mark → List ℕ → Tracks → Tracks
tracks_after (Opens var) loops t = t
tracks_after (Closes line) loops t = t
tracks_after (Reads tensor line) loops t = t
tracks_after (Updates tensor at line) loops t = updated tensor loops t
tracks_after (Declares tensor line) loops t = declared tensor (length loops) t
tracks_after (Freezes tensor line) loops t = t
tracks_after (Thaws tensor line) loops t = t

-- by the last declaration in the text, wherever it stands
abbrev pub tracks_of : Text → Tracks
tracks_of [] = no_tracks
tracks_of (m ∷ b) = tracks_after m (loops_around b) (tracks_of b)

module _ (hs : List Header) where
  abbrev pub carried_at : Text → Mark → Option Refusal
  carried_at b (Updates tensor at line) = update_breach hs tensor at line (loops_around b) (tracks_of b)
  carried_at b (Opens var) = None
  carried_at b (Closes line) = None
  carried_at b (Reads t line) = None
  carried_at b (Declares t line) = None
  carried_at b (Freezes t line) = None
  carried_at b (Thaws t line) = None

  abbrev pub found : Text → Option Refusal
  found = first_breach carried_at

  pub record Trails (w : Writing) (breach : List ℕ → Tracks → Option Refusal) (after : List ℕ → Tracks → Tracks) : Type 0 where
    pub passed : (n : ℕ) (b : Text) → around (suc n) (w b) ≡ around (suc n) b
    pub loops : (b : Text) → loops_around (w b) ≡ loops_around b
    pub tracks : (b : Text) → tracks_of (w b) ≡ after (loops_around b) (tracks_of b)
    pub first : (b : Text) → found (w b) ≡ option_or (found b) (breach (loops_around b) (tracks_of b))

  nothing : Trails (λ b. b) (λ ls t. None) (λ ls t. t)
  nothing = record {
    passed = λ n b. refl;
    loops = λ b. refl;
    tracks = λ b. refl;
    first = λ b. sym (or_none (found b));
  }

  then : (v w : Writing) (p q : List ℕ → Tracks → Option Refusal) (f g : List ℕ → Tracks → Tracks) → Trails v p f → Trails w q g → Trails (λ b. w (v b)) (λ ls t. option_or (p ls t) (q ls (f ls t))) (λ ls t. g ls (f ls t))
  then v w p q f g a c = record {
    passed = λ n b. c.passed n (v b) ∙ a.passed n b;
    loops = λ b. c.loops (v b) ∙ a.loops b;
    tracks = λ b. c.tracks (v b) ∙ ap (λ (ls : List ℕ). g ls (tracks_of (v b))) (a.loops b) ∙ ap (g (loops_around b)) (a.tracks b);
    first = λ b. c.first (v b)
        ∙ ap (λ (o : Option Refusal). option_or o (q (loops_around (v b)) (tracks_of (v b)))) (a.first b)
        ∙ ap (λ (ls : List ℕ). option_or (option_or (found b) (p (loops_around b) (tracks_of b))) (q ls (tracks_of (v b)))) (a.loops b)
        ∙ ap (λ (t : Tracks). option_or (option_or (found b) (p (loops_around b) (tracks_of b))) (q (loops_around b) t)) (a.tracks b)
        ∙ or_assoc (found b) (p (loops_around b) (tracks_of b)) (q (loops_around b) (f (loops_around b) (tracks_of b)));
  }

  -- a body that stands in these loops of its own
  braced : (var : Option ℕ) (inner : List ℕ → List ℕ) (parts : List Writing) (last : ℕ) (p : List ℕ → Tracks → Option Refusal) (f : List ℕ → Tracks → Tracks) → ((b : Text) → loops_around (Opens var ∷ b) ≡ inner (loops_around b)) → Trails (in_a_row parts) p f → Trails (body_text var parts last) (λ ls. p (inner ls)) (λ ls. f (inner ls))
  braced var inner parts last p f e a = record {
    passed = λ n b. a.passed (suc n) (Opens var ∷ b);
    loops = λ b. ap loops_of (a.passed zero (Opens var ∷ b));
    tracks = λ b. a.tracks (Opens var ∷ b) ∙ ap (λ (ls : List ℕ). f ls (tracks_of b)) (e b);
    first = λ b. or_none (found (in_a_row parts (Opens var ∷ b)))
        ∙ a.first (Opens var ∷ b)
        ∙ ap (λ (o : Option Refusal). option_or o (p (loops_around (Opens var ∷ b)) (tracks_of b))) (or_none (found b))
        ∙ ap (λ (ls : List ℕ). option_or (found b) (p ls (tracks_of b))) (e b);
  }

  abbrev pub ExprTrails : Expr → Type 0
  ExprTrails e = Trails (text_of_expr e) (λ ls t. None) (λ ls t. t)

  abbrev KnownExpr : Type 0
  KnownExpr = (e : Expr) × ExprTrails e

  expr_trails : (y : Expr-F KnownExpr) → Trails (expr_text (map-Expr Expr Writing text_of_expr (map-Expr KnownExpr Expr (λ k. k.0) y))) (λ ls t. None) (λ ls t. t)
  expr_trails (Expr-F.Num z) = nothing
  expr_trails (Expr-F.Var var line) = nothing
  expr_trails (Expr-F.Read tensor at line) = record {
    passed = λ n b. refl;
    loops = λ b. refl;
    tracks = λ b. refl;
    first = λ b. refl;
  }
  expr_trails (Expr-F.Neg a) = a.1
  expr_trails (Expr-F.Two op a b) = then (text_of_expr a.0) (text_of_expr b.0) (λ ls t. None) (λ ls t. None) (λ ls t. t) (λ ls t. t) a.1 b.1

  all_exprs : (e : Expr) → ExprTrails e
  all_exprs = ind-Expr ExprTrails (λ z y is.
      subst (λ (w : Writing). Trails w (λ ls t. None) (λ ls t. t)) (ap (λ (u : Expr-F Expr). expr_text (map-Expr Expr Writing text_of_expr u)) is ∙ sym (fold-roll-Expr Writing expr_text z)) (expr_trails y))

  abbrev pub StmtTrails : Stmt → Type 0
  StmtTrails s = Trails (text_of s) (trail_of hs s).breach (trail_of hs s).after

  abbrev Known : Type 0
  Known = (s : Stmt) × StmtTrails s

  abbrev plain : List Known → List Stmt
  plain ks = map (λ k. k.0) ks

  list_trails : (ks : List Known) → Trails (in_a_row (map text_of (plain ks))) (breach_along (map (trail_of hs) (plain ks))) (after_all (map (trail_of hs) (plain ks)))
  list_trails [] = nothing
  list_trails (k ∷ ks) = then (text_of k.0) (in_a_row (map text_of (plain ks))) (trail_of hs k.0).breach (breach_along (map (trail_of hs) (plain ks))) (trail_of hs k.0).after (after_all (map (trail_of hs) (plain ks))) k.1 (list_trails ks)

  body_trails : (var : Option ℕ) (inner : List ℕ → List ℕ) (ks : List Known) (last : ℕ) → ((b : Text) → loops_around (Opens var ∷ b) ≡ inner (loops_around b)) → Trails (body_text var (map text_of (plain ks)) last) (λ ls. breach_along (map (trail_of hs) (plain ks)) (inner ls)) (λ ls. after_all (map (trail_of hs) (plain ks)) (inner ls))
  body_trails var inner ks last e = braced var inner (map text_of (plain ks)) last (breach_along (map (trail_of hs) (plain ks))) (after_all (map (trail_of hs) (plain ks))) e (list_trails ks)

  valued : (e : Expr) (ks : List Known) (last : ℕ) → Trails (λ b. body_text None (map text_of (plain ks)) last (text_of_expr e b)) (breach_along (map (trail_of hs) (plain ks))) (after_all (map (trail_of hs) (plain ks)))
  valued e ks last = then (text_of_expr e) (body_text None (map text_of (plain ks)) last) (λ ls t. None) (breach_along (map (trail_of hs) (plain ks))) (λ ls t. t) (after_all (map (trail_of hs) (plain ks))) (all_exprs e) (body_trails None (λ ls. ls) ks last (λ b. refl))

  update_trails : (tensor : ℕ) (at : List Index) (line : ℕ) → Trails (λ b. Updates tensor at line ∷ b) (update_breach hs tensor at line) (λ ls. updated tensor ls)
  update_trails tensor at line = record {
    passed = λ n b. refl;
    loops = λ b. refl;
    tracks = λ b. refl;
    first = λ b. refl;
  }

  turn_trails : (w : Writing) (p q : List ℕ → Tracks → Option Refusal) (f : List ℕ → Tracks → Tracks) → Trails w p f → ((ls : List ℕ) (t : Tracks) → p ls t ≡ q ls t) → Trails w q f
  turn_trails w p q f a e = record {
    passed = a.passed;
    loops = a.loops;
    tracks = a.tracks;
    first = λ b. a.first b ∙ ap (option_or (found b)) (e (loops_around b) (tracks_of b));
  }

  step_trails : (y : Stmt-F Known) → Trails (stmt_text (map-Stmt Stmt Writing text_of (map-Stmt Known Stmt (λ k. k.0) y))) (stmt_trail hs (map-Stmt Stmt Trail (trail_of hs) (map-Stmt Known Stmt (λ k. k.0) y))).breach (stmt_trail hs (map-Stmt Stmt Trail (trail_of hs) (map-Stmt Known Stmt (λ k. k.0) y))).after
  step_trails (Stmt-F.Block body line last) = body_trails None (λ ls. ls) body last (λ b. refl)
  step_trails (Stmt-F.Loop var range par body line last) = body_trails (Some var) (λ ls. ls ++ var ∷ []) body last (λ b. refl)
  step_trails (Stmt-F.Cond test body line last) = valued test body last
  step_trails (Stmt-F.Bind var value body line last) = valued value body last
  step_trails (Stmt-F.Declare t value line) = record {
    passed = λ n b. refl;
    loops = λ b. refl;
    tracks = λ b. refl;
    first = λ b. refl;
  }
  step_trails (Stmt-F.Freeze t line) = record {
    passed = λ n b. refl;
    loops = λ b. refl;
    tracks = λ b. refl;
    first = λ b. refl;
  }
  step_trails (Stmt-F.Thaw t line) = record {
    passed = λ n b. refl;
    loops = λ b. refl;
    tracks = λ b. refl;
    first = λ b. refl;
  }
  step_trails (Stmt-F.Update t at by value line) =
      turn_trails (λ b. text_of_expr value (Updates t at line ∷ b)) (λ ls u. option_or (update_breach hs t at line ls u) None) (update_breach hs t at line) (λ ls. updated t ls)
      (then (λ b. Updates t at line ∷ b) (text_of_expr value) (update_breach hs t at line) (λ ls u. None) (λ ls. updated t ls) (λ ls u. u) (update_trails t at line) (all_exprs value))
      (λ ls u. or_none (update_breach hs t at line ls u))

  both : (w v : Writing) (p q : Trail) → w ≡ v → p ≡ q → Trails w p.breach p.after → Trails v q.breach q.after
  both w v p q ew ep a = subst (λ (u : Writing). Trails u q.breach q.after) ew (subst (λ (r : Trail). Trails w r.breach r.after) ep a)

  all_trails : (s : Stmt) → StmtTrails s
  all_trails = ind-Stmt StmtTrails (λ z y is.
      both _ _ _ _
      (ap (λ (u : Stmt-F Stmt). stmt_text (map-Stmt Stmt Writing text_of u)) is ∙ sym (fold-roll-Stmt Writing stmt_text z))
      (ap (λ (u : Stmt-F Stmt). stmt_trail hs (map-Stmt Stmt Trail (trail_of hs) u)) is ∙ sym (fold-roll-Stmt Trail (stmt_trail hs) z))
      (step_trails y))

  statements_trail : (ss : List Stmt) → Trails (text_of_all ss) (breach_along (trails_of hs ss)) (after_all (trails_of hs ss))
  statements_trail [] = nothing
  statements_trail (s ∷ ss) = then (text_of s) (text_of_all ss) (trail_of hs s).breach (breach_along (trails_of hs ss)) (trail_of hs s).after (after_all (trails_of hs ss)) (all_trails s) (statements_trail ss)

  pub carried_is : (ss : List Stmt) → breach_along (trails_of hs ss) [] no_tracks ≡ found (text_of_all ss [])
  carried_is ss = sym ((statements_trail ss).first [])
