-- The parallel loops that a walk finds are those of the text.
use Rattle.std.proofs.Common.{◌≡◌, ◌∙◌, ℕ, zero, suc, Bool, true, false, ◌||◌, ◌==◌, if◌then◌else◌, List, [], ◌∷◌, ◌++◌, map, refl, ap, sym, subst, Option, Some, None}
use Rattle.std.proofs.Math.Path.{fun_ext}
use Rattle.std.specs.List.{list_any}
use Rattle.fin_ast.specs.declared.program.Program.{Program}
use Rattle.fin_ast.specs.declared.tree.Expr.{Expr, ind-Expr, map-Expr, fold-roll-Expr}
use Rattle.fin_ast.specs.declared.tree.Expr.TheOpen.{Expr-F}
use Rattle.fin_ast.specs.declared.tree.Stmt.{Stmt, ind-Stmt, map-Stmt, fold-roll-Stmt}
use Rattle.fin_ast.specs.declared.tree.Stmt.TheOpen.{Stmt-F}
use Rattle.fin_ast.specs.Text.{Opens, Text, Writing, expr_text, text_of_expr, in_a_row, body_text}
use Rattle.fin_ast.specs.Modes.{around}
use Rattle.fin_parcheck.specs.declared.deeds.Deed.{Deed}
use Rattle.fin_parcheck.specs.declared.deeds.Deed.TheVariants.{Nested}
use Rattle.fin_parcheck.specs.declared.deeds.ParallelLoop.{ParallelLoop}
use Rattle.fin_parcheck.specs.Deeds.{Tensors, in_turn}
use Rattle.fin_parcheck.specs.Loops.{declares, declared_at, Part, loops_after, stmt_part, part_of, parts_of, parallel_loops}
use Rattle.fin_parcheck.specs.Walk.{Walk, deeds_along, loops_along, stmt_walk, walk_of, walks_of}

-- ---- expressions declare nothing

pub record Silent (w : Writing) : Type 0 where
  pub passed : (n : ℕ) (b : Text) → around (suc n) (w b) ≡ around (suc n) b
  pub declared : (b : Text) → declared_at (w b) ≡ declared_at b

unsaid : Silent (λ b. b)
unsaid = record { passed = λ n b. refl; declared = λ b. refl }

twice : (v w : Writing) → Silent v → Silent w → Silent (λ b. w (v b))
twice v w a c = record {
  passed = λ n b. c.passed n (v b) ∙ a.passed n b;
  declared = λ b. c.declared (v b) ∙ a.declared b;
}

abbrev Known : Type 0
Known = (e : Expr) × Silent (text_of_expr e)

step_silent : (y : Expr-F Known) → Silent (expr_text (map-Expr Expr Writing text_of_expr (map-Expr Known Expr (λ k. k.0) y)))
step_silent (Expr-F.Num z) = unsaid
step_silent (Expr-F.Var var line) = unsaid
step_silent (Expr-F.Read tensor at line) = record { passed = λ n b. refl; declared = λ b. refl }
step_silent (Expr-F.Neg a) = a.1
step_silent (Expr-F.Two op a b) = twice (text_of_expr a.0) (text_of_expr b.0) a.1 b.1

expr_silent : (e : Expr) → Silent (text_of_expr e)
expr_silent = ind-Expr (λ e. Silent (text_of_expr e)) (λ z y is.
    subst Silent (ap (λ (u : Expr-F Expr). expr_text (map-Expr Expr Writing text_of_expr u)) is ∙ sym (fold-roll-Expr Writing expr_text z)) (step_silent y))

-- ---- statements

pub record Agrees (p : Part) (w : Walk) : Type 0 where
  pub deeds : (outer : Tensors) (before : List Deed) → p.deeds outer before ≡ w.deeds outer before
  pub passed : (n : ℕ) (b : Text) → around (suc n) (p.writing b) ≡ around (suc n) b
  pub after : (b : Text) → declared_at (p.writing b) ≡ w.after (declared_at b)
  pub loops : (b : Text) (found : List ParallelLoop) → p.loops b found ≡ w.loops (declared_at b) found

pub record AllAgree (ps : List Part) (ws : List Walk) : Type 0 where
  pub deeds : (outer : Tensors) (before : List Deed) → in_turn (map (λ p. p.deeds) ps) outer before ≡ deeds_along ws outer before
  pub passed : (n : ℕ) (b : Text) → around (suc n) (in_a_row (map (λ p. p.writing) ps) b) ≡ around (suc n) b
  pub loops : (b : Text) (found : List ParallelLoop) → loops_after ps b found ≡ loops_along ws (declared_at b) found

none_agree : AllAgree [] []
none_agree = record { deeds = λ outer before. refl; passed = λ n b. refl; loops = λ b found. refl }

more_agree : (p : Part) (w : Walk) (ps : List Part) (ws : List Walk) → Agrees p w → AllAgree ps ws → AllAgree (p ∷ ps) (w ∷ ws)
more_agree p w ps ws a r = record {
  deeds = λ outer before. r.deeds outer (p.deeds outer before) ∙ ap (deeds_along ws outer) (a.deeds outer before);
  passed = λ n b. r.passed n (p.writing b) ∙ a.passed n b;
  loops = λ b found.
      r.loops (p.writing b) (p.loops b found)
      ∙ ap (λ (now : Tensors). loops_along ws now (p.loops b found)) (a.after b)
      ∙ ap (loops_along ws (w.after (declared_at b))) (a.loops b found);
}

-- the text of a body is passed by, and what it declares is gone behind it
body_passed : (var : Option ℕ) (ps : List Part) (ws : List Walk) (last : ℕ) → AllAgree ps ws → Silent (body_text var (map (λ p. p.writing) ps) last)
body_passed var ps ws last a = record {
  passed = λ n b. a.passed (suc n) (Opens var ∷ b);
  declared = λ b. ap (λ (text : Text). λ (tensor : ℕ). list_any (declares tensor) text) (a.passed zero (Opens var ∷ b));
}

if_or : (c x : Bool) → (c || x) ≡ (if c then true else x)
if_or true x = refl
if_or false x = refl

abbrev Both : Type 0
Both = (s : Stmt) × Agrees (part_of s) (walk_of s)

abbrev parts : List Both → List Part
parts ks = map part_of (map (λ k. k.0) ks)

abbrev walks : List Both → List Walk
walks ks = map walk_of (map (λ k. k.0) ks)

all_agree : (ks : List Both) → AllAgree (parts ks) (walks ks)
all_agree [] = none_agree
all_agree (k ∷ ks) = more_agree (part_of k.0) (walk_of k.0) (parts ks) (walks ks) k.1 (all_agree ks)

valued : (e : Expr) (ks : List Both) (last : ℕ) → Silent (λ b. body_text None (map (λ p. p.writing) (parts ks)) last (text_of_expr e b))
valued e ks last = twice (text_of_expr e) (body_text None (map (λ p. p.writing) (parts ks)) last) (expr_silent e) (body_passed None (parts ks) (walks ks) last (all_agree ks))

found_behind : (e : Expr) (ks : List Both) (b : Text) (found : List ParallelLoop) → loops_after (parts ks) (Opens None ∷ text_of_expr e b) found ≡ loops_along (walks ks) (declared_at b) found
found_behind e ks b found =
    (all_agree ks).loops (Opens None ∷ text_of_expr e b) found
    ∙ ap (λ (now : Tensors). loops_along (walks ks) now found) ((expr_silent e).declared b)

abbrev loop_of : ℕ → List ParallelLoop → List Deed → List ParallelLoop
loop_of var found deeds = found ++ record { var = var; deeds = deeds } ∷ []

step : (y : Stmt-F Both) → Agrees (stmt_part (map-Stmt Stmt Part part_of (map-Stmt Both Stmt (λ k. k.0) y))) (stmt_walk (map-Stmt Stmt Walk walk_of (map-Stmt Both Stmt (λ k. k.0) y)))
step (Stmt-F.Block body line last) =
    let a = all_agree body in
    let s = body_passed None (parts body) (walks body) last a in
    record { deeds = a.deeds; passed = s.passed; after = s.declared; loops = λ b found. a.loops (Opens None ∷ b) found }
step (Stmt-F.Loop var range true body line last) =
    let a = all_agree body in
    let s = body_passed (Some var) (parts body) (walks body) last a in
    record {
      deeds = λ outer before. a.deeds outer (before ++ Nested line ∷ []);
      passed = s.passed;
      after = s.declared;
      loops = λ b found. ap (loop_of var found) (a.deeds (declared_at b) []);
    }
step (Stmt-F.Loop var range false body line last) =
    let a = all_agree body in
    let s = body_passed (Some var) (parts body) (walks body) last a in
    record { deeds = a.deeds; passed = s.passed; after = s.declared; loops = λ b found. a.loops (Opens (Some var) ∷ b) found }
step (Stmt-F.Cond test body line last) =
    let s = valued test body last in
    record { deeds = (all_agree body).deeds; passed = s.passed; after = s.declared; loops = found_behind test body }
step (Stmt-F.Bind var value body line last) =
    let s = valued value body last in
    record { deeds = (all_agree body).deeds; passed = s.passed; after = s.declared; loops = found_behind value body }
step (Stmt-F.Declare tensor value line) = record {
  deeds = λ outer before. refl;
  passed = λ n b. refl;
  after = λ b. fun_ext (λ t. if_or (tensor == t) (declared_at b t));
  loops = λ b found. refl;
}
step (Stmt-F.Freeze tensor line) = record { deeds = λ outer before. refl; passed = λ n b. refl; after = λ b. refl; loops = λ b found. refl }
step (Stmt-F.Thaw tensor line) = record { deeds = λ outer before. refl; passed = λ n b. refl; after = λ b. refl; loops = λ b found. refl }
step (Stmt-F.Update tensor at by value line) =
    let s = expr_silent value in
    record { deeds = λ outer before. refl; passed = λ n b. s.passed n _; after = λ b. s.declared _; loops = λ b found. refl }

same : (p q : Part) (w v : Walk) → p ≡ q → w ≡ v → Agrees p w → Agrees q v
same p q w v ep ew a = subst (λ (x : Part). Agrees x v) ep (subst (λ (x : Walk). Agrees p x) ew a)

stmt_agrees : (s : Stmt) → Agrees (part_of s) (walk_of s)
stmt_agrees = ind-Stmt (λ s. Agrees (part_of s) (walk_of s)) (λ z y is.
    same _ _ _ _
    (ap (λ (u : Stmt-F Stmt). stmt_part (map-Stmt Stmt Part part_of u)) is ∙ sym (fold-roll-Stmt Part stmt_part z))
    (ap (λ (u : Stmt-F Stmt). stmt_walk (map-Stmt Stmt Walk walk_of u)) is ∙ sym (fold-roll-Stmt Walk stmt_walk z))
    (step y))

statements_agree : (ss : List Stmt) → AllAgree (parts_of ss) (walks_of ss)
statements_agree [] = none_agree
statements_agree (s ∷ ss) = more_agree (part_of s) (walk_of s) (parts_of ss) (walks_of ss) (stmt_agrees s) (statements_agree ss)

-- the loops that a walk through a program finds
pub found_is : (p : Program) → loops_along (walks_of p.body) (λ t. false) [] ≡ parallel_loops p
found_is p = sym ((statements_agree p.body).loops [] [])
