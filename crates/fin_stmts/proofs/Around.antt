-- The codes of blocks, tests and lets, from those of their bodies.
use Rattle.std.proofs.Common.{◌≡◌, ℕ, ◌+◌, ◌≤◌, Bool, true, false, List, [], ◌∷◌, ◌++◌, map, Option, Some, None, ℤ, refl, ap, subst, ◌∙◌, arith}
use Rattle.fin_ast.specs.declared.checked.Checked.{Checked}
use Rattle.fin_ast.specs.declared.tree.Expr.{Expr}
use Rattle.fin_ast.specs.declared.tree.Stmt.{Stmt}
use Rattle.fin_ast.specs.declared.tree.Stmt.TheVariants as s
use Rattle.fin_ast.specs.Scope.{is_among}
use Rattle.fin_ast.proofs.Nodes as tree
use Rattle.fin_ir.specs.declared.code.Code.{Code}
use Rattle.fin_ir.specs.declared.code.Code.TheVariants.{Assign, Charge, Seq, When}
use Rattle.fin_ir.specs.declared.expression.IExpr.{IExpr}
use Rattle.fin_ir.specs.declared.expression.IExpr.TheVariants.{Num}
use Rattle.fin_ir.specs.Declares.{Tensors, some_of, declares_step, declares}
use Rattle.fin_ir.proofs.Nodes as node
use Rattle.fin_stage.proofs.Alive.{both}
use Rattle.fin_read.specs.Steps.{assign_of}
use Rattle.fin_read.specs.Values.{Lowered, value_code}
use Rattle.fin_nest.specs.Sparing.{Staying, all_spare, spare_step, spares}
use Rattle.fin_descend.proofs.Sparing.{spared_seq}
use Rattle.fin_simp.specs.Fresh.{fresh_step, fresh_of, fresh_in}
use Rattle.fin_simp.specs.Numbered.{Here, behind, behind_test}
use Rattle.fin_simp.specs.Work.{Context, inside}
use Rattle.fin_perform.specs.Codes.{charge_of, cond_code, literal_code, let_code, end_of}
use Rattle.fin_perform.specs.Layouts.{heads_in}
use Rattle.fin_perform.specs.Meanings.{Means, stmt_deed, turns_deed, body_deed}
use Rattle.fin_perform.specs.Naming.{NamesAll}
use Rattle.fin_perform.specs.Working.{nothing_in, literal_at, test_at}
use Rattle.fin_perform.proofs.Meanings.{meanings_compose}
use Rattle.fin_perform.proofs.Naming.{parts, bodies}
use Rattle.fin_perform.proofs.Spared.{neither, some_append, code_from, spared_append, steps_spare, steps_declare_none}
use Rattle.fin_perform.proofs.Staying.{OffStmt, off_free, off_block, off_cond, off_bind, off_bound}
use Rattle.fin_loops.proofs.Sources.{sources_hand_down}
use Rattle.fin_stmts.specs.declared.place.Codes.{Codes}
use Rattle.fin_stmts.specs.Lowering.{HasSource, Lowers}
use Rattle.fin_stmts.proofs.Alone.{single_lowers}
use Rattle.fin_stmts.proofs.Declaring.{declared_seq}
use Rattle.fin_stmts.proofs.Sequences.{declared_if, not_declared, more_means}

-- ---- codes that are round the body's

module _ (own : List ℕ) (body : List Code) (declared : (t : ℕ) → some_of (map declares body) t ≡ true → is_among own t ≡ true) where
  -- what declares nothing itself
  pub round : (code : Code) → ((t : ℕ) → some_of (map declares body) t ≡ false → declares code t ≡ false) → (t : ℕ) → declares code t ≡ true → is_among own t ≡ true
  round code f t = declared_if own (declares code t) t (λ e. f t (not_declared own (some_of (map declares body) t) t (declared t) e))

undeclared_charge : (e : IExpr) (t : ℕ) → declares (Charge e) t ≡ false
undeclared_charge e t = ap (λ (own : Tensors). own t) (node.of_charge Tensors declares_step e)

undeclared_assign : (x : ℕ) (e : IExpr) (t : ℕ) → declares (Assign x e) t ≡ false
undeclared_assign x e t = ap (λ (own : Tensors). own t) (node.of_assign Tensors declares_step x e)

cond_declares : (v : Lowered) (body : List Code) (t : ℕ) → some_of (map declares body) t ≡ false → declares (cond_code v body) t ≡ false
cond_declares v body t e =
    declared_seq (charge_of 1 ∷ map assign_of v.steps ++ When v.value (Seq body) ∷ []) t
    ∙ neither (declares (charge_of 1) t) _ (undeclared_charge _ t)
    (some_append t (map assign_of v.steps) (When v.value (Seq body) ∷ []) (steps_declare_none t v.steps)
    (neither (declares (When v.value (Seq body)) t) false (ap (λ (own : Tensors). own t) (node.of_when Tensors declares_step v.value (Seq body)) ∙ declared_seq body t ∙ e) refl))

let_declares : (var : ℕ) (v : Lowered) (body : List Code) (t : ℕ) → some_of (map declares body) t ≡ false → declares (let_code var v body) t ≡ false
let_declares var v body t e =
    declared_seq (charge_of 1 ∷ map assign_of v.steps ++ Assign var v.value ∷ body) t
    ∙ neither (declares (charge_of 1) t) _ (undeclared_charge _ t)
    (some_append t (map assign_of v.steps) (Assign var v.value ∷ body) (steps_declare_none t v.steps) (neither (declares (Assign var v.value) t) _ (undeclared_assign var v.value t) e))

literal_declares : (var : ℕ) (n : ℤ) (body : List Code) (t : ℕ) → some_of (map declares body) t ≡ false → declares (literal_code var n body) t ≡ false
literal_declares var n body t e = declared_seq (Assign var (Num n) ∷ body) t ∙ neither (declares (Assign var (Num n)) t) _ (undeclared_assign var (Num n) t) e

charged : (st : Staying) (e : IExpr) → spares st (Charge e) ≡ true
charged st e = node.of_charge Bool (spare_step st) e

module _ (st : Staying) (c : Checked) (next : ℕ) (x : Expr) (own : (y : ℕ) → next ≤ y → st.locals y ≡ false)
    (body : List Code) (spare : all_spare (map (spares st) body) ≡ true) where
  abbrev v : Lowered
  v = value_code (heads_in c) x next

  cond_spares : spares st (cond_code (value_code (heads_in c) x next) body) ≡ true
  cond_spares =
      spared_seq st _ (both (spares st (charge_of 1)) _ (charged st _) (spared_append st (map assign_of v.steps) (When v.value (Seq body) ∷ [])
      (steps_spare st next own v.steps (code_from (heads_in c) x next))
      (both (spares st (When v.value (Seq body))) true (node.of_when Bool (spare_step st) v.value (Seq body) ∙ spared_seq st body spare) refl)))

  let_spares : (var : ℕ) → spares st (Assign var v.value) ≡ true → spares st (let_code var (value_code (heads_in c) x next) body) ≡ true
  let_spares var bound =
      spared_seq st _ (both (spares st (charge_of 1)) _ (charged st _) (spared_append st (map assign_of v.steps) (Assign var v.value ∷ body)
      (steps_spare st next own v.steps (code_from (heads_in c) x next)) (both (spares st (Assign var v.value)) _ bound spare)))

more_names : (c : Checked) (next need need' : ℕ) (cs : List Code) (xs : List Stmt) → need ≤ need' → NamesAll c next need cs xs → NamesAll c next need' cs xs
more_names c next need need' cs xs le h = (parts c next need').more next need cs _ _ (omega arith) le h

-- ---- blocks

module _ (c : Checked) (next : ℕ) (h : Here) (ctx : Context) (xs : List Stmt) (line last : ℕ) (m : Codes) where
  pub block_lowers : nothing_in (s.Block xs line last) h ctx ≡ false → Lowers (HasSource c xs h) c next m (turns_deed xs h ctx) (fresh_in xs)
      → Lowers (HasSource c (s.Block xs line last ∷ []) h) c next m (stmt_deed (s.Block xs line last) h ctx) (fresh_of (s.Block xs line last))
  block_lowers some low = record {
    means = λ source.
        let laws = meanings_compose c next m.room ctx in
        laws.2.block xs line last h m.codes some (laws.0.body xs h m.codes (low.means (source.0, (sources_hand_down c h source.0).block xs line last source.1)));
    spares = λ st off. low.spares st (off_block xs line last h ctx st next off);
    declares = λ t e. ap (λ (own : List ℕ). is_among own t) (tree.of_block (List ℕ) fresh_step xs line last) ∙ low.declares t e;
    names = (bodies c next m.room).block xs line last m.codes low.names;
    room = low.room;
  }

-- ---- tests

module _ (c : Checked) (next : ℕ) (h : Here) (ctx : Context) (test : Expr) (xs : List Stmt) (line last : ℕ) (some : nothing_in (s.Cond test xs line last) h ctx ≡ false)
    (b : Codes) (low : Lowers (HasSource c xs (behind_test test h)) c next b (turns_deed xs (behind_test test h) ctx) (fresh_in xs)) where
  abbrev Source : Type 0
  Source = HasSource c (s.Cond test xs line last ∷ []) h

  cond_source : Source → HasSource c xs (behind_test test h)
  cond_source source = (source.0, (sources_hand_down c h source.0).cond test xs line last source.1)

  own_fresh : (t : ℕ) → is_among (fresh_in xs) t ≡ true → is_among (fresh_of (s.Cond test xs line last)) t ≡ true
  own_fresh t e = ap (λ (own : List ℕ). is_among own t) (tree.of_cond (List ℕ) fresh_step test xs line last) ∙ e

  pub known_lowers : (n : ℤ) → test_at test h ctx ≡ Some n → Lowers Source c next b (stmt_deed (s.Cond test xs line last) h ctx) (fresh_of (s.Cond test xs line last))
  known_lowers n known = record {
    means = λ source.
        let laws = meanings_compose c next b.room ctx in
        laws.2.known test xs line last h n b.codes some known (laws.0.body xs (behind_test test h) b.codes (low.means (cond_source source)));
    spares = λ st off. low.spares st (off_cond test xs line last h ctx some st next off);
    declares = λ t e. own_fresh t (low.declares t e);
    names = (bodies c next b.room).known test xs line last b.codes low.names;
    room = low.room;
  }

  pub asked_lowers : (m : Codes) → test_at test h ctx ≡ None → m.codes ≡ cond_code (value_code (heads_in c) test next) b.codes ∷ []
      → end_of (value_code (heads_in c) test next) ≤ m.room → b.room ≤ m.room
      → Lowers Source c next m (stmt_deed (s.Cond test xs line last) h ctx) (fresh_of (s.Cond test xs line last))
  asked_lowers m unknown is first second =
      single_lowers Source c next m (stmt_deed (s.Cond test xs line last) h ctx) (fresh_of (s.Cond test xs line last)) (cond_code (value_code (heads_in c) test next) b.codes) is
      (λ source.
      let laws = meanings_compose c next m.room ctx in
      laws.2.asked test xs line last h b.codes some unknown first
      (laws.0.body xs (behind_test test h) b.codes (more_means c next b.room m.room b.codes (turns_deed xs (behind_test test h) ctx) second (low.means (cond_source source)))))
      (λ st off. cond_spares st c next test (λ y le. off_free y le st off.below) b.codes (low.spares st (off_cond test xs line last h ctx some st next off)))
      (round (fresh_of (s.Cond test xs line last)) b.codes (λ t e. own_fresh t (low.declares t e)) (cond_code (value_code (heads_in c) test next) b.codes)
      (cond_declares (value_code (heads_in c) test next) b.codes))
      ((bodies c next m.room).asked test xs line last b.codes first (more_names c next b.room m.room b.codes xs second low.names))
      (let own = low.room in omega (arith, own, second))

-- ---- lets

module _ (c : Checked) (next : ℕ) (h : Here) (ctx : Context) (var : ℕ) (value : Expr) (xs : List Stmt) (line last : ℕ) (some : nothing_in (s.Bind var value xs line last) h ctx ≡ false)
    (o : Option ℤ) (known : literal_at value h ctx ≡ o) (b : Codes)
    (low : Lowers (HasSource c xs (behind value h)) c next b (turns_deed xs (behind value h) (inside ctx var o)) (fresh_in xs)) where
  abbrev LetSource : Type 0
  LetSource = HasSource c (s.Bind var value xs line last ∷ []) h

  let_source : LetSource → HasSource c xs (behind value h)
  let_source source = (source.0 + 1, ((sources_hand_down c h source.0).bind var value xs line last source.1).1)

  let_fresh : (t : ℕ) → is_among (fresh_in xs) t ≡ true → is_among (fresh_of (s.Bind var value xs line last)) t ≡ true
  let_fresh t e = ap (λ (own : List ℕ). is_among own t) (tree.of_bind (List ℕ) fresh_step var value xs line last) ∙ e

  body_means : (m : Codes) → b.room ≤ m.room → LetSource → Means c next m.room b.codes (body_deed xs (behind value h) (inside ctx var o))
  body_means m le source =
      (meanings_compose c next m.room (inside ctx var o)).0.body xs (behind value h) b.codes
      (more_means c next b.room m.room b.codes (turns_deed xs (behind value h) (inside ctx var o)) le (low.means (let_source source)))

  bound_spares : (st : Staying) (e : IExpr) → OffStmt st next (s.Bind var value xs line last) h ctx → spares st (Assign var e) ≡ true
  bound_spares st e off = node.of_assign Bool (spare_step st) var e ∙ off_bound var value xs line last h ctx st next off

  pub literal_lowers : (m : Codes) (n : ℤ) → o ≡ Some n → m.codes ≡ literal_code var n b.codes ∷ [] → b.room ≤ m.room
      → Lowers LetSource c next m (stmt_deed (s.Bind var value xs line last) h ctx) (fresh_of (s.Bind var value xs line last))
  literal_lowers m n is_literal is le =
      single_lowers LetSource c next m (stmt_deed (s.Bind var value xs line last) h ctx) (fresh_of (s.Bind var value xs line last)) (literal_code var n b.codes) is
      (λ source. (meanings_compose c next m.room ctx).2.literal var value xs line last h n b.codes some (known ∙ is_literal) (let own = low.room in omega (arith, own, le))
      (subst (λ (k : Option ℤ). Means c next m.room b.codes (body_deed xs (behind value h) (inside ctx var k))) is_literal (body_means m le source)))
      (λ st off. spared_seq st _ (both (spares st (Assign var (Num n))) _ (bound_spares st (Num n) off) (low.spares st (off_bind var value xs line last h ctx o known some st next off))))
      (round (fresh_of (s.Bind var value xs line last)) b.codes (λ t e. let_fresh t (low.declares t e)) (literal_code var n b.codes) (literal_declares var n b.codes))
      ((bodies c next m.room).literal var value xs line last n b.codes (let own = low.room in omega (arith, own, le)) (more_names c next b.room m.room b.codes xs le low.names))
      (let own = low.room in omega (arith, own, le))

  pub evaluated_lowers : (m : Codes) → o ≡ None → m.codes ≡ let_code var (value_code (heads_in c) value next) b.codes ∷ []
      → end_of (value_code (heads_in c) value next) ≤ m.room → b.room ≤ m.room
      → Lowers LetSource c next m (stmt_deed (s.Bind var value xs line last) h ctx) (fresh_of (s.Bind var value xs line last))
  evaluated_lowers m none is first le =
      single_lowers LetSource c next m (stmt_deed (s.Bind var value xs line last) h ctx) (fresh_of (s.Bind var value xs line last))
      (let_code var (value_code (heads_in c) value next) b.codes) is
      (λ source. (meanings_compose c next m.room ctx).2.evaluated var value xs line last h b.codes some (known ∙ none) first
      (subst (λ (k : Option ℤ). Means c next m.room b.codes (body_deed xs (behind value h) (inside ctx var k))) none (body_means m le source)))
      (λ st off. let_spares st c next value (λ y le. off_free y le st off.below) b.codes (low.spares st (off_bind var value xs line last h ctx o known some st next off)) var
      (bound_spares st _ off))
      (round (fresh_of (s.Bind var value xs line last)) b.codes (λ t e. let_fresh t (low.declares t e)) (let_code var (value_code (heads_in c) value next) b.codes)
      (let_declares var (value_code (heads_in c) value next) b.codes))
      ((bodies c next m.room).evaluated var value xs line last b.codes first (more_names c next b.room m.room b.codes xs le low.names))
      (let own = low.room in omega (arith, own, le))
