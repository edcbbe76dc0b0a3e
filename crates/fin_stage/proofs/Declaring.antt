-- What is declared isn't declared again in the bodies of a statement.
use Rattle.std.proofs.Common.{◌≡◌, ℕ, Bool, true, false, ◌||◌, List, [], ◌∷◌, None, if◌then◌else◌, refl, sym, ap, ◌∙◌}
use Rattle.std.specs.Prelude.{nat_eq, ◌==◌}
use Rattle.fin_base.specs.declared.refusal.Rule.{Rule}
use Rattle.fin_ast.specs.declared.header.Header.{Header}
use Rattle.fin_ast.specs.declared.mode.Mode.{Mode}
use Rattle.fin_ast.specs.declared.mode.Mode.TheVariants.{Update, Read}
use Rattle.fin_ast.specs.declared.tree.Stmt.{Stmt, map-Stmt}
use Rattle.fin_ast.specs.declared.tree.Stmt.TheOpen.{Stmt-F}
use Rattle.fin_ast.specs.Text.{Declares}
use Rattle.fin_ast.specs.Modes.{is_input_at}
use Rattle.fin_ast.specs.Life.{is_update, is_declared, breach_by}
use Rattle.fin_life.specs.Passage.{ModeOf, Passage, turned, breach_of_expr, breach_in, body_breach, stmt_passage, passage_of, passages_of}
use Rattle.fin_ast.proofs.Induction.{AllOf, Held, bare, plain, all_of, each, by_two}
use Rattle.fin_ast.proofs.Unbroken.{first_none, second_none, unbroken}
use Rattle.fin_stage.proofs.Alive.{neither}
use Rattle.fin_stage.proofs.Touching.{is_declaration_of, declares, any_declares, same_tensor}
use Rattle.fin_ast.proofs.Leaves.{leaf_step}

module _ (hs : List Header) (t : ℕ) where
  -- a declared tensor stays declared, whatever it is led to
  stays : (now : ModeOf) (tensor : ℕ) (mode : Mode) → is_declared mode ≡ true → is_declared (now t) ≡ true → is_declared (turned now tensor mode t) ≡ true
  stays now tensor mode m d = elim (tensor == t) as (λ b. is_declared (if b then mode else now t) ≡ true) [ true ↦ m | false ↦ d ]

  -- in a body at whose beginning it was declared
  abbrev FreshBy : Passage → Bool → Type 0
  FreshBy p b = (begin now : ModeOf) → p.breach begin now ≡ None → is_declared (begin t) ≡ true → is_declared (now t) ≡ true → (b ≡ false) × (is_declared (p.after now t) ≡ true)

  abbrev Fresh : Stmt → Type 0
  Fresh x = FreshBy (passage_of hs x) (declares t x)

  neither_of : (a b : Bool) → a ≡ false → b ≡ false → (a || b) ≡ false
  neither_of true b e f = cc
  neither_of false b e f = f

  all_fresh : (body : List Stmt) → AllOf Fresh body → (begin now : ModeOf) → breach_in (passages_of hs body) begin now ≡ None → is_declared (begin t) ≡ true → is_declared (now t) ≡ true → any_declares t body ≡ false
  all_fresh [] all begin now e db dn = refl
  all_fresh (x ∷ body) all begin now e db dn =
      let here = all.0 begin now (first_none ((passage_of hs x).breach begin now) _ e) db dn in
      neither_of (declares t x) (any_declares t body) here.0 (all_fresh body all.1 begin ((passage_of hs x).after now) (second_none ((passage_of hs x).breach begin now) _ e) db here.1)

  body_fresh : (body : List Stmt) → AllOf Fresh body → (last : ℕ) (now : ModeOf) → body_breach hs (passages_of hs body) last now ≡ None → is_declared (now t) ≡ true → any_declares t body ≡ false
  body_fresh body all last now e dn = all_fresh body all now now (first_none (breach_in (passages_of hs body) now now) _ e) dn dn

  not_this : (tensor : ℕ) → (nat_eq tensor t ≡ true → ⊥) → nat_eq tensor t ≡ false
  not_this tensor f = elim (nat_eq tensor t) as (λ b. nat_eq tensor t ≡ b → b ≡ false) [ true ↦ λ e. absurd (f e) | false ↦ λ e. refl ] refl

  declare_fresh : (tensor line : ℕ) (begin now : ModeOf) → breach_by hs begin now (Declares tensor line) ≡ None → is_declared (begin t) ≡ true → nat_eq tensor t ≡ false
  declare_fresh tensor line begin now e db =
      let un : is_declared (begin tensor) ≡ false = (neither (is_input_at hs tensor || is_update (now tensor)) (is_declared (begin tensor)) (unbroken _ Rule.L3 line e)).1 in
      not_this tensor (λ same. let c : ◌≡◌ {A = Bool} true false = sym db ∙ ap (λ (k : ℕ). is_declared (begin k)) (sym (same_tensor tensor t same)) ∙ un in cc)

  step : (y : Stmt-F (Held Fresh)) → FreshBy (stmt_passage hs (map-Stmt Stmt Passage (passage_of hs) (plain Fresh y))) (leaf_step (is_declaration_of t) (map-Stmt Stmt Bool (declares t) (plain Fresh y)))
  step (Stmt-F.Block body line last) begin now e db dn = (body_fresh (bare Fresh body) (all_of Fresh body) last now e dn, dn)
  step (Stmt-F.Loop var range par body line last) begin now e db dn = (body_fresh (bare Fresh body) (all_of Fresh body) last now e dn, dn)
  step (Stmt-F.Cond test body line last) begin now e db dn = (body_fresh (bare Fresh body) (all_of Fresh body) last now (second_none (breach_of_expr now test) _ e) dn, dn)
  step (Stmt-F.Bind var value body line last) begin now e db dn = (body_fresh (bare Fresh body) (all_of Fresh body) last now (second_none (breach_of_expr now value) _ e) dn, dn)
  step (Stmt-F.Declare tensor value line) begin now e db dn = (declare_fresh tensor line begin now e db, stays now tensor Update refl dn)
  step (Stmt-F.Freeze tensor line) begin now e db dn = (refl, stays now tensor Read refl dn)
  step (Stmt-F.Thaw tensor line) begin now e db dn = (refl, stays now tensor Update refl dn)
  step (Stmt-F.Update tensor at by value line) begin now e db dn = (refl, dn)

  fresh : (x : Stmt) → Fresh x
  fresh = by_two (stmt_passage hs) (leaf_step (is_declaration_of t)) FreshBy step

  -- the statements of a body at whose beginning the tensor is declared declare it nowhere
  pub body_declares_nothing : (body : List Stmt) (last : ℕ) (now : ModeOf) → body_breach hs (passages_of hs body) last now ≡ None → is_declared (now t) ≡ true → any_declares t body ≡ false
  body_declares_nothing body = body_fresh body (each Fresh fresh body)
