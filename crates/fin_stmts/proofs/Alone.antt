-- The codes of statements without bodies.
use Rattle.std.proofs.Common.{◌≡◌, ℕ, ◌≤◌, Bool, true, false, ◌||◌, List, [], ◌∷◌, map, ℤ, refl, sym, ap, subst, ◌∙◌, arith}
use Rattle.std.specs.Prelude.{not, nat_eq}
use Rattle.std.proofs.lemmas.Bool.Decides.{nat_tests}
use Rattle.fin_base.specs.declared.reduce.Reduce.{Reduce}
use Rattle.fin_ast.specs.declared.checked.Checked.{Checked}
use Rattle.fin_ast.specs.declared.tree.Index.{Index}
use Rattle.fin_ast.specs.declared.tree.Expr.{Expr}
use Rattle.fin_ast.specs.declared.tree.Stmt.TheVariants as s
use Rattle.fin_ast.specs.Scope.{is_among}
use Rattle.fin_ast.proofs.Nodes.{of_declare}
use Rattle.fin_ir.specs.declared.code.Code.{Code}
use Rattle.fin_ir.specs.declared.code.Code.TheVariants.{Charge, Declare, Freeze, Thaw}
use Rattle.fin_ir.specs.declared.expression.IExpr.{IExpr}
use Rattle.fin_ir.specs.Declares.{Tensors, some_of, declares_step, declares}
use Rattle.fin_ir.proofs.Nodes as node
use Rattle.fin_stage.specs.Stages.{work_of_declaration}
use Rattle.fin_stage.proofs.Alive.{both}
use Rattle.fin_read.specs.Steps.{assign_of}
use Rattle.fin_read.specs.Values.{Lowered, value_code, format_of, shape_of}
use Rattle.fin_read.proofs.Equations.{code_grows}
use Rattle.fin_nest.specs.Sparing.{Staying, all_spare, spare_step, spares}
use Rattle.fin_descend.proofs.Sparing.{spared_seq}
use Rattle.fin_simp.specs.Fresh.{fresh_step, fresh_of}
use Rattle.fin_simp.specs.Numbered.{Here}
use Rattle.fin_simp.specs.Work.{Context}
use Rattle.fin_perform.specs.Appending.{StaysOff}
use Rattle.fin_perform.specs.Codes.{charge_of, declare_code, freeze_code, thaw_code, put_code, update_code, end_of}
use Rattle.fin_perform.specs.Layouts.{heads_in}
use Rattle.fin_perform.specs.Meanings.{Deed, Means, stmt_deed}
use Rattle.fin_perform.specs.Naming.{Names}
use Rattle.fin_perform.specs.Working.{nothing_in}
use Rattle.fin_perform.proofs.Changed.{itself_in, declare_changes, freeze_changes, thaw_changes}
use Rattle.fin_perform.proofs.Meanings.{meanings_compose}
use Rattle.fin_perform.proofs.Naming.{leaves}
use Rattle.fin_perform.proofs.Spared.{neither, some_append, code_from, spared_append, steps_spare, steps_declare_none, put_spares, put_declares_none}
use Rattle.fin_perform.proofs.Staying.{off_free, off_update}
use Rattle.fin_stmts.specs.declared.place.Codes.{Codes}
use Rattle.fin_stmts.specs.Lowering.{Lowers}
use Rattle.fin_stmts.proofs.Declaring.{declared_seq}

-- ---- one code

pub none_declared : (own : List ℕ) (t : ℕ) (b : Bool) → b ≡ false → b ≡ true → is_among own t ≡ true
none_declared own t true e f = cc
none_declared own t false e f = cc

module _ (asked : Type 0) (c : Checked) (next : ℕ) (m : Codes) (d : Deed) (own : List ℕ) (code : Code) (is : m.codes ≡ code ∷ []) where
  pub single_lowers : (asked → Means c next m.room (code ∷ []) d) → ((st : Staying) → StaysOff st next d.bound d.written → spares st code ≡ true)
      → ((t : ℕ) → declares code t ≡ true → is_among own t ≡ true) → Names c next m.room (code ∷ []) d.bound d.named → next ≤ m.room → Lowers asked c next m d own
  single_lowers means spare declared named room = record {
    means = λ a. subst (λ (cs : List Code). Means c next m.room cs d) (sym is) (means a);
    spares = λ st off. ap (λ (cs : List Code). all_spare (map (spares st) cs)) is ∙ both (spares st code) true (spare st off) refl;
    declares = λ t e. declared t (alone (declares code t) (sym (ap (λ (cs : List Code). some_of (map declares cs) t) is) ∙ e));
    names = subst (λ (cs : List Code). Names c next m.room cs d.bound d.named) (sym is) named;
    room = room;
  } where
    alone : (b : Bool) → (b || false) ≡ true → b ≡ true
    alone true e = refl
    alone false e = e

charged : (st : Staying) (e : IExpr) → spares st (Charge e) ≡ true
charged st e = node.of_charge Bool (spare_step st) e

undeclared_charge : (e : IExpr) (t : ℕ) → declares (Charge e) t ≡ false
undeclared_charge e t = ap (λ (own : Tensors). own t) (node.of_charge Tensors declares_step e)

-- what is changed doesn't stay
changed_goes : (b written : Bool) → (b ≡ true → written ≡ false) → written ≡ true → not b ≡ true
changed_goes false written f e = refl
changed_goes true written f e = let h : false ≡ true = sym (f refl) ∙ e in cc

-- ---- declarations, freezes and thaws

declared_one : (u t : ℕ) (b : Bool) → nat_eq u t ≡ b → b ≡ true → is_among (u ∷ []) t ≡ true
declared_one u t true is e = let same : t ≡ u = grind (arith, nat_tests, is) in subst (λ (v : ℕ). is_among (u ∷ []) v ≡ true) (sym same) (itself_in u)
declared_one u t false is e = cc

split_first : (a b : Bool) → b ≡ false → (a || b) ≡ true → a ≡ true
split_first true b e f = refl
split_first false b e f = let h : false ≡ true = sym e ∙ f in cc

module _ (asked : Type 0) (c : Checked) (next : ℕ) (h : Here) (ctx : Context) (u : ℕ) (line : ℕ) (m : Codes) (room : m.room ≡ next) where
  pub declare_lowers : (value : ℤ) → m.codes ≡ declare_code (heads_in c) u ∷ [] → Lowers asked c next m (stmt_deed (s.Declare u value line) h ctx) (fresh_of (s.Declare u value line))
  declare_lowers value is =
      let charge : Code = charge_of (work_of_declaration (format_of (heads_in c) u).levels (shape_of (heads_in c) u)) in
      let behind : (t : ℕ) → (declares charge t || false) ≡ false = λ t. neither (declares charge t) false (undeclared_charge _ t) refl in
      let own_of : (t : ℕ) → declares (declare_code (heads_in c) u) t ≡ (nat_eq u t || (declares charge t || false)) =
      λ t. declared_seq (Declare u ∷ charge ∷ []) t ∙ ap (λ (own : Tensors). own t || (declares charge t || false)) (node.of_declare Tensors declares_step u) in
      single_lowers asked c next m (stmt_deed (s.Declare u value line) h ctx) (fresh_of (s.Declare u value line)) (declare_code (heads_in c) u) is
      (λ a. (meanings_compose c next m.room ctx).1.declare u value line h)
      (λ st off. spared_seq st _ (both (spares st (Declare u)) _
      (node.of_declare Bool (spare_step st) u ∙ changed_goes (st.tensors u) _ (off.unwritten u) (declare_changes h u value line ctx)) (both _ true (charged st _) refl)))
      (λ t e. ap (λ (own : List ℕ). is_among own t) (of_declare (List ℕ) fresh_step u value line)
      ∙ declared_one u t (nat_eq u t) refl
      (split_first (nat_eq u t) (declares charge t || false) (behind t) (sym (own_of t) ∙ e)))
      ((leaves c next m.room).declare u value line) (omega (arith, room))

  pub freeze_lowers : m.codes ≡ freeze_code (heads_in c) u ∷ [] → Lowers asked c next m (stmt_deed (s.Freeze u line) h ctx) (fresh_of (s.Freeze u line))
  freeze_lowers is =
      single_lowers asked c next m (stmt_deed (s.Freeze u line) h ctx) (fresh_of (s.Freeze u line)) (freeze_code (heads_in c) u) is
      (λ a. (meanings_compose c next m.room ctx).1.freeze u line h)
      (λ st off. spared_seq st _ (both (spares st (Freeze u)) _
      (node.of_freeze Bool (spare_step st) u ∙ changed_goes (st.tensors u) _ (off.unwritten u) (freeze_changes h u line ctx)) (both _ _ (charged st _) (both _ true (charged st _) refl))))
      (λ t. none_declared _ t _ (declared_seq _ t ∙ neither _ _ (ap (λ (own : Tensors). own t) (node.of_freeze Tensors declares_step u))
      (neither _ _ (undeclared_charge _ t) (neither _ false (undeclared_charge _ t) refl))))
      ((leaves c next m.room).freeze u line) (omega (arith, room))

  pub thaw_lowers : m.codes ≡ thaw_code (heads_in c) u ∷ [] → Lowers asked c next m (stmt_deed (s.Thaw u line) h ctx) (fresh_of (s.Thaw u line))
  thaw_lowers is =
      single_lowers asked c next m (stmt_deed (s.Thaw u line) h ctx) (fresh_of (s.Thaw u line)) (thaw_code (heads_in c) u) is
      (λ a. (meanings_compose c next m.room ctx).1.thaw u line h)
      (λ st off. spared_seq st _ (both _ _ (charged st _) (both _ _ (charged st _)
      (both (spares st (Thaw u)) true (node.of_thaw Bool (spare_step st) u ∙ changed_goes (st.tensors u) _ (off.unwritten u) (thaw_changes h u line ctx)) refl))))
      (λ t. none_declared _ t _ (declared_seq _ t ∙ neither _ _ (undeclared_charge _ t) (neither _ _ (undeclared_charge _ t)
      (neither _ false (ap (λ (own : Tensors). own t) (node.of_thaw Tensors declares_step u)) refl))))
      ((leaves c next m.room).thaw u line) (omega (arith, room))

-- ---- updates

module _ (c : Checked) (next : ℕ) (h : Here) (ctx : Context) (u : ℕ) (at : List Index) (by : Reduce) (value : Expr) (line : ℕ)
    (some : nothing_in (s.Update u at by value line) h ctx ≡ false) (asked : Type 0) (m : Codes) where
  abbrev v : Lowered
  v = value_code (heads_in c) value next

  abbrev put : Code
  put = put_code (heads_in c) u at by v.value

  pub update_lowers : m.codes ≡ update_code (heads_in c) u at by (value_code (heads_in c) value next) ∷ [] → m.room ≡ end_of (value_code (heads_in c) value next)
      → Lowers asked c next m (stmt_deed (s.Update u at by value line) h ctx) (fresh_of (s.Update u at by value line))
  update_lowers is room =
      single_lowers asked c next m (stmt_deed (s.Update u at by value line) h ctx) (fresh_of (s.Update u at by value line)) (update_code (heads_in c) u at by v) is
      (λ a. (meanings_compose c next m.room ctx).1.update u at by value line h some (omega (arith, room)))
      (λ st off. spared_seq st _ (spared_append st (map assign_of v.steps) (put ∷ charge_of 1 ∷ [])
      (steps_spare st next (λ y le. off_free y le st off.below) v.steps (code_from (heads_in c) value next))
      (both (spares st put) _ (put_spares st (heads_in c) u at by v.value (off_update u at by value line h ctx some st next off)) (both (spares st (charge_of 1)) true (charged st _) refl))))
      (λ t. none_declared _ t _ (declared_seq _ t ∙ some_append t (map assign_of v.steps) (put ∷ charge_of 1 ∷ []) (steps_declare_none t v.steps)
      (neither (declares put t) _ (put_declares_none (heads_in c) u at by v.value t) (neither (declares (charge_of 1) t) false (undeclared_charge _ t) refl))))
      ((leaves c next m.room).update u at by value line (omega (arith, room)))
      (omega (arith, room, code_grows (heads_in c) value next))
