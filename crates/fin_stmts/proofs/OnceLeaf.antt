-- The code of a leaf along which one update is left that names nothing of the loop, done at once.
use Rattle.std.proofs.Common.{◌≡◌, ℕ, ◌<◌, ◌≤◌, Bool, true, false, ◌&&◌, List, [], ◌∷◌, ◌++◌, map, refl, sym, ap, subst, ◌∙◌, arith, pos}
use Rattle.std.specs.Prelude.{not}
use Rattle.std.specs.List.{list_all}
use Rattle.std.proofs.lemmas.List.Folds.{list_all-append}
use Rattle.fin_base.specs.declared.reduce.Reduce.{Reduce}
use Rattle.fin_base.specs.declared.terms.Op.TheVariants as op
use Rattle.fin_ast.specs.declared.checked.Checked.{Checked}
use Rattle.fin_ast.specs.declared.tree.Stmt.TheVariants as s
use Rattle.fin_ast.specs.Bindings.{bindings_step, bindings_of}
use Rattle.fin_ast.specs.Scope.{Scope, stmt_step}
use Rattle.fin_ast.proofs.Nodes.{of_update}
use Rattle.fin_ir.specs.declared.code.Code.{Code}
use Rattle.fin_ir.specs.declared.code.Code.TheVariants.{Seq, When, Update, Charge}
use Rattle.fin_ir.specs.declared.expression.IExpr.{IExpr}
use Rattle.fin_ir.specs.declared.expression.IExpr.TheVariants.{Num, Two, Times}
use Rattle.fin_ir.specs.declared.layout.Layout.{Layout}
use Rattle.fin_ir.specs.Declares.{Tensors, some_of, declares_step, declares}
use Rattle.fin_ir.specs.Named.{has_tensor, expression_step, is_named_in, code_step, is_named}
use Rattle.fin_ir.proofs.Nodes as node
use Rattle.fin_looplet.specs.Cut.{minus}
use Rattle.fin_nest.specs.Sparing.{Staying, all_spare, spare_step, spares}
use Rattle.fin_stage.proofs.Alive.{left, right, both}
use Rattle.fin_read.specs.Reads.{in_box}
use Rattle.fin_read.specs.Steps.{assign_of}
use Rattle.fin_read.specs.Values.{Heads, Lowered as Valued, index_code, value_code, prelude, shape_of}
use Rattle.fin_simp.specs.Wording.{KnowsWords}
use Rattle.fin_style_point.specs.declared.nest.Nest.{Nest}
use Rattle.fin_style_point.specs.Changes.{put_code, repeated_value, once_code}
use Rattle.fin_descend.specs.declared.flattening.Leaf.TheVariants.{Fixed}
use Rattle.fin_descend.specs.declared.lowered.Lowered.{Lowered}
use Rattle.fin_descend.specs.Naming.{NamedNest}
use Rattle.fin_descend.proofs.Naming.{named_seq, named_when, named_two, more_named}
use Rattle.fin_descend.proofs.Sparing.{spared_seq}
use Rattle.fin_perform.specs.Codes.{unpaid_update, end_of}
use Rattle.fin_perform.specs.Codes as codes
use Rattle.fin_perform.specs.Layouts.{heads_in, variables_in, layout_with}
use Rattle.fin_perform.specs.Naming.{IsScope, AllBelow, AreIn}
use Rattle.fin_perform.proofs.Naming.{leaves}
use Rattle.fin_perform.proofs.NamingNodes.{charge_named, named_update}
use Rattle.fin_perform.proofs.Spared.{neither, some_append, code_from, spared_append, steps_spare, steps_declare_none}
use Rattle.fin_perform.specs.declared.single.Update as written
use Rattle.fin_loops.specs.AtOnce.{change_of, once_code_of}
use Rattle.fin_loops.specs.Loops.{Loop, changed_in}
use Rattle.fin_loops.specs.Only.{Written, is_named_update}
use Rattle.fin_loops.specs.Points.{marks_at_point}
use Rattle.fin_loops.proofs.AtOnce.{once_means}
use Rattle.fin_loops.proofs.FactsPoints.{points_are_told}
use Rattle.fin_loops.proofs.FactsWords.{words_are_told}
use Rattle.fin_stmts.specs.declared.entered.Site.{Site}
use Rattle.fin_stmts.specs.Leaves.{LeafLowers, NamesBody}
use Rattle.fin_stmts.specs.Sites.{Comes, IsFixed, IsSite, loop_of}
use Rattle.fin_stmts.specs.Updates.{written_of, IsAtOnceOf}
use Rattle.fin_stmts.proofs.Changing.{changes_no_more}
use Rattle.fin_stmts.proofs.Declaring.{declared_seq}
use Rattle.fin_stmts.proofs.NamedLoops.{later_scope}

-- ---- the code

module _ (h : Heads) (n : Nest) (u : Written) where
  abbrev v : Valued
  v = value_code h u.value n.next

  abbrev put : Code
  put = put_code (shape_of h u.tensor) (change_of h n.next u) n.lo n.hi

  abbrev paid : Code
  paid = Charge (Num (pos 2))

  abbrev all : List Code
  all = prelude v ++ paid ∷ put ∷ []

  spared_once : (s : Staying) → ((y : ℕ) → n.next ≤ y → s.locals y ≡ false) → s.tensors u.tensor ≡ false → spares s (once_code_of h n u) ≡ true
  spared_once s own free =
      node.of_when Bool (spare_step s) (Two op.Lt n.lo n.hi) (Seq all)
      ∙ spared_seq s all (spared_append s (map assign_of v.steps) (paid ∷ put ∷ []) (steps_spare s n.next own v.steps (code_from h u.value n.next))
      (both (spares s paid) _ (node.of_charge Bool (spare_step s) (Num (pos 2)))
      (both (spares s put) true (node.of_when Bool (spare_step s) _ _ ∙ node.of_update Bool (spare_step s) u.tensor _ u.by _ ∙ ap not free) refl)))

  undeclared_once : (t : ℕ) → declares (once_code_of h n u) t ≡ false
  undeclared_once t =
      ap (λ (own : Tensors). own t) (node.of_when Tensors declares_step (Two op.Lt n.lo n.hi) (Seq all))
      ∙ declared_seq all t
      ∙ some_append t (map assign_of v.steps) (paid ∷ put ∷ []) (steps_declare_none t v.steps)
      (neither (declares paid t) _ (ap (λ (own : Tensors). own t) (node.of_charge Tensors declares_step (Num (pos 2))))
      (neither (declares put t) false
      (ap (λ (own : Tensors). own t) (node.of_when Tensors declares_step _ _) ∙ ap (λ (own : Tensors). own t) (node.of_update Tensors declares_step u.tensor _ u.by _)) refl))

  module _ (layout : Layout) (nest : NamedNest layout n) (unpaid : list_all (is_named layout) (unpaid_update h u.tensor u.at u.by v) ≡ true) where
    abbrev xs : List IExpr
    xs = map index_code u.at

    abbrev alone : Code
    alone = codes.put_code h u.tensor u.at u.by v.value

    parts : (list_all (is_named layout) (prelude v) && list_all (is_named layout) (alone ∷ [])) ≡ true
    parts = sym (list_all-append (is_named layout) (prelude v) (alone ∷ [])) ∙ unpaid

    boxed : (is_named_in layout (in_box (shape_of h u.tensor) xs) && is_named layout (Update u.tensor xs u.by v.value)) ≡ true
    boxed =
        sym (node.of_when Bool (code_step layout) (in_box (shape_of h u.tensor) xs) (Update u.tensor xs u.by v.value))
        ∙ left (is_named layout alone) true (right (list_all (is_named layout) (prelude v)) (list_all (is_named layout) (alone ∷ [])) parts)

    updating : (has_tensor layout u.tensor && list_all (is_named_in layout) xs && is_named_in layout v.value) ≡ true
    updating =
        sym (node.of_update Bool (code_step layout) u.tensor xs u.by v.value)
        ∙ right (is_named_in layout (in_box (shape_of h u.tensor) xs)) (is_named layout (Update u.tensor xs u.by v.value)) boxed

    repeated : is_named_in layout (Times u.by v.value (minus n.hi n.lo)) ≡ true
    repeated =
        node.of_times Bool (expression_step layout) u.by v.value (minus n.hi n.lo)
        ∙ both (is_named_in layout v.value) (is_named_in layout (minus n.hi n.lo))
        (right (has_tensor layout u.tensor && list_all (is_named_in layout) xs) (is_named_in layout v.value) updating)
        (named_two layout op.Sub n.hi n.lo nest.hi nest.lo)

    put_named : is_named layout put ≡ true
    put_named =
        let known = left (has_tensor layout u.tensor && list_all (is_named_in layout) xs) (is_named_in layout v.value) updating in
        named_when layout (in_box (shape_of h u.tensor) xs) (Update u.tensor xs u.by (Times u.by v.value (minus n.hi n.lo)))
        (left (is_named_in layout (in_box (shape_of h u.tensor) xs)) (is_named layout (Update u.tensor xs u.by v.value)) boxed)
        (named_update layout u.tensor xs u.by (Times u.by v.value (minus n.hi n.lo)) (left (has_tensor layout u.tensor) (list_all (is_named_in layout) xs) known)
        (right (has_tensor layout u.tensor) (list_all (is_named_in layout) xs) known) repeated)

    once_named : is_named layout (once_code_of h n u) ≡ true
    once_named =
        named_when layout (Two op.Lt n.lo n.hi) (Seq all) (named_two layout op.Lt n.lo n.hi nest.lo nest.hi)
        (named_seq layout all
        (list_all-append (is_named layout) (prelude v) (paid ∷ put ∷ [])
        ∙ both (list_all (is_named layout) (prelude v)) (list_all (is_named layout) (paid ∷ put ∷ [])) (left (list_all (is_named layout) (prelude v)) (list_all (is_named layout) (alone ∷ [])) parts)
        (more_named layout paid (put ∷ []) (charge_named layout 2) (more_named layout put [] put_named refl))))

-- the update, without its work, is named where its names are good
unpaid_named : (c : Checked) (next need : ℕ) (u : Written) → end_of (value_code (heads_in c) u.value next) ≤ need → (room : ℕ) (sc : Scope) → need ≤ room → IsScope c sc next
    → is_named_update u sc ≡ true → AreIn c room (unpaid_update (heads_in c) u.tensor u.at u.by (value_code (heads_in c) u.value next))
unpaid_named c next need u enough room sc le scope named =
    let binds : bindings_of (s.Update u.tensor u.at u.by u.value 0) ≡ [] = of_update (List ℕ) bindings_step u.tensor u.at u.by u.value 0 in
    (leaves c next need).unpaid u.tensor u.at u.by u.value 0 enough room sc le scope (subst (AllBelow (variables_in c)) (sym binds) tt)
    (ap (λ (f : Scope → Bool). f sc) (of_update (Scope → Bool) stmt_step u.tensor u.at u.by u.value 0) ∙ named)

-- ---- the leaf

module _ (s : Site) (ds : List Bool) (n : Nest) (site : IsSite s) (comes : Comes s ds n) (fixed : IsFixed s n) (u : written.Update) (once : IsAtOnceOf (loop_of s) n u)
    (m : Lowered) (code : m.code ≡ once_code_of (heads_in s.checked.now) n (written_of u)) (room : m.room ≡ end_of (value_code (heads_in s.checked.now) u.value.now n.next)) where
  words : KnowsWords (marks_at_point (loop_of s) n)
  words = subst KnowsWords ((points_are_told (loop_of s) s.around ds n comes.knows).flat fixed.flat).marks (words_are_told (loop_of s) s.around ds n comes.knows)

  changed : changed_in (loop_of s) u.tensor ≡ true
  changed = changes_no_more (loop_of s) n site.worded words u.tensor once.only.written

  -- what stays isn't what is updated
  not_staying : (st : Staying) → ((t : ℕ) → st.tensors t ≡ true → changed_in (loop_of s) t ≡ false) → st.tensors u.tensor ≡ false
  not_staying st stays = by (st.tensors u.tensor) refl where
    by : (b : Bool) → st.tensors u.tensor ≡ b → st.tensors u.tensor ≡ false
    by false e = e
    by true e = let h : false ≡ true = sym (stays u.tensor e) ∙ changed in cc

  own_free : (st : Staying) → ((x : ℕ) → st.locals x ≡ true → x < n.next) → (y : ℕ) → n.next ≤ y → st.locals y ≡ false
  own_free st below y le = by (st.locals y) refl where
    by : (b : Bool) → st.locals y ≡ b → st.locals y ≡ false
    by false e = e
    by true e = let lt = below y e in absurd (omega (arith, lt, le))

  pub once_lowers : LeafLowers (loop_of s) (Fixed n) m
  once_lowers = record {
    means = λ source.
        once_means (loop_of s) n m (written_of u) comes.var fixed.flat fixed.settled fixed.same (changes_no_more (loop_of s) n site.worded words) once.only once.free once.plain code
        (omega (arith, room));
    spares = λ st out keeps. ap (spares st) code ∙ spared_once (heads_in s.checked.now) n (written_of u) st (own_free st keeps.below) (not_staying st out.tensors);
    declares = λ t e. let h : false ≡ true = sym (ap (λ (c : Code). declares c t) code ∙ undeclared_once (heads_in s.checked.now) n (written_of u) t) ∙ e in cc;
    names = λ more sc le body nest.
        ap (is_named (layout_with s.checked.now more)) code
        ∙ once_named (heads_in s.checked.now) n (written_of u) (layout_with s.checked.now more) nest
        (unpaid_named s.checked.now n.next m.room (written_of u) (omega (arith, room)) more sc le
        (later_scope (loop_of s) sc body n.next (omega (arith, site.placed.free, comes.later))) (once.only.named sc body.named));
  }
