-- The code of statements without bodies performs what they do.
use Rattle.std.proofs.Common.{◌≡◌, ℕ, ◌<◌, ◌≤◌, Bool, true, false, List, [], ◌∷◌, ◌++◌, map, length, Some, None, refl, sym, ap, ◌∙◌, subst, ℤ, pos, arith}
use Rattle.std.specs.Prelude.{slice_get, ◌&&◌, ◌==◌}
use Rattle.std.specs.Ordering.{int_eq}
use Rattle.std.specs.List.{list_all}
use Rattle.fin_base.specs.declared.reduce.Reduce.{Reduce}
use Rattle.fin_tensor.specs.declared.storage.Storage.{Storage}
use Rattle.fin_ast.specs.declared.checked.Checked.{Checked}
use Rattle.fin_ast.specs.declared.header.Header.{Header}
use Rattle.fin_ast.specs.declared.tree.Index.{Index}
use Rattle.fin_ast.specs.declared.tree.Expr.{Expr}
use Rattle.fin_ast.specs.declared.tree.Stmt.{Stmt}
use Rattle.fin_ast.specs.declared.tree.Stmt.TheVariants as s
use Rattle.fin_ast.specs.Accepted.{FitProgram}
use Rattle.fin_ast.specs.Actions.{Leaf, Declare, Freeze, Thaw}
use Rattle.fin_ast.specs.Actions as acts
use Rattle.fin_ast.specs.Dense.{Setting, setting_of}
use Rattle.fin_ast.specs.Scope.{Scope, holds_of, is_index, is_access, is_named_expr, stmt_step}
use Rattle.fin_ast.specs.Shaped.{FitHeaders}
use Rattle.fin_ast.specs.Value.{Numbers, place}
use Rattle.fin_ast.proofs.Acting.{act_declare, act_freeze, act_thaw}
use Rattle.fin_ir.specs.declared.code.Code.{Code}
use Rattle.fin_ir.specs.declared.code.Code.TheVariants.{Seq, When, Update, Charge}
use Rattle.fin_ir.specs.declared.code.Code.TheVariants as code
use Rattle.fin_ir.specs.declared.expression.IExpr.{IExpr}
use Rattle.fin_ir.specs.declared.layout.Layout.{Layout}
use Rattle.fin_ir.specs.Machine.{Machine, Tensor, nothing, building, stored, held, seen, refused, set_tensor, can_declare, thawed, thawed_at}
use Rattle.fin_ir.specs.Machine as machine
use Rattle.fin_ir.specs.Value.{value_in, is_off}
use Rattle.fin_ir.specs.Meaning.{meaning, meaning_all}
use Rattle.fin_ir.proofs.Codes.{meaning_seq, meaning_when, meaning_update, meaning_declare, meaning_freeze, meaning_thaw, meaning_charge}
use Rattle.fin_stage.specs.Staged.{Run, regular, are_small, asked_for_small, update, leaf, staging, stage_of}
use Rattle.fin_stage.specs.Trailing.{RunTrails, Monotone}
use Rattle.fin_stage.proofs.Alive.{left, right, holds_there}
use Rattle.fin_stage.proofs.Onward.{Onward, onward_then, leaf_goes_on, small_goes_on, update_goes_on}
use Rattle.fin_stage.proofs.Simulating.{good_before}
use Rattle.fin_stage.proofs.Trailing.{stage_monotone, update_monotone}
use Rattle.fin_read.specs.Steps.{Agree}
use Rattle.fin_read.specs.Values.{Lowered, index_code, value_code, prelude}
use Rattle.fin_read.specs.Means.{IsWithin}
use Rattle.fin_read.proofs.Indexing.{indices_are}
use Rattle.fin_read.proofs.Counting.{counts_mean}
use Rattle.fin_nest.specs.Related.{Start, Live, Related}
use Rattle.fin_nest.specs.Senses.{runs}
use Rattle.fin_nest.specs.Performs.{Place, Ready, Performs}
use Rattle.fin_nest.proofs.Senses.{advances}
use Rattle.fin_nest.proofs.Lifting.{trailing_performs}
use Rattle.fin_nest.proofs.Performing.{from_live}
use Rattle.fin_nest.proofs.Keeping.{Keeps, keeps_same, keeps_then, either_keeps, keeps_set, keeps_update, keeps_charge, keeps_freeze, keeps_left}
use Rattle.fin_perform.specs.Codes.{declare_code, freeze_code, thaw_code, update_after, end_of}
use Rattle.fin_perform.specs.Layouts.{heads_in, layout_with, start_with}
use Rattle.fin_perform.specs.Standing.{StandsIn}
use Rattle.fin_perform.specs.Working.{run_of}
use Rattle.fin_perform.specs.Performing.{Does, DoesStmt, NothingPerforms, LeafPerforms, LeavesPerform}
use Rattle.fin_perform.proofs.Composing.{does_as, seq_does, nothing_does}
use Rattle.fin_perform.proofs.Working.{run_left, nothing_runs}
use Rattle.fin_simp.specs.Numbered.{Here}
use Rattle.fin_simp.specs.Work.{World, Worked, Context, work_step, world_of}
use Rattle.fin_simp.proofs.Equations.{at_declare, at_freeze, at_thaw, at_update}
use Rattle.fin_ast.specs.declared.tree.Stmt.TheOpen.{Stmt-F}
use Rattle.fin_ast.proofs.Nodes.{of_declare, of_update}
use Rattle.fin_perform.proofs.Evaluating.{knowing, words, words_long, words_agree, words_same, with_value_does}
use Rattle.fin_perform.proofs.Putting.{declare_goes, freeze_goes, thaw_goes}
use Rattle.fin_perform.proofs.Scoped.{places_same, small_same}
use Rattle.fin_perform.proofs.Updating.{update_goes}
use Rattle.fin_perform.proofs.Valued.{good, was_small}

-- ---- what is kept: all tensors but one, and all locals

module _ (layout : Layout) (t : ℕ) where
  abbrev AllKeep : List Code → Type 0
  AllKeep [] = Unit {0}
  AllKeep (x ∷ xs) = ((m : Machine) → Keeps t m (meaning layout x m)) × AllKeep xs

  all_keep : (xs : List Code) → AllKeep xs → (m : Machine) → Keeps t m (meaning_all layout xs m)
  all_keep [] k m = keeps_same t m
  all_keep (x ∷ xs) k m = keeps_then t m (meaning layout x m) (meaning_all layout xs (meaning layout x m)) (k.0 m) (all_keep xs k.1 (meaning layout x m))

  seq_keeps : (xs : List Code) → AllKeep xs → (m : Machine) → Keeps t m (meaning_all layout (Seq xs ∷ []) m)
  seq_keeps xs k m = subst (Keeps t m) (sym (meaning_seq layout xs m)) (all_keep xs k m)

  charge_keeps : (e : IExpr) (m : Machine) → Keeps t m (meaning layout (Charge e) m)
  charge_keeps e m = subst (Keeps t m) (sym (meaning_charge layout e m)) (keeps_charge t (value_in m e) m)

  refused_keeps : (m : Machine) → Keeps t m (refused m)
  refused_keeps m = record { locals = refl; seen = λ j n. refl; turns = refl; charges = omega arith }

  declare_keeps : (m : Machine) → Keeps t m (meaning layout (code.Declare t) m)
  declare_keeps m = subst (Keeps t m) (sym (meaning_declare layout t m))
      (either_keeps t m.cut m m _ (keeps_same t m) (either_keeps t (can_declare layout t) m (set_tensor t _ m) (refused m) (keeps_set t _ m) (refused_keeps m)))

  freeze_keeps : (m : Machine) → Keeps t m (meaning layout (code.Freeze t) m)
  freeze_keeps m = subst (Keeps t m) (sym (meaning_freeze layout t m)) (keeps_freeze t m)

  thawed_keeps : (x : Tensor) (m : Machine) → Keeps t m (thawed_at layout t x m)
  thawed_keeps nothing m = refused_keeps m
  thawed_keeps (building b) m = refused_keeps m
  thawed_keeps (stored f) m = either_keeps t (machine.is_made layout t) m (set_tensor t (building (thawed f)) m) (refused m) (keeps_set t (building (thawed f)) m) (refused_keeps m)

  thaw_keeps : (m : Machine) → Keeps t m (meaning layout (code.Thaw t) m)
  thaw_keeps m = subst (Keeps t m) (sym (meaning_thaw layout t m)) (either_keeps t m.cut m m (thawed_at layout t (held m.tensors t) m) (keeps_same t m) (thawed_keeps (held m.tensors t) m))

  pub put_keeps : (test : IExpr) (xs : List IExpr) (by : Reduce) (e : IExpr) (m : Machine) → Keeps t m (meaning layout (When test (Update t xs by e)) m)
  put_keeps test xs by e m = subst (Keeps t m) (sym (meaning_when layout test (Update t xs by e) m))
      (either_keeps t (is_off (value_in m test)) m m (meaning layout (Update t xs by e) m) (keeps_same t m)
      (subst (Keeps t m) (sym (meaning_update layout t xs by e m)) (keeps_update t (map (value_in m) xs) by (value_in m e) m)))

-- what a statement does to a run it does to one that trails
monotone_as : (w : Setting) (x : Stmt) (vars : Numbers) (f : Run → Run) → ((r : Run) → stage_of w x vars r ≡ f r) → Monotone f
monotone_as w x vars f same r r' tr g =
    subst (λ (n : Run). RunTrails n (f r')) (same r) (subst (RunTrails (stage_of w x vars r)) (same r') (stage_monotone w x vars r r' tr (ap regular (same r) ∙ g)))

module _ (c : Checked) (room : ℕ) (inputs : List Storage) (fits : FitHeaders c.program.headers c.dims) (given_fit : FitProgram c inputs) where
  abbrev start : Start
  start = start_with c room inputs

  abbrev w : Setting
  w = setting_of c inputs

  abbrev layout : Layout
  layout = layout_with c room

  there : (test : Header → Bool) (sc : Scope) (t : ℕ) → sc.headers ≡ c.program.headers → holds_of test (slice_get sc.headers t) ≡ true → t < length c.program.headers
  there test sc t e h = holds_there test c.program.headers t (subst (λ (hs : List Header). holds_of test (slice_get hs t) ≡ true) e h)

  module _ (sc : Scope) (vars : Numbers) (p : Place) (stands : StandsIn c sc vars p) (t : ℕ) (loose : p.steady t ≡ false) where
    leaf_performs : (l : Leaf) (x : Code) → Monotone (leaf w l vars) → ((m : Machine) → Keeps t m (meaning_all layout (x ∷ []) m))
        → ((r : Run) (m : Machine) → Live start [] r m → regular (leaf w l vars r) ≡ true → Related start [] (leaf w l vars r) (meaning layout x m)) → Performs layout (runs start) p (x ∷ []) (leaf w l vars)
    leaf_performs l x monotone keeps goes =
        trailing_performs start layout p (x ∷ []) (leaf w l vars) (λ r. advances r (leaf w l vars r) (leaf_goes_on w l vars r)) monotone
        (from_live start p (x ∷ []) (leaf w l vars) (leaf_goes_on w l vars) (λ r m ready live g. goes r m live g) (λ m ready. keeps_left t m (meaning_all layout (x ∷ []) m) p loose (keeps m)))

    declare_performs : (test : Header → Bool) → holds_of test (slice_get sc.headers t) ≡ true → Performs layout (runs start) p (declare_code (heads_in c) t ∷ []) (leaf w (Declare t) vars)
    declare_performs test named =
        leaf_performs (Declare t) (declare_code (heads_in c) t) (monotone_as w (s.Declare t (pos 0) 0) vars (leaf w (Declare t) vars) (λ r. act_declare (staging w) vars r t (pos 0) 0))
        (seq_keeps layout t _ (declare_keeps layout t, (charge_keeps layout t _, tt)))
        (λ r m live g. declare_goes c room inputs fits given_fit [] r m live t (there test sc t stands.headers named) g)

    freeze_performs : Performs layout (runs start) p (freeze_code (heads_in c) t ∷ []) (leaf w (Freeze t) vars)
    freeze_performs =
        leaf_performs (Freeze t) (freeze_code (heads_in c) t) (monotone_as w (s.Freeze t 0) vars (leaf w (Freeze t) vars) (λ r. act_freeze (staging w) vars r t 0))
        (seq_keeps layout t _ (freeze_keeps layout t, (charge_keeps layout t _, (charge_keeps layout t _, tt))))
        (λ r m live g. freeze_goes c room inputs fits given_fit counts_mean [] r m live t g)

    thaw_performs : Performs layout (runs start) p (thaw_code (heads_in c) t ∷ []) (leaf w (Thaw t) vars)
    thaw_performs =
        leaf_performs (Thaw t) (thaw_code (heads_in c) t) (monotone_as w (s.Thaw t 0) vars (leaf w (Thaw t) vars) (λ r. act_thaw (staging w) vars r t 0))
        (seq_keeps layout t _ (charge_keeps layout t _, (charge_keeps layout t _, (thaw_keeps layout t, tt))))
        (λ r m live g. thaw_goes c room inputs fits given_fit counts_mean [] r m live t g)

    -- ---- updates

    module _ (at : List Index) (by : Reduce) (e : Expr) (indices : list_all (is_index sc) at ≡ true) (named : is_named_expr e sc ≡ true) (enough : end_of (value_code (heads_in c) e p.next) ≤ room) where
      abbrev v : Lowered
      v = value_code (heads_in c) e p.next

      abbrev zs : List ℤ
      zs = map (place vars) at

      abbrev xs : List IExpr
      xs = map index_code at

      abbrev after : ℤ → Run → Run
      after z r = update w t zs by z (asked_for_small (are_small vars at) r)

      pub after_goes_on : (z : ℤ) (r : Run) → Onward r (after z r)
      after_goes_on z r = let small : Run = asked_for_small (are_small vars at) r in onward_then r small (after z r) (small_goes_on (are_small vars at) r) (update_goes_on w t zs by z small)

      pub are_asked : (z : ℤ) (r : Run) → regular (after z r) ≡ true → are_small vars at ≡ true
      are_asked z r g =
          let small : Run = asked_for_small (are_small vars at) r in
          was_small (are_small vars at) r (good_before small (after z r) (update_goes_on w t zs by z small) (good (after z r) g))

      pub asked_is : (z : ℤ) (r : Run) → are_small vars at ≡ true → after z r ≡ update w t zs by z r
      asked_is z r small = ap (λ (b : Bool). update w t zs by z (asked_for_small b r)) small

      pub after_monotone : (z : ℤ) → Monotone (after z)
      after_monotone z r r' tr g =
          let small = are_asked z r g in
          subst (λ (n : Run). RunTrails n (after z r')) (sym (asked_is z r small)) (subst (RunTrails (update w t zs by z r)) (sym (asked_is z r' small))
          (update_monotone w t zs by z r r' tr (sym (ap regular (asked_is z r small)) ∙ g)))

      -- the indices point to the run's coordinates
      pub indices_go : (m : Machine) → Ready layout m p → are_small vars at ≡ true → map (value_in m) xs ≡ zs
      indices_go m ready small =
          let ps : Numbers = words c room inputs fits given_fit sc vars p stands e named enough m in
          let long : length ps ≡ p.next = words_long c room inputs fits given_fit sc vars p stands e named enough m ready in
          let same = words_same c room inputs fits given_fit sc vars p stands e named enough m ready in
          let agree : Agree (length ps) m.locals ps = subst (λ (n : ℕ). Agree n m.locals ps) (sym long) (words_agree c room inputs fits given_fit sc vars p stands e named enough m) in
          indices_are (seen m) sc ps (subst (IsWithin sc) (sym long) stands.within) m.locals agree at indices (small_same sc vars ps same at indices ∙ small)
          ∙ places_same sc vars ps same at indices

      put_performs : (z : ℤ) → Performs layout (runs start) (knowing p (v.value, z)) (update_after (heads_in c) t at by v.value) (after z)
      put_performs z =
          let q : Place = knowing p (v.value, z) in
          let codes : List Code = update_after (heads_in c) t at by v.value in
          trailing_performs start layout q codes (after z) (λ r. advances r (after z r) (after_goes_on z r)) (after_monotone z)
          (from_live start q codes (after z) (after_goes_on z)
          (λ r m ready live g.
          let small = are_asked z r g in
          let here : Ready layout m p = record { live = ready.live; locals = ready.locals; facts = ready.facts.1 } in
          subst (λ (n : Run). Related start [] n (meaning_all layout codes m)) (sym (asked_is z r small))
          (subst (Related start [] (update w t zs by z r)) (meaning_seq layout codes m)
          (update_goes c room inputs fits given_fit [] r m live t xs zs (indices_go m here small) by v.value z ready.facts.0 (sym (ap regular (asked_is z r small)) ∙ g))))
          (λ m ready. keeps_left t m (meaning_all layout codes m) q loose (all_keep layout t codes (put_keeps layout t _ xs by v.value, (charge_keeps layout t _, tt)) m)))

      -- an update, with the steps of its value before it
      put_in : Does c room inputs p (prelude v ++ update_after (heads_in c) t at by v.value) (leaf w (acts.Update t at by e) vars)
      put_in = with_value_does c room inputs fits given_fit sc vars p stands e named enough (update_after (heads_in c) t at by v.value) after (λ z. record { performs = put_performs z; advances = λ r. advances r (after z r) (after_goes_on z r) })

-- ---- by pieces

module _ (c : Checked) (room : ℕ) (inputs : List Storage) (sc : Scope) (vars : Numbers) (p : Place) (fits : FitHeaders c.program.headers c.dims) (given_fit : FitProgram c inputs) (stands : StandsIn c sc vars p) where
  abbrev world : World
  world = world_of c inputs

  -- a leaf, which the run by pieces does
  leaf_does : (cs : List Code) (x : Stmt) (h : Here) (ctx : Context) (l : Leaf) → ((r : Run) → run_of world x h ctx vars r ≡ leaf (setting_of c inputs) l vars r)
      → Performs (layout_with c room) (runs (start_with c room inputs)) p cs (leaf (setting_of c inputs) l vars) → DoesStmt c room inputs p cs x h ctx vars
  leaf_does cs x h ctx l same performs =
      does_as c room inputs p cs (run_of world x h ctx vars) (leaf (setting_of c inputs) l vars) same
      (record { performs = performs; advances = λ r. advances r (leaf (setting_of c inputs) l vars r) (leaf_goes_on (setting_of c inputs) l vars r) })

  abbrev goes_at : Context → Run → Worked → Run
  goes_at ctx r z = z.run ctx vars r

  declare_same : (t : ℕ) (value : ℤ) (line : ℕ) (h : Here) (ctx : Context) (r : Run) → run_of world (s.Declare t value line) h ctx vars r ≡ leaf (setting_of c inputs) (Declare t) vars r
  declare_same t value line h None r = ap (goes_at None r) (at_declare Worked (work_step world) t value line h)
  declare_same t value line h (Some m) r = ap (goes_at (Some m) r) (at_declare Worked (work_step world) t value line h)

  freeze_same : (t line : ℕ) (h : Here) (ctx : Context) (r : Run) → run_of world (s.Freeze t line) h ctx vars r ≡ leaf (setting_of c inputs) (Freeze t) vars r
  freeze_same t line h None r = ap (goes_at None r) (at_freeze Worked (work_step world) t line h)
  freeze_same t line h (Some m) r = ap (goes_at (Some m) r) (at_freeze Worked (work_step world) t line h)

  thaw_same : (t line : ℕ) (h : Here) (ctx : Context) (r : Run) → run_of world (s.Thaw t line) h ctx vars r ≡ leaf (setting_of c inputs) (Thaw t) vars r
  thaw_same t line h None r = ap (goes_at None r) (at_thaw Worked (work_step world) t line h)
  thaw_same t line h (Some m) r = ap (goes_at (Some m) r) (at_thaw Worked (work_step world) t line h)

  pub leaf_performs_all : LeafPerforms c room inputs sc vars p
  leaf_performs_all = record {
    declare = λ t value line h ctx loose named.
        leaf_does (declare_code (heads_in c) t ∷ []) (s.Declare t value line) h ctx (Declare t) (λ r. declare_same t value line h ctx r)
        (declare_performs c room inputs fits given_fit sc vars p stands t loose (λ (x : Header). int_eq value x.format.fill)
        (sym (ap (λ (g : Scope → Bool). g sc) (of_declare (Scope → Bool) stmt_step t value line)) ∙ named));
    freeze = λ t line h ctx loose.
        leaf_does (freeze_code (heads_in c) t ∷ []) (s.Freeze t line) h ctx (Freeze t) (λ r. freeze_same t line h ctx r)
        (freeze_performs c room inputs fits given_fit sc vars p stands t loose);
    thaw = λ t line h ctx loose.
        leaf_does (thaw_code (heads_in c) t ∷ []) (s.Thaw t line) h ctx (Thaw t) (λ r. thaw_same t line h ctx r)
        (thaw_performs c room inputs fits given_fit sc vars p stands t loose);
    update = λ t at by value line h ctx loose named enough some.
        let x : Stmt = s.Update t at by value line in
        let named_both : (is_access sc t at && is_named_expr value sc) ≡ true = sym (ap (λ (g : Scope → Bool). g sc) (of_update (Scope → Bool) stmt_step t at by value line)) ∙ named in
        let access : is_access sc t at ≡ true = left (is_access sc t at) (is_named_expr value sc) named_both in
        let indices : list_all (is_index sc) at ≡ true = right (holds_of (λ (y : Header). length at == length y.format.levels) (slice_get sc.headers t)) (list_all (is_index sc) at) access in
        let v : Lowered = value_code (heads_in c) value p.next in
        let codes : List Code = prelude v ++ update_after (heads_in c) t at by v.value in
        let plain = leaf_does codes x h ctx (acts.Update t at by value) (λ r. run_left world x h (Stmt-F.Update t at by value line) (at_update Worked (work_step world) t at by value line h) vars r ctx some)
        (put_in c room inputs fits given_fit sc vars p stands t loose at by value indices (right (is_access sc t at) (is_named_expr value sc) named_both) enough).performs in
        seq_does c room inputs p codes (run_of world x h ctx vars) plain;
  }

pub leaves_perform : LeavesPerform
leaves_perform = leaf_performs_all

pub nothing_performs : NothingPerforms
nothing_performs c room inputs p x h ctx vars e = does_as c room inputs p [] (run_of (world_of c inputs) x h ctx vars) (λ r. r) (nothing_runs (world_of c inputs) x h ctx e vars) (nothing_does c room inputs p)
