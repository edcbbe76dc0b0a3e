-- The code of an expression where it stands: its value, and what it leaves as it was.
use Rattle.std.proofs.Common.{◌≡◌, ℕ, ◌≤◌, true, false, List, [], ◌∷◌, ◌++◌, length, take, refl, sym, ap, ◌∙◌, subst, ⊎_elim, inl, ℤ, arith}
use Rattle.std.specs.Option.{option_or}
use Rattle.std.proofs.Math.Path.{fun_ext}
use Rattle.std.proofs.lemmas.List.{get_or-take, length-take-le}
use Rattle.fin_tensor.specs.declared.storage.Storage.{Storage}
use Rattle.fin_ast.specs.declared.checked.Checked.{Checked}
use Rattle.fin_ast.specs.declared.tree.Expr.{Expr}
use Rattle.fin_ast.specs.Accepted.{FitProgram}
use Rattle.fin_ast.specs.Dense.{Setting, setting_of, made_at}
use Rattle.fin_ast.specs.Shaped.{FitHeaders}
use Rattle.fin_ast.specs.Scope.{Scope, is_bound, is_named_expr}
use Rattle.fin_ast.specs.Value.{Numbers, number, value_of}
use Rattle.fin_ir.specs.declared.code.Code.{Code}
use Rattle.fin_ir.specs.declared.layout.Layout.{Layout}
use Rattle.fin_ir.specs.Machine.{Machine, seen}
use Rattle.fin_ir.specs.Value.{value_in}
use Rattle.fin_ir.specs.Meaning.{meaning_all}
use Rattle.fin_ir.proofs.Values.{value_local}
use Rattle.fin_stage.specs.Stages.{Stage, Absent, Built, Frozen, stage_at, frozen_in}
use Rattle.fin_stage.specs.Staged.{Run, tensors_of, can_read, has_small_indices, asked_to_read, asked_for_small, with_value, unalive, regular}
use Rattle.fin_stage.specs.Trailing.{StageTrails, RunTrails}
use Rattle.fin_stage.proofs.Onward.{asked_goes_on}
use Rattle.fin_read.specs.Steps.{Agree, stepped}
use Rattle.fin_read.specs.Values.{Lowered, value_code, prelude}
use Rattle.fin_read.specs.Means.{IsWithin}
use Rattle.fin_read.proofs.Equations.{code_grows}
use Rattle.fin_read.proofs.Valuing.{values_mean}
use Rattle.fin_nest.specs.Related.{Start, Live, Related}
use Rattle.fin_nest.specs.Senses.{Behind, runs, Advances}
use Rattle.fin_nest.proofs.Senses.{advances}
use Rattle.fin_nest.specs.Performs.{Fact, Place, Ready, Left}
use Rattle.fin_nest.proofs.Pinning.{live_locals, live_less}
use Rattle.fin_nest.proofs.Statements.{hold_on, all_append}
use Rattle.fin_perform.specs.Codes.{end_of}
use Rattle.fin_perform.specs.Layouts.{heads_in, layout_with, start_with}
use Rattle.fin_perform.specs.Standing.{StandsIn}
use Rattle.fin_perform.specs.Performing.{Does}
use Rattle.fin_perform.proofs.Composing.{advances_then}
use Rattle.fin_perform.proofs.Behind.{code_from, stepped_long, stepped_kept}
use Rattle.fin_perform.proofs.Scoped.{Alike, alike}
use Rattle.fin_perform.proofs.Seen.{all_seen}
use Rattle.fin_perform.proofs.Valued.{Asked, asked, Valued, steps_go, value_goes}

-- ---- runs that trail read the same

frozen_same : (x y : Stage) → StageTrails x y → frozen_in x ≡ frozen_in y
frozen_same Absent y k = sym (ap frozen_in k)
frozen_same (Built b) y k = sym (ap frozen_in k.1.0)
frozen_same (Frozen format f) y k = sym (ap frozen_in k)

same_tensors : (w : Setting) (r r' : Run) → RunTrails r r' → tensors_of w r ≡ tensors_of w r'
same_tensors w r r' tr = fun_ext (λ t. ap (option_or (made_at w.given t)) (frozen_same (stage_at r.stages t) (stage_at r'.stages t) (tr.stages t)))

-- ---- places and senses

-- the place with one fact more
abbrev pub knowing : Place → Fact → Place
knowing p f = record { facts = f ∷ p.facts; steady = p.steady; binds = p.binds; next = p.next }

-- what is said of one part holds of two, where the machine between them goes on
pub left_both : (a b d : Machine) (p : Place) → Left a b p → Left b d p → b.cut ≡ false → Left a d p
left_both a b d p x y e = record {
  long = y.long ∙ x.long;
  kept = λ c j lt free. y.kept c j lt free ∙ x.kept e j lt free;
  steady = λ c t k. y.steady c t k ∙ x.steady e t k;
}

-- of a run that isn't regular nothing is said
pub nothing_said : (s : Start) (r : Run) (m : Machine) → (runs s).stands (unalive r) m
nothing_said s r m g = let e : false ≡ true = g in cc

-- a machine that isn't cut does what some run does that trails
pub living : (s : Start) (r : Run) (m : Machine) → m.cut ≡ false → Related s [] r m → Live s [] r m
living s r m e h = ⊎_elim (λ l. l) (λ x. let d = x.cut in absurd (cc)) h

module _ (c : Checked) (room : ℕ) (inputs : List Storage) (fits : FitHeaders c.program.headers c.dims) (given_fit : FitProgram c inputs) where
  abbrev s : Start
  s = start_with c room inputs

  abbrev w : Setting
  w = setting_of c inputs

  abbrev layout : Layout
  layout = layout_with c room

  module _ (sc : Scope) (vars : Numbers) (p : Place) (stands : StandsIn c sc vars p) (e : Expr) (named : is_named_expr e sc ≡ true) (enough : end_of (value_code (heads_in c) e p.next) ≤ room) where
    abbrev v : Lowered
    v = value_code (heads_in c) e p.next

    -- the machine behind the steps
    abbrev stepped_on : Machine → Machine
    stepped_on m = record m { locals = stepped (seen m) v.steps m.locals }

    steps_leave : (m : Machine) → Left m (stepped_on m) p
    steps_leave m = record {
      long = stepped_long (seen m) v.steps m.locals;
      kept = λ d x lt f. stepped_kept (seen m) p.next v.steps m.locals (code_from (heads_in c) e p.next) x lt;
      steady = λ d t k. refl;
    }

    -- the locals below the first free one, as numbers
    abbrev pub words : Machine → Numbers
    words m = take p.next m.locals

    pub words_long : (m : Machine) → Ready layout m p → length (words m) ≡ p.next
    words_long m ready = length-take-le p.next m.locals (omega (arith, ready.locals, enough, code_grows (heads_in c) e p.next))

    pub words_agree : (m : Machine) → Agree p.next m.locals (words m)
    words_agree m k lt = sym (get_or-take p.next m.locals k _ lt)

    pub words_same : (m : Machine) → Ready layout m p → (x : ℕ) → is_bound sc x ≡ true → number (words m) x ≡ number vars x
    words_same m ready x bound = sym (words_agree m x (stands.within x bound)) ∙ sym (value_local (seen m) m.locals x) ∙ stands.numbers m ready.facts x bound

    pub record Has (r : Run) (m : Machine) (z : ℤ) : Type 0 where
      pub live : Live s [] r m
      pub value : value_in m v.value ≡ z

    has_value : (r : Run) (m : Machine) → Ready layout m p → Live s [] r m → can_read e (tensors_of w r) ≡ true → has_small_indices e vars ≡ true
        → Has r (meaning_all layout (prelude v) m) (value_of e vars (tensors_of w r))
    has_value r m ready l can small =
        let ps : Numbers = words m in
        let long : length ps ≡ p.next = words_long m ready in
        let same : Alike sc vars ps (words_same m ready) (tensors_of w r) e = alike sc vars ps (words_same m ready) (tensors_of w r) e named in
        let pinned : Agree (length ps) m.locals ps = subst (λ (n : ℕ). Agree n m.locals ps) (sym long) (words_agree m) in
        let fine : Live s ps r m = live_locals s [] ps m.locals r m refl pinned l in
        let inside : IsWithin sc (length ps) = subst (IsWithin sc) (sym long) stands.within in
        let room_here : end_of (value_code (heads_in c) e (length ps)) ≤ room = subst (λ (n : ℕ). end_of (value_code (heads_in c) e n) ≤ room) (sym long) enough in
        let got = value_goes c room inputs (λ qs q n k. all_seen c room inputs fits given_fit qs q n k) values_mean sc e ps ps r m inside (omega arith) named can (same.small ∙ small) (λ k lt. refl) room_here fine in
        let there : Valued c room inputs (λ qs q n k. all_seen c room inputs fits given_fit qs q n k) values_mean ps r v (value_of e ps (tensors_of w r)) (meaning_all layout (prelude v) m) =
        subst (λ (n : ℕ). Valued c room inputs (λ qs q n k. all_seen c room inputs fits given_fit qs q n k) values_mean ps r (value_code (heads_in c) e n) (value_of e ps (tensors_of w r)) (meaning_all layout (prelude (value_code (heads_in c) e n)) m)) long got in
        record { live = live_less s ps [] r _ (omega arith) (λ k lt. absurd (omega (arith, lt))) there.live; value = there.value ∙ same.value }

    -- ---- what goes on with the value

    module _ (rest : List Code) (after : ℤ → Run → Run) (goes : (z : ℤ) → Does c room inputs (knowing p (v.value, z)) rest (after z)) where
      ready_behind : (m m' : Machine) (z : ℤ) → Ready layout m p → Left m m' p → m'.cut ≡ false → value_in m' v.value ≡ z → Ready layout m' (knowing p (v.value, z))
      ready_behind m m' z ready l e value = record { live = e; locals = l.long ∙ ready.locals; facts = (value, hold_on p p.facts m m' l e stands.stay ready.facts) }

      whole : (m : Machine) → m.cut ≡ false → meaning_all layout (prelude v ++ rest) m ≡ meaning_all layout rest (stepped_on m)
      whole m e = all_append layout (prelude v) rest m ∙ ap (meaning_all layout rest) (steps_go layout v.steps m e)

      value_advances : (r : Run) → Advances r (with_value w e vars after r)
      value_advances r =
          let z : ℤ = value_of e vars (tensors_of w r) in
          let ready : Run = asked_for_small (has_small_indices e vars) (asked_to_read (can_read e (tensors_of w r)) r) in
          advances_then r ready (after z ready) (advances r ready (asked_goes_on w e vars r)) ((goes z).advances ready)

      value_leaves : (r : Run) (m : Machine) → Ready layout m p → Left m (meaning_all layout (prelude v ++ rest) m) p
      value_leaves r m ready =
          let m' : Machine = stepped_on m in
          let z : ℤ = value_in m' v.value in
          let a : Left m m' p = steps_leave m in
          let b = (goes z).performs.leaves (unalive r) m' (ready_behind m m' z ready a ready.live refl) (nothing_said s r m') in
          subst (λ (x : Machine). Left m x p) (sym (whole m ready.live)) (left_both m m' (meaning_all layout rest m') p a (record { long = b.long; kept = b.kept; steady = b.steady }) ready.live)

      value_does : (r : Run) (m : Machine) → Ready layout m p → (runs s).stands r m → regular (with_value w e vars after r) ≡ true → Behind s (with_value w e vars after r) (meaning_all layout (prelude v ++ rest) m)
      value_does r m ready h g =
          let m' : Machine = stepped_on m in
          let z : ℤ = value_of e vars (tensors_of w r) in
          let k : Behind s r m = h ((value_advances r).before g) in
          let q : Asked w e vars after r = asked w e vars after r (λ y n. ((goes y).advances n).before) g in
          let same : tensors_of w r ≡ tensors_of w k.run = same_tensors w r k.run k.trails in
          let got : Has k.run (meaning_all layout (prelude v) m) (value_of e vars (tensors_of w k.run)) = has_value k.run m ready (living s k.run m ready.live k.related) (sym (ap (can_read e) same) ∙ q.reads) q.small in
          let there : Has k.run m' z =
          subst (Has k.run m') (sym (ap (value_of e vars) same)) (subst (λ (x : Machine). Has k.run x (value_of e vars (tensors_of w k.run))) (steps_go layout v.steps m ready.live) got) in
          let began : (runs s).stands r m' = λ d. record { run = k.run; trails = k.trails; related = inl there.live } in
          subst (λ (x : Run). Behind s x (meaning_all layout (prelude v ++ rest) m)) (sym q.is)
          (subst (Behind s (after z r)) (sym (whole m ready.live))
          ((goes z).performs.does r m' (ready_behind m m' z ready (steps_leave m) ready.live there.value) began (sym (ap regular q.is) ∙ g)))

      pub with_value_does : Does c room inputs p (prelude v ++ rest) (with_value w e vars after)
      with_value_does = record { performs = record { does = value_does; leaves = λ r m ready h. value_leaves r m ready }; advances = value_advances }
