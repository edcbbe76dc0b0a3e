-- The codes of a let: its value goes into its variable's local, and the body's codes stand inside.
use Rattle.std.proofs.Common.{◌≡◌, ◌≢◌, ℕ, ◌<◌, Bool, true, false, List, [], ◌∷◌, ◌++◌, Option, Some, None, refl, sym, ap, ◌∙◌, subst, ℤ, pos, arith}
use Rattle.std.specs.Prelude.{slice_set}
use Rattle.std.proofs.lemmas.List.{length-set, get_or-set_same, get_or-set_other}
use Rattle.fin_tensor.specs.declared.storage.Storage.{Storage}
use Rattle.fin_ast.specs.declared.checked.Checked.{Checked}
use Rattle.fin_ast.specs.declared.tree.Expr.{Expr}
use Rattle.fin_ast.specs.declared.tree.Stmt.{Stmt}
use Rattle.fin_ast.specs.declared.tree.Stmt.TheOpen.{Stmt-F}
use Rattle.fin_ast.specs.declared.tree.Stmt.TheVariants as s
use Rattle.fin_ast.specs.Accepted.{FitProgram}
use Rattle.fin_ast.specs.Scope.{Scope}
use Rattle.fin_ast.specs.Shaped.{FitHeaders}
use Rattle.fin_ast.specs.Dense.{Setting, setting_of}
use Rattle.fin_ast.specs.Value.{Numbers}
use Rattle.fin_ir.specs.declared.code.Code.{Code}
use Rattle.fin_ir.specs.declared.code.Code.TheVariants.{Assign}
use Rattle.fin_ir.specs.declared.expression.IExpr.{IExpr}
use Rattle.fin_ir.specs.declared.expression.IExpr.TheVariants.{Num}
use Rattle.fin_ir.specs.declared.layout.Layout.{Layout}
use Rattle.fin_ir.specs.Machine.{Machine, seen}
use Rattle.fin_ir.specs.Value.{value_in}
use Rattle.fin_ir.specs.Meaning.{meaning_all}
use Rattle.fin_ir.proofs.Values.{value_num, value_local}
use Rattle.fin_stage.specs.Staged.{Run, Action, worked, with_value}
use Rattle.fin_read.specs.Values.{Lowered, value_code, prelude}
use Rattle.fin_nest.specs.Related.{Start}
use Rattle.fin_nest.specs.Senses.{runs}
use Rattle.fin_nest.specs.Performs.{Place, Ready, Left, Stay}
use Rattle.fin_nest.proofs.Pinning.{alive}
use Rattle.fin_nest.proofs.Senses.{runs_lawful}
use Rattle.fin_nest.proofs.Statements.{hold_on}
use Rattle.fin_simp.specs.Numbered.{Here, behind}
use Rattle.fin_simp.specs.Work.{World, Worked, Context, inside, work_step, world_of, bound}
use Rattle.fin_simp.specs.Moving.{worked_all}
use Rattle.fin_simp.proofs.Equations.{at_bind}
use Rattle.fin_perform.specs.Bodies.{IsInside, LetPerforms, LetsPerform}
use Rattle.fin_perform.specs.Codes.{charge_of, literal_code, let_code}
use Rattle.fin_perform.specs.Layouts.{heads_in, layout_with, start_with}
use Rattle.fin_perform.specs.Performing.{Does}
use Rattle.fin_perform.specs.Standing.{StandsIn}
use Rattle.fin_perform.specs.Working.{run_of, body_of, nothing_in, literal_at}
use Rattle.fin_perform.proofs.Composing.{does_as, seq_does, paid_does}
use Rattle.fin_perform.proofs.Evaluating.{knowing, left_both, with_value_does}
use Rattle.fin_perform.proofs.Valued.{assigned}
use Rattle.fin_perform.proofs.Working.{run_left}

-- the machine with another word in a local
abbrev put : ℕ → ℤ → Machine → Machine
put var z m = record m { locals = slice_set m.locals var z }

module _ (c : Checked) (room : ℕ) (inputs : List Storage) (p : Place) (stay : Stay p p.facts) (var : ℕ) (below : var < room) (binds : p.binds var ≡ true) where
  abbrev start : Start
  start = start_with c room inputs

  abbrev layout : Layout
  layout = layout_with c room

  put_left : (m : Machine) (z : ℤ) → Left m (put var z m) p
  put_left m z = record {
    long = length-set m.locals var z;
    kept = λ e x lt free. let apart : x ≢ var = λ same. let f = ap p.binds same in cc in get_or-set_other m.locals var x z (pos 0) apart;
    steady = λ e t k. refl;
  }

  -- behind it the body's place has its facts
  put_ready : (q : Place) (m : Machine) (z : ℤ) → IsInside p q var z → Ready layout m p → Ready layout (put var z m) q
  put_ready q m z i ready =
      let there : var < _ = omega (arith, below, ready.locals) in
      record {
        live = ready.live;
        locals = length-set m.locals var z ∙ ready.locals;
        facts = i.facts (put var z m) (hold_on p p.facts m (put var z m) (put_left m z) ready.live stay ready.facts)
            (value_local (seen m) (slice_set m.locals var z) var ∙ get_or-set_same m.locals var z (pos 0) there);
      }

  module _ (q : Place) (z : ℤ) (inside : IsInside p q var z) (value : IExpr) (cs : List Code) (f : Run → Run) (d : Does c room inputs q cs f) where
    goes : (m : Machine) → m.cut ≡ false → value_in m value ≡ z → meaning_all layout (Assign var value ∷ cs) m ≡ meaning_all layout cs (put var z m)
    goes m e is = ap (meaning_all layout cs) (assigned layout var value m e ∙ ap (λ (y : ℤ). put var y m) is)

    stands_on : (r : Run) (m : Machine) → m.cut ≡ false → (runs start).stands r m → (runs start).stands r (put var z m)
    stands_on r m e h = subst ((runs start).stands r) (alive m (put var z m) e) ((runs_lawful start).assign var z r m h)

    rest_left : (m m' : Machine) → Left m m' q → Left m m' p
    rest_left m m' l = record {
      long = l.long;
      kept = λ e x lt free. l.kept e x (omega (arith, lt, inside.next)) (inside.binds x free);
      steady = λ e t k. l.steady e t (inside.steady t k);
    }

    -- at a place with one fact more, which says what the value is
    pub assign_does : (k : Place) → k.next ≡ p.next → k.binds ≡ p.binds → k.steady ≡ p.steady → ((m : Machine) → Ready layout m k → Ready layout m p × (value_in m value ≡ z)) → Does c room inputs k (Assign var value ∷ cs) f
    assign_does k e0 e1 e2 knows = record {
      performs = record {
        does = λ r m ready h.
            let two = knows m ready in
            subst ((runs start).stands (f r)) (sym (goes m ready.live two.1)) (d.performs.does r (put var z m) (put_ready q m z inside two.0) (stands_on r m ready.live h));
        leaves = λ r m ready h.
            let two = knows m ready in
            let l : Left m (meaning_all layout cs (put var z m)) p =
            left_both m (put var z m) (meaning_all layout cs (put var z m)) p (put_left m z)
            (rest_left (put var z m) (meaning_all layout cs (put var z m)) (d.performs.leaves r (put var z m) (put_ready q m z inside two.0) (stands_on r m ready.live h))) ready.live in
            subst (λ (x : Machine). Left m x k) (sym (goes m ready.live two.1)) (record {
              long = l.long;
              kept = λ e x lt free. l.kept e x (subst (λ (n : ℕ). x < n) e0 lt) (sym (ap (λ (b : ℕ → Bool). b x) e1) ∙ free);
              steady = λ e t y. l.steady e t (sym (ap (λ (b : ℕ → Bool). b t) e2) ∙ y);
            });
      };
      advances = d.advances;
    }

module _ (c : Checked) (room : ℕ) (inputs : List Storage) (sc : Scope) (vars : Numbers) (p : Place) (var : ℕ) (fits : FitHeaders c.program.headers c.dims) (given_fit : FitProgram c inputs) (stands : StandsIn c sc vars p) (below : var < room) (binds : p.binds var ≡ true) where
  abbrev world : World
  world = world_of c inputs

  abbrev set : Setting
  set = setting_of c inputs

  abbrev body_in : List Stmt → Here → Context → Option ℤ → Action
  body_in xs h ctx o ns r = body_of world xs h (inside ctx var o) ns r

  pub bind_is : (value : Expr) (xs : List Stmt) (line last : ℕ) (h : Here) (ctx : Context) → nothing_in (s.Bind var value xs line last) h ctx ≡ false → (o : Option ℤ) → literal_at value h ctx ≡ o → (r : Run)
      → run_of world (s.Bind var value xs line last) h ctx vars r ≡ bound set o var value (body_in xs (behind value h) ctx o) vars r
  bind_is value xs line last h ctx some o e r =
      run_left world (s.Bind var value xs line last) h (Stmt-F.Bind var value (worked_all world xs (behind value h)) line last) (at_bind Worked (work_step world) var value xs line last h) vars r ctx some
      ∙ ap (λ (k : Option ℤ). bound set k var value (body_in xs (behind value h) ctx k) vars r) e

  pub let_performs : LetPerforms c room inputs sc vars p var
  let_performs = record {
    literal = λ q value xs line last h ctx n cs some e inside d.
        let f : Run → Run = body_in xs (behind value h) ctx (Some n) (slice_set vars var n) in
        does_as c room inputs p (literal_code var n cs ∷ []) (run_of world (s.Bind var value xs line last) h ctx vars) f (bind_is value xs line last h ctx some (Some n) e)
        (seq_does c room inputs p (Assign var (Num n) ∷ cs) f
        (assign_does c room inputs p stands.stay var below binds q n inside (Num n) cs f d p refl refl refl (λ k ready. (ready, value_num (seen k) k.locals n))));
    evaluated = λ q value xs line last h ctx cs named enough some e inside d.
        let v : Lowered = value_code (heads_in c) value p.next in
        let body : Action = body_in xs (behind value h) ctx None in
        let after : ℤ → Run → Run = λ z r. body (slice_set vars var z) r in
        let asks : Run → Run = with_value set value vars after in
        let rest : List Code = Assign var v.value ∷ cs in
        let asked : Does c room inputs p (prelude v ++ rest) asks =
        with_value_does c room inputs fits given_fit sc vars p stands value named enough rest after
        (λ z. assign_does c room inputs p stands.stay var below binds (q z) z (inside z) v.value cs (after z) (d z) (knowing p (v.value, z)) refl refl refl
        (λ k ready. (record { live = ready.live; locals = ready.locals; facts = ready.facts.1 }, ready.facts.0))) in
        does_as c room inputs p (let_code var v cs ∷ []) (run_of world (s.Bind var value xs line last) h ctx vars) (λ r. asks (worked 1 r)) (bind_is value xs line last h ctx some None e)
        (seq_does c room inputs p (charge_of 1 ∷ prelude v ++ rest) (λ r. asks (worked 1 r)) (paid_does c room inputs p 1 (prelude v ++ rest) asks stands.stay asked));
  }

pub lets_perform : LetsPerform
lets_perform = let_performs
