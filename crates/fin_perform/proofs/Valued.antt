-- The steps of an expression, on a machine.
use Rattle.std.proofs.Common.{◌≡◌, ℕ, ◌+◌, ◌≤◌, Bool, true, false, ◌&&◌, List, [], ◌∷◌, map, length, refl, sym, ap, ◌∙◌, subst, ℤ, arith}
use Rattle.std.specs.Prelude.{slice_set}
use Rattle.fin_tensor.specs.declared.storage.Storage.{Storage}
use Rattle.fin_ast.specs.declared.checked.Checked.{Checked}
use Rattle.fin_ast.specs.declared.tree.Expr.{Expr}
use Rattle.fin_ast.specs.Dense.{Setting, setting_of}
use Rattle.fin_ast.specs.Scope.{Scope, is_named_expr}
use Rattle.fin_ast.specs.Value.{Numbers, value_of}
use Rattle.fin_ir.specs.declared.code.Code.TheVariants.{Assign}
use Rattle.fin_ir.specs.declared.layout.Layout.{Layout}
use Rattle.fin_ir.specs.Machine.{Machine, seen}
use Rattle.fin_ir.specs.Value.{value_in}
use Rattle.fin_ir.specs.Meaning.{meaning, meaning_all}
use Rattle.fin_ir.proofs.Codes.{meaning_assign}
use Rattle.fin_stage.specs.Staged.{Run, tensors_of, can_read, has_small_indices, asked_to_read, asked_for_small, with_value, regular}
use Rattle.fin_stage.proofs.Simulating.{Good, small_good}
use Rattle.fin_stage.proofs.Alive.{left, right}
use Rattle.fin_read.specs.Steps.{Step, stepped, assign_of, Agree}
use Rattle.fin_read.specs.Values.{Lowered, value_code, prelude}
use Rattle.fin_read.specs.Sees.{SeesAll}
use Rattle.fin_read.specs.Means.{IsWithin, IsValued, ValuesMean}
use Rattle.fin_read.proofs.Stepping.{agree_less, agree_then}
use Rattle.fin_perform.specs.Codes.{end_of}
use Rattle.fin_perform.specs.Layouts.{heads_in, layout_with, start_with}
use Rattle.fin_nest.specs.Related.{Live}
use Rattle.fin_nest.proofs.Pinning.{alive, live_locals}

-- ---- runs

pub good : (r : Run) → regular r ≡ true → Good r
good r e = record {
  alive = left r.alive r.small (left (r.alive && r.small) r.ordered e);
  small = right r.alive r.small (left (r.alive && r.small) r.ordered e);
  ordered = right (r.alive && r.small) r.ordered e;
}

read_good : (b : Bool) (r : Run) → Good (asked_to_read b r) → b ≡ true
read_good true r g = refl
read_good false r g = g.alive

pub was_small : (b : Bool) (r : Run) → Good (asked_for_small b r) → b ≡ true
was_small true r g = refl
was_small false r g = g.small

-- what a run was asked for before it goes on with a value
pub record Asked (w : Setting) (e : Expr) (vars : Numbers) (after : ℤ → Run → Run) (r : Run) : Type 0 where
  pub reads : can_read e (tensors_of w r) ≡ true
  pub small : has_small_indices e vars ≡ true
  pub is : with_value w e vars after r ≡ after (value_of e vars (tensors_of w r)) r

pub asked : (w : Setting) (e : Expr) (vars : Numbers) (after : ℤ → Run → Run) (r : Run) → ((v : ℤ) (n : Run) → regular (after v n) ≡ true → regular n ≡ true) → regular (with_value w e vars after r) ≡ true
    → Asked w e vars after r
asked w e vars after r before g =
    let v : ℤ = value_of e vars (tensors_of w r) in
    let can : Bool = can_read e (tensors_of w r) in
    let few : Bool = has_small_indices e vars in
    let reads : Run = asked_to_read can r in
    let ready : Run = asked_for_small few reads in
    let fine : Good ready = good ready (before v ready g) in
    let small : few ≡ true = was_small few reads fine in
    let able : can ≡ true = read_good can r (small_good w few reads fine) in
    record {
      reads = able;
      small = small;
      is = ap (λ (b : Bool). after v (asked_for_small b reads)) small ∙ ap (λ (b : Bool). after v (asked_to_read b r)) able;
    }

-- ---- code

pub assigned : (layout : Layout) (local : ℕ) (value : _) (m : Machine) → m.cut ≡ false → meaning layout (Assign local value) m ≡ record m { locals = slice_set m.locals local (value_in m value) }
assigned layout local value m e = meaning_assign layout local value m ∙ alive m (record m { locals = slice_set m.locals local (value_in m value) }) e

pub steps_go : (layout : Layout) (steps : List Step) (m : Machine) → m.cut ≡ false → meaning_all layout (map assign_of steps) m ≡ record m { locals = stepped (seen m) steps m.locals }
steps_go layout [] m e = refl
steps_go layout (x ∷ steps) m e =
    ap (meaning_all layout (map assign_of steps)) (assigned layout x.local x.value m e)
    ∙ steps_go layout steps (record m { locals = slice_set m.locals x.local (value_in m x.value) }) e

-- ---- values

module _ (c : Checked) (room : ℕ) (inputs : List Storage) (sees : (ps : List ℤ) (r : Run) (m : Machine) → Live (start_with c room inputs) ps r m → SeesAll (heads_in c) (seen m) (tensors_of (setting_of c inputs) r)) (values : ValuesMean) where
  -- the machine behind the steps of an expression does what the run does, and the expression has its value
  pub record Valued (ps : List ℤ) (r : Run) (v : Lowered) (z : ℤ) (m : Machine) : Type 0 where
    pub live : Live (start_with c room inputs) ps r m
    pub value : value_in m v.value ≡ z

  pub value_goes : (sc : Scope) (e : Expr) (ps : List ℤ) (vars : Numbers) (r : Run) (m : Machine)
      → IsWithin sc (length vars) → length vars ≤ length ps → is_named_expr e sc ≡ true → can_read e (tensors_of (setting_of c inputs) r) ≡ true → has_small_indices e vars ≡ true
      → Agree (length vars) ps vars → end_of (value_code (heads_in c) e (length ps)) ≤ (layout_with c room).locals → Live (start_with c room inputs) ps r m
      → Valued ps r (value_code (heads_in c) e (length ps)) (value_of e vars (tensors_of (setting_of c inputs) r)) (meaning_all (layout_with c room) (prelude (value_code (heads_in c) e (length ps))) m)
  value_goes sc e ps vars r m within after named can small same enough l =
      let v : Lowered = value_code (heads_in c) e (length ps) in
      let z : ℤ = value_of e vars (tensors_of (setting_of c inputs) r) in
      let agree : Agree (length vars) m.locals vars = agree_then (length vars) m.locals ps vars (agree_less (length vars) (length ps) m.locals ps after l.pinned) same in
      let fits : v.next + 1 ≤ length m.locals = omega (arith, enough, l.locals) in
      let q : IsValued (seen m) v (length ps) m.locals z = values (heads_in c) (seen m) (tensors_of (setting_of c inputs) r) sc vars e (length ps) m.locals (sees ps r m l) within named can small after agree fits in
      let ls : List ℤ = stepped (seen m) v.steps m.locals in
      subst (Valued ps r v z) (sym (steps_go (layout_with c room) v.steps m l.cut)) record {
        live = live_locals (start_with c room inputs) ps ps ls r m q.long (agree_then (length ps) ls m.locals ps q.kept l.pinned) l;
        value = q.value ls (λ k lt. refl);
      }
