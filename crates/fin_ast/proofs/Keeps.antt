-- What each step of dense evaluation keeps, it keeps.
use Rattle.std.proofs.Common.{ℕ, ℤ, List, map, refl}
use Rattle.fin_base.specs.declared.reduce.Reduce.{Reduce}
use Rattle.fin_ast.specs.declared.tree.Stmt.{Stmt}
use Rattle.fin_ast.specs.Value.{Numbers, place, value_of}
use Rattle.fin_ast.specs.Actions.{Leaf, Declare, Freeze, Thaw, Update}
use Rattle.fin_ast.specs.Dense.{Made, Setting, State, tensors_in, closed, ticked, declared, updated, leaf, evaluating, run_all}
use Rattle.fin_ast.proofs.Alike.{none, AreAll, act_all_is}

-- a step of an evaluation keeps a fact of what was made
pub record StepsKeep (w : Setting) (Q : State → Type 0) : Type 0 where
  pub ticks : (s : State) → Q s → Q (ticked s)
  pub closes : (before : Made) (s : State) → Q s → Q (closed before s)
  pub declares : (tensor : ℕ) (s : State) → Q s → Q (declared w tensor s)
  pub updates : (tensor : ℕ) (at : List ℤ) (by : Reduce) (v : ℤ) (s : State) → Q s → Q (updated tensor at by v s)

module _ (w : Setting) (Q : State → Type 0) (steps : StepsKeep w Q) where
  abbrev Keeps : (State → State) → Type 0
  Keeps f = (s : State) → Q s → Q (f s)

  leaf_keeps : (l : Leaf) (vars : Numbers) → Keeps (leaf w l vars)
  leaf_keeps (Declare tensor) vars s q = steps.declares tensor s q
  leaf_keeps (Freeze tensor) vars s q = q
  leaf_keeps (Thaw tensor) vars s q = q
  leaf_keeps (Update tensor at by value) vars s q = steps.updates tensor (map (place vars) at) by (value_of value vars (tensors_in w s)) s q

  parts_keep : AreAll (evaluating w) none Keeps
  parts_keep = record {
    range = λ var. refl;
    numbers = λ var n low high. tt;
    still = λ s q. q;
    joined = λ f f' g g' h h' s q. h' (f s) (h s q);
    value = λ e vars f g _ _ h s q. h (value_of e vars (tensors_in w s)) tt s q;
    entry = λ var vars s q. q;
    turn = λ var vars n f g h s q. h (ticked s) (steps.ticks s q);
    brace = λ f g h s q. steps.closes s.made (f s) (h s q);
    leaf = λ l vars _ _. leaf_keeps l vars;
  }

  pub run_all_keeps : (body : List Stmt) (vars : Numbers) → Keeps (run_all w body vars)
  run_all_keeps = act_all_is (evaluating w) Keeps parts_keep
