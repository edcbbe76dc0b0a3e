-- What a statement does, for each kind of node.
use Rattle.std.proofs.Common.{◌≡◌, ℕ, ℤ, ap, Bool, List, Option}
use Rattle.fin_base.specs.declared.reduce.Reduce.{Reduce}
use Rattle.fin_ast.specs.declared.tree.Index.{Index}
use Rattle.fin_ast.specs.declared.tree.Expr.{Expr}
use Rattle.fin_ast.specs.declared.tree.Stmt.{Stmt}
use Rattle.fin_ast.specs.declared.tree.Stmt.TheVariants as s
use Rattle.fin_ast.specs.Value.{Numbers}
use Rattle.fin_ast.specs.Actions.{Action, Declare, Freeze, Thaw, Update, Parts, braced, looped, where_holds, where_bound, act_step, act, act_all}
use Rattle.fin_ast.proofs.Nodes.{of_block, of_loop, of_cond, of_bind, of_declare, of_freeze, of_thaw, of_update}

module _ {S : Type 0} (p : Parts S) (vars : Numbers) (st : S) where
  abbrev here : Action S → S
  here a = a vars st

  pub act_block : (body : List Stmt) (line last : ℕ) → act p (s.Block body line last) vars st ≡ braced p.brace (act_all p body) vars st
  act_block body line last = ap here (of_block (Action S) (act_step p) body line last)

  pub act_loop : (var : ℕ) (range : Option (ℕ × ℕ)) (par : Bool) (body : List Stmt) (line last : ℕ) → act p (s.Loop var range par body line last) vars st ≡ looped p.turn (p.range var) var (braced p.brace (act_all p body)) vars (p.entry var vars st)
  act_loop var range par body line last = ap here (of_loop (Action S) (act_step p) var range par body line last)

  pub act_cond : (test : Expr) (body : List Stmt) (line last : ℕ) → act p (s.Cond test body line last) vars st ≡ p.value test vars (where_holds (braced p.brace (act_all p body)) vars) st
  act_cond test body line last = ap here (of_cond (Action S) (act_step p) test body line last)

  pub act_bind : (var : ℕ) (value : Expr) (body : List Stmt) (line last : ℕ) → act p (s.Bind var value body line last) vars st ≡ p.value value vars (where_bound var (braced p.brace (act_all p body)) vars) st
  act_bind var value body line last = ap here (of_bind (Action S) (act_step p) var value body line last)

  pub act_declare : (tensor : ℕ) (value : ℤ) (line : ℕ) → act p (s.Declare tensor value line) vars st ≡ p.leaf (Declare tensor) vars st
  act_declare tensor value line = ap here (of_declare (Action S) (act_step p) tensor value line)

  pub act_freeze : (tensor line : ℕ) → act p (s.Freeze tensor line) vars st ≡ p.leaf (Freeze tensor) vars st
  act_freeze tensor line = ap here (of_freeze (Action S) (act_step p) tensor line)

  pub act_thaw : (tensor line : ℕ) → act p (s.Thaw tensor line) vars st ≡ p.leaf (Thaw tensor) vars st
  act_thaw tensor line = ap here (of_thaw (Action S) (act_step p) tensor line)

  pub act_update : (tensor : ℕ) (at : List Index) (by : Reduce) (value : Expr) (line : ℕ) → act p (s.Update tensor at by value line) vars st ≡ p.leaf (Update tensor at by value) vars st
  act_update tensor at by value line = ap here (of_update (Action S) (act_step p) tensor at by value line)
