-- What statements do to a state, where what their parts do is given. Evaluations of programs are instances.
use Rattle.std.specs.Prelude.{ℕ, zero, suc, ◌+◌, ◌-◌, ℤ, pos, if◌then◌else◌, List, [], ◌∷◌, map, slice_set}
use Rattle.std.specs.Ordering.{int_eq}
use Rattle.fin_base.specs.declared.reduce.Reduce.{Reduce}
use Rattle.fin_ast.specs.declared.tree.Index.{Index}
use Rattle.fin_ast.specs.declared.tree.Expr.{Expr}
use Rattle.fin_ast.specs.declared.tree.Stmt.{Stmt, fold-Stmt}
use Rattle.fin_ast.specs.declared.tree.Stmt.TheOpen.{Stmt-F}
use Rattle.fin_ast.specs.Value.{Numbers}

-- by the numbers that are bound
abbrev pub Action : Type 0 → Type 0
Action S = Numbers → S → S

-- a statement without others in it
pub data Leaf : Type 0 where
  Declare : ℕ → Leaf
  Freeze : ℕ → Leaf
  Thaw : ℕ → Leaf
  Update : ℕ → List Index → Reduce → Expr → Leaf

-- a loop's turn: of which variable, the numbers around, its own number, and what the body does then
abbrev pub Turn : Type 0 → Type 0
Turn S = ℕ → Numbers → ℕ → (S → S) → S → S

-- what the parts of statements do
pub record Parts (S : Type 0) : Type 0 where
  -- the numbers that a loop's variable goes through
  pub range : ℕ → ℕ × ℕ
  -- the value of a test or of a let, and what goes on with it
  pub value : Expr → Numbers → (ℤ → S → S) → S → S
  -- what stands before a loop's turns
  pub entry : ℕ → Action S
  pub turn : Turn S
  -- the end of a body, from the states before it and behind its last statement
  pub brace : S → S → S
  pub leaf : Leaf → Action S

-- one after another
abbrev pub in_turn : {S : Type 0} → List (Action S) → Action S
in_turn [] vars s = s
in_turn (a ∷ rest) vars s = in_turn rest vars (a vars s)

abbrev pub braced : {S : Type 0} → (S → S → S) → Action S → Action S
braced brace body vars s = brace s (body vars s)

-- the body at n numbers from lo on
abbrev pub repeated : {S : Type 0} → Turn S → ℕ → ℕ → ℕ → Action S → Action S
repeated turn zero lo var body vars s = s
repeated turn (suc n) lo var body vars s = repeated turn n (lo + 1) var body vars (turn var vars lo (body (slice_set vars var (pos lo))) s)

-- the body at each number of a range
abbrev pub looped : {S : Type 0} → Turn S → ℕ × ℕ → ℕ → Action S → Action S
looped turn range var body = repeated turn (range.1 - range.0) range.0 var body

-- where the value isn't 0
abbrev pub where_holds : {S : Type 0} → Action S → Numbers → ℤ → S → S
where_holds body vars v s = if int_eq v (pos 0) then s else body vars s

abbrev pub where_bound : {S : Type 0} → ℕ → Action S → Numbers → ℤ → S → S
where_bound var body vars v = body (slice_set vars var v)

-- one node, with what each inner statement does in its place; `for` and `par` are the same
abbrev pub act_step : {S : Type 0} → Parts S → Stmt-F (Action S) → Action S
act_step p (Stmt-F.Block body line last) vars s = braced p.brace (in_turn body) vars s
act_step p (Stmt-F.Loop var range par body line last) vars s = looped p.turn (p.range var) var (braced p.brace (in_turn body)) vars (p.entry var vars s)
act_step p (Stmt-F.Cond test body line last) vars s = p.value test vars (where_holds (braced p.brace (in_turn body)) vars) s
act_step p (Stmt-F.Bind var value body line last) vars s = p.value value vars (where_bound var (braced p.brace (in_turn body)) vars) s
act_step p (Stmt-F.Declare tensor value line) vars s = p.leaf (Declare tensor) vars s
act_step p (Stmt-F.Freeze tensor line) vars s = p.leaf (Freeze tensor) vars s
act_step p (Stmt-F.Thaw tensor line) vars s = p.leaf (Thaw tensor) vars s
act_step p (Stmt-F.Update tensor at by value line) vars s = p.leaf (Update tensor at by value) vars s

abbrev pub act : {S : Type 0} → Parts S → Stmt → Action S
act {S = S} p = fold-Stmt (Action S) (act_step p)

abbrev pub act_all : {S : Type 0} → Parts S → List Stmt → Action S
act_all p body = in_turn (map (act p) body)
