-- The layout has the locals and tensors that the code of expressions names.
use Rattle.std.proofs.Common.{◌≡◌, ℕ, ◌+◌, ◌<◌, ◌≤◌, Bool, true, false, if◌then◌else◌, ◌&&◌, List, [], ◌∷◌, ◌++◌, map, length, Option, Some, None, refl, sym, ◌∙◌, subst, ℤ, pos, arith}
use Rattle.std.specs.Prelude.{slice_get, ◌==◌}
use Rattle.std.specs.Ordering.{int_eq}
use Rattle.std.specs.List.{list_all}
use Rattle.std.proofs.lemmas.Bool.{lt-ltb}
use Rattle.fin_base.specs.declared.terms.Op.{Op}
use Rattle.fin_base.specs.declared.terms.Op.TheVariants as op
use Rattle.fin_tensor.specs.declared.format.Level.{Level}
use Rattle.fin_tensor.specs.declared.format.Level.TheVariants as level
use Rattle.fin_ast.specs.declared.header.Header.{Header}
use Rattle.fin_ast.specs.declared.tree.Index.{Index}
use Rattle.fin_ast.specs.declared.tree.Expr.{Expr}
use Rattle.fin_ast.specs.declared.tree.Expr.TheVariants as e
use Rattle.fin_ast.specs.Scope.{Scope, holds_of, is_loop, is_index, differ, is_named_expr}
use Rattle.fin_ir.specs.declared.layout.Layout.{Layout}
use Rattle.fin_ir.specs.declared.expression.Table.{Table}
use Rattle.fin_ir.specs.declared.expression.Table.TheVariants as table
use Rattle.fin_ir.specs.declared.expression.IExpr.{IExpr}
use Rattle.fin_ir.specs.declared.expression.IExpr.TheVariants.{Num, Local, Neg, Two, Pick, Cell, Seek, Val}
use Rattle.fin_ir.specs.Named.{has_local, has_tensor, expression_step, is_named_in, code_step, is_named}
use Rattle.fin_ir.proofs.Nodes.{of_num, of_local, of_neg, of_two, of_pick, of_cell, of_seek, of_val, of_assign}
use Rattle.fin_stage.proofs.Alive.{left, right, both, holds_there}
use Rattle.fin_read.specs.Steps.{Step, assign_of}
use Rattle.fin_read.specs.Reads.{none, in_extent, in_box, fibre_begin, fibre_end, where_placed, sought, found, in_block, step_to, level_steps, levels_steps, last_step, read_steps, place_of}
use Rattle.fin_read.specs.Counts.{below_level, count_from, count_code}
use Rattle.fin_read.specs.Values.{Heads, Lowered, format_of, shape_of, vars_code, index_code, is_shallow, rested_where, rested, value_code, prelude}
use Rattle.fin_read.specs.Means.{IsWithin, ValuesAreNamed}
use Rattle.fin_read.proofs.ByKind.{Kinds, by_kind}
use Rattle.fin_read.proofs.Equations.{code_num, code_var, code_read, code_neg, code_two, named_var, named_read, named_neg, named_two, code_grows, rested_grows}
use Rattle.fin_read.proofs.Indexing.{loop_is_bound}

module _ (layout : Layout) where
  abbrev Named : IExpr → Type 0
  Named x = is_named_in layout x ≡ true

  abbrev HasLocal : ℕ → Type 0
  HasLocal local = has_local layout local ≡ true

  abbrev HasTensor : ℕ → Type 0
  HasTensor tensor = has_tensor layout tensor ≡ true

  pub local_below : (local : ℕ) → local < layout.locals → HasLocal local
  local_below local lt = lt-ltb local layout.locals lt

  -- ---- expressions of loop code
  pub num : (n : ℤ) → Named (Num n)
  num n = of_num Bool (expression_step layout) n

  pub local : (k : ℕ) → HasLocal k → Named (Local k)
  local k has = of_local Bool (expression_step layout) k ∙ has

  neg : (x : IExpr) → Named x → Named (Neg x)
  neg x is = of_neg Bool (expression_step layout) x ∙ is

  two : (o : Op) (x y : IExpr) → Named x → Named y → Named (Two o x y)
  two o x y is and = of_two Bool (expression_step layout) o x y ∙ both (is_named_in layout x) (is_named_in layout y) is and

  pick : (x y z : IExpr) → Named x → Named y → Named z → Named (Pick x y z)
  pick x y z first second third = of_pick Bool (expression_step layout) x y z ∙ both _ (is_named_in layout z) (both (is_named_in layout x) (is_named_in layout y) first second) third

  cell : (tensor k : ℕ) (t : Table) (x : IExpr) → HasTensor tensor → Named x → Named (Cell tensor k t x)
  cell tensor k t x has is = of_cell Bool (expression_step layout) tensor k t x ∙ both (has_tensor layout tensor) (is_named_in layout x) has is

  seek : (tensor k : ℕ) (x y z : IExpr) → HasTensor tensor → Named x → Named y → Named z → Named (Seek tensor k x y z)
  seek tensor k x y z has first second third = of_seek Bool (expression_step layout) tensor k x y z ∙ both _ (is_named_in layout z) (both _ (is_named_in layout y) (both (has_tensor layout tensor) (is_named_in layout x) has first) second) third

  val : (tensor : ℕ) (x : IExpr) → HasTensor tensor → Named x → Named (Val tensor x)
  val tensor x has is = of_val Bool (expression_step layout) tensor x ∙ both (has_tensor layout tensor) (is_named_in layout x) has is

  -- each expression of a list
  abbrev pub AllNamed : List IExpr → Type 0
  AllNamed xs = list_all (is_named_in layout) xs ≡ true

  -- ---- steps
  abbrev pub AreNamed : List Step → Type 0
  AreNamed ss = list_all (is_named layout) (map assign_of ss) ≡ true

  step : (to : ℕ) (x : IExpr) (rest : List Step) → HasLocal to → Named x → AreNamed rest → AreNamed (step_to to x ∷ rest)
  step to x rest has is more = both (is_named layout (assign_of (step_to to x))) (list_all (is_named layout) (map assign_of rest)) (of_assign Bool (code_step layout) to x ∙ both (has_local layout to) (is_named_in layout x) has is) more

  steps_append : (a b : List Step) → AreNamed a → AreNamed b → AreNamed (a ++ b)
  steps_append [] b first second = second
  steps_append (s ∷ a) b first second =
      both (is_named layout (assign_of s)) (list_all (is_named layout) (map assign_of (a ++ b)))
      (left (is_named layout (assign_of s)) (list_all (is_named layout) (map assign_of a)) first)
      (steps_append a b (right (is_named layout (assign_of s)) (list_all (is_named layout) (map assign_of a)) first) second)

  -- ---- an access
  extent : (n : ℕ) (x value : IExpr) → Named x → Named value → Named (in_extent n x value)
  extent n x value is and =
      let zero : Named (Num (pos 0)) = num (pos 0) in
      pick (Two op.Lt x (Num (pos 0))) (Num (pos 0)) (Pick (Two op.Lt x (Num (pos n))) value (Num (pos 0))) (two op.Lt x (Num (pos 0)) is zero) zero
      (pick (Two op.Lt x (Num (pos n))) value (Num (pos 0)) (two op.Lt x (Num (pos n)) is (num (pos n))) and zero)

  pub box : (ns : List ℕ) (xs : List IExpr) → AllNamed xs → Named (in_box ns xs)
  box [] [] all = num (pos 1)
  box [] (x ∷ xs) all = num (pos 0)
  box (n ∷ ns) [] all = num (pos 0)
  box (n ∷ ns) (x ∷ xs) all = extent n x (in_box ns xs) (left (is_named_in layout x) (list_all (is_named_in layout) xs) all) (box ns xs (right (is_named_in layout x) (list_all (is_named_in layout) xs) all))

  module _ (tensor at : ℕ) (has : HasTensor tensor) (here : HasLocal at) (behind : HasLocal (at + 1)) where
    placed : (value : IExpr) → Named value → AreNamed (step_to at (where_placed at value) ∷ [])
    placed value is = step at (where_placed at value) [] here (pick (Two op.Lt (Local at) (Num (pos 0))) none value (two op.Lt (Local at) (Num (pos 0)) (local at here) (num (pos 0))) (num _) is) refl

    begin : (k : ℕ) → Named (fibre_begin (place_of tensor k at))
    begin k = cell tensor k table.Ptr (Local at) has (local at here)

    end : (k : ℕ) → Named (fibre_end (place_of tensor k at))
    end k = cell tensor k table.Ptr (Two op.Add (Local at) (Num (pos 1))) has (two op.Add (Local at) (Num (pos 1)) (local at here) (num (pos 1)))

    search_then : (k : ℕ) (x : IExpr) (rest : List Step) → Named x → AreNamed rest → AreNamed (step_to (at + 1) (sought (place_of tensor k at) x) ∷ rest)
    search_then k x rest is more = step (at + 1) (sought (place_of tensor k at) x) rest behind (seek tensor k (fibre_begin (place_of tensor k at)) (fibre_end (place_of tensor k at)) x has (begin k) (end k) is) more

    found_named : (k : ℕ) (x : IExpr) → Named x → Named (found (place_of tensor k at) x)
    found_named k x is =
        let there : IExpr = Local (at + 1) in
        let key : IExpr = Two op.Eq (Cell tensor k table.Idx there) x in
        pick (Two op.Lt there (fibre_end (place_of tensor k at))) (Pick key there none) none (two op.Lt there (fibre_end (place_of tensor k at)) (local (at + 1) behind) (end k))
        (pick key there none (two op.Eq (Cell tensor k table.Idx there) x (cell tensor k table.Idx there has (local (at + 1) behind)) is) (local (at + 1) behind) (num _)) (num _)

    block_named : (k : ℕ) → Named (in_block (place_of tensor k at))
    block_named k =
        let there : IExpr = Local (at + 1) in
        let long : IExpr = Two op.Sub (fibre_end (place_of tensor k at)) (fibre_begin (place_of tensor k at)) in
        let value : IExpr = Two op.Add (fibre_begin (place_of tensor k at)) there in
        pick (Two op.Lt there (Num (pos 0))) none (Pick (Two op.Lt there long) value none) (two op.Lt there (Num (pos 0)) (local (at + 1) behind) (num (pos 0))) (num _)
        (pick (Two op.Lt there long) value none (two op.Lt there long (local (at + 1) behind) (two op.Sub (fibre_end (place_of tensor k at)) (fibre_begin (place_of tensor k at)) (end k) (begin k))) (two op.Add (fibre_begin (place_of tensor k at)) there (begin k) (local (at + 1) behind)) (num _))

    one_level : (k : ℕ) (l : Level) (n : ℕ) (x : IExpr) → Named x → AreNamed (level_steps (place_of tensor k at) l n x)
    one_level k level.Dense n x is =
        let value : IExpr = Two op.Add (Two op.Mul (Local at) (Num (pos n))) x in
        placed value (two op.Add (Two op.Mul (Local at) (Num (pos n))) x (two op.Mul (Local at) (Num (pos n)) (local at here) (num (pos n))) is)
    one_level k level.List n x is = search_then k x (step_to at (where_placed at (found (place_of tensor k at) x)) ∷ []) is (placed (found (place_of tensor k at) x) (found_named k x is))
    one_level k level.Dict n x is = search_then k x (step_to at (where_placed at (found (place_of tensor k at) x)) ∷ []) is (placed (found (place_of tensor k at) x) (found_named k x is))
    one_level k level.Runs n x is = search_then k x (step_to at (where_placed at (Local (at + 1))) ∷ []) is (placed (Local (at + 1)) (local (at + 1) behind))
    one_level k level.Band n x is =
        step (at + 1) (Two op.Sub x (Cell tensor k table.Start (Local at))) (step_to at (where_placed at (in_block (place_of tensor k at))) ∷ []) behind
        (two op.Sub x (Cell tensor k table.Start (Local at)) is (cell tensor k table.Start (Local at) has (local at here))) (placed (in_block (place_of tensor k at)) (block_named k))

    all_levels : (k : ℕ) (ls : List Level) (ns : List ℕ) (xs : List IExpr) → AllNamed xs → AreNamed (levels_steps (place_of tensor k at) ls ns xs)
    all_levels k [] ns xs all = refl
    all_levels k (l ∷ ls) [] xs all = refl
    all_levels k (l ∷ ls) (n ∷ ns) [] all = refl
    all_levels k (l ∷ ls) (n ∷ ns) (x ∷ xs) all =
        steps_append (level_steps (place_of tensor k at) l n x) (levels_steps (place_of tensor (k + 1) at) ls ns xs) (one_level k l n x (left (is_named_in layout x) (list_all (is_named_in layout) xs) all)) (all_levels (k + 1) ls ns xs (right (is_named_in layout x) (list_all (is_named_in layout) xs) all))

    last : (fill : ℤ) → AreNamed (last_step tensor fill at ∷ [])
    last fill = step at (Pick (Two op.Lt (Local at) (Num (pos 0))) (Num fill) (Val tensor (Local at))) [] here (pick (Two op.Lt (Local at) (Num (pos 0))) (Num fill) (Val tensor (Local at)) (two op.Lt (Local at) (Num (pos 0)) (local at here) (num (pos 0))) (num fill) (val tensor (Local at) has (local at here))) refl

    read_named : (levels : List Level) (shape : List ℕ) (fill : ℤ) (xs : List IExpr) → AllNamed xs → AreNamed (read_steps tensor levels shape fill xs at)
    read_named levels shape fill xs all =
        step at (Pick (in_box shape xs) (Num (pos 0)) none) (levels_steps (place_of tensor 0 at) levels shape xs ++ last_step tensor fill at ∷ []) here (pick (in_box shape xs) (Num (pos 0)) none (box shape xs all) (num (pos 0)) (num _))
        (steps_append (levels_steps (place_of tensor 0 at) levels shape xs) (last_step tensor fill at ∷ []) (all_levels 0 levels shape xs all) (last fill))

  -- ---- the number of values
  module _ (tensor : ℕ) (has : HasTensor tensor) where
    below_named : (k : ℕ) (l : Level) (n : ℕ) (count : IExpr) → Named count → Named (below_level tensor k l n count)
    below_named k level.Dense n count is = two op.Mul count (Num (pos n)) is (num (pos n))
    below_named k level.List n count is = cell tensor k table.Ptr count has is
    below_named k level.Dict n count is = cell tensor k table.Ptr count has is
    below_named k level.Runs n count is = cell tensor k table.Ptr count has is
    below_named k level.Band n count is = cell tensor k table.Ptr count has is

    count_from_named : (k : ℕ) (ls : List Level) (ns : List ℕ) (count : IExpr) → Named count → Named (count_from tensor k ls ns count)
    count_from_named k [] ns count is = is
    count_from_named k (l ∷ ls) [] count is = is
    count_from_named k (l ∷ ls) (n ∷ ns) count is = count_from_named (k + 1) ls ns (below_level tensor k l n count) (below_named k l n count is)

    pub count_named : (ls : List Level) (ns : List ℕ) → Named (count_code tensor ls ns)
    count_named ls ns = count_from_named 0 ls ns (Num (pos 1)) (num (pos 1))

  -- ---- indices
  module _ (s : Scope) (within : (var : ℕ) → is_loop s (Some var) ≡ true → HasLocal var) where
    var_named : (var : ℕ) → is_loop s (Some var) ≡ true → Named (Local var)
    var_named var is = local var (within var is)

    vars_named : (a b : Option ℕ) → is_loop s a ≡ true → is_loop s b ≡ true → Named (vars_code a b)
    vars_named None None ea eb = num (pos 0)
    vars_named None (Some b) ea eb = var_named b eb
    vars_named (Some a) None ea eb = var_named a ea
    vars_named (Some a) (Some b) ea eb = two op.Add (Local a) (Local b) (var_named a ea) (var_named b eb)

    moved_named : (e : IExpr) (k : ℤ) (same : Bool) → Named e → Named (if same then e else Two op.Add e (Num k))
    moved_named e k true is = is
    moved_named e k false is = two op.Add e (Num k) is (num k)

    index_named : (i : Index) → is_index s i ≡ true → Named (index_code i)
    index_named i is =
        let loops : (is_loop s i.first && is_loop s i.second) ≡ true = left (is_loop s i.first && is_loop s i.second) (differ i.first i.second) is in
        moved_named (vars_code i.first i.second) i.offset (int_eq i.offset (pos 0))
        (vars_named i.first i.second (left (is_loop s i.first) (is_loop s i.second) loops) (right (is_loop s i.first) (is_loop s i.second) loops))

    pub indices_named : (at : List Index) → list_all (is_index s) at ≡ true → AllNamed (map index_code at)
    indices_named [] all = refl
    indices_named (i ∷ at) all = both (is_named_in layout (index_code i)) (list_all (is_named_in layout) (map index_code at)) (index_named i (left (is_index s i) (list_all (is_index s) at) all)) (indices_named at (right (is_index s i) (list_all (is_index s) at) all))

-- ---- expressions

module _ (layout : Layout) (h : Heads) (s : Scope) (count : ℕ) (same : s.headers ≡ h.headers) (long : length h.headers ≤ length layout.formats) (within : IsWithin s count) where
  abbrev IsNamed : Lowered → Type 0
  IsNamed v = (list_all (is_named layout) (prelude v) ≡ true) × (is_named_in layout v.value ≡ true)

  abbrev CodeIsNamed : Expr → Type 0
  CodeIsNamed x = (next : ℕ) → is_named_expr x s ≡ true → count ≤ next → (value_code h x next).next + 1 ≤ layout.locals → IsNamed (value_code h x next)

  tensor_named : (tensor : ℕ) (test : Header → Bool) → holds_of test (slice_get s.headers tensor) ≡ true → has_tensor layout tensor ≡ true
  tensor_named tensor test e =
      let lt = holds_there test s.headers tensor e in
      let few : length s.headers ≤ length layout.formats = subst (λ (hs : List Header). length hs ≤ length layout.formats) (sym same) long in
      lt-ltb tensor (length layout.formats) (omega (arith, lt, few))

  access : (tensor : ℕ) (at : List Index) (line : ℕ) → CodeIsNamed (e.Read tensor at line)
  access tensor at line next named low room =
      let code = code_read h next tensor at line in
      let room' : (next + 1) + 1 ≤ layout.locals = subst (λ (v : Lowered). v.next + 1 ≤ layout.locals) code room in
      let is = sym (named_read s tensor at line) ∙ named in
      let test : Header → Bool = λ (x : Header). length at == length x.format.levels in
      let has = tensor_named tensor test (left (holds_of test (slice_get s.headers tensor)) (list_all (is_index s) at) is) in
      let here = local_below layout next (omega (arith, room')) in
      let behind = local_below layout (next + 1) (omega (arith, room')) in
      let xs = indices_named layout s (λ var bound. local_below layout var (omega (arith, within var (loop_is_bound s var bound), low, room'))) at (right (holds_of test (slice_get s.headers tensor)) (list_all (is_index s) at) is) in
      subst IsNamed (sym code) (read_named layout tensor next has here behind (format_of h tensor).levels (shape_of h tensor) (format_of h tensor).fill (map index_code at) xs, local layout next here)

  rested_named : (shallow : Bool) (v : Lowered) → (rested_where shallow v).next ≤ layout.locals → IsNamed v → IsNamed (rested_where shallow v)
  rested_named true v room is = (steps_append layout v.steps [] is.0 refl, is.1)
  rested_named false v room is =
      let here = local_below layout v.next (omega (arith, room)) in
      (steps_append layout v.steps (step_to v.next v.value ∷ []) is.0 (step layout v.next v.value [] here is.1 refl), local layout v.next here)

  pair : (o : Op) (x y : Expr) → CodeIsNamed x → CodeIsNamed y → CodeIsNamed (e.Two o x y)
  pair o x y one other next named low room =
      let first_code = value_code h x next in
      let a = rested first_code in
      let b = value_code h y a.next in
      let code = code_two h next o x y in
      let room' : b.next + 1 ≤ layout.locals = subst (λ (v : Lowered). v.next + 1 ≤ layout.locals) code room in
      let is = sym (named_two s o x y) ∙ named in
      let more = code_grows h y a.next in
      let grown = rested_grows h first_code in
      let first = rested_named (is_shallow first_code.depth) first_code (omega (arith, room', more)) (one next (left (is_named_expr x s) (is_named_expr y s) is) low (omega (arith, room', more, grown))) in
      let second = other a.next (right (is_named_expr x s) (is_named_expr y s) is) (omega (arith, low, code_grows h x next, grown)) room' in
      subst IsNamed (sym code) (steps_append layout a.steps b.steps first.0 second.0, two layout o a.value b.value first.1 second.1)

  kinds : Kinds CodeIsNamed
  kinds = record {
    num = λ n next named low room. subst IsNamed (sym (code_num h next n)) (refl, num layout n);
    var = λ v line next named low room.
        let code = code_var h next v line in
        let room' : next + 1 ≤ layout.locals = subst (λ (u : Lowered). u.next + 1 ≤ layout.locals) code room in
        subst IsNamed (sym code) (refl, local layout v (local_below layout v (omega (arith, within v (sym (named_var s v line) ∙ named), low, room'))));
    read = access;
    neg = λ x part next named low room.
        let code = code_neg h next x in
        let v = value_code h x next in
        let room' : (rested v).next + 1 ≤ layout.locals = subst (λ (u : Lowered). u.next + 1 ≤ layout.locals) code room in
        let inner = rested_named (is_shallow v.depth) v (omega (arith, room')) (part next (sym (named_neg s x) ∙ named) low (omega (arith, room', rested_grows h v))) in
        subst IsNamed (sym code) (inner.0, neg layout (rested v).value inner.1);
    two = pair;
  }

  code_is_named : (x : Expr) → CodeIsNamed x
  code_is_named = by_kind CodeIsNamed kinds

pub values_are_named : ValuesAreNamed
values_are_named layout h s count x next same long within named low room = code_is_named layout h s count same long within x next named low room
