-- The steps to a position in a level name the locals of the position and behind it, the tensor, and what the indices name.
use Rattle.std.proofs.Common.{◌≡◌, ℕ, zero, suc, ◌+◌, Bool, true, ◌&&◌, List, [], ◌∷◌, ◌++◌, map, take, refl, ◌∙◌, pos}
use Rattle.std.specs.List.{list_all}
use Rattle.fin_base.specs.declared.terms.Op.{Op}
use Rattle.fin_base.specs.declared.terms.Op.TheVariants as op
use Rattle.fin_tensor.specs.declared.format.Level.{Level}
use Rattle.fin_tensor.specs.declared.format.Level.TheVariants as level
use Rattle.fin_ir.specs.declared.layout.Layout.{Layout}
use Rattle.fin_ir.specs.declared.expression.Table.{Table}
use Rattle.fin_ir.specs.declared.expression.Table.TheVariants as table
use Rattle.fin_ir.specs.declared.expression.IExpr.{IExpr}
use Rattle.fin_ir.specs.declared.expression.IExpr.TheVariants.{Num, Local, Two, Pick, Cell, Seek, Val}
use Rattle.fin_ir.specs.Named.{has_local, has_tensor, expression_step, is_named_in, code_step, is_named}
use Rattle.fin_ir.proofs.Nodes.{of_two, of_pick, of_cell, of_seek, of_val, of_assign}
use Rattle.fin_stage.proofs.Alive.{left, right, both}
use Rattle.fin_read.specs.Steps.{Step, assign_of}
use Rattle.fin_read.specs.Reads.{none, in_box, fibre_begin, fibre_end, where_placed, sought, found, in_block, block_length, step_to, level_steps, levels_steps, place_of}
use Rattle.fin_read.proofs.Naming.{num, local, AllNamed, AreNamed, box}
use Rattle.fin_enter.specs.Positions.{position_steps}

module _ (layout : Layout) where
  abbrev pub Named : IExpr → Type 0
  Named x = is_named_in layout x ≡ true

  abbrev pub HasLocal : ℕ → Type 0
  HasLocal k = has_local layout k ≡ true

  abbrev pub HasTensor : ℕ → Type 0
  HasTensor t = has_tensor layout t ≡ true

  -- ---- nodes

  pub two : (o : Op) (x y : IExpr) → Named x → Named y → Named (Two o x y)
  two o x y is and = of_two Bool (expression_step layout) o x y ∙ both (is_named_in layout x) (is_named_in layout y) is and

  pub pick : (x y z : IExpr) → Named x → Named y → Named z → Named (Pick x y z)
  pick x y z first second third =
      of_pick Bool (expression_step layout) x y z
      ∙ both (is_named_in layout x && is_named_in layout y) (is_named_in layout z) (both (is_named_in layout x) (is_named_in layout y) first second) third

  pub cell : (tensor k : ℕ) (t : Table) (x : IExpr) → HasTensor tensor → Named x → Named (Cell tensor k t x)
  cell tensor k t x has is = of_cell Bool (expression_step layout) tensor k t x ∙ both (has_tensor layout tensor) (is_named_in layout x) has is

  pub seek : (tensor k : ℕ) (x y z : IExpr) → HasTensor tensor → Named x → Named y → Named z → Named (Seek tensor k x y z)
  seek tensor k x y z has first second third =
      of_seek Bool (expression_step layout) tensor k x y z
      ∙ both (has_tensor layout tensor && is_named_in layout x && is_named_in layout y) (is_named_in layout z)
      (both (has_tensor layout tensor && is_named_in layout x) (is_named_in layout y) (both (has_tensor layout tensor) (is_named_in layout x) has first) second) third

  pub val : (tensor : ℕ) (x : IExpr) → HasTensor tensor → Named x → Named (Val tensor x)
  val tensor x has is = of_val Bool (expression_step layout) tensor x ∙ both (has_tensor layout tensor) (is_named_in layout x) has is

  -- ---- steps

  pub step : (to : ℕ) (x : IExpr) (rest : List Step) → HasLocal to → Named x → AreNamed layout rest → AreNamed layout (step_to to x ∷ rest)
  step to x rest has is more =
      both (is_named layout (assign_of (step_to to x))) (list_all (is_named layout) (map assign_of rest))
      (of_assign Bool (code_step layout) to x ∙ both (has_local layout to) (is_named_in layout x) has is) more

  pub steps_append : (a b : List Step) → AreNamed layout a → AreNamed layout b → AreNamed layout (a ++ b)
  steps_append [] b first second = second
  steps_append (s ∷ a) b first second =
      both (is_named layout (assign_of s)) (list_all (is_named layout) (map assign_of (a ++ b)))
      (left (is_named layout (assign_of s)) (list_all (is_named layout) (map assign_of a)) first)
      (steps_append a b (right (is_named layout (assign_of s)) (list_all (is_named layout) (map assign_of a)) first) second)

  some_named : (k : ℕ) (xs : List IExpr) → AllNamed layout xs → AllNamed layout (take k xs)
  some_named zero xs all = refl
  some_named (suc k) [] all = refl
  some_named (suc k) (x ∷ xs) all =
      both (is_named_in layout x) (list_all (is_named_in layout) (take k xs)) (left (is_named_in layout x) (list_all (is_named_in layout) xs) all)
      (some_named k xs (right (is_named_in layout x) (list_all (is_named_in layout) xs) all))

  -- ---- a position

  module _ (tensor at : ℕ) (has : HasTensor tensor) (here : HasLocal at) (behind : HasLocal (at + 1)) where
    placed : (value : IExpr) → Named value → AreNamed layout (step_to at (where_placed at value) ∷ [])
    placed value is =
        step at (where_placed at value) [] here
        (pick (Two op.Lt (Local at) (Num (pos 0))) none value (two op.Lt (Local at) (Num (pos 0)) (local layout at here) (num layout (pos 0))) (num layout _) is) refl

    begin : (k : ℕ) → Named (fibre_begin (place_of tensor k at))
    begin k = cell tensor k table.Ptr (Local at) has (local layout at here)

    end : (k : ℕ) → Named (fibre_end (place_of tensor k at))
    end k = cell tensor k table.Ptr (Two op.Add (Local at) (Num (pos 1))) has (two op.Add (Local at) (Num (pos 1)) (local layout at here) (num layout (pos 1)))

    pub long : (k : ℕ) → Named (block_length (place_of tensor k at))
    long k = two op.Sub (fibre_end (place_of tensor k at)) (fibre_begin (place_of tensor k at)) (end k) (begin k)

    search_then : (k : ℕ) (x : IExpr) (rest : List Step) → Named x → AreNamed layout rest → AreNamed layout (step_to (at + 1) (sought (place_of tensor k at) x) ∷ rest)
    search_then k x rest is more =
        step (at + 1) (sought (place_of tensor k at) x) rest behind
        (seek tensor k (fibre_begin (place_of tensor k at)) (fibre_end (place_of tensor k at)) x has (begin k) (end k) is) more

    found_named : (k : ℕ) (x : IExpr) → Named x → Named (found (place_of tensor k at) x)
    found_named k x is =
        let there : IExpr = Local (at + 1) in
        let is_there = local layout (at + 1) behind in
        let key : IExpr = Two op.Eq (Cell tensor k table.Idx there) x in
        let key_named = two op.Eq (Cell tensor k table.Idx there) x (cell tensor k table.Idx there has is_there) is in
        let end_here : IExpr = fibre_end (place_of tensor k at) in
        pick (Two op.Lt there end_here) (Pick key there none) none (two op.Lt there end_here is_there (end k)) (pick key there none key_named is_there (num layout _)) (num layout _)

    block_named : (k : ℕ) → Named (in_block (place_of tensor k at))
    block_named k =
        let there : IExpr = Local (at + 1) in
        let is_there = local layout (at + 1) behind in
        let long_here : IExpr = block_length (place_of tensor k at) in
        let value : IExpr = Two op.Add (fibre_begin (place_of tensor k at)) there in
        pick (Two op.Lt there (Num (pos 0))) none (Pick (Two op.Lt there long_here) value none) (two op.Lt there (Num (pos 0)) is_there (num layout (pos 0))) (num layout _)
        (pick (Two op.Lt there long_here) value none (two op.Lt there long_here is_there (long k)) (two op.Add (fibre_begin (place_of tensor k at)) there (begin k) is_there) (num layout _))

    one_level : (k : ℕ) (l : Level) (n : ℕ) (x : IExpr) → Named x → AreNamed layout (level_steps (place_of tensor k at) l n x)
    one_level k level.Dense n x is =
        let row : IExpr = Two op.Mul (Local at) (Num (pos n)) in
        placed (Two op.Add row x) (two op.Add row x (two op.Mul (Local at) (Num (pos n)) (local layout at here) (num layout (pos n))) is)
    one_level k level.List n x is = search_then k x (step_to at (where_placed at (found (place_of tensor k at) x)) ∷ []) is (placed (found (place_of tensor k at) x) (found_named k x is))
    one_level k level.Dict n x is = search_then k x (step_to at (where_placed at (found (place_of tensor k at) x)) ∷ []) is (placed (found (place_of tensor k at) x) (found_named k x is))
    one_level k level.Runs n x is = search_then k x (step_to at (where_placed at (Local (at + 1))) ∷ []) is (placed (Local (at + 1)) (local layout (at + 1) behind))
    one_level k level.Band n x is =
        let start : IExpr = Cell tensor k table.Start (Local at) in
        step (at + 1) (Two op.Sub x start) (step_to at (where_placed at (in_block (place_of tensor k at))) ∷ []) behind
        (two op.Sub x start is (cell tensor k table.Start (Local at) has (local layout at here))) (placed (in_block (place_of tensor k at)) (block_named k))

    all_levels : (k : ℕ) (ls : List Level) (ns : List ℕ) (xs : List IExpr) → AllNamed layout xs → AreNamed layout (levels_steps (place_of tensor k at) ls ns xs)
    all_levels k [] ns xs all = refl
    all_levels k (l ∷ ls) [] xs all = refl
    all_levels k (l ∷ ls) (n ∷ ns) [] all = refl
    all_levels k (l ∷ ls) (n ∷ ns) (x ∷ xs) all =
        steps_append (level_steps (place_of tensor k at) l n x) (levels_steps (place_of tensor (k + 1) at) ls ns xs)
        (one_level k l n x (left (is_named_in layout x) (list_all (is_named_in layout) xs) all)) (all_levels (k + 1) ls ns xs (right (is_named_in layout x) (list_all (is_named_in layout) xs) all))

    pub position_named : (levels : List Level) (shape : List ℕ) (xs : List IExpr) (k : ℕ) → AllNamed layout xs → AreNamed layout (position_steps tensor levels shape xs k at)
    position_named levels shape xs k all =
        let some : AllNamed layout (take k xs) = some_named k xs all in
        step at (Pick (in_box (take k shape) (take k xs)) (Num (pos 0)) none) (levels_steps (place_of tensor 0 at) levels (take k shape) (take k xs)) here
        (pick (in_box (take k shape) (take k xs)) (Num (pos 0)) none (box layout (take k shape) (take k xs) some) (num layout (pos 0)) (num layout _))
        (all_levels 0 levels (take k shape) (take k xs) some)
