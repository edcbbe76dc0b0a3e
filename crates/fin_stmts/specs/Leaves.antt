-- What the codes of the leaves of a loop's nest are, and that of the nest.
use Rattle.std.specs.Prelude.{◌≡◌, ℕ, ◌≤◌, Bool, true, false, List, map}
use Rattle.std.specs.List.{All}
use Rattle.fin_ast.specs.Bindings.{bindings_of_all}
use Rattle.fin_ast.specs.Scope.{Scope, is_among, are_named}
use Rattle.fin_ir.specs.Declares.{declares, some_of}
use Rattle.fin_ir.specs.Named.{is_named}
use Rattle.fin_nest.specs.Sparing.{Staying, all_spare, spares}
use Rattle.fin_simp.specs.Fresh.{fresh_in}
use Rattle.fin_style_point.specs.declared.nest.Nest as point
use Rattle.fin_descend.specs.declared.flattening.Leaf.{Leaf}
use Rattle.fin_descend.specs.declared.lowered.Lowered.{Lowered}
use Rattle.fin_descend.specs.Flat.{AtPoint, LeafMeans, MeanLeaves, OfLeaf, OfFixed}
use Rattle.fin_descend.specs.Naming.{NamedNest}
use Rattle.fin_descend.specs.Promises.{MeansIn}
use Rattle.fin_descend.specs.Sparing.{KeepsTo}
use Rattle.fin_perform.specs.Layouts.{variables_in, layout_with}
use Rattle.fin_perform.specs.Naming.{IsScope, AllBelow, AreIn}
use Rattle.fin_loops.specs.Loops.{Loop, OfLoop, changed_in}
use Rattle.fin_stmts.specs.declared.entered.Site.{Site}
use Rattle.fin_stmts.specs.declared.leaves.LeafCodes.{LeafCodes}
use Rattle.fin_stmts.specs.Lowering.{HasSource}
use Rattle.fin_stmts.specs.Sites.{Comes, IsFixed}

-- a leaf as a descent leaves it
pub record IsLeaf (s : Site) (ds : List Bool) (leaf : Leaf) : Type 0 where
  pub comes : OfLeaf (Comes s ds) leaf
  pub fixed : OfFixed (IsFixed s) leaf
  pub point : AtPoint leaf

-- what stays is none of the variables that the loop's body binds, and none of the tensors that it changes
pub record StaysOut (l : Loop) (s : Staying) : Type 0 where
  pub locals : (y : ℕ) → s.locals y ≡ true → is_among (bindings_of_all l.body) y ≡ false
  pub tensors : (t : ℕ) → s.tensors t ≡ true → changed_in l t ≡ false

abbrev pub OfBody : Loop → Type 0
OfBody l = HasSource l.checked l.body l.here

-- a scope of the program in which the names of the loop's body are good
pub record NamesBody (l : Loop) (sc : Scope) : Type 0 where
  pub scope : IsScope l.checked sc (variables_in l.checked)
  pub below : AllBelow (variables_in l.checked) (bindings_of_all l.body)
  pub named : are_named l.body sc ≡ true

-- the code of a leaf
pub record LeafLowers (l : Loop) (leaf : Leaf) (m : Lowered) : Type 0 where
  pub means : OfBody l → LeafMeans (OfLoop l) m.room leaf m.code
  pub spares : (s : Staying) → StaysOut l s → OfLeaf (KeepsTo s) leaf → spares s m.code ≡ true
  pub declares : (t : ℕ) → declares m.code t ≡ true → is_among (fresh_in l.body) t ≡ true
  pub names : (room : ℕ) (sc : Scope) → m.room ≤ room → NamesBody l sc → OfLeaf (NamedNest (layout_with l.checked room)) leaf
      → is_named (layout_with l.checked room) m.code ≡ true

-- those of some leaves
pub record LeavesLower (l : Loop) (leaves : List Leaf) (m : LeafCodes) : Type 0 where
  pub means : OfBody l → MeanLeaves (OfLoop l) leaves m.codes m.room
  pub spares : (s : Staying) → StaysOut l s → All (OfLeaf (KeepsTo s)) leaves → all_spare (map (spares s) m.codes) ≡ true
  pub declares : (t : ℕ) → some_of (map declares m.codes) t ≡ true → is_among (fresh_in l.body) t ≡ true
  pub names : (room : ℕ) (sc : Scope) → m.room ≤ room → NamesBody l sc → All (OfLeaf (NamedNest (layout_with l.checked room))) leaves
      → AreIn l.checked room m.codes

-- the code of a nest
pub record NestLowers (l : Loop) (n : point.Nest) (m : Lowered) : Type 0 where
  pub means : OfBody l → MeansIn (OfLoop l) m n
  pub spares : (s : Staying) → StaysOut l s → KeepsTo s n → spares s m.code ≡ true
  pub declares : (t : ℕ) → declares m.code t ≡ true → is_among (fresh_in l.body) t ≡ true
  pub names : (room : ℕ) (sc : Scope) → m.room ≤ room → NamesBody l sc → NamedNest (layout_with l.checked room) n
      → is_named (layout_with l.checked room) m.code ≡ true
