-- Looplets that are named in a layout: each expression in them is, however deep, and the locals that they own are the
-- layout's.
use Rattle.std.specs.Prelude.{◌≡◌, ◌+◌, true, List, [], ◌∷◌}
use Rattle.fin_ir.specs.declared.layout.Layout.{Layout}
use Rattle.fin_ir.specs.Named.{has_local, has_tensor, is_named_in}
use Rattle.fin_looplet.specs.declared.looplet.Leaf.{Leaf}
use Rattle.fin_looplet.specs.declared.looplet.Leaf.TheVariants.{Fill, Value, Sub}
use Rattle.fin_looplet.specs.declared.looplet.Looplet.{Looplet, Row_of-Phase, end_of-Phase, more_of-Phase, Row_of-Walker, end_of-Walker, more_of-Walker, Row_of-Case, end_of-Case, more_of-Case, end_of-Looplet, more_of-Looplet}
use Rattle.fin_looplet.specs.declared.looplet.Looplet.TheVariants.{Run, Spike, Lookup, Sequence', Stepper', Jumper', Switch', Shift'}

abbrev pub NamedLeaf : Layout → Leaf → Type 0
NamedLeaf layout (Fill f) = Unit {0}
NamedLeaf layout (Value e) = is_named_in layout e ≡ true
NamedLeaf layout (Sub tensor level place there) =
    (has_tensor layout tensor ≡ true) × (is_named_in layout place ≡ true) × (is_named_in layout there ≡ true)

abbrev mutual
  pub NamedLooplet : Layout → Looplet → Type 0
  NamedLooplet layout (Run leaf) = NamedLeaf layout leaf
  NamedLooplet layout (Spike body tail) = NamedLeaf layout body × NamedLeaf layout tail
  NamedLooplet layout (Lookup coord leaf) = (has_local layout coord ≡ true) × NamedLeaf layout leaf
  NamedLooplet layout (Sequence' n phases) = NamedPhases layout phases
  NamedLooplet layout (Stepper' p walker) = NamedWalker layout walker
  NamedLooplet layout (Jumper' p walker) = NamedWalker layout walker
  NamedLooplet layout (Switch' n cases) = NamedCases layout cases
  NamedLooplet layout (Shift' by p (more_of-Looplet child end_of-Looplet)) =
      (is_named_in layout by ≡ true) × NamedLooplet layout child

  pub NamedPhases : {n : _} → Layout → Row_of-Phase n → Type 0
  NamedPhases layout end_of-Phase = Unit {0}
  NamedPhases layout (more_of-Phase stop child rest) =
      (is_named_in layout stop ≡ true) × NamedLooplet layout child × NamedPhases layout rest

  pub NamedWalker : {n : _} → Layout → Row_of-Walker n → Type 0
  NamedWalker layout end_of-Walker = Unit {0}
  NamedWalker layout (more_of-Walker cursor seek stop child rest) =
      (has_local layout cursor ≡ true) × (has_local layout (cursor + 1) ≡ true) × (is_named_in layout seek ≡ true)
      × (is_named_in layout stop ≡ true) × NamedLooplet layout child

  pub NamedCases : {n : _} → Layout → Row_of-Case n → Type 0
  NamedCases layout end_of-Case = Unit {0}
  NamedCases layout (more_of-Case test child rest) =
      (is_named_in layout test ≡ true) × NamedLooplet layout child × NamedCases layout rest

abbrev pub AllNamedLooplets : Layout → List Looplet → Type 0
AllNamedLooplets layout [] = Unit {0}
AllNamedLooplets layout (l ∷ rest) = NamedLooplet layout l × AllNamedLooplets layout rest
