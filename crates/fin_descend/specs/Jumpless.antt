-- Nests without jumpers: the loop's own and its parts.
use Rattle.std.specs.Prelude.{◌≡◌, ◌<◌, List, [], ◌∷◌}
use Rattle.std.specs.List.{All}
use Rattle.fin_looplet.specs.declared.looplet.Looplet.{Looplet, Row_of-Phase, end_of-Phase, more_of-Phase, Row_of-Walker, end_of-Walker, more_of-Walker, Row_of-Case, end_of-Case, more_of-Case, end_of-Looplet, more_of-Looplet}
use Rattle.fin_looplet.specs.declared.looplet.Looplet.TheVariants.{Run, Spike, Lookup, Sequence', Stepper', Jumper', Switch', Shift'}
use Rattle.fin_nest.specs.Styles as style
use Rattle.fin_style_point.specs.declared.nest.Nest.{Nest}
use Rattle.fin_style_point.specs.Parts.{all_looplets}
use Rattle.fin_style_point.specs.Splits.{OfNest}
use Rattle.fin_descend.specs.Parts.{weight_in, parts_of}

-- no jumper stands in the looplet, however deep
abbrev mutual
  pub Jumpless : Looplet → Type 0
  Jumpless (Run leaf) = Unit {0}
  Jumpless (Spike body tail) = Unit {0}
  Jumpless (Lookup coord leaf) = Unit {0}
  Jumpless (Sequence' n phases) = JumplessPhases phases
  Jumpless (Stepper' p walker) = JumplessWalker walker
  Jumpless (Jumper' p walker) = ⊥
  Jumpless (Switch' n cases) = JumplessCases cases
  Jumpless (Shift' by p (more_of-Looplet child end_of-Looplet)) = Jumpless child

  pub JumplessPhases : {n : _} → Row_of-Phase n → Type 0
  JumplessPhases end_of-Phase = Unit {0}
  JumplessPhases (more_of-Phase stop child rest) = Jumpless child × JumplessPhases rest

  pub JumplessWalker : {n : _} → Row_of-Walker n → Type 0
  JumplessWalker end_of-Walker = Unit {0}
  JumplessWalker (more_of-Walker cursor seek stop child rest) = Jumpless child

  pub JumplessCases : {n : _} → Row_of-Case n → Type 0
  JumplessCases end_of-Case = Unit {0}
  JumplessCases (more_of-Case test child rest) = Jumpless child × JumplessCases rest

abbrev pub AllJumpless : List Looplet → Type 0
AllJumpless [] = Unit {0}
AllJumpless (l ∷ rest) = Jumpless l × AllJumpless rest

-- of the loop at the top: with its body, variable, reads and masks, and without jumpers
pub record OfLoop (top n : Nest) : Type 0 where
  pub of : OfNest top n
  pub jumpless : AllJumpless (all_looplets n)

-- so are the parts of each
abbrev pub PartsAreOfLoop : Type 0
PartsAreOfLoop = (top n : Nest) → 0 < weight_in n → OfLoop top n → All (OfLoop top) (parts_of n)

-- and none has the style of jumpers
abbrev pub JumplessDontJump : Type 0
JumplessDontJump = (ls : List Looplet) → AllJumpless ls → style.style_of ls ≡ style.jumper → ⊥
