-- What names only locals and tensors of a layout: looplets, nests, the frames of their steps, and filled frames.
use Rattle.std.specs.Prelude.{◌≡◌, ℕ, ◌+◌, ◌≤◌, true, List, [], ◌∷◌, length, if◌then◌else◌}
use Rattle.std.specs.List.{All, list_all}
use Rattle.fin_ir.specs.declared.expression.IExpr.{IExpr}
use Rattle.fin_ir.specs.declared.code.Code.{Code}
use Rattle.fin_ir.specs.declared.layout.Layout.{Layout}
use Rattle.fin_ir.specs.Named.{has_local, has_tensor, is_named_in, is_named}
use Rattle.fin_looplet.specs.declared.looplet.Leaf.{Leaf}
use Rattle.fin_looplet.specs.declared.looplet.Leaf.TheVariants.{Fill, Value, Sub}
use Rattle.fin_looplet.specs.declared.looplet.Looplet.{Looplet, Row_of-Phase, end_of-Phase, more_of-Phase, Row_of-Walker, end_of-Walker, more_of-Walker, Row_of-Case, end_of-Case, more_of-Case, end_of-Looplet, more_of-Looplet}
use Rattle.fin_looplet.specs.declared.looplet.Looplet.TheVariants.{Run, Spike, Lookup, Sequence', Stepper', Jumper', Switch', Shift'}
use Rattle.fin_nest.specs.Entries.{looplets}
use Rattle.fin_nest.specs.Frames.{fill}
use Rattle.fin_nest.specs.Styles.{style_of, is_point_style}
use Rattle.fin_style_point.specs.declared.nest.Nest.{Nest}
use Rattle.fin_style_point.specs.Parts.{all_looplets}
use Rattle.fin_descend.specs.Parts.{parts_of, frame_of}

abbrev pub HasLocal : Layout → ℕ → Type 0
HasLocal layout x = has_local layout x ≡ true

abbrev pub HasTensor : Layout → ℕ → Type 0
HasTensor layout t = has_tensor layout t ≡ true

abbrev pub NamedIn : Layout → IExpr → Type 0
NamedIn layout e = is_named_in layout e ≡ true

-- ---- looplets

abbrev pub LeafNamed : Layout → Leaf → Type 0
LeafNamed layout (Fill f) = Unit {0}
LeafNamed layout (Value e) = NamedIn layout e
LeafNamed layout (Sub tensor level place there) =
    HasTensor layout tensor × (NamedIn layout place × NamedIn layout there)

-- Each expression in the looplet, however deep, and the locals that it owns: a walker's cursor and the local above, and a
-- lookup's coordinate.
abbrev mutual
  pub LoopletNamed : Layout → Looplet → Type 0
  LoopletNamed layout (Run leaf) = LeafNamed layout leaf
  LoopletNamed layout (Spike body tail) = LeafNamed layout body × LeafNamed layout tail
  LoopletNamed layout (Lookup coord leaf) = HasLocal layout coord × LeafNamed layout leaf
  LoopletNamed layout (Sequence' n phases) = PhasesNamed layout phases
  LoopletNamed layout (Stepper' p walker) = WalkerNamed layout walker
  LoopletNamed layout (Jumper' p walker) = WalkerNamed layout walker
  LoopletNamed layout (Switch' n cases) = CasesNamed layout cases
  LoopletNamed layout (Shift' by p (more_of-Looplet child end_of-Looplet)) =
      NamedIn layout by × LoopletNamed layout child

  pub PhasesNamed : {n : _} → Layout → Row_of-Phase n → Type 0
  PhasesNamed layout end_of-Phase = Unit {0}
  PhasesNamed layout (more_of-Phase stop child rest) =
      NamedIn layout stop × (LoopletNamed layout child × PhasesNamed layout rest)

  pub WalkerNamed : {n : _} → Layout → Row_of-Walker n → Type 0
  WalkerNamed layout end_of-Walker = Unit {0}
  WalkerNamed layout (more_of-Walker cursor seek stop child rest) =
      HasLocal layout (cursor + 1) × (NamedIn layout seek × (NamedIn layout stop × LoopletNamed layout child))

  pub CasesNamed : {n : _} → Layout → Row_of-Case n → Type 0
  CasesNamed layout end_of-Case = Unit {0}
  CasesNamed layout (more_of-Case test child rest) =
      NamedIn layout test × (LoopletNamed layout child × CasesNamed layout rest)

abbrev pub EachNamed : Layout → List Looplet → Type 0
EachNamed layout [] = Unit {0}
EachNamed layout (l ∷ rest) = LoopletNamed layout l × EachNamed layout rest

-- ---- nests

-- Its first free local need not be in the layout: only a step takes it.
pub record NamedNest (layout : Layout) (n : Nest) : Type 0 where
  pub var : HasLocal layout n.var
  pub lo : NamedIn layout n.lo
  pub hi : NamedIn layout n.hi
  pub reads : EachNamed layout (looplets n.reads)
  pub masks : EachNamed layout (looplets n.masks)

-- the first local behind those that the step takes
abbrev pub step_end : Nest → ℕ
step_end n = if is_point_style (style_of (all_looplets n)) then n.next + 1 else n.next + 3

-- where there is room for a step, its frame is named, and so are the parts
abbrev pub PartsAreNamed : Type 0
PartsAreNamed = (layout : Layout) (n : Nest) → step_end n ≤ layout.locals → NamedNest layout n
    → (is_named layout (frame_of n) ≡ true) × All (NamedNest layout) (parts_of n)

-- so is a frame that is filled with codes, each of which is
abbrev pub FillsAreNamed : Type 0
FillsAreNamed = (layout : Layout) (frame : Code) (cs : List Code) → is_named layout frame ≡ true
    → list_all (is_named layout) cs ≡ true → is_named layout (fill frame cs) ≡ true

-- ---- larger layouts

-- each local and tensor of the first is one of the second
pub record Within (less more : Layout) : Type 0 where
  pub locals : less.locals ≤ more.locals
  pub tensors : length less.formats ≤ length more.formats

-- what is named in the first is named in the second
pub record StillNamed (less more : Layout) : Type 0 where
  pub expressions : (e : IExpr) → NamedIn less e → NamedIn more e
  pub codes : (c : Code) → is_named less c ≡ true → is_named more c ≡ true
  pub looplets : (l : Looplet) → LoopletNamed less l → LoopletNamed more l
  pub nests : (n : Nest) → NamedNest less n → NamedNest more n

abbrev pub MoreIsNamed : Type 0
MoreIsNamed = (less more : Layout) → Within less more → StillNamed less more
