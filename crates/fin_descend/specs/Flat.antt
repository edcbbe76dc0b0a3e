-- A nest that is laid flat: a frame with a `Skip` for each of its leaves, whose codes are made afterwards.
use Rattle.std.specs.Prelude.{◌≡◌, ◌≤◌, ℕ, max, true, List, [], ◌∷◌, length, map}
use Rattle.std.specs.List.{All, AllZip, list_all}
use Rattle.fin_ir.specs.declared.code.Code.{Code}
use Rattle.fin_ir.specs.declared.code.Code.TheVariants.{Skip}
use Rattle.fin_ir.specs.declared.layout.Layout.{Layout}
use Rattle.fin_ir.specs.Named.{is_named}
use Rattle.fin_looplet.specs.Weight.{RunsAtPoint}
use Rattle.fin_nest.specs.Frames.{fill}
use Rattle.fin_nest.specs.Sparing.{Staying, all_spare, spares}
use Rattle.fin_style_point.specs.declared.nest.Nest.{Nest}
use Rattle.fin_style_point.specs.Parts.{all_looplets}
use Rattle.fin_descend.specs.declared.lowered.Lowered.{Lowered}
use Rattle.fin_descend.specs.declared.lowered.Known.TheVariants as known
use Rattle.fin_descend.specs.declared.stepping.Split.{Split}
use Rattle.fin_descend.specs.declared.flattening.Told.{Told}
use Rattle.fin_descend.specs.declared.flattening.Told.TheVariants as told
use Rattle.fin_descend.specs.declared.flattening.Leaf.{Leaf}
use Rattle.fin_descend.specs.declared.flattening.Leaf.TheVariants.{Point, Fixed, Nothing}
use Rattle.fin_descend.specs.declared.flattening.Flat.{Flat}
use Rattle.fin_descend.specs.Promises.{Family, MeansIn, Tells, MeanEach, Joins}
use Rattle.fin_descend.specs.Sparing.{KeepsTo}
use Rattle.fin_descend.specs.Naming.{NamedNest}
use Rattle.fin_descend.specs.Holes.{all_holes, holes, filled_each}

-- ---- leaves

-- What a caller that is asked of a nest owes: of one that is done at once what it says that it knows of such nests, since
-- its code is made afterwards.
abbrev pub Tells_of : Family → (Nest → Type 0) → Nest → Told → Type 0
Tells_of family fixed n told.Nothing = Tells family n known.Nothing
Tells_of family fixed n told.Fixed = fixed n
Tells_of family fixed n told.Open = Tells family n known.Open

-- a nest that is a leaf itself
abbrev pub one_leaf : Leaf → Flat
one_leaf leaf = record { frame = Skip; leaves = leaf ∷ []; room = 0 }

-- the leaf's nest has the property
abbrev pub OfLeaf : (Nest → Type 0) → Leaf → Type 0
OfLeaf P (Point n) = P n
OfLeaf P (Fixed n) = P n
OfLeaf P Nothing = Unit {0}

-- one that has come to a point has
abbrev pub AtPoint : Leaf → Type 0
AtPoint (Point n) = RunsAtPoint (all_looplets n) n.lo n.hi
AtPoint (Fixed n) = Unit {0}
AtPoint Nothing = Unit {0}

-- one along which the body is a fixed update has
abbrev pub OfFixed : (Nest → Type 0) → Leaf → Type 0
OfFixed P (Point n) = Unit {0}
OfFixed P (Fixed n) = P n
OfFixed P Nothing = Unit {0}

-- the code means the leaf's nest; where nothing is done there is none
abbrev pub LeafMeans : Family → ℕ → Leaf → Code → Type 0
LeafMeans family room (Point n) c = MeansIn family (record { code = c; room = room }) n
LeafMeans family room (Fixed n) c = MeansIn family (record { code = c; room = room }) n
LeafMeans family room Nothing c = c ≡ Skip

-- codes that mean the leaves, one for each
abbrev pub MeanLeaves : Family → List Leaf → List Code → ℕ → Type 0
MeanLeaves family leaves cs room = AllZip (LeafMeans family room) leaves cs

-- ---- a nest

-- what a flat nest is, with codes for its leaves
abbrev pub with_codes : Flat → List Code → ℕ → Lowered
with_codes flat cs room = record { code = fill flat.frame cs; room = max flat.room room }

-- such codes in the frame mean the nest
abbrev pub FlatMeans : Family → Flat → Nest → Type 0
FlatMeans family flat n =
    (cs : List Code) (room : ℕ) → MeanLeaves family flat.leaves cs room → MeansIn family (with_codes flat cs room) n

-- the frame leaves as it is what the nest keeps to, and the leaves keep to it again
abbrev pub FlatSpares : Flat → Nest → Type 0
FlatSpares flat n =
    (s : Staying) → KeepsTo s n → (spares s flat.frame ≡ true) × All (OfLeaf (KeepsTo s)) flat.leaves

-- in a layout with the locals that it needs the frame is named where the nest is, and so are the leaves
abbrev pub FlatNames : Flat → Nest → Type 0
FlatNames flat n = (layout : Layout) → flat.room ≤ layout.locals → NamedNest layout n
    → (is_named layout flat.frame ≡ true) × All (OfLeaf (NamedNest layout)) flat.leaves

-- each hole is for a leaf, and so on; each leaf may come, and what is known of a fixed one is known
pub record Flattens (family : Family) (comes of_fixed : Nest → Type 0) (flat : Flat) (n : Nest) : Type 0 where
  pub holes : holes flat.frame ≡ length flat.leaves
  pub means : FlatMeans family flat n
  pub spares : FlatSpares flat n
  pub names : FlatNames flat n
  pub come : All (OfLeaf comes) flat.leaves
  pub points : All AtPoint flat.leaves
  pub fixed : All (OfFixed of_fixed) flat.leaves

-- ---- the parts of a nest

-- so it is of some nests, each with its frame
pub record FlattenEach (family : Family) (comes of_fixed : Nest → Type 0) (ns : List Nest) (frames : List Code) (leaves : List Leaf) (room : ℕ) : Type 0 where
  pub count : length frames ≡ length ns
  pub holes : all_holes (map holes frames) ≡ length leaves
  pub means : (cs : List Code) (more : ℕ) → MeanLeaves family leaves cs more
      → MeanEach family ns (filled_each frames cs) (max room more)
  pub spares : (s : Staying) → All (KeepsTo s) ns
      → (all_spare (map (spares s) frames) ≡ true) × All (OfLeaf (KeepsTo s)) leaves
  pub names : (layout : Layout) → room ≤ layout.locals → All (NamedNest layout) ns
      → (list_all (is_named layout) frames ≡ true) × All (OfLeaf (NamedNest layout)) leaves
  pub come : All (OfLeaf comes) leaves
  pub points : All AtPoint leaves
  pub fixed : All (OfFixed of_fixed) leaves

-- and of a nest that is divided so
pub record FlattensSplit (family : Family) (comes of_fixed : Nest → Type 0) (split : Split) (flat : Flat) : Type 0 where
  pub holes : holes flat.frame ≡ length flat.leaves
  pub joins : (cs : List Code) (room : ℕ) → MeanLeaves family flat.leaves cs room → Joins family split (with_codes flat cs room)
  pub room : split.room ≤ flat.room
  pub spares : (s : Staying) → spares s split.frame ≡ true → All (KeepsTo s) split.nests
      → (spares s flat.frame ≡ true) × All (OfLeaf (KeepsTo s)) flat.leaves
  pub names : (layout : Layout) → flat.room ≤ layout.locals → is_named layout split.frame ≡ true
      → All (NamedNest layout) split.nests
      → (is_named layout flat.frame ≡ true) × All (OfLeaf (NamedNest layout)) flat.leaves
  pub come : All (OfLeaf comes) flat.leaves
  pub points : All AtPoint flat.leaves
  pub fixed : All (OfFixed of_fixed) flat.leaves
