-- Classes of joined dimensions and loops: a label for each class, and a number for each label.
use Rattle.std.specs.Prelude.{◌≡◌, ◌≢◌, ◌<◌, ◌==◌, ◌++◌, [], ◌∷◌, ℕ, Bool, MatchBool, List, map, All, Contains, Option, Some, None, length, slice_get, slice_index_or, slice_set, if◌then◌else◌}
use Rattle.std.specs.Option.{option_or}
use Rattle.fin_ast.specs.declared.place.Tie.{Tie}
use Rattle.fin_ast.specs.Ties.{Node, Dimension, OfLoop, AreJoined, Shapes, known, HasExtent, IsUneven}
use Rattle.fin_dims.specs.declared.classes.Classes.{Classes}

abbrev pub label_through : List ℕ → Option ℕ → Option ℕ
label_through labels None = None
label_through labels (Some dimension) = slice_get labels dimension

-- a loop has the label of a dimension that it is tied to, its anchor
abbrev pub label_of : List (Option ℕ) → List ℕ → Node → Option ℕ
label_of anchors labels (Dimension d) = slice_get labels d
label_of anchors labels (OfLoop var) = label_through labels (slice_index_or anchors var None)

abbrev pub number_at : List (Option ℕ) → Option ℕ → Option ℕ
number_at numbers None = None
number_at numbers (Some label) = slice_index_or numbers label None

-- both ends of the tie have the same label
abbrev pub HaveLabel : (Node → Option ℕ) → Tie → Type 0
HaveLabel label t = (c : ℕ) × (label (Dimension t.dimension) ≡ Some c) × (label (OfLoop t.var) ≡ Some c)

-- the labels are equal exactly where the ties join, and each label has the known number of its class
pub record IsSettled (shapes : Shapes) (ties : List Tie) (label : Node → Option ℕ) (numbers : List (Option ℕ)) : Type 0 where
  pub kept : (t : Tie) → Contains ties t → HaveLabel label t
  pub sound : (a b : Node) (c : ℕ) → label a ≡ Some c → label b ≡ Some c → AreJoined ties a b
  pub told : (d n : ℕ) → known shapes d ≡ Some n → number_at numbers (label (Dimension d)) ≡ Some n
  pub owned : (a : Node) (n : ℕ) → number_at numbers (label a) ≡ Some n → HasExtent shapes ties a n

-- labels have places for their numbers, and anchors are dimensions that have labels
abbrev pub IsBelow : ℕ → Option ℕ → Type 0
IsBelow n None = Unit {0}
IsBelow n (Some k) = k < n

pub record AreInRange (anchors : List (Option ℕ)) (labels : List ℕ) (numbers : List (Option ℕ)) : Type 0 where
  pub labels_in : All (λ label. label < length numbers) labels
  pub anchors_in : All (IsBelow (length labels)) anchors

-- two known numbers that are unequal
pub record AreUnequal (a b : Option ℕ) : Type 0 where
  pub first : ℕ
  pub second : ℕ
  pub at_first : a ≡ Some first
  pub at_second : b ≡ Some second
  pub differ : first ≢ second

-- two known numbers are equal
abbrev pub AreEqual : Option ℕ → Option ℕ → Type 0
AreEqual a b = (m n : ℕ) → a ≡ Some m → b ≡ Some n → m ≡ n

abbrev pub relabelled : ℕ → ℕ → ℕ → ℕ
relabelled from to label = if label == from then to else label

-- the number at one label, or else that at another, as the first one's
abbrev pub joint : ℕ → ℕ → List (Option ℕ) → List (Option ℕ)
joint from to numbers = slice_set numbers to (option_or (slice_index_or numbers to None) (slice_index_or numbers from None))

abbrev pub number_of : Classes → ℕ → Option ℕ
number_of c label = slice_index_or c.numbers.items label None

-- one class has become another, whose number is equal where both are known
abbrev pub Merges : Classes → Classes → ℕ → ℕ → Type 0
Merges old new from to =
    (new.labels.items ≡ map (relabelled from to) old.labels.items)
    × (new.numbers.items ≡ joint from to old.numbers.items)
    × AreEqual (number_of old to) (number_of old from)

-- two classes have unequal numbers
abbrev pub IsUnequalTo : Classes → ℕ → ℕ → Type 0
IsUnequalTo c from to = AreUnequal (number_of c to) (number_of c from)

abbrev pub AreSettled : Shapes → List Tie → Classes → Type 0
AreSettled shapes ties c = IsSettled shapes ties (label_of c.anchors.items c.labels.items) c.numbers.items

abbrev pub IsReady : Classes → Type 0
IsReady c = AreInRange c.anchors.items c.labels.items c.numbers.items

-- one more tie is settled, or makes the ties uneven
abbrev pub Joins : Classes → Classes → Tie → Bool → Type 0
Joins old new t joined = (shapes : Shapes) (ties : List Tie) → AreSettled shapes ties old → MatchBool joined (AreSettled shapes (ties ++ t ∷ []) new) (IsUneven shapes (ties ++ t ∷ []))
