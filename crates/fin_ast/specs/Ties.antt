-- Ties between dimensions and loops, and the numbers to which they lead.
use Rattle.std.specs.Prelude.{◌≡◌, ◌≢◌, ◌<◌, ℕ, pos, ◌/◌, ◌%◌, ◌↔◌, ◌⊎◌, Bool, true, false, nat_le, ◌==◌, if◌then◌else◌, List, [], ◌∷◌, Contains, Option, Some, None, slice_get, slice_index_or, filter, filter_map}
use Rattle.std.specs.List.{list_any}
use Rattle.std.specs.Ordering.{int_eq}
use Rattle.fin_ast.specs.declared.place.Place.{Place}
use Rattle.fin_ast.specs.declared.place.Place.TheVariants.{Loop, Let, Use}
use Rattle.fin_ast.specs.declared.place.Tie.{Tie}
use Rattle.fin_ast.specs.declared.tree.Index.{Index}

-- the variable of an index that is no more than a variable
abbrev pub bare_variable : Bool → Option ℕ → Option ℕ → Bool → Option ℕ
bare_variable false (Some var) None true = Some var
bare_variable _ _ _ _ = None

abbrev pub bare : Index → Option ℕ
bare i = bare_variable i.loose i.first i.second (int_eq i.offset (pos 0))

-- a loop of that variable without range
abbrev pub is_open_loop : ℕ → Place → Bool
is_open_loop var (Loop v None line) = v == var
is_open_loop var (Loop v (Some range) line) = false
is_open_loop var Let = false
is_open_loop var (Use dimension i line) = false

abbrev pub is_open : List Place → ℕ → Bool
is_open places var = list_any (is_open_loop var) places

abbrev pub tie_at : (ℕ → Bool) → ℕ → ℕ → Option ℕ → Option Tie
tie_at free dimension line None = None
tie_at free dimension line (Some var) = if free var then Some (record { dimension = dimension; var = var; line = line }) else None

-- the tie that a place makes, where these variables are those of loops without range
abbrev pub tie_of : (ℕ → Bool) → Place → Option Tie
tie_of free (Loop var range line) = None
tie_of free Let = None
tie_of free (Use dimension i line) = tie_at free dimension line (bare i)

-- the ties in the order of the text
abbrev pub ties_of : List Place → List Tie
ties_of places = filter_map (tie_of (is_open places)) places

-- a dimension, or the loop of a variable
pub data Node : Type 0 where
  Dimension : ℕ → Node
  OfLoop : ℕ → Node

-- a tie leads from the one to the other
abbrev pub AreTied : List Tie → Node → Node → Type 0
AreTied ties a b = (t : Tie) × Contains ties t × (((a ≡ Dimension t.dimension) × (b ≡ OfLoop t.var)) ⊎ ((a ≡ OfLoop t.var) × (b ≡ Dimension t.dimension)))

-- a chain of ties leads from the one over these to the other
abbrev pub IsChain : List Tie → Node → List Node → Node → Type 0
IsChain ties a [] b = a ≡ b
IsChain ties a (c ∷ over) b = AreTied ties a c × IsChain ties c over b

abbrev pub AreJoined : List Tie → Node → Node → Type 0
AreJoined ties a b = (over : List Node) × IsChain ties a over b

-- the shapes that are given: level k of the tensor t is the dimension 8 t + k
abbrev pub Shapes : Type 0
Shapes = List (Option (List ℕ))

abbrev pub number_in : Option (List ℕ) → ℕ → Option ℕ
number_in None level = None
number_in (Some shape) level = slice_get shape level

-- the known number of a dimension
abbrev pub known : Shapes → ℕ → Option ℕ
known shapes dimension = number_in (slice_index_or shapes (dimension / 8) None) (dimension % 8)

-- two unequal known numbers are joined
pub record IsUneven (shapes : Shapes) (ties : List Tie) : Type 0 where
  pub first : ℕ
  pub second : ℕ
  pub number : ℕ
  pub other : ℕ
  pub first_known : known shapes first ≡ Some number
  pub second_known : known shapes second ≡ Some other
  pub differ : number ≢ other
  pub joined : AreJoined ties (Dimension first) (Dimension second)

abbrev pub ties_up_to : ℕ → List Tie → List Tie
ties_up_to line ties = filter (λ t. nat_le t.line line) ties

-- the least line up to which the ties join two unequal known numbers
pub record IsFirstUneven (shapes : Shapes) (ties : List Tie) (line : ℕ) : Type 0 where
  pub uneven : IsUneven shapes (ties_up_to line ties)
  pub least : (before : ℕ) → before < line → ¬ IsUneven shapes (ties_up_to before ties)

-- the number to which a dimension or loop is joined
abbrev pub HasExtent : Shapes → List Tie → Node → ℕ → Type 0
HasExtent shapes ties a n = (d : ℕ) × (known shapes d ≡ Some n) × AreJoined ties a (Dimension d)

abbrev pub Extents : Type 0
Extents = Node → Option ℕ

-- each dimension and loop has exactly the number to which it is joined
abbrev pub AreExtents : Shapes → List Tie → Extents → Type 0
AreExtents shapes ties extent = (a : Node) (n : ℕ) → (extent a ≡ Some n) ↔ HasExtent shapes ties a n
