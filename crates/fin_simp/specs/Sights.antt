-- What is known of a read at a coordinate of the loop that drives it, from the storages alone.
use Rattle.std.specs.Prelude.{ℕ, zero, suc, ◌+◌, Bool, true, false, ◌&&◌, ◌||◌, nat_eq, nat_lt, nat_le, max, if◌then◌else◌, ℤ, pos, negsuc, List, [], ◌∷◌, Option, Some, None, is_none}
use Rattle.fin_base.specs.declared.terms.Proto.{Proto}
use Rattle.fin_tensor.specs.declared.part.Part.{Part}
use Rattle.fin_tensor.specs.Levels.{child_in}
use Rattle.fin_tensor.specs.Pieces as fibre
use Rattle.fin_tensor.specs.Pieces.{Course, walked, followed}
use Rattle.fin_ast.specs.declared.tree.Index.{Index}
use Rattle.fin_ast.specs.Value.{Numbers, place}

-- ---- which loop drives a read

-- the number behind a variable, which is 0 for none; loops and lets bind their variables in the order of these numbers
abbrev pub behind_var : Option ℕ → ℕ
behind_var None = 0
behind_var (Some var) = var + 1

-- the number behind the last bound variable of an index
abbrev pub behind_index : Index → ℕ
behind_index i = max (behind_var i.first) (behind_var i.second)

-- the index of a read that the loop over a variable drives, with its level: the first index with this or a later
-- variable, where it has no later one
abbrev pub one_deeper : Option (ℕ × Index) → Option (ℕ × Index)
one_deeper None = None
one_deeper (Some d) = Some (d.0 + 1, d.1)

abbrev pub driven_index : ℕ → List Index → Option (ℕ × Index)
driven_index var [] = None
driven_index var (i ∷ is) =
    if nat_le (behind_index i) var then one_deeper (driven_index var is)
    else (if nat_eq (behind_index i) (var + 1) then Some (0, i) else None)

-- ---- where it stands

-- at no position, at a position of a level, or at one that isn't known before the body is run
pub data Stand : Type 0 where
  Nowhere : Stand
  At : Part → ℕ → Stand
  Unsettled : Stand

-- inside the extent
abbrev pub inside : ℕ → ℤ → Option ℕ
inside n (pos c) = if nat_lt c n then Some c else None
inside n (negsuc c) = None

abbrev pub child_at : ℕ → Part → ℕ → Option ℕ → Option ℕ
child_at n p q None = None
child_at n p q (Some c) = child_in n p q c

-- the level so many levels down, from a position of the first of these levels
abbrev pub stand_at : Numbers → List ℕ → List Part → List Index → ℕ → Option ℕ → Stand
stand_at vars (n ∷ ns) (p ∷ ps) (i ∷ is) zero (Some q) = At p q
stand_at vars (n ∷ ns) (p ∷ ps) (i ∷ is) (suc k) (Some q) = stand_at vars ns ps is k (child_at n p q (inside n (place vars i)))
stand_at vars ns ps is k at = Nowhere

-- ---- what is seen there

-- a gap; a value that varies; the last coordinate before a break
pub record Sight : Type 0 where
  pub gap : Bool
  pub varies : Bool
  pub ends : Bool

-- every fibre is walked: a gallop and a follow are read as walks
abbrev pub course_of : Proto → Course
course_of proto = walked

-- nothing is stored
abbrev pub empty : Sight
empty = record { gap = true; varies = false; ends = false }

-- at a position that isn't known the body is run at each coordinate
abbrev pub unsettled : Sight
unsettled = record { gap = false; varies = true; ends = false }

abbrev pub is_gap : Course → ℕ → Part → ℕ → ℕ → Bool
is_gap walked n part q c = is_none (child_in n part q c)
is_gap followed n part q c = false

-- along a fibre
abbrev pub fibre_sight : Course → ℕ → Part → ℕ → ℕ → Sight
fibre_sight course n part q c = record { gap = is_gap course n part q c; varies = fibre.varies_at course part q c; ends = fibre.ends_after course part q c }

abbrev pub stand_sight : Course → ℕ → Stand → ℕ → Sight
stand_sight course n Nowhere c = empty
stand_sight course n (At part q) c = fibre_sight course n part q c
stand_sight course n Unsettled c = unsettled

abbrev pub edged : Bool → Sight → Sight
edged edge s = record s { ends = edge || s.ends }

-- at a coordinate of the level, which a loose index may leave: a gap outside, with a break at each end of the extent
abbrev pub sight_at : Index → ℕ → Stand → ℤ → Sight
sight_at i n stand (pos c) = if nat_lt c n then edged (i.loose && nat_eq (c + 1) n) (stand_sight (course_of i.proto) n stand c) else empty
sight_at i n stand (negsuc zero) = edged i.loose empty
sight_at i n stand (negsuc (suc c)) = empty

-- the places of a fibre that a loop goes through
abbrev pub length_at : Proto → Stand → ℕ
length_at proto Nowhere = 0
length_at proto Unsettled = 0
length_at proto (At part q) = fibre.stored_length (course_of proto) part q
