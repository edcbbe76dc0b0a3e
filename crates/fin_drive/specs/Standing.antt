-- The looplet of a driven read shows what the definition of work knows of it, wherever the read stands as that has it;
-- and the looplet of a mask what its test is.
use Rattle.std.specs.Prelude.{◌≡◌, ◌⊎◌, ℕ, ◌+◌, ◌<◌, ◌≤◌, ◌^◌, Bool, true, false, if◌then◌else◌, nat_lt, ℤ, pos, negsuc, ◌-ℤ◌, ◌<ℤ◌, List, length, Option, Some, None, slice_set, IsTrue}
use Rattle.fin_base.specs.declared.terms.Op.{Op}
use Rattle.fin_ast.specs.Value.{Numbers, number, place}
use Rattle.fin_ast.specs.Scope.{differ}
use Rattle.fin_ir.specs.declared.expression.IExpr.{IExpr}
use Rattle.fin_ir.specs.Frozen.{Frozen}
use Rattle.fin_ir.specs.Loads.{part_at}
use Rattle.fin_looplet.specs.declared.looplet.Looplet.{Looplet}
use Rattle.fin_looplet.specs.Names.{Names, Loads}
use Rattle.fin_looplet.specs.View.{Store, value, view, stops, Sight, gap, position}
use Rattle.fin_looplet.specs.Sound.{SoundWithin, Near}
use Rattle.fin_looplet.specs.Locals.{Free, LoadsIn, Owns, ShiftNames, Nested}
use Rattle.fin_tensor.specs.declared.format.Format.{Format}
use Rattle.fin_unfurl.specs.Fibres as storage
use Rattle.fin_unfurl.specs.Fibres.{Asked, asked, IsApart, StandsAt, nowhere, at}
use Rattle.fin_unfurl.specs.Masks.{is_comparison}
use Rattle.fin_simp.specs.Sights.{Stand, Nowhere, At, Unsettled, behind_index}
use Rattle.fin_simp.specs.Lasting.{IsInside}
use Rattle.fin_simp.specs.Work.{Driven, Mask, sight_of, length_of}
use Rattle.fin_drive.specs.declared.reading.Reading.{Reading}
use Rattle.fin_drive.specs.declared.reading.Spot.{Spot}
use Rattle.fin_drive.specs.Looplets.{other, back_offset, back, driven_looplet, mask_looplet}
use Rattle.fin_drive.specs.Watches.{Faces, Decides}
use Rattle.fin_drive.specs.Stopping.{stops_after, stop_count}

-- ---- where a read stands

abbrev pub asked_by : Format → Reading → Spot → Asked
asked_by format r s = asked format r.tensor r.level r.extent s.place s.there r.cursor

-- for the looplet as for the definition of work; one that isn't settled is Unsettled there, and no other is
abbrev pub StandsFor : Store → List ℤ → Asked → Bool → Stand → Type 0
StandsFor ts ls a true Nowhere = StandsAt ts ls a nowhere
StandsFor ts ls a true (At part q) = (s : Frozen) × (part ≡ part_at s.parts a.level) × StandsAt ts ls a (at s q)
StandsFor ts ls a true Unsettled = ⊥
StandsFor ts ls a false Nowhere = ⊥
StandsFor ts ls a false (At part q) = ⊥
StandsFor ts ls a false Unsettled = Unit {0}

-- the index's other variable has a number that is a coordinate, among the numbers that are bound or in locals; 0 where
-- the index names no other
abbrev pub OtherIs : Numbers → Option ℕ → ℕ → Type 0
OtherIs ns None k = k ≡ 0
OtherIs ns (Some y) k = (number ns y ≡ pos k) × (k < 2 ^ 40)

-- The read is the driven one: its index, whose last variable is the loop's and which names no variable twice, its
-- extent, fill and stand. The spot has how far the loop lies behind the level.
pub record IsDriven (ts : Store) (ls : List ℤ) (format : Format) (r : Reading) (s : Spot) (vars : Numbers) (d : Driven) : Type 0 where
  pub index : d.index ≡ r.index
  pub extent : d.extent ≡ r.extent
  pub small : r.extent ≤ 2 ^ 40
  pub fill : d.fill ≡ format.fill
  pub bound : r.var < length vars
  pub last : behind_index r.index ≡ r.var + 1
  pub differs : differ r.index.first r.index.second ≡ true
  pub stands : StandsFor ts ls (asked_by format r s) r.settled d.stand
  pub other_number : ℕ
  pub others : OtherIs vars (other r) other_number
  pub behind : value ts ls s.by ≡ back_offset r.index.offset -ℤ pos other_number

-- along a region the index stays inside its extent, or may leave it
pub record StaysIn (r : Reading) (vars : Numbers) (d : Driven) (lo hi : ℕ) : Type 0 where
  pub top : hi ≤ 2 ^ 40
  pub inside : (c : ℕ) → lo ≤ c → c < hi → IsInside d.index d.extent (place (slice_set vars r.var (pos c)) d.index)

-- ---- what the looplet shows

-- wherever the read is the driven one, and at each coordinate of a region along which it stays
abbrev pub Along : Format → Reading → Spot → (Store → List ℤ → Numbers → Driven → ℕ → ℕ → Type 0) → Type 0
Along format r s P = (ts : Store) (ls : List ℤ) (vars : Numbers) (d : Driven) (lo hi : ℕ)
    → IsDriven ts ls format r s vars d → StaysIn r vars d lo hi → (c : ℕ) → lo ≤ c → c < hi → P ts ls vars d hi c

-- the gaps, what varies, and where pieces end, but at the region's last coordinate
abbrev pub ShowsDriven : Format → Reading → Spot → Looplet → Type 0
ShowsDriven format r s l = (end : ℤ)
    → Along format r s (λ ts ls vars d hi c. Faces (view ts ls l end (pos c)) (sight_of vars r.var c d) d.fill (c + 1 < hi))

abbrev pub IsSoundDriven : Format → Reading → Spot → Looplet → Type 0
IsSoundDriven format r s l = Along format r s (λ ts ls vars d hi c. SoundWithin Near ts ls l (λ j. j <ℤ pos hi) (pos c))

-- what is shown at a coordinate of the level, which a loose index may leave: the fill outside
abbrev pub shown_at : (ℕ → Sight) → ℕ → ℤ → ℤ → Sight
shown_at g n fill (pos m) = if nat_lt m n then g m else gap fill
shown_at g n fill (negsuc m) = gap fill

-- a fibre that is settled shows what the storage has where the index points
abbrev pub ShowsLeaves : Format → Reading → Spot → Looplet → Type 0
ShowsLeaves format r s l = (end : ℤ) (stand : storage.Stand)
    → Along format r s (λ ts ls vars d hi c. r.settled ≡ true → StandsAt ts ls (asked_by format r s) stand
    → (view ts ls l end (pos c)).seen.sight ≡ shown_at (storage.sight_at (asked_by format r s) stand) r.extent format.fill (place (slice_set vars r.var (pos c)) r.index))

-- one that isn't shows the tensor, from its first level on
abbrev pub ShowsTensor : Format → Reading → Spot → Looplet → Type 0
ShowsTensor format r s l = (end : ℤ)
    → Along format r s (λ ts ls vars d hi c. r.settled ≡ false
    → (view ts ls l end (pos c)).seen.sight ≡ shown_at (λ m. position r.tensor 0 (pos 0)) r.extent format.fill (place (slice_set vars r.var (pos c)) r.index))

-- it stops only where the fibre has a place
abbrev pub StopsAtPlaces : Format → Reading → Spot → Looplet → Type 0
StopsAtPlaces format r s l = Along format r s (λ ts ls vars d hi c. (view ts ls l (pos hi) (pos c)).stop ≡ true → stops_after vars r.var d c ≡ true)

-- and the entry of the loop is charged for each place
abbrev pub IsPaid : Format → Reading → Spot → Type 0
IsPaid format r s = (ts : Store) (ls : List ℤ) (vars : Numbers) (d : Driven) → IsDriven ts ls format r s vars d → (from m : ℕ) → stop_count vars r.var from m d ≤ length_of d

-- ---- locals

abbrev pub OwnsTwo : Reading → Looplet → Type 0
OwnsTwo r l = (x : ℕ) → Owns x l → (x ≡ r.cursor) ⊎ (x ≡ r.cursor + 1)

-- of others it depends on those of the spot
abbrev pub DependsOnSpot : Spot → Looplet → Type 0
DependsOnSpot s l = (x : ℕ) → Free x l → (Names x s.place ⊎ Names x s.there) ⊎ Names x s.by

-- no child of a walker in it owns the walker's locals, and its shifts name those of the distance alone
pub record IsApartInside (s : Spot) (l : Looplet) : Type 0 where
  pub nested : Nested l
  pub shifts : (x : ℕ) → ShiftNames x l → Names x s.by

-- it loads from the read's tensor, where that is settled, and else from those of the spot alone
abbrev pub LoadsFrom : Reading → Spot → Looplet → Type 0
LoadsFrom r s l = (t : ℕ) → LoadsIn t l → ((r.settled ≡ true) × (t ≡ r.tensor)) ⊎ ((Loads t s.place ⊎ Loads t s.there) ⊎ Loads t s.by)

-- ---- masks

-- the test, and where pieces end, but at the last coordinate; it never stops, has no shift and owns no local, and depends
-- on the bound alone
pub record ShowsMask (o : Op) (bare_first : Bool) (bound : IExpr) (l : Looplet) : Type 0 where
  pub shows : (ts : Store) (ls : List ℤ) (k : Mask) (hi c : ℕ) → k.op ≡ o → k.bare_first ≡ bare_first
      → k.bound ≡ value ts ls bound → hi ≤ 2 ^ 40 → c < hi → Decides (view ts ls l (pos hi) (pos c)) k c (c + 1 < hi)
  pub sound : (ts : Store) (ls : List ℤ) (hi c : ℕ) → hi ≤ 2 ^ 40 → c < hi → SoundWithin Near ts ls l (λ j. j <ℤ pos hi) (pos c)
  pub no_stops : (ts : Store) (ls : List ℤ) (lo hi : ℕ) → hi ≤ 2 ^ 40 → stops ts ls l (pos lo) (pos hi) ≡ 0
  pub owns : (x : ℕ) → Owns x l → ⊥
  pub depends : (x : ℕ) → Free x l → Names x bound
  pub nested : Nested l
  pub shifts : (x : ℕ) → ShiftNames x l → ⊥
  pub loads : (t : ℕ) → LoadsIn t l → Loads t bound

-- ---- the laws

-- how far the loop lies behind the level has this code, where the other variable's local has its number
abbrev pub DistancesMean : Type 0
DistancesMean = (ts : Store) (ls : List ℤ) (r : Reading) (k : ℕ) → OtherIs ls (other r) k → value ts ls (back r) ≡ back_offset r.index.offset -ℤ pos k

-- of a looplet that is a driven read's
pub record IsForRead (format : Format) (r : Reading) (s : Spot) (l : Looplet) : Type 0 where
  pub shows : ShowsDriven format r s l
  pub leaves : ShowsLeaves format r s l
  pub tensor : ShowsTensor format r s l
  pub sound : IsSoundDriven format r s l
  pub stops : StopsAtPlaces format r s l
  pub paid : IsPaid format r s
  pub owns : OwnsTwo r l
  pub depends : DependsOnSpot s l
  pub apart : IsApartInside s l
  pub loads : LoadsFrom r s l

abbrev pub ReadsShow : Type 0
ReadsShow = (format : Format) (r : Reading) (s : Spot) → r.level < length format.levels → IsApart r.cursor s.place
    → IsForRead format r s (driven_looplet format r s)

abbrev pub MasksShow : Type 0
MasksShow = (o : Op) (bare_first : Bool) (bound : IExpr) → IsTrue (is_comparison o)
    → ShowsMask o bare_first bound (mask_looplet o bare_first bound)
