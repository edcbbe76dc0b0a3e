-- What the looplet of a fibre means.
use Rattle.std.specs.Prelude.{◌≡◌, ◌⊎◌, ◌↔◌, ℕ, ◌+◌, ◌<◌, ◌≤◌, Bool, true, false, nat_eq, if◌then◌else◌, List, length, slice_index, slice_index_or, Option, Some, None, ℤ, pos}
use Rattle.fin_tensor.specs.declared.format.Format.{Format}
use Rattle.fin_tensor.specs.Levels.{IsStored, fibres, child_in}
use Rattle.fin_tensor.specs.Pieces as fibre
use Rattle.fin_ir.specs.declared.expression.IExpr.{IExpr}
use Rattle.fin_ir.specs.Frozen.{Frozen}
use Rattle.fin_ir.specs.Loads.{part_at}
use Rattle.fin_ir.specs.Machine.{stored}
use Rattle.fin_ir.specs.Value.{is_off}
use Rattle.fin_looplet.specs.declared.looplet.Looplet.{Looplet}
use Rattle.fin_looplet.specs.Names.{Names}
use Rattle.fin_looplet.specs.View.{Store, value, Sight, gap, word, position, view, stops, IsBreak}
use Rattle.fin_looplet.specs.Sound.{SoundIn}
use Rattle.fin_looplet.specs.Locals.{Free, Owns}

-- a fibre, as it is asked for
pub record Asked : Type 0 where
  pub format : Format
  pub tensor : ℕ
  pub level : ℕ
  pub extent : ℕ
  pub place : IExpr
  pub there : IExpr
  pub cursor : ℕ

abbrev pub asked : Format → ℕ → ℕ → ℕ → IExpr → IExpr → ℕ → Asked
asked format tensor level extent place there cursor =
    record { format = format; tensor = tensor; level = level; extent = extent; place = place; there = there; cursor = cursor }

-- the expression names neither the cursor nor the local above it
abbrev pub IsApart : ℕ → IExpr → Type 0
IsApart cursor e = (Names cursor e → ⊥) × (Names (cursor + 1) e → ⊥)

-- ---- where the fibre stands

-- at no position, or at one of its level in a storage
pub data Stand : Type 0 where
  nowhere : Stand
  at : Frozen → ℕ → Stand

-- the tensor is a valid storage in the format, whose level has that extent and that position
pub record IsPlaced (ts : Store) (ls : List ℤ) (a : Asked) (s : Frozen) (p : ℕ) : Type 0 where
  pub there : is_off (value ts ls a.there) ≡ false
  pub is : ts a.tensor ≡ stored s
  pub few : length a.format.levels ≤ 8
  pub valid : IsStored 1 a.format.levels s.shape s.parts s.val
  pub extent : slice_index s.shape a.level ≡ a.extent
  pub within : p < fibres s.shape s.parts 1 a.level
  pub here : value ts ls a.place ≡ pos p
  pub room : a.cursor + 1 < length ls

abbrev pub StandsAt : Store → List ℤ → Asked → Stand → Type 0
StandsAt ts ls a nowhere = is_off (value ts ls a.there) ≡ true
StandsAt ts ls a (at s p) = IsPlaced ts ls a s p

-- ---- what the storage has there

-- a value, or a position of the next level
abbrev pub sight_of : Asked → Frozen → Option ℕ → Sight
sight_of a s None = gap a.format.fill
sight_of a s (Some q) =
    if nat_eq (a.level + 1) (length a.format.levels)
    then word (slice_index_or s.val q (pos 0))
    else position a.tensor (a.level + 1) (pos q)

abbrev pub sight_at : Asked → Stand → ℕ → Sight
sight_at a nowhere i = gap a.format.fill
sight_at a (at s p) i = sight_of a s (child_in a.extent (part_at s.parts a.level) p i)

abbrev pub varies_at : Asked → Stand → ℕ → Bool
varies_at a nowhere i = false
varies_at a (at s p) i = fibre.varies_at fibre.walked (part_at s.parts a.level) p i

abbrev pub BreaksAt : Asked → Stand → ℕ → Type 0
BreaksAt a nowhere x = ⊥
BreaksAt a (at s p) x = fibre.IsBreak fibre.walked (part_at s.parts a.level) p x

abbrev pub length_of : Asked → Stand → ℕ
length_of a nowhere = 0
length_of a (at s p) = fibre.stored_length fibre.walked (part_at s.parts a.level) p

-- ---- that a looplet means the fibre, wherever it stands

-- at each coordinate it shows what the storage has
abbrev pub ShowsLeaves : Asked → Looplet → Type 0
ShowsLeaves a l = (ts : Store) (ls : List ℤ) (stand : Stand) → StandsAt ts ls a stand → (end : ℤ) (i : ℕ) → i < a.extent
    → (view ts ls l end (pos i)).seen.sight ≡ sight_at a stand i

-- and it varies where the fibre does
abbrev pub ShowsVarying : Asked → Looplet → Type 0
ShowsVarying a l = (ts : Store) (ls : List ℤ) (stand : Stand) → StandsAt ts ls a stand → (end : ℤ) (i : ℕ) → i < a.extent
    → (view ts ls l end (pos i)).seen.varies ≡ varies_at a stand i

-- inside each region of the fibre it breaks where the fibre does
abbrev pub ShowsBreaks : Asked → Looplet → Type 0
ShowsBreaks a l = (ts : Store) (ls : List ℤ) (stand : Stand) → StandsAt ts ls a stand → (lo hi : ℕ) → hi ≤ a.extent →
    (x : ℕ) → IsBreak ts ls l (pos lo) (pos hi) (pos x) ↔ ((lo < x) × (x < hi) × BreaksAt a stand x)

-- it is sound there
abbrev pub IsSound : Asked → Looplet → Type 0
IsSound a l = (ts : Store) (ls : List ℤ) (stand : Stand) → StandsAt ts ls a stand → (lo hi : ℕ) → hi ≤ a.extent → SoundIn ts ls l (pos lo) (pos hi)

-- and has no more stops than the fibre has places
abbrev pub HasFewStops : Asked → Looplet → Type 0
HasFewStops a l = (ts : Store) (ls : List ℤ) (stand : Stand) → StandsAt ts ls a stand → (lo hi : ℕ) → hi ≤ a.extent
    → stops ts ls l (pos lo) (pos hi) ≤ length_of a stand

-- ---- locals

-- its own locals are the cursor and the one above it
abbrev pub OwnsTwo : Asked → Looplet → Type 0
OwnsTwo a l = (x : ℕ) → Owns x l → (x ≡ a.cursor) ⊎ (x ≡ a.cursor + 1)

-- it depends on no local but those of the position, and of whether that is there
abbrev pub DependsOnPlace : Asked → Looplet → Type 0
DependsOnPlace a l = (x : ℕ) → Free x l → Names x a.place ⊎ Names x a.there
