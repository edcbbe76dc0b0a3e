-- The looplets of a loop's nest show what the definition of work knows at each coordinate; the nest's fold is then the
-- loop's run by pieces.
use Rattle.std.specs.Prelude.{◌≡◌, ℕ, ◌+◌, ◌-◌, ◌<◌, ◌≤◌, true, false, if◌then◌else◌, ℤ, pos, List, [], ◌∷◌, map, Some, None}
use Rattle.fin_ast.specs.Value.{Numbers}
use Rattle.fin_stage.specs.Staged.{Run}
use Rattle.fin_looplet.specs.View.{Store, value, View}
use Rattle.fin_nest.specs.Nests.{Nest, views_of, fold}
use Rattle.fin_simp.specs.Sights.{Sight}
use Rattle.fin_simp.specs.Work.{Driven, Mask, Entered, sight_of, mask_value, mask_ends, begins_chunk, ends_after, turn, turns}
use Rattle.fin_simp.specs.Costs.{Running}
use Rattle.fin_drive.specs.Turns.{Slot, Driving, Waiting, Testing, Watched, fill_of, word_of, seen_turn}

-- ---- what each looplet is for

-- a read that the loop drives, one that it doesn't drive, or a mask
pub data Watch : Type 0 where
  Drives : Driven → Watch
  Waits : Watch
  Tests : Mask → Watch

abbrev pub driven_in : List Watch → List Driven
driven_in [] = []
driven_in (Drives d ∷ ws) = d ∷ driven_in ws
driven_in (Waits ∷ ws) = driven_in ws
driven_in (Tests k ∷ ws) = driven_in ws

abbrev pub masks_in : List Watch → List Mask
masks_in [] = []
masks_in (Drives d ∷ ws) = masks_in ws
masks_in (Waits ∷ ws) = masks_in ws
masks_in (Tests k ∷ ws) = k ∷ masks_in ws

-- by its number
abbrev pub slot_of : Watch → Slot
slot_of (Drives d) = Driving d.read
slot_of Waits = Waiting
slot_of (Tests k) = Testing k.test

abbrev pub watched : Running → List Watch → Watched
watched x ws = record { var = x.loop.var; slots = map slot_of ws; rest = x.rest; body = x.body; around = x.around; vars = x.vars }

-- ---- what they show at a coordinate

-- a gap with its fill, whether it varies, and whether a part ends, the last where that is asked
pub record Faces (v : View) (s : Sight) (fill : ℤ) (inside : Type 0) : Type 0 where
  pub gap : fill_of v.seen.sight ≡ (if s.gap then Some fill else None)
  pub varies : v.seen.varies ≡ s.varies
  pub ends : inside → v.ends ≡ s.ends

pub record Decides (v : View) (k : Mask) (c : ℕ) (inside : Type 0) : Type 0 where
  pub word : word_of v.seen.sight ≡ Some (mask_value k (pos c))
  pub ends : inside → v.ends ≡ mask_ends c k

abbrev pub Shows : Numbers → ℕ → ℕ → Type 0 → Watch → View → Type 0
Shows vars var c inside (Drives d) v = Faces v (sight_of vars var c d) d.fill inside
Shows vars var c inside Waits v = v.ends ≡ false
Shows vars var c inside (Tests k) v = Decides v k c inside

abbrev pub AllShow : Numbers → ℕ → ℕ → Type 0 → List Watch → List View → Type 0
AllShow vars var c inside [] [] = Unit {0}
AllShow vars var c inside [] (v ∷ vs) = ⊥
AllShow vars var c inside (w ∷ ws) [] = ⊥
AllShow vars var c inside (w ∷ ws) (v ∷ vs) = Shows vars var c inside w v × AllShow vars var c inside ws vs

-- ---- the fold of a nest

-- The nest is so many coordinates of the loop from one on: its looplets are for the driven reads and the masks of the
-- loop, and show what is known of them.
pub record IsPart (x : Running) (ws : List Watch) (ts : Store) (ls : List ℤ) (n : Nest Run) (from count : ℕ) : Type 0 where
  pub driven : driven_in ws ≡ x.loop.driven
  pub masks : masks_in ws ≡ x.loop.masks
  pub body : n.body ≡ seen_turn (watched x ws)
  pub lo : value ts ls n.lo ≡ pos from
  pub hi : value ts ls n.hi ≡ pos (from + count)
  pub shows : (c : ℕ) → from ≤ c → c < from + count
      → AllShow x.vars x.loop.var c (c + 1 < from + count) ws (views_of ts ls n (pos c))

-- no chunk of the loop begins inside of it
abbrev pub IsOneChunk : Entered → ℕ → ℕ → Type 0
IsOneChunk e from count = (c : ℕ) → from ≤ c → c + 1 < from + count → begins_chunk e.len e.chunks (c + 1 - e.lo) ≡ false

-- so many coordinates of a loop from one on, of which the first begins a piece
abbrev pub part_of : Running → ℕ → ℕ → Run → Run
part_of x from count = turns (turn x.loop x.rest x.body x.around x.vars) (ends_after x.loop x.vars) count true from

-- a nest over coordinates inside of which no chunk begins folds to what the loop does there
abbrev pub ChunksAreNests : Type 0
ChunksAreNests = (x : Running) (ws : List Watch) (ts : Store) (ls : List ℤ) (n : Nest Run) (from count : ℕ) (r : Run)
    → IsPart x ws ts ls n from count → IsOneChunk x.loop from count
    → fold (λ s. s) ts ls n r ≡ part_of x from count r

-- and so does a nest over all coordinates of a loop without chunks
abbrev pub LoopsAreNests : Type 0
LoopsAreNests = (x : Running) (ws : List Watch) (ts : Store) (ls : List ℤ) (n : Nest Run) (r : Run)
    → IsPart x ws ts ls n x.loop.lo x.loop.len → x.loop.chunks ≡ 0
    → fold (λ s. s) ts ls n r ≡ part_of x x.loop.lo x.loop.len r

-- where a chunk begins, what the loop does behind it is done after what it does before
abbrev pub LoopsFallApart : Type 0
LoopsFallApart = (x : Running) (from m k : ℕ) (r : Run)
    → begins_chunk x.loop.len x.loop.chunks (from + m - x.loop.lo) ≡ true
    → part_of x from (m + k) r ≡ part_of x (from + m) k (part_of x from m r)
