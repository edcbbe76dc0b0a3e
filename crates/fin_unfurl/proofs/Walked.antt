-- The walk of each level shows its fibre and is sound.
use Rattle.std.proofs.Common.{◌≡◌, ℕ, ◌+◌, ◌<◌, List, Bool, false, ℤ, pos}
use Rattle.fin_tensor.specs.declared.format.Level.{Level}
use Rattle.fin_tensor.specs.declared.format.Level.TheVariants as level
use Rattle.fin_tensor.specs.declared.part.Part.{Part}
use Rattle.fin_tensor.specs.declared.part.Part.TheVariants as part
use Rattle.std.specs.Prelude.{slice_index}
use Rattle.fin_tensor.specs.Levels.{IsLevel, child_in}
use Rattle.fin_tensor.specs.Pieces.{walked, holds_number, ends_after, varies_at}
use Rattle.fin_ir.specs.declared.expression.IExpr.{IExpr}
use Rattle.fin_ir.specs.Frozen.{Frozen}
use Rattle.fin_ir.specs.Loads.{part_at}
use Rattle.fin_looplet.specs.View.{Store, view}
use Rattle.fin_looplet.specs.Sound.{Places, SoundWithin}
use Rattle.fin_unfurl.specs.declared.fibre.Fibre.{Fibre}
use Rattle.fin_unfurl.specs.Walks.{walk_of}
use Rattle.fin_unfurl.proofs.Places.{Here}
use Rattle.fin_unfurl.proofs.Shows.{ShowsAt, sight_or}
use Rattle.fin_unfurl.proofs.Lists.{list_shows, list_sound}
use Rattle.fin_unfurl.proofs.Runs.{runs_shows, runs_sound}
use Rattle.fin_unfurl.proofs.DenseLevels.{dense_shows}
use Rattle.fin_unfurl.proofs.Bands.{band_shows, band_sound}

-- a walker's child ends after a coordinate where that is stored, or where a run ends
abbrev pub stop_after : Part → ℕ → ℕ → Bool
stop_after part.Dense p i = false
stop_after (part.Keys ptr idx) p i = holds_number idx (slice_index ptr p) (slice_index ptr (p + 1)) i
stop_after (part.Runs ptr stop) p i = holds_number stop (slice_index ptr p) (slice_index ptr (p + 1)) (i + 1)
stop_after (part.Band ptr start) p i = false

module _ (ts : Store) (ls : List ℤ) (f : Fibre) (e : IExpr) (s : Frozen) (p : ℕ) (h : Here ts ls f e s p) (count : ℕ) where
  pub walk_shows : (kind : Level) (x : Part) → part_at s.parts f.level ≡ x → IsLevel kind f.extent count x → (m : ℕ) (end : ℤ) → m < f.extent
      → ShowsAt (view ts ls (walk_of kind f e) end (pos m)) (sight_or f s (child_in f.extent x p m)) (varies_at walked x p m) (ends_after walked x p m) (stop_after x p m) (m + 1 < f.extent)
  walk_shows level.Dense part.Dense is lv = dense_shows ts ls f e s p h is
  walk_shows level.List (part.Keys ptr idx) is lv = list_shows ts ls f e s p h ptr idx is
  walk_shows level.Dict (part.Keys ptr idx) is lv = list_shows ts ls f e s p h ptr idx is
  walk_shows level.Runs (part.Runs ptr stop) is lv = runs_shows ts ls f e s p h ptr stop is
  walk_shows level.Band (part.Band ptr start) is lv = band_shows ts ls f e s p h ptr start is
  walk_shows kind x is lv = absurd lv

  pub walk_sound : (kind : Level) (x : Part) → part_at s.parts f.level ≡ x → IsLevel kind f.extent count x → (bound served : Places) (m : ℕ) → m < f.extent
      → SoundWithin bound ts ls (walk_of kind f e) served (pos m)
  walk_sound level.Dense part.Dense is lv = λ bound served m lt. tt
  walk_sound level.List (part.Keys ptr idx) is lv = list_sound ts ls f e s p h ptr idx is
  walk_sound level.Dict (part.Keys ptr idx) is lv = list_sound ts ls f e s p h ptr idx is
  walk_sound level.Runs (part.Runs ptr stop) is lv = runs_sound ts ls f e s p h ptr stop is
  walk_sound level.Band (part.Band ptr start) is lv = band_sound ts ls f e s p h ptr start is
  walk_sound kind x is lv = absurd lv
