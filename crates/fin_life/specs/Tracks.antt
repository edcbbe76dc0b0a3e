-- What is carried along for the order of updates.
use Rattle.std.specs.Prelude.{ℕ, ◌==◌, if◌then◌else◌, List, Option, Some, None, unwrap_or, option_map, slice_index_or}
use Rattle.fin_life.specs.declared.tracks.Tracks.{Tracks as Table}
use Rattle.fin_life.specs.Loops.{loops_in}

-- for each tensor the number of loops around its last declaration, and the loops around its first update since then
pub record Tracks : Type 0 where
  pub entered : ℕ → ℕ
  pub firsts : ℕ → Option (List ℕ)

abbrev pub entered_in : Table → ℕ → ℕ
entered_in table tensor = slice_index_or table.entered tensor 0

abbrev pub firsts_in : Table → ℕ → Option (List ℕ)
firsts_in table tensor = option_map loops_in (slice_index_or table.firsts tensor None)

abbrev pub tracks_in : Table → Tracks
tracks_in table = record { entered = entered_in table; firsts = firsts_in table }

abbrev pub with_number : (ℕ → ℕ) → ℕ → ℕ → ℕ → ℕ
with_number entered tensor n t = if tensor == t then n else entered t

abbrev pub with_first : (ℕ → Option (List ℕ)) → ℕ → Option (List ℕ) → ℕ → Option (List ℕ)
with_first firsts tensor first t = if tensor == t then first else firsts t

abbrev pub declared : ℕ → ℕ → Tracks → Tracks
declared tensor n tracks = record { entered = with_number tracks.entered tensor n; firsts = with_first tracks.firsts tensor None }

abbrev pub updated : ℕ → List ℕ → Tracks → Tracks
updated tensor loops tracks = record { entered = tracks.entered; firsts = with_first tracks.firsts tensor (Some (unwrap_or (tracks.firsts tensor) loops)) }
