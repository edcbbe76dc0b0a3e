-- A parallel loop by its chunks, as its code has them: what it does there one after another is what it does; and machines
-- that begin a chunk.
use Rattle.std.specs.Prelude.{◌≡◌, ℕ, ◌+◌, ◌-◌, ◌<◌, ◌≤◌, Bool, true, min, List, [], ◌∷◌, length, ℤ}
use Rattle.fin_ast.specs.Dense.{Setting}
use Rattle.fin_ir.specs.Machine.{Machine}
use Rattle.fin_ir.specs.Meaning.{chunks_of, opened}
use Rattle.fin_stage.specs.Stages.{Absent, stage_at}
use Rattle.fin_stage.specs.Staged.{Run, is_made}
use Rattle.fin_nest.specs.Related.{Start}
use Rattle.fin_nest.specs.Senses.{runs}
use Rattle.fin_simp.specs.Costs.{Running}
use Rattle.fin_drive.specs.Watches.{IsOneChunk, part_of}

-- ---- what the loop does

-- along stretches of its coordinates, one after another
abbrev pub over_chunks : Running → List (ℕ × ℕ) → Run → Run
over_chunks x [] r = r
over_chunks x (c ∷ cs) r = over_chunks x cs (part_of x c.0 (c.1 - c.0) r)

-- a stretch of the loop's coordinates inside of which no chunk begins
pub record IsChunk (x : Running) (c : ℕ × ℕ) : Type 0 where
  pub ordered : c.0 ≤ c.1
  pub begins : x.loop.lo ≤ c.0
  pub ends : c.1 ≤ x.loop.lo + x.loop.len
  pub one : IsOneChunk x.loop c.0 (c.1 - c.0)

abbrev pub AreChunks : Running → List (ℕ × ℕ) → Type 0
AreChunks x [] = Unit {0}
AreChunks x (c ∷ cs) = IsChunk x c × AreChunks x cs

-- the chunks of the code, over all coordinates of the loop
abbrev pub all_chunks : Running → List (ℕ × ℕ)
all_chunks x = chunks_of x.loop.lo (x.loop.lo + x.loop.len)

pub record InChunks (x : Running) : Type 0 where
  pub all : AreChunks x (all_chunks x)
  pub whole : (r : Run) → over_chunks x (all_chunks x) r ≡ part_of x x.loop.lo x.loop.len r

abbrev pub LoopsInChunks : Type 0
LoopsInChunks = (x : Running) → x.loop.chunks ≡ min x.loop.len 256 → InChunks x

-- ---- a machine where a chunk begins

-- a run has none of these tensors, which are the program's own
abbrev pub AreAbsent : Setting → (ℕ → Bool) → Run → Type 0
AreAbsent w own r = (t : ℕ) → own t ≡ true → (t < length r.stages) × (stage_at r.stages t ≡ Absent) × (is_made w t ≡ true)

-- with other locals and without these tensors it stands for the run still
abbrev pub OpenedStand : Type 0
OpenedStand = (s : Start) (own : ℕ → Bool) (ls : List ℤ) (r : Run) (m : Machine) → length ls ≡ s.layout.locals → AreAbsent s.setting own r
    → (runs s).stands r m → (runs s).stands r (opened own ls m)
