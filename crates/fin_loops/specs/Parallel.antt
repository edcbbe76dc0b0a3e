-- A parallel loop of a program: its entry's codes, and behind them its nest's code chunk by chunk, perform it.
use Rattle.std.specs.Prelude.{◌≡◌, ℕ, ◌-◌, ◌≤◌, Bool, true, false, List, [], ◌∷◌, ◌++◌, Option, None, slice_index_or}
use Rattle.fin_ast.specs.declared.tree.Stmt.{Stmt}
use Rattle.fin_ir.specs.declared.code.Code.{Code}
use Rattle.fin_ir.specs.declared.code.Code.TheVariants.{ParLoop}
use Rattle.fin_ir.specs.Declares.{declares}
use Rattle.fin_ir.specs.Machine.{Machine, seen}
use Rattle.fin_ir.specs.Meaning.{meaning_all, chunk_locals, is_range}
use Rattle.fin_stage.specs.Staged.{Run, worked, regular}
use Rattle.fin_nest.specs.Senses.{runs}
use Rattle.fin_nest.specs.Performs.{Ready, Left}
use Rattle.fin_simp.specs.Work.{entry_of, inside, rests_in}
use Rattle.fin_simp.specs.Moving.{worked_all, running}
use Rattle.fin_simp.specs.Costs.{Running}
use Rattle.fin_drive.specs.Entries.{Entry, IsMade}
use Rattle.fin_drive.specs.Watches.{part_of}
use Rattle.fin_style_point.specs.declared.nest.Nest as point
use Rattle.fin_descend.specs.declared.lowered.Lowered.{Lowered}
use Rattle.fin_perform.specs.Layouts.{layout_with, start_with}
use Rattle.fin_perform.specs.Meanings.{Means, stmt_deed}
use Rattle.fin_perform.specs.Working.{run_of}
use Rattle.fin_loops.specs.Loops.{Loop, changed_in}
use Rattle.fin_loops.specs.Entering.{stmt_of, Spot, StandsAt, world_at, nest_at, IsNested, SparesAll}
use Rattle.fin_loops.specs.Chunks.{IsChunk, AreAbsent}

-- the locals with the ends of the chunk
pub record Ends : Type 0 where
  pub from : ℕ
  pub to : ℕ

abbrev pub range_in : Loop → ℕ × ℕ
range_in l = slice_index_or l.checked.dims.ranges l.var (0, 0)

-- the code of the nest, for each chunk of the loop's range
abbrev pub chunks_code : Loop → Ends → Lowered → Code
chunks_code l ends code = ParLoop ends.from ends.to (range_in l).0 (range_in l).1 [] code.code

-- the loop as it is entered in a run
abbrev pub parallel_in : Loop → Spot → Run → Running
parallel_in l q r = running (world_at l q) l.context l.var true (worked_all (world_at l q) l.body l.here) q.vars r

-- along a chunk, on the machine that begins it
abbrev pub chunk_entry : Loop → Spot → Run → Machine → ℕ × ℕ → Entry
chunk_entry l q r m c = record {
  world = world_at l q;
  run = r;
  rest = rests_in (inside l.context l.var None) (worked_all (world_at l q) l.body l.here);
  loop = parallel_in l q r;
  store = seen m;
  locals = m.locals;
  from = c.0;
  count = c.1 - c.0;
}

-- The codes leave the place as it was, and pay for the entry. The run has none of the tensors that the body declares, and
-- no stretch of the loop leaves it one. On each machine that begins a chunk with the locals that were left, and on which
-- the tensors are as they were that the body doesn't write, the nest is one that is made for the chunk.
pub record EntersChunks (l : Loop) (q : Spot) (top : point.Nest) (ends : Ends) (own : ℕ → Bool) (r : Run) (m m' : Machine) : Type 0 where
  pub left : Left m m' q.place
  pub pays : (runs (start_with l.checked q.room q.inputs)).stands (worked (entry_of (parallel_in l q r).loop) r) m'
  pub absent : AreAbsent (world_at l q).setting own r
  pub stays : (from count : ℕ) (k : Run) → AreAbsent (world_at l q).setting own k
      → AreAbsent (world_at l q).setting own (part_of (parallel_in l q r) from count k)
  pub made : m'.cut ≡ false → (c : ℕ × ℕ) → IsChunk (parallel_in l q r) c → (k : Machine) → k.locals ≡ chunk_locals ends.from ends.to m'.locals c
      → ((t : ℕ) → (nest_at l top q).steady t ≡ true → seen k t ≡ seen m' t) → IsMade (chunk_entry l q r k c) (nest_at l top q)

abbrev pub EntersChunksBy : Loop → Stmt → ℕ → ℕ → List Code → point.Nest → Ends → (ℕ → Bool) → Type 0
EntersChunksBy l x next need cs top ends own = (q : Spot) → need ≤ q.room → StandsAt l x next q → (r : Run) (m : Machine)
    → Ready (layout_with l.checked q.room) m q.place → (runs (start_with l.checked q.room q.inputs)).stands r m
    → regular (run_of (world_at l q) x l.here l.context q.vars r) ≡ true
    → EntersChunks l q top ends own r m (meaning_all (layout_with l.checked q.room) cs m)

pub record IsLoweredInChunks (l : Loop) (x : Stmt) (next need : ℕ) (cs : List Code) (top : point.Nest) (ends : Ends) (code : Lowered) : Type 0 where
  pub nest : IsNested l x next need top code
  pub range : is_range (range_in l).0 (range_in l).1 ≡ true
  pub from : next ≤ ends.from
  pub to : next ≤ ends.to
  pub owns : (t : ℕ) → declares code.code t ≡ true → changed_in l t ≡ true
  pub enters : EntersChunksBy l x next need cs top ends (declares code.code)
  pub spares : SparesAll x l.here l.context next (cs ++ chunks_code l ends code ∷ [])

-- such codes mean the parallel loop
abbrev pub ParallelLoopsMean : Type 0
ParallelLoopsMean = (l : Loop) (range : Option (ℕ × ℕ)) (line last next need : ℕ) (cs : List Code) (top : point.Nest) (ends : Ends) (code : Lowered)
    → IsLoweredInChunks l (stmt_of l range true line last) next need cs top ends code
    → Means l.checked next need (cs ++ chunks_code l ends code ∷ []) (stmt_deed (stmt_of l range true line last) l.here l.context)
