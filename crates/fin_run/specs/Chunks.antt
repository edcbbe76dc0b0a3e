-- The chunks that are left of a parallel loop.
use Rattle.std.specs.Prelude.{◌≡◌, ℕ, ◌+◌, ◌-◌, min, Bool, if◌then◌else◌, List, [], ◌∷◌}
use Rattle.fin_ir.specs.Meaning.{MOST_CHUNKS, chunks_from}
use Rattle.fin_run.specs.declared.chunks.Chunks.{Chunks}
use Rattle.fin_run.specs.declared.state.Held.{Held}
use Rattle.fin_run.specs.declared.state.Held.TheVariants.{Nothing}

-- they are those of lo..hi
pub record IsCut (lo hi : ℕ) (c : Chunks) : Type 0 where
  pub lo_is : c.lo ≡ lo
  pub len_is : c.len ≡ hi - lo
  pub count_is : c.count ≡ min (hi - lo) MOST_CHUNKS

abbrev pub kept_held : (ℕ → Bool) → ℕ → Held → Held
kept_held own t x = if own t then Nothing else x

-- what is held from number n on, without the tensors of `own`
abbrev pub forget_held : (ℕ → Bool) → ℕ → List Held → List Held
forget_held own n [] = []
forget_held own n (x ∷ xs) = kept_held own n x ∷ forget_held own (n + 1) xs

-- the ends of those that are left
abbrev pub left_of : Chunks → List (ℕ × ℕ)
left_of c = chunks_from c.lo c.len c.count c.next (c.count - c.next)
