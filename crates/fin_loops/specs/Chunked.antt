-- The codes of a parallel loop's entry: they enter the loop chunk by chunk wherever it stands.
use Rattle.std.specs.Prelude.{◌≡◌, ℕ, ◌<◌, ◌≤◌, Bool, true, Option}
use Rattle.fin_ast.specs.Scope.{is_among}
use Rattle.fin_ir.specs.declared.expression.IExpr.TheVariants.{Local}
use Rattle.fin_simp.specs.Fresh.{fresh_in}
use Rattle.fin_style_point.specs.declared.nest.Nest as point
use Rattle.fin_loops.specs.Loops.{Loop}
use Rattle.fin_loops.specs.Entering.{stmt_of}
use Rattle.fin_loops.specs.Parallel.{Ends, EntersChunksBy}
use Rattle.fin_loops.specs.Sourced.{Sourced, entry_code_of, CanBegin}
use Rattle.fin_loops.specs.Tops.{own_end, IsNumbered, IsTop}

-- the nest is over a chunk, whose ends are in two locals behind the entry's own
pub record IsOfChunks (l : Loop) (next need : ℕ) (top : point.Nest) (ends : Ends) : Type 0 where
  pub lo : top.lo ≡ Local ends.from
  pub hi : top.hi ≡ Local ends.to
  pub behind : own_end l next ≤ ends.from
  pub apart : ends.from < ends.to
  pub room : ends.to < need

-- tensors that the body declares
abbrev pub AreFresh : Loop → (ℕ → Bool) → Type 0
AreFresh l own = (t : ℕ) → own t ≡ true → is_among (fresh_in l.body) t ≡ true

abbrev pub ChunksEnter : Type 0
ChunksEnter = (l : Loop) (range : Option (ℕ × ℕ)) (line last next need : ℕ) (top : point.Nest) (ends : Ends) (own : ℕ → Bool)
    → Sourced l → IsNumbered l next → IsTop l next top → IsOfChunks l next need top ends → AreFresh l own → CanBegin l range true line last next need
    → EntersChunksBy l (stmt_of l range true line last) next need (entry_code_of l true next) top ends own
