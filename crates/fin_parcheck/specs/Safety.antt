-- The rules on parallel loops, and the ways of a program that keeps them.
use Rattle.std.specs.Prelude.{◌≡◌, ℕ, Bool, true, false, not, List, [], map, Option, Some, None, slice_index_or}
use Rattle.std.specs.Option.{option_or}
use Rattle.fin_base.specs.declared.reduce.Reduce.{Reduce}
use Rattle.fin_base.specs.declared.reduce.Reduce.TheVariants as by
use Rattle.fin_base.specs.declared.refusal.Fail.{Fail}
use Rattle.fin_base.specs.declared.refusal.Fail.TheVariants.{Memory, Refused}
use Rattle.fin_base.specs.declared.refusal.Refusal.{Refusal}
use Rattle.fin_base.specs.declared.refusal.Rule.TheVariants.{C1, C2, C3, C4, C5}
use Rattle.fin_base.specs.declared.terms.Way.{Way}
use Rattle.fin_base.specs.declared.terms.Way.TheVariants as way
use Rattle.fin_ast.specs.declared.checked.Checked.{Checked}
use Rattle.fin_ast.specs.declared.checked.LoopWays.{LoopWays}
use Rattle.fin_ast.specs.declared.checked.Ways.{Ways}
use Rattle.fin_ast.specs.declared.header.Header.{Header}
use Rattle.fin_ast.specs.declared.program.Program.{Program}
use Rattle.fin_ast.specs.Sizes.{broken, first_of}
use Rattle.fin_parcheck.specs.declared.deeds.Deed.{Deed}
use Rattle.fin_parcheck.specs.declared.deeds.Deed.TheVariants.{Update, Turn, Nested}
use Rattle.fin_parcheck.specs.declared.deeds.ParallelLoop.{ParallelLoop}
use Rattle.fin_parcheck.specs.declared.usages.Usage.{Usage}
use Rattle.fin_parcheck.specs.Loops.{parallel_loops}
use Rattle.fin_parcheck.specs.Ways.{updated_from, usages_of}

abbrev pub same : Reduce → Reduce → Bool
same by.Add by.Add = true
same by.Mul by.Mul = true
same by.Min by.Min = true
same by.Max by.Max = true
same by.And by.And = true
same by.Or by.Or = true
same by.Xor by.Xor = true
same by.Put by.Put = true
same _ _ = false

abbrev pub is_put : Reduce → Bool
is_put by.Put = true
is_put _ = false

abbrev pub is_mul : Reduce → Bool
is_mul by.Mul = true
is_mul _ = false

-- rows serve every update
abbrev pub is_rows : Option Way → Bool
is_rows (Some way.Rows) = true
is_rows _ = false

-- a way serves a reduction: atomic words don't multiply
abbrev pub serves : Option Way → Reduce → Bool
serves None by = false
serves (Some way.Word) by = not (is_mul by)
serves _ by = true

-- C1: by `=`. C2: by another reduction than the first update. C3: in a bare format, or by `*=` in an atomic one
abbrev pub shared_breach : Option Way → Reduce → Reduce → ℕ → Option Refusal
shared_breach way first by line = option_or (broken (is_put by) C1 line) (option_or (broken (not (same by first)) C2 line) (broken (not (serves way by)) C3 line))

abbrev pub unless_rows : Bool → Option Refusal → Option Refusal
unless_rows true breach = None
unless_rows false breach = breach

abbrev pub update_breach : Option Usage → Reduce → ℕ → Option Refusal
update_breach None by line = None
update_breach (Some usage) by line = unless_rows (is_rows usage.way) (shared_breach usage.way usage.by by line)

-- C4: a parallel loop in a parallel loop. C5: a freeze or thaw of an outer tensor
abbrev pub deed_breach : List (Option Usage) → Deed → Option Refusal
deed_breach usages (Update tensor first by line) = update_breach (slice_index_or usages tensor None) by line
deed_breach usages (Turn line) = broken true C5 line
deed_breach usages (Nested line) = broken true C4 line

abbrev pub loop_breach : List Header → ParallelLoop → Option Refusal
loop_breach headers parallel = first_of (deed_breach (usages_of headers parallel)) parallel.deeds

abbrev pub loop_ways : List Header → ParallelLoop → LoopWays
loop_ways headers parallel = record { var = parallel.var; of = updated_from 0 (usages_of headers parallel) [] }

-- the first breach of a program
abbrev pub parallel_in : Program → Option Refusal
parallel_in p = first_of (loop_breach p.headers) (parallel_loops p)

-- the ways of a program
abbrev pub ways_in : Program → Ways
ways_in p = record { loops = map (loop_ways p.headers) (parallel_loops p) }

-- a program keeps the rules on parallel loops, and its ways are those that it has
pub record IsSafe (c : Checked) : Type 0 where
  pub parallel : parallel_in c.program ≡ None
  pub ways : c.ways ≡ ways_in c.program

-- the fact holds of the rule that is broken, where one is
abbrev pub IfRefused : Fail → (Refusal → Type 0) → Type 0
IfRefused (Refused refusal) Holds = Holds refusal
IfRefused (Memory e) Holds = Unit {0}
