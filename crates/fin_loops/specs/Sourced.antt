-- A loop of an accepted program where its code is made, and the codes of its entry: they enter the loop wherever it stands.
use Rattle.std.specs.Prelude.{◌≡◌, ℕ, ◌-◌, ◌≤◌, Bool, false, true, List, pos, None, Option}
use Rattle.std.specs.List.{list_all}
use Rattle.fin_tensor.specs.declared.storage.Storage.{Storage}
use Rattle.fin_ast.specs.Dense.{setting_of}
use Rattle.fin_ir.specs.declared.code.Code.{Code}
use Rattle.fin_ir.specs.declared.expression.IExpr.TheVariants.{Num}
use Rattle.fin_simp.specs.Moving.{ReadsStay}
use Rattle.fin_simp.specs.Rest.{Access}
use Rattle.fin_simp.specs.Work.{chunk_count}
use Rattle.fin_style_point.specs.declared.nest.Nest as point
use Rattle.fin_perform.specs.Places.{left_of_all}
use Rattle.fin_perform.specs.Working.{nothing_in}
use Rattle.fin_enter.specs.Indices.{small_offsets}
use Rattle.fin_enter.specs.EntryCodes.{code_by}
use Rattle.fin_loops.specs.Loops.{Loop, rest_entered}
use Rattle.fin_loops.specs.Entering.{stmt_of, EntersBy}
use Rattle.fin_loops.specs.Parallel.{range_in}
use Rattle.fin_loops.specs.Tops.{around_of, own_end, IsNumbered, IsTop}

-- ---- what the text of its body has

-- Of the reads that are written in the body each index moves inside its extent, whatever the inputs, and no offset is over
-- 2^40. A whole accepted program has this of its body, and each body in it has it again, since its reads are among those
-- of the whole.
pub record Sourced (l : Loop) : Type 0 where
  pub stay : (inputs : List Storage) → ReadsStay (setting_of l.checked inputs) l.body l.here
  pub small : list_all (λ (a : Access). small_offsets a.at) (left_of_all l.body l.here None).reads ≡ true

-- ---- its entry

-- parallel or not, with the chunks of its range
abbrev pub entry_code_of : Loop → Bool → ℕ → List Code
entry_code_of l par next = code_by (around_of l) (rest_entered l) (chunk_count par ((range_in l).1 - (range_in l).0)) next

-- the nest is over the whole range
pub record IsWhole (l : Loop) (top : point.Nest) : Type 0 where
  pub lo : top.lo ≡ Num (pos (range_in l).0)
  pub hi : top.hi ≡ Num (pos (range_in l).1)

-- Something is left of the loop, its range isn't turned round, and there is room for the locals of its entry.
pub record CanBegin (l : Loop) (range : Option (ℕ × ℕ)) (par : Bool) (line last next need : ℕ) : Type 0 where
  pub some : nothing_in (stmt_of l range par line last) l.here l.context ≡ false
  pub ordered : (range_in l).0 ≤ (range_in l).1
  pub room : own_end l next ≤ need

-- a loop that isn't parallel, at once
abbrev pub EntriesEnter : Type 0
EntriesEnter = (l : Loop) (range : Option (ℕ × ℕ)) (line last next need : ℕ) (top : point.Nest)
    → Sourced l → IsNumbered l next → IsTop l next top → IsWhole l top → CanBegin l range false line last next need
    → EntersBy l (stmt_of l range false line last) next need (entry_code_of l false next) top
