-- The stage of a tensor in a run: not declared, being built, or frozen with its function.
use Rattle.std.specs.Prelude.{ℕ, ◌+◌, ◌*◌, ◌^◌, Bool, true, false, if◌then◌else◌, List, [], ◌∷◌, length, Option, Some, None, slice_index_or}
use Rattle.std.specs.Option.{option_or}
use Rattle.fin_tensor.specs.declared.format.Format.{Format}
use Rattle.fin_tensor.specs.declared.format.Level.{Level}
use Rattle.fin_tensor.specs.Placement.{is_dense}
use Rattle.fin_tensor.specs.TensorFunction.{TensorFunction, value_at}
use Rattle.fin_tensor.specs.Building.{Building}
use Rattle.fin_tensor.specs.Canon.{canon_values, is_allowed}
use Rattle.fin_ast.specs.Value.{Tensors}
use Rattle.fin_ast.specs.Dense.{Made, made_at}

pub data Stage : Type 0 where
  Absent : Stage
  Built : Building → Stage
  Frozen : Format → TensorFunction → Stage

abbrev pub stage_at : List Stage → ℕ → Stage
stage_at stages tensor = slice_index_or stages tensor Absent

-- its function, if it is declared
abbrev pub function_in : Stage → Option TensorFunction
function_in Absent = None
function_in (Built b) = Some b.function
function_in (Frozen format f) = Some f

-- its function, if it can be read
abbrev pub frozen_in : Stage → Option TensorFunction
frozen_in Absent = None
frozen_in (Built b) = None
frozen_in (Frozen format f) = Some f

abbrev pub is_declared : Stage → Bool
is_declared Absent = false
is_declared (Built b) = true
is_declared (Frozen format f) = true

-- what is declared first in a body is gone at its end
abbrev pub kept : List Stage → List Stage → List Stage
kept [] stages = stages
kept (b ∷ before) [] = []
kept (b ∷ before) (s ∷ stages) = (if is_declared b then s else Absent) ∷ kept before stages

-- the tensors that can be read: the inputs, and what is frozen
abbrev pub readable : Made → List Stage → Tensors
readable given stages tensor = option_or (made_at given tensor) (frozen_in (stage_at stages tensor))

-- ---- the work of statements on whole tensors

-- the product of the extents of the dense levels before the first other one
abbrev pub dense_front : List Level → List ℕ → ℕ
dense_front [] ns = 1
dense_front (l ∷ ls) [] = 1
dense_front (l ∷ ls) (n ∷ ns) = if is_dense l then n * dense_front ls ns else 1

abbrev pub work_of_declaration : List Level → List ℕ → ℕ
work_of_declaration levels shape = 1 + dense_front levels shape

-- of a freeze or thaw: 1 and the number of values that are stored, or more than every budget where they are too many
abbrev pub work_of_storing : Format → TensorFunction → ℕ
work_of_storing format f =
    if is_allowed format.levels f.fill f.shape (value_at f ∷ [])
    then 1 + length (canon_values format.levels f.fill f.shape (value_at f ∷ []))
    else 2 ^ 40 + 1
