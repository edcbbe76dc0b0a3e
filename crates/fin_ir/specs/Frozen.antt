-- A tensor that is a storage, as plain lists, and a tensor function's canonical one.
use Rattle.std.specs.Prelude.{ℕ, Bool, not, List, [], ◌∷◌, ℤ}
use Rattle.fin_tensor.specs.declared.format.Format.{Format}
use Rattle.fin_tensor.specs.declared.format.Wrap.TheVariants.{Bare}
use Rattle.fin_tensor.specs.declared.part.Part.{Part}
use Rattle.fin_tensor.specs.declared.storage.Storage.{Storage}
use Rattle.fin_tensor.specs.TensorFunction.{TensorFunction, value_at}
use Rattle.fin_tensor.specs.Building.{Building}
use Rattle.fin_tensor.specs.Canon.{canon_parts, canon_values, is_allowed}
use Rattle.fin_tensor.specs.Stands.{tabulated}
use Rattle.fin_tensor.specs.Levels.{value_from}

pub record Frozen : Type 0 where
  pub format : Format
  pub shape : List ℕ
  pub parts : List Part
  pub val : List ℤ

abbrev pub frozen_of : Storage → Frozen
frozen_of s = record { format = s.format; shape = s.shape; parts = s.parts; val = s.val }

-- the function that it stands for
abbrev pub stood_for : Frozen → TensorFunction
stood_for s = tabulated s.shape s.format.fill (value_from s.shape s.parts s.val s.format.fill 0)

-- the canonical storage, in the format without its decoration
abbrev pub canon : Building → Frozen
canon b = record {
  format = record b.format { wrap = Bare };
  shape = b.function.shape;
  parts = canon_parts b.format.levels b.function.fill b.function.shape (value_at b.function ∷ []);
  val = canon_values b.format.levels b.function.fill b.function.shape (value_at b.function ∷ []);
}

-- the canonical storage isn't valid by its size
abbrev pub is_large : Building → Bool
is_large b = not (is_allowed b.format.levels b.function.fill b.function.shape (value_at b.function ∷ []))
