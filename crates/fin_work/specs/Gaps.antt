-- That a read whose gap is seen gives the fill: of an input by its storage, and of a tensor that a run has frozen by its
-- canonical parts.
use Rattle.std.specs.Prelude.{◌≡◌, ℕ, true, false, ℤ, pos, List, map, length, IsTrue, Some, slice_set}
use Rattle.fin_tensor.specs.declared.part.Part.{Part}
use Rattle.fin_tensor.specs.declared.storage.Storage.{Storage}
use Rattle.fin_tensor.specs.TensorFunction.{TensorFunction, value_at, is_in_box}
use Rattle.fin_tensor.specs.Levels.{value_from}
use Rattle.fin_ast.specs.declared.tree.Index.{Index}
use Rattle.fin_ast.specs.declared.checked.Checked.{Checked}
use Rattle.fin_ast.specs.Value.{Numbers, place, read}
use Rattle.fin_ast.specs.Accepted.{FitProgram}
use Rattle.fin_ast.specs.Dense.{fill_of, shape_at, setting_of}
use Rattle.fin_stage.specs.Staged.{Run, tensors_of}
use Rattle.fin_stage.specs.Fitting.{StagesFit}
use Rattle.fin_simp.specs.Rest.{Access}
use Rattle.fin_simp.specs.Sights.{driven_index}
use Rattle.fin_simp.specs.Gaps.{SameUpTo}
use Rattle.fin_simp.specs.Work.{World, world_of, parts_at, driven_at, is_in, sight_of}

-- with values of its own, the parts give the function from the first position on
pub record ArePartsOf (ps : List Part) (f : TensorFunction) : Type 0 where
  pub val : List ℤ
  pub long : length f.shape ≡ length ps
  pub values : (cs : List ℕ) → IsTrue (is_in_box f.shape cs) → value_from f.shape ps val f.fill 0 cs ≡ value_at f cs

-- what stands for a tensor: a function of its shape and fill
pub record Stands (w : World) (tensor : ℕ) (f : TensorFunction) : Type 0 where
  pub shape : f.shape ≡ shape_at w.setting tensor
  pub fill : f.fill ≡ fill_of w.setting tensor

-- each tensor that can be read in a run stands with its parts
abbrev pub ReadableHaveParts : Type 0
ReadableHaveParts = (c : Checked) (inputs : List Storage) (r : Run) → FitProgram c inputs → StagesFit (setting_of c inputs) r.stages → (tensor : ℕ) (f : TensorFunction)
    → tensors_of (setting_of c inputs) r tensor ≡ Some f → Stands (world_of c inputs) tensor f × ArePartsOf (parts_at (world_of c inputs) r tensor) f

-- where a read sees a gap at a coordinate of the loop that drives it, it gives the fill, whatever is bound inside the
-- loop: of any function that stands where the body changes the tensor, and else of the one that can be read at the entry
abbrev pub GapsReadFill : Type 0
GapsReadFill = (c : Checked) (inputs : List Storage) (r : Run) → FitProgram c inputs → StagesFit (setting_of c inputs) r.stages
    → (vars later : Numbers) (var coord : ℕ) (changed : List ℕ) (a : Access) (d : ℕ × Index) → driven_index var a.at ≡ Some d → SameUpTo var (slice_set vars var (pos coord)) later
    → (f : TensorFunction) → Stands (world_of c inputs) a.tensor f → (is_in changed a.tensor ≡ false → tensors_of (setting_of c inputs) r a.tensor ≡ Some f)
    → (sight_of vars var coord (driven_at (world_of c inputs) vars r changed a d)).gap ≡ true → read (Some f) (map (place later) a.at) ≡ f.fill
