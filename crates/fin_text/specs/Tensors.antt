-- The text of a tensor in each format, by its lines.
use Rattle.std.specs.Prelude.{ℕ, suc, ℤ, List, [], ◌∷◌, ◌++◌, codes}
use Rattle.fin_tensor.specs.declared.format.Level.{Level}
use Rattle.fin_tensor.specs.declared.format.Level.TheVariants as level
use Rattle.fin_tensor.specs.declared.part.Part.{Part}
use Rattle.fin_tensor.specs.declared.part.Part.TheVariants as part
use Rattle.fin_tensor.specs.declared.storage.Storage.{Storage}
use Rattle.fin_text.specs.Numbers.{words, spaced, spaced_sizes, spelled}
use Rattle.fin_text.specs.Text.{text_of_lines}

-- the word for a level
abbrev pub level_word : Level → List ℕ
level_word level.Dense = codes "dense"
level_word level.List = codes "list"
level_word level.Runs = codes "runs"
level_word level.Band = codes "band"
level_word level.Dict = codes "dict"

abbrev pub name_line : List ℕ → List ℕ
name_line name = codes "tensor " ++ name

abbrev pub format_line : List Level → List ℕ
format_line levels = codes "format" ++ words level_word levels ++ codes " element"

abbrev pub fill_line : ℤ → List ℕ
fill_line fill = codes "fill " ++ spelled fill

abbrev pub shape_line : List ℕ → List ℕ
shape_line shape = codes "shape" ++ spaced_sizes shape

-- numbers of level k
abbrev pub part_line : List ℕ → ℕ → List ℕ → List ℕ
part_line word k numbers = word ++ spaced_sizes (k ∷ numbers)

abbrev pub val_line : List ℤ → List ℕ
val_line val = codes "val" ++ spaced val

-- the lines of level k
abbrev pub part_lines : ℕ → Part → List (List ℕ)
part_lines k part.Dense = []
part_lines k (part.Keys ptr idx) = part_line (codes "ptr") k ptr ∷ part_line (codes "idx") k idx ∷ []
part_lines k (part.Runs ptr stop) = part_line (codes "ptr") k ptr ∷ part_line (codes "stop") k stop ∷ []
part_lines k (part.Band ptr start) = part_line (codes "ptr") k ptr ∷ part_line (codes "start") k start ∷ []

-- the lines of levels k, k + 1 and so on
abbrev pub lines_of_parts : ℕ → List Part → List (List ℕ)
lines_of_parts k [] = []
lines_of_parts k (p ∷ ps) = part_lines k p ++ lines_of_parts (suc k) ps

-- the lines before those of the levels
abbrev pub first_lines : List ℕ → Storage → List (List ℕ)
first_lines name s = name_line name ∷ format_line s.format.levels ∷ fill_line s.format.fill ∷ shape_line s.shape ∷ []

-- the lines of a tensor
abbrev pub tensor_lines : List ℕ → Storage → List (List ℕ)
tensor_lines name s = first_lines name s ++ lines_of_parts 0 s.parts ++ val_line s.val ∷ codes "end" ∷ []

-- the text of a tensor
unfoldable pub tensor_text : List ℕ → Storage → List ℕ
tensor_text name s = text_of_lines (tensor_lines name s)
