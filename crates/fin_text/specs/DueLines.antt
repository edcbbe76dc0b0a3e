-- What a line has to be where one is due.
use Rattle.std.specs.Prelude.{◌≡◌, ◌≢◌, ℕ, ◌+◌, ◌<◌, ℤ, List, [], ◌∷◌, ◌++◌, length, slice_index, slice_index_or, drop, All, Contains, codes, if◌then◌else◌, Result, MatchResult}
use Rattle.std.specs.Fmt.{decimal}
use Rattle.std.specs.Str.Parse.{AllDigits}
use Rattle.fin_base.specs.Words.{IsWord}
use Rattle.fin_base.specs.declared.refusal.Rule.{Rule}
use Rattle.fin_base.specs.declared.refusal.Rule.TheVariants.{X1, X2, X3, X4, X5}
use Rattle.fin_tensor.specs.declared.draft.Draft.{Draft}
use Rattle.fin_tensor.specs.declared.format.Format.{Format as TensorFormat}
use Rattle.fin_tensor.specs.declared.format.Level.{Level}
use Rattle.fin_tensor.specs.declared.format.Level.TheVariants as level
use Rattle.fin_tensor.specs.declared.format.Wrap.TheVariants.{Bare}
use Rattle.fin_tensor.specs.declared.part.Part.{Part}
use Rattle.fin_tensor.specs.declared.part.Part.TheVariants as part
use Rattle.fin_tensor.specs.Levels.{IsPtr, IsIdx, IsStop, IsStart}
use Rattle.fin_tensor.specs.Lines.{IsShape, IsVal, due}
use Rattle.fin_tensor.specs.Placement.{IsPlaced, is_dense}
use Rattle.fin_text.specs.Names.{IsName}
use Rattle.fin_text.specs.Numbers.{IsSize, LeadsWell, EndsWord, words, spaced, spaced_sizes}
use Rattle.fin_text.specs.Tensors.{level_word}
use Rattle.fin_text.specs.declared.due.Due.{Due}
use Rattle.fin_text.specs.declared.due.Due.TheVariants.{Tensor, Format, Fill, Shape, Ptr, Second, Val, End}
use Rattle.fin_text.specs.declared.due.LineFail.{LineFail}
use Rattle.fin_text.specs.declared.due.LineFail.TheVariants.{Broken, Memory}

-- the words that lines begin with
abbrev pub known_words : List (List ℕ)
known_words =
    codes "tensor" ∷ codes "format" ∷ codes "fill" ∷ codes "shape" ∷ codes "ptr" ∷ codes "idx" ∷ codes "stop" ∷ codes "start"
    ∷ codes "val" ∷ codes "end" ∷ []

-- that of the line below `ptr`
abbrev pub second_word : Level → List ℕ
second_word level.Dense = []
second_word level.List = codes "idx"
second_word level.Dict = codes "idx"
second_word level.Runs = codes "stop"
second_word level.Band = codes "start"

-- the level that is due
abbrev pub due_level : Draft → Level
due_level draft = slice_index_or draft.format.levels (length draft.parts) level.Dense

abbrev pub due_word : Due → List ℕ
due_word Tensor = codes "tensor"
due_word (Format name) = codes "format"
due_word (Fill head) = codes "fill"
due_word (Shape head) = codes "shape"
due_word (Ptr at) = codes "ptr"
due_word (Second below) = second_word (due_level below.draft)
due_word (Val at) = codes "val"
due_word (End name storage) = codes "end"

-- ---- another level's line
-- a spelled number, of any size, that isn't k
abbrev pub TellsOther : ℕ → List ℕ → Type 0
TellsOther k after = (w rest : List ℕ) × (after ≡ 32 ∷ (w ++ rest)) × All (λ b. b ≢ 32) w × EndsWord rest × AllDigits 10 w × LeadsWell w × (w ≢ decimal k)

abbrev pub TellsOtherLevel : Due → List ℕ → Type 0
TellsOtherLevel (Ptr at) after = TellsOther (length at.draft.parts) after
TellsOtherLevel (Second below) after = TellsOther (length below.draft.parts) after
TellsOtherLevel _ after = ⊥

-- ---- the form of what follows a line's first word
-- behind each space stands a word
abbrev pub HasNoEmptyWord : List ℕ → Type 0
HasNoEmptyWord after = (k : ℕ) → k < length after → slice_index after k ≡ 32 → (k + 1 < length after) × (slice_index after (k + 1) ≢ 32)

-- one word stands there
abbrev pub HasOneWord : List ℕ → Type 0
HasOneWord after = (w : List ℕ) × (after ≡ 32 ∷ w) × All (λ b. b ≢ 32) w × (0 < length w)

abbrev pub HasForm : Due → List ℕ → Type 0
HasForm Tensor after = (name : List ℕ) × (after ≡ 32 ∷ name) × IsName name
HasForm (Format name) after = (levels : List Level) × (after ≡ words level_word levels ++ codes " element") × IsPlaced levels Bare
HasForm (Fill head) after = HasOneWord after
HasForm (Shape head) after = HasNoEmptyWord after
HasForm (Ptr at) after = (0 < length after) × HasNoEmptyWord after
HasForm (Second below) after = (0 < length after) × HasNoEmptyWord after
HasForm (Val at) after = HasNoEmptyWord after
HasForm (End name storage) after = after ≡ []

-- ---- its numbers
abbrev pub TellsSizes : List ℕ → List ℕ → Type 0
TellsSizes after numbers = (after ≡ spaced_sizes numbers) × All IsSize numbers

-- of level k
abbrev pub TellsPart : ℕ → List ℕ → List ℕ → Type 0
TellsPart k after numbers = (after ≡ spaced_sizes (k ∷ numbers)) × All IsSize numbers

abbrev pub TellsValues : List ℕ → List ℤ → Type 0
TellsValues after values = (after ≡ spaced values) × All IsWord values

abbrev pub HasNumbers : Due → List ℕ → Type 0
HasNumbers Tensor after = Unit {0}
HasNumbers (Format name) after = Unit {0}
HasNumbers (Fill head) after = (v : ℤ) × TellsValues after (v ∷ [])
HasNumbers (Shape head) after = (ns : List ℕ) × TellsSizes after ns
HasNumbers (Ptr at) after = (ns : List ℕ) × TellsPart (length at.draft.parts) after ns
HasNumbers (Second below) after = (ns : List ℕ) × TellsPart (length below.draft.parts) after ns
HasNumbers (Val at) after = (vs : List ℤ) × TellsValues after vs
HasNumbers (End name storage) after = Unit {0}

-- ---- what is next, if the line is valid
-- the line below `ptr`
abbrev pub IsSecond : Level → ℕ → ℕ → List ℕ → List ℕ → Type 0
IsSecond level.Dense n fibres ptr numbers = ⊥
IsSecond level.List n fibres ptr numbers = IsIdx n fibres ptr numbers
IsSecond level.Dict n fibres ptr numbers = IsIdx n fibres ptr numbers
IsSecond level.Runs n fibres ptr numbers = IsStop n fibres ptr numbers
IsSecond level.Band n fibres ptr numbers = IsStart n fibres ptr numbers

abbrev pub part_with : Level → List ℕ → List ℕ → Part
part_with level.Dense ptr numbers = part.Dense
part_with level.List ptr numbers = part.Keys ptr numbers
part_with level.Dict ptr numbers = part.Keys ptr numbers
part_with level.Runs ptr numbers = part.Runs ptr numbers
part_with level.Band ptr numbers = part.Band ptr numbers

-- dense levels have no lines
abbrev pub leading_dense : List Level → List Part
leading_dense [] = []
leading_dense (l ∷ ls) = if is_dense l then part.Dense ∷ leading_dense ls else []

-- the parts up to the next level that has lines
abbrev pub with_dense : TensorFormat → List Part → List Part
with_dense format parts = parts ++ leading_dense (drop (length parts) format.levels)

-- a tensor is told so far
pub record IsTold (name : List ℕ) (format : TensorFormat) (shape : List ℕ) (parts : List Part) (name' : List ℕ) (draft : Draft) : Type 0 where
  pub name_is : name' ≡ name
  pub format_is : draft.format ≡ format
  pub shape_is : draft.shape ≡ shape
  pub parts_are : draft.parts ≡ parts

-- after these parts the next line is due
abbrev pub IsAfter : List ℕ → TensorFormat → List ℕ → List Part → Due → Type 0
IsAfter name format shape parts (Ptr at) = IsTold name format shape (with_dense format parts) at.name at.draft
IsAfter name format shape parts (Val at) = IsTold name format shape (with_dense format parts) at.name at.draft
IsAfter name format shape parts _ = ⊥

abbrev pub IsNextName : List ℕ → Due → Type 0
IsNextName name (Format name') = name' ≡ name
IsNextName name _ = ⊥

abbrev pub IsNextFill : List ℕ → List Level → Due → Type 0
IsNextFill name levels (Fill head) = (head.name ≡ name) × (head.format.levels ≡ levels)
IsNextFill name levels _ = ⊥

abbrev pub IsNextShape : List ℕ → List Level → ℤ → Due → Type 0
IsNextShape name levels fill (Shape head) = (head.name ≡ name) × (head.format.levels ≡ levels) × (head.format.fill ≡ fill)
IsNextShape name levels fill _ = ⊥

abbrev pub IsNextSecond : List ℕ → Draft → List ℕ → Due → Type 0
IsNextSecond name draft ptr (Second below) = IsTold name draft.format draft.shape draft.parts below.name below.draft × (below.ptr ≡ ptr)
IsNextSecond name draft ptr _ = ⊥

abbrev pub IsNextEnd : List ℕ → Draft → List ℤ → Due → Type 0
IsNextEnd name draft val (End name' s) = (name' ≡ name) × (s.format ≡ draft.format) × (s.shape ≡ draft.shape) × (s.parts ≡ draft.parts) × (s.val ≡ val)
IsNextEnd name draft val _ = ⊥

-- the line is one that is valid, and what is due next
abbrev pub IsTaken : List (List ℕ) → Due → List ℕ → Due → Type 0
IsTaken given Tensor after next = (name : List ℕ) × (after ≡ 32 ∷ name) × ¬ (Contains given name) × IsNextName name next
IsTaken given (Format name) after next = (levels : List Level) × (after ≡ words level_word levels ++ codes " element") × IsNextFill name levels next
IsTaken given (Fill head) after next = (v : ℤ) × TellsValues after (v ∷ []) × IsNextShape head.name head.format.levels v next
IsTaken given (Shape head) after next = (ns : List ℕ) × TellsSizes after ns × IsShape head.format.levels ns × IsAfter head.name head.format ns [] next
IsTaken given (Ptr at) after next = (ns : List ℕ) × TellsPart (length at.draft.parts) after ns × IsPtr (due at.draft.shape at.draft.parts) ns × IsNextSecond at.name at.draft ns next
IsTaken given (Second below) after next = (ns : List ℕ) × TellsPart (length below.draft.parts) after ns
    × IsSecond (due_level below.draft) (slice_index below.draft.shape (length below.draft.parts)) (due below.draft.shape below.draft.parts) below.ptr ns
    × IsAfter below.name below.draft.format below.draft.shape (below.draft.parts ++ part_with (due_level below.draft) below.ptr ns ∷ []) next
IsTaken given (Val at) after next = (vs : List ℤ) × TellsValues after vs × IsVal at.draft.shape at.draft.parts vs × IsNextEnd at.name at.draft vs next
IsTaken given (End name storage) after next = ⊥

-- the same, whatever is next
abbrev pub IsValid : List (List ℕ) → Due → List ℕ → Type 0
IsValid given Tensor after = (name : List ℕ) × (after ≡ 32 ∷ name) × ¬ (Contains given name)
IsValid given (Format name) after = Unit {0}
IsValid given (Fill head) after = Unit {0}
IsValid given (Shape head) after = (ns : List ℕ) × TellsSizes after ns × IsShape head.format.levels ns
IsValid given (Ptr at) after = (ns : List ℕ) × TellsPart (length at.draft.parts) after ns × IsPtr (due at.draft.shape at.draft.parts) ns
IsValid given (Second below) after = (ns : List ℕ) × TellsPart (length below.draft.parts) after ns
    × IsSecond (due_level below.draft) (slice_index below.draft.shape (length below.draft.parts)) (due below.draft.shape below.draft.parts) below.ptr ns
IsValid given (Val at) after = (vs : List ℤ) × TellsValues after vs × IsVal at.draft.shape at.draft.parts vs
IsValid given (End name storage) after = Unit {0}

-- inside a tensor, before `end`
abbrev pub HasNext : Due → Type 0
HasNext Tensor = ⊥
HasNext (End name storage) = ⊥
HasNext _ = Unit {0}

abbrev pub invalid_rule : Due → Rule
invalid_rule Tensor = X5
invalid_rule _ = X4

-- a line that begins with the due word breaks a rule
pub data Breaks (given : List (List ℕ)) (due : Due) (after : List ℕ) : Rule → Type 0 where
  other_level : TellsOtherLevel due after → Breaks given due after X3
  misformed : ¬ (TellsOtherLevel due after) → ¬ (HasForm due after) → Breaks given due after X1
  misspelled : ¬ (TellsOtherLevel due after) → HasForm due after → ¬ (HasNumbers due after) → Breaks given due after X2
  invalid : ¬ (TellsOtherLevel due after) → HasForm due after → HasNumbers due after → ¬ (IsValid given due after) → Breaks given due after (invalid_rule due)

abbrev pub FailsBy : (Rule → Type 0) → LineFail → Type 0
FailsBy P (Broken rule) = P rule
FailsBy P (Memory e) = Unit {0}

-- a line that begins with the due word is taken or refused
abbrev pub TakesLine : List (List ℕ) → Due → List ℕ → Result Due LineFail → Type 0
TakesLine given due after result = MatchResult result (λ next. HasForm due after × IsTaken given due after next) (FailsBy (Breaks given due after))
