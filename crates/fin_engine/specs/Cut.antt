-- The two parts of a job: the program's text, and behind the line `%%` the tensors' text.
use Rattle.std.specs.Prelude.{◌≡◌, ◌≢◌, ℕ, ◌+◌, ◌==◌, List, ◌∷◌, ◌++◌, length, take, drop, All, codes}
use Rattle.std.specs.List.{join_with_byte, slice_split}
use Rattle.fin_text.specs.Text.{text_of_lines}

-- the lines of a text, without the newlines between them
abbrev pub lines : List ℕ → List (List ℕ)
lines text = slice_split (λ b. b == 10) text

-- a line that doesn't end the program
abbrev pub IsBefore : List ℕ → Type 0
IsBefore line = line ≢ codes "%%"

-- no line ends the program
abbrev pub IsEndless : List ℕ → Type 0
IsEndless text = All IsBefore (lines text)

-- The first line `%%` has this number; the program is the lines before it, and the tensors are the lines behind it.
pub record IsCut (text program tensors : List ℕ) (last : ℕ) : Type 0 where
  pub before : List (List ℕ)
  pub behind : List (List ℕ)
  pub split : lines text ≡ before ++ codes "%%" ∷ behind
  pub first : All IsBefore before
  pub program_is : program ≡ text_of_lines before
  pub tensors_is : tensors ≡ join_with_byte 10 behind
  pub last_is : last ≡ length before + 1

-- The lines before this place have been looked at, and none of them ends the program; the next one has this number.
pub record IsReached (text : List ℕ) (at next : ℕ) : Type 0 where
  pub before : List (List ℕ)
  pub lines_are : lines text ≡ before ++ lines (drop at text)
  pub none : All IsBefore before
  pub front : take at text ≡ text_of_lines before
  pub counted : next ≡ length before + 1
