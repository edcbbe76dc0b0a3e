-- What is true of the texts of tensors.
use Rattle.std.specs.Prelude.{◌≡◌, ◌≢◌, ◌⊎◌, ℕ, ◌+◌, ◌≤◌, List, [], ◌∷◌, ◌++◌, length, All, Contains, Result, Ok, Err}
use Rattle.fin_base.specs.Words.{IsWord}
use Rattle.fin_base.specs.declared.refusal.Fail.{Fail}
use Rattle.fin_base.specs.declared.refusal.Fail.TheVariants.{Refused, Memory}
use Rattle.fin_base.specs.declared.refusal.Rule.{Rule}
use Rattle.fin_tensor.specs.declared.storage.Storage.{Storage}
use Rattle.fin_text.specs.Names.{IsName}
use Rattle.fin_text.specs.Reading.{BreaksText, IsRead, IsSkipped, ReadsTensors}
use Rattle.fin_text.specs.Tensors.{tensor_lines, tensor_text}
use Rattle.fin_text.specs.declared.read.Given.{Given}

-- its fill and its values are words
abbrev pub HasWords : Storage → Type 0
HasWords s = IsWord s.format.fill × All IsWord s.val

-- that tensor alone was read, or memory ran out
abbrev pub IsReadBack : List ℕ → Storage → ℕ → Result (List (List ℕ × Given)) Fail → Type 0
IsReadBack name s first (Ok given) = given ≡ (name, record { storage = s; line = first }) ∷ []
IsReadBack name s first (Err (Refused refusal)) = ⊥
IsReadBack name s first (Err (Memory e)) = Unit {0}

-- that tensor was read first, and no line of its text breaks a rule
abbrev pub IsReadFirst : List ℕ → Storage → ℕ → Result (List (List ℕ × Given)) Fail → Type 0
IsReadFirst name s first (Ok given) = (others : List (List ℕ × Given)) × (given ≡ (name, record { storage = s; line = first }) ∷ others)
IsReadFirst name s first (Err (Refused refusal)) = first + length (tensor_lines name s) ≤ refusal.line
IsReadFirst name s first (Err (Memory e)) = Unit {0}

-- the text of a tensor is read as that tensor
abbrev pub ReadsBack : Type 0
ReadsBack = (name : List ℕ) (s : Storage) (first : ℕ) (answer : Result (List (List ℕ × Given)) Fail) → IsName name → HasWords s → ReadsTensors (tensor_text name s) first answer → IsReadBack name s first answer

-- also where more follows
abbrev pub ReadsOn : Type 0
ReadsOn = (name : List ℕ) (s : Storage) (rest : List ℕ) (first : ℕ) (answer : Result (List (List ℕ × Given)) Fail) → IsName name → HasWords s → ReadsTensors (tensor_text name s ++ rest) first answer → IsReadFirst name s first answer

-- no text of a tensor begins with that of another
abbrev pub IsPrefixFree : Type 0
IsPrefixFree = (name other : List ℕ) (s t : Storage) (rest : List ℕ) → IsName name → IsName other → HasWords s → HasWords t → tensor_text name s ++ rest ≡ tensor_text other t → (name ≡ other) × (s ≡ t) × (rest ≡ [])

-- A text of tensors, by its lines alone: texts of tensors one after another, and empty lines and comments before, between and behind
-- them. No name is one of those before. The text's first line has that number, and each tensor is told with the number of its first line.
pub data AreTensors : List (List ℕ) → List ℕ → ℕ → List (List ℕ × Given) → Type 0 where
  last : (names : List (List ℕ)) (line : List ℕ) (n : ℕ) → All (λ b. b ≢ 10) line → IsSkipped line → AreTensors names line n []
  passed : (names : List (List ℕ)) (line text : List ℕ) (n : ℕ) (given : List (List ℕ × Given)) → All (λ b. b ≢ 10) line → IsSkipped line
      → AreTensors names text (n + 1) given → AreTensors names (line ++ 10 ∷ text) n given
  tensor : (names : List (List ℕ)) (name : List ℕ) (s : Storage) (text : List ℕ) (n : ℕ) (given : List (List ℕ × Given))
      → IsName name → ¬ (Contains names name) → HasWords s → AreTensors (names ++ name ∷ []) text (n + length (tensor_lines name s)) given
      → AreTensors names (tensor_text name s ++ text) n ((name, record { storage = s; line = n }) ∷ given)

-- a text that is read is a text of those tensors
abbrev pub ReadsSequences : Type 0
ReadsSequences = (text : List ℕ) (first : ℕ) (given : List (List ℕ × Given)) → ReadsTensors text first (Ok given) → AreTensors [] text first given

-- these tensors were read, or memory ran out
abbrev pub IsReadAs : List (List ℕ × Given) → Result (List (List ℕ × Given)) Fail → Type 0
IsReadAs given (Ok other) = other ≡ given
IsReadAs given (Err (Refused refusal)) = ⊥
IsReadAs given (Err (Memory e)) = Unit {0}

-- and a text of tensors is read as those
abbrev pub ReadsEverySequence : Type 0
ReadsEverySequence = (text : List ℕ) (first : ℕ) (given : List (List ℕ × Given)) (answer : Result (List (List ℕ × Given)) Fail)
    → AreTensors [] text first given → ReadsTensors text first answer → IsReadAs given answer

-- each text is read as some tensors, or breaks a rule at a line
abbrev pub ReadsOrBreaks : Type 0
ReadsOrBreaks = (text : List ℕ) (first : ℕ)
    → ((given : List (List ℕ × Given)) × IsRead text first given) ⊎ ((line : ℕ) × (rule : Rule) × BreaksText text first line rule)
