-- A text of tensors, line by line.
use Rattle.std.specs.Prelude.{◌≡◌, ◌≢◌, ℕ, ◌+◌, List, [], ◌∷◌, ◌++◌, All, Contains, Result, MatchResult}
use Rattle.fin_base.specs.declared.refusal.Fail.{Fail}
use Rattle.fin_base.specs.declared.refusal.Fail.TheVariants as fail
use Rattle.fin_base.specs.declared.refusal.Rule.{Rule}
use Rattle.fin_base.specs.declared.refusal.Rule.TheVariants.{X1, X3}
use Rattle.indexmap.specs.IndexMap.{keys}
use Rattle.fin_text.specs.DueLines.{HasForm, IsTaken, Breaks, FailsBy, due_word, known_words}
use Rattle.fin_text.specs.Numbers.{IsFirstWord}
use Rattle.fin_text.specs.declared.due.Due.{Due}
use Rattle.fin_text.specs.declared.due.Due.TheVariants.{Tensor, Format, Fill, Shape, Ptr, Second, Val, End}
use Rattle.fin_text.specs.declared.due.LineFail.{LineFail}
use Rattle.fin_text.specs.declared.due.LineFail.TheVariants.{Broken, Memory}
use Rattle.fin_text.specs.declared.read.Given.{Given}
use Rattle.fin_text.specs.declared.read.Reader.{Reader}

-- an empty line, or a comment
abbrev pub IsSkipped : List ℕ → Type 0
IsSkipped [] = Unit {0}
IsSkipped (b ∷ bs) = b ≡ 35

-- between tensors
abbrev pub IsBetween : Due → Type 0
IsBetween Tensor = Unit {0}
IsBetween _ = ⊥

-- a line that isn't looked at
abbrev pub Skips : Reader → List ℕ → Type 0
Skips reader bytes = IsBetween reader.due × IsSkipped bytes

abbrev pub names_of : Reader → List (List ℕ)
names_of reader = keys reader.given

-- the tensor that is being read has another name than these
abbrev pub IsNew : List (List ℕ) → Due → Type 0
IsNew names Tensor = Unit {0}
IsNew names (Format name) = ¬ (Contains names name)
IsNew names (Fill head) = ¬ (Contains names head.name)
IsNew names (Shape head) = ¬ (Contains names head.name)
IsNew names (Ptr at) = ¬ (Contains names at.name)
IsNew names (Second below) = ¬ (Contains names below.name)
IsNew names (Val at) = ¬ (Contains names at.name)
IsNew names (End name storage) = ¬ (Contains names name)

-- what follows the due word makes this of what was read
abbrev pub IsAfterRest : Due → Reader → ℕ → List ℕ → Reader → Type 0
IsAfterRest Tensor old line after new =
    (new.given.entries ≡ old.given.entries) × (new.since ≡ line) × HasForm Tensor after × IsTaken (names_of old) Tensor after new.due
IsAfterRest (End name storage) old line after new =
    (new.given.entries ≡ old.given.entries ++ (name, record { storage = storage; line = old.since }) ∷ []) × IsBetween new.due × HasForm (End name storage) after
IsAfterRest due old line after new =
    (new.given.entries ≡ old.given.entries) × (new.since ≡ old.since) × HasForm due after × IsTaken [] due after new.due

-- a line that isn't skipped makes this of what was read
pub record IsAfterLine (old : Reader) (line : ℕ) (bytes : List ℕ) (new : Reader) : Type 0 where
  pub after : List ℕ
  pub first : IsFirstWord bytes (due_word old.due) after
  pub known : Contains known_words (due_word old.due)
  pub rest : IsAfterRest old.due old line after new

-- the rule that a line breaks that isn't skipped
pub data BreaksLine (reader : Reader) (bytes : List ℕ) : Rule → Type 0 where
  unknown : (word after : List ℕ) → IsFirstWord bytes word after → ¬ (Contains known_words word) → BreaksLine reader bytes X1
  other : (word after : List ℕ) → IsFirstWord bytes word after → Contains known_words word → word ≢ due_word reader.due → BreaksLine reader bytes X3
  due_line : (after : List ℕ) (rule : Rule) → IsFirstWord bytes (due_word reader.due) after → Breaks (names_of reader) reader.due after rule → BreaksLine reader bytes rule

-- what follows the due word is read
abbrev pub ReadsRest : Reader → ℕ → List ℕ → Result Reader LineFail → Type 0
ReadsRest old line after result = MatchResult result (IsAfterRest old.due old line after) (FailsBy (Breaks (names_of old) old.due after))

-- what a line makes of what was read
pub data ComesTo (old : Reader) (line : ℕ) (bytes : List ℕ) : Reader → Type 0 where
  skipped : Skips old bytes → ComesTo old line bytes old
  taken : (new : Reader) → ¬ (Skips old bytes) → IsAfterLine old line bytes new → ComesTo old line bytes new

-- a line is skipped, taken or refused
abbrev pub ReadsLine : Reader → ℕ → List ℕ → Result Reader LineFail → Type 0
ReadsLine old line bytes result = MatchResult result
    (λ new. ComesTo old line bytes new)
    (FailsBy (λ rule. ¬ (Skips old bytes) × BreaksLine old bytes rule))

-- nothing is read yet
abbrev pub IsFresh : Reader → Type 0
IsFresh reader = (reader.given.entries ≡ []) × IsBetween reader.due

-- what was read when so much of the text is left, whose first line has that number
pub data Reads (text : List ℕ) (first : ℕ) : List ℕ → ℕ → Reader → Type 0 where
  begin : (reader : Reader) → IsFresh reader → Reads text first text first reader
  next : (reader next : Reader) (bytes left : List ℕ) (line : ℕ) → Reads text first (bytes ++ 10 ∷ left) line reader → All (λ b. b ≢ 10) bytes
      → ComesTo reader line bytes next → Reads text first left (line + 1) next

-- the first line of what is left breaks a rule
pub data BreaksNext (reader : Reader) (left : List ℕ) : Rule → Type 0 where
  unended : All (λ b. b ≢ 10) left → ¬ (Skips reader left) → BreaksNext reader left X3
  ended : (bytes more : List ℕ) (rule : Rule) → left ≡ bytes ++ 10 ∷ more → All (λ b. b ≢ 10) bytes → ¬ (Skips reader bytes) → BreaksLine reader bytes rule → BreaksNext reader left rule

-- a text's tensors
pub record IsRead (text : List ℕ) (first : ℕ) (given : List (List ℕ × Given)) : Type 0 where
  pub reader : Reader
  pub left : List ℕ
  pub line : ℕ
  pub reads : Reads text first left line reader
  pub unended : All (λ b. b ≢ 10) left
  pub between : Skips reader left
  pub given_is : given ≡ reader.given.entries

-- the first line of a text that breaks a rule
pub record BreaksText (text : List ℕ) (first line : ℕ) (rule : Rule) : Type 0 where
  pub reader : Reader
  pub left : List ℕ
  pub reads : Reads text first left line reader
  pub breaks : BreaksNext reader left rule

abbrev pub RefusesText : List ℕ → ℕ → Fail → Type 0
RefusesText text first (fail.Refused refusal) = BreaksText text first refusal.line refusal.rule
RefusesText text first (fail.Memory e) = Unit {0}

-- a text is read, or refused at the first line that breaks a rule
abbrev pub ReadsTensors : List ℕ → ℕ → Result (List (List ℕ × Given)) Fail → Type 0
ReadsTensors text first result = MatchResult result (IsRead text first) (RefusesText text first)

abbrev pub fail_at : LineFail → ℕ → Fail
fail_at (Broken rule) line = fail.Refused (record { rule = rule; line = line })
fail_at (Memory e) line = fail.Memory e
