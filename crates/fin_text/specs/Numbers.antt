-- How numbers are spelled, one and many.
use Rattle.std.specs.Prelude.{◌≡◌, ◌≢◌, ℕ, ◌^◌, ◌<◌, ◌≤◌, ℤ, List, [], ◌∷◌, ◌++◌, All, length, slice_index, flat_map, Option, MatchOption}
use Rattle.std.specs.Fmt.{decimal, signed_decimal}

-- the numbers of a tensor that are no values: extents, coordinates, places
abbrev pub IsSize : ℕ → Type 0
IsSize n = n ≤ 2 ^ 40

-- a value in decimal, with a minus before a negative one
abbrev pub spelled : ℤ → List ℕ
spelled v = signed_decimal v

-- some digits, and no zero before others
abbrev pub LeadsWell : List ℕ → Type 0
LeadsWell ds = (0 < length ds) × (slice_index ds 0 ≡ 48 → length ds ≡ 1)

-- a space and a word for each
abbrev pub words : {A : Type 0} → (A → List ℕ) → List A → List ℕ
words word vs = flat_map (λ v. 32 ∷ word v) vs

-- values behind the first word of a line
abbrev pub spaced : List ℤ → List ℕ
spaced vs = words spelled vs

-- other numbers there
abbrev pub spaced_sizes : List ℕ → List ℕ
spaced_sizes ns = words decimal ns

-- neither a space nor a newline
abbrev pub IsInWord : ℕ → Type 0
IsInWord b = (b ≢ 32) × (b ≢ 10)

-- words are told from each other, and from what stands between them
pub record IsSpelling {A : Type 0} (word : A → List ℕ) (Fits : A → Type 0) : Type 0 where
  pub in_word : (v : A) → Fits v → All IsInWord (word v)
  pub one_to_one : (v w : A) → Fits v → Fits w → word v ≡ word w → v ≡ w

-- a word is read: the one value that it spells, if there is one
abbrev pub ReadsWord : {A : Type 0} → (A → List ℕ) → (A → Type 0) → List ℕ → Option A → Type 0
ReadsWord {A} word Fits read result = MatchOption result
    ((v : A) → Fits v → read ≢ word v)
    (λ v. Fits v × (read ≡ word v))

-- the words of a line are read: the one list that they spell, if there is one
abbrev pub ReadsWords : {A : Type 0} → (A → List ℕ) → (A → Type 0) → List ℕ → Option (List A) → Type 0
ReadsWords {A} word Fits line result = MatchOption result
    ((vs : List A) → All Fits vs → line ≢ words word vs)
    (λ vs. (line ≡ words word vs) × All Fits vs × ((ws : List A) → All Fits ws → line ≡ words word ws → ws ≡ vs))

-- the end of a word: a space, or nothing
abbrev pub EndsWord : List ℕ → Type 0
EndsWord [] = Unit {0}
EndsWord (b ∷ bs) = b ≡ 32

-- a line's first word, and what follows it
pub record IsFirstWord (line word after : List ℕ) : Type 0 where
  pub whole : line ≡ word ++ after
  pub spaceless : All (λ b. b ≢ 32) word
  pub ends : EndsWord after
