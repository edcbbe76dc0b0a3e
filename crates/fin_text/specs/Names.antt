-- The names of tensors and variables.
use Rattle.std.specs.Prelude.{◌≤◌, ℕ, Bool, ◌==◌, ◌||◌, IsTrue, List, [], ◌∷◌, length, slice_index, Contains, codes}
use Rattle.std.specs.List.{AllPass}
use Rattle.std.specs.Char.{is_ascii_alphabetic, is_ascii_alphanumeric}

-- a letter or `_`
abbrev pub begins_name : ℕ → Bool
begins_name byte = is_ascii_alphabetic byte || byte == 95

-- a letter, a digit or `_`
abbrev pub continues_name : ℕ → Bool
continues_name byte = is_ascii_alphanumeric byte || byte == 95

-- the words that are no names
abbrev pub reserved_words : List (List ℕ)
reserved_words =
    codes "in" ∷ codes "out" ∷ codes "tmp" ∷ codes "fill" ∷ codes "shape" ∷ codes "for" ∷ codes "par"
    ∷ codes "if" ∷ codes "let" ∷ codes "freeze" ∷ codes "thaw" ∷ codes "walk" ∷ codes "gallop" ∷ codes "follow"
    ∷ codes "min" ∷ codes "max" ∷ codes "and" ∷ codes "or" ∷ codes "xor"
    ∷ codes "dense" ∷ codes "list" ∷ codes "runs" ∷ codes "band" ∷ codes "dict" ∷ codes "element"
    ∷ codes "atomic" ∷ codes "mutex" ∷ codes "shard" ∷ []

-- A name.
pub record IsName (word : List ℕ) : Type 0 where
  pub begins : IsTrue (begins_name (slice_index word 0))
  pub continues : AllPass continues_name word
  pub short : length word ≤ 32
  pub free : ¬ (Contains reserved_words word)
