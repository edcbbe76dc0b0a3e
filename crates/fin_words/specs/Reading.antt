-- What the words ask for.
use Rattle.std.specs.Prelude.{◌≡◌, ℕ, ◌-◌, ◌^◌, ◌≤◌, Bool, true, false, List, [], ◌∷◌, Option, Some, None, codes, if◌then◌else◌, option_map, option_and_then, ◌&&◌, nat_lt}
use Rattle.std.specs.Option.{option_map_or}
use Rattle.std.specs.Str.{bytes_eq}
use Rattle.std.specs.Str.Parse.{digits_value, without_leading_plus}
use Rattle.clap.specs.Words.{Kinds, Row, Text, fault_of, first_of, matches_of, one_of, one_text}
use Rattle.clap.specs.Values.{IsUnsignedIn}
use Rattle.clap.specs.declared.parser.matches.Found.{Found}
use Rattle.fin_words.specs.Command.{finch}
use Rattle.fin_words.specs.declared.mode.Mode.{Mode}
use Rattle.fin_words.specs.declared.mode.Mode.TheVariants.{Run, Check, Plain, Gen}
use Rattle.fin_words.specs.declared.mode.Asked.{Asked}

-- the listed modes
abbrev pub mode_of : Text → Option Mode
mode_of word =
    if bytes_eq word (codes "run") then Some Run
    else if bytes_eq word (codes "check") then Some Check
    else if bytes_eq word (codes "plain") then Some Plain
    else if bytes_eq word (codes "gen") then Some Gen
    else None

abbrev pub is_run : Mode → Bool
is_run Run = true
is_run _ = false

-- the number of an option
abbrev pub number_in : List Row → Text → ℕ → ℕ
number_in rows name default = option_map_or (λ text. digits_value 10 (without_leading_plus text)) (one_of name rows) default

-- a flag was given
abbrev pub flag_in : List Row → Text → Bool
flag_in rows name = option_map_or (λ text. bytes_eq text (codes "true")) (one_of name rows) false

-- the options' values, with a mode
abbrev pub asked_in : List Row → Mode → Asked
asked_in rows mode = record {
  mode = mode;
  workers = number_in rows (codes "workers") 1;
  budget = number_in rows (codes "budget") 4294967296;
  stats = flag_in rows (codes "stats");
  seed = number_in rows (codes "seed") 1;
  size = number_in rows (codes "size") 10;
}

-- what is asked for by the matches
abbrev pub asked_by : List Row → Option Asked
asked_by rows = option_map (asked_in rows) (option_and_then mode_of (first_of (codes "mode") rows))

-- the value, where there is no fault
abbrev pub unless_fault : Kinds → Option Asked → Option Asked
unless_fault [] asked = asked
unless_fault (fault ∷ faults) asked = None

-- what the words ask for, where they have a reading: there is no fault in them, and the mode is a listed one
unfoldable pub reading : List Text → Option Asked
reading words = unless_fault (fault_of finch words) (asked_by (matches_of finch words))

-- a run by more than one worker is asked for
abbrev pub is_shared : Asked → Bool
is_shared asked = is_run asked.mode && nat_lt 1 asked.workers

abbrev pub asks_workers : List Text → Bool
asks_workers words = option_map_or is_shared (reading words) false

-- the numbers lie in the ranges of their options
pub record IsInRange (asked : Asked) : Type 0 where
  pub workers : (1 ≤ asked.workers) × (asked.workers ≤ 64)
  pub budget : (1 ≤ asked.budget) × (asked.budget ≤ 2 ^ 40)
  pub seed : asked.seed ≤ 2 ^ 63 - 1
  pub size : (3 ≤ asked.size) × (asked.size ≤ 16)

-- the value of an option, where it has one, is a number from low to high
abbrev pub Passes : Found → Text → ℕ → ℕ → Type 0
Passes found name low high = (text : List ℕ) → one_text found name ≡ Some text → IsUnsignedIn low high text

pub record HasRanges (found : Found) : Type 0 where
  pub workers : Passes found (codes "workers") 1 64
  pub budget : Passes found (codes "budget") 1 (2 ^ 40)
  pub seed : Passes found (codes "seed") 0 (2 ^ 63 - 1)
  pub size : Passes found (codes "size") 3 16
