-- The rule of words that are reduced by single fetches.
use Rattle.std.specs.Prelude.{◌≡◌, ℕ, length}
use Rattle.std.specs.Int.{cast_signed, w64}
use Rattle.atomic_table.specs.Table.{State, Me, Step}
use Rattle.fin_seats.specs.declared.views.Book.{Book}
use Rattle.fin_seats.specs.declared.views.Start.{Start}
use Rattle.fin_seats.specs.Codes.{flip}
use Rattle.fin_seats.specs.Books.{noted, AreKept}

abbrev pub Views : Type 0
Views = State (Unit {0}) Book

abbrev pub count_of : Start → ℕ
count_of key = length key.codes.value.items

-- each word is its start reduced by the entries of all views
pub record IsKept (key : Start) (s : Views) : Type 0 where
  pub wide : length s.words ≡ count_of key
  pub kept : AreKept key (count_of key) s.words s.views

-- what a fetch tells: the word and the operand are noted
abbrev pub NotesPlain : Step (Unit {0}) → Me (Unit {0}) Book → ℕ → Me (Unit {0}) Book → Type 0
NotesPlain st me n after = (after.0 ≡ noted me.0 st.word (cast_signed w64 st.first)) × (after.1 ≡ me.1)

-- the same where the operand has its top bit flipped
abbrev pub NotesFlipped : Step (Unit {0}) → Me (Unit {0}) Book → ℕ → Me (Unit {0}) Book → Type 0
NotesFlipped st me n after = (after.0 ≡ noted me.0 st.word (cast_signed w64 (flip st.first))) × (after.1 ≡ me.1)
