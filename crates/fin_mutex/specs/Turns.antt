-- The rule of words that are updated by turns.
use Rattle.std.specs.Prelude.{◌≡◌, ◌≢◌, ℕ, ◌+◌, ◌/◌, ◌<◌, ◌≤◌, ℤ, List, map, length, slice_index, Some, None}
use mathlib.Core.Option.{some}
use lib.ListN.{get_elem?}
use Rattle.atomic_table.specs.Table.{State, Me, Step}
use Rattle.fin_seats.specs.declared.views.Book.{Book}
use Rattle.fin_seats.specs.Counts.{made}
use Rattle.fin_seats.specs.Books as books
use Rattle.fin_mutex.specs.declared.rule.View.{View}
use Rattle.fin_mutex.specs.declared.rule.Plan.{Plan}

abbrev pub book : View → Book
book v = v.book

-- how many words there are, turn words aside
abbrev pub count_of : Plan → ℕ
count_of key = length key.start.codes.value.items

abbrev pub Views : Type 0
Views = State (Unit {0}) View

abbrev pub opening_view : Plan → View
opening_view key = record { book = books.opened key.start; number = 1; held = None; note = None; base = count_of key; per = key.per }

abbrev pub spent_view : View
spent_view = record { book = books.spent; number = 0; held = None; note = None; base = 0; per = 0 }

abbrev pub with_book : View → Book → View
with_book v b = record v { book = b }

abbrev pub counted : View → View
counted v = with_book v (books.counted v.book)

-- the new seat's number is the count after it was made
abbrev pub new_view : View → View
new_view v = record { book = books.entered v.book; number = v.book.standing.count + 1; held = None; note = None; base = v.base; per = v.per }

abbrev pub joined : View → View → View
joined v w = with_book v (books.joined v.book w.book)

abbrev pub holding : View → ℕ → View
holding v p = record v { held = Some p }

abbrev pub reading : View → ℕ → ℕ → View
reading v k x = record v { note = Some (k, x) }

abbrev pub written : View → ℕ → ℤ → View
written v k z = record v { book = books.noted v.book k z; note = None }

abbrev pub given_back : View → View
given_back v = record v { held = None }

-- the turn word of a position
abbrev pub turn_of : Plan → Views → ℕ → ℕ
turn_of key s p = slice_index s.words (count_of key + p)

-- how many seats were made
abbrev pub all_made : List View → ℕ
all_made vs = made books.standing (map book vs)

-- what the rule says of one view by itself, where so many seats were made
pub record IsFair (key : Plan) (all : ℕ) (v : View) : Type 0 where
  pub base_is : v.base ≡ count_of key
  pub per_is : v.per ≡ key.per
  pub numbered : 0 < v.number
  pub within : v.number ≤ all

-- what it says of the held position and the note of one view
pub record IsTied (key : Plan) (s : Views) (v : View) : Type 0 where
  pub held_is : (p : ℕ) → v.held ≡ Some p → (p < key.positions) × (turn_of key s p ≡ v.number) × (0 < v.book.standing.stands)
  pub note_is : (k x : ℕ) → v.note ≡ Some (k, x) → (k < count_of key) × (v.held ≡ Some (k / key.per)) × (slice_index s.words k ≡ x)

-- Each word is its start reduced by the entries of all views. A turn word is 0 where no view holds its position; else it
-- is the number of the view that does. No two unspent views have one number.
pub record IsKept (key : Plan) (s : Views) : Type 0 where
  pub wide : length s.words ≡ count_of key + key.positions
  pub kept : books.AreKept key.start (count_of key) s.words (map book s.views)
  pub fair : (i : ℕ) (v : View) → get_elem? s.views i ≡ some v → 0 < v.book.standing.stands → IsFair key (all_made s.views) v
  pub apart : (i j : ℕ) (v w : View) → get_elem? s.views i ≡ some v → get_elem? s.views j ≡ some w → 0 < v.book.standing.stands → 0 < w.book.standing.stands → v.number ≡ w.number → i ≡ j
  pub tied : (i : ℕ) (v : View) → get_elem? s.views i ≡ some v → IsTied key s v
  pub free_is : (p : ℕ) → p < key.positions → turn_of key s p ≢ 0 → (i : ℕ) × (v : View) × (get_elem? s.views i ≡ some v) × (v.held ≡ Some p)

-- what the steps tell: a turn is taken where its word was 0
abbrev pub Takes : Step (Unit {0}) → Me (Unit {0}) View → ℕ → Me (Unit {0}) View → Type 0
Takes st me n after = (after.1 ≡ me.1) × (n ≡ 0 → (p : ℕ) × (st.word ≡ me.0.base + p) × (after.0 ≡ holding me.0 p)) × (n ≢ 0 → after.0 ≡ me.0)

abbrev pub Loads : Step (Unit {0}) → Me (Unit {0}) View → ℕ → Me (Unit {0}) View → Type 0
Loads st me n after = (after.1 ≡ me.1) × (after.0 ≡ reading me.0 st.word n)

abbrev pub Writes : ℤ → Step (Unit {0}) → Me (Unit {0}) View → ℕ → Me (Unit {0}) View → Type 0
Writes z st me n after = (after.1 ≡ me.1) × (after.0 ≡ written me.0 st.word z)

abbrev pub Gives : Step (Unit {0}) → Me (Unit {0}) View → ℕ → Me (Unit {0}) View → Type 0
Gives st me n after = (after.1 ≡ me.1) × (after.0 ≡ given_back me.0)
