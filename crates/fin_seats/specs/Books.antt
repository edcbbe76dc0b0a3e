-- Words that are reduced, and the books in which their entries stand.
use Rattle.std.specs.Prelude.{◌≡◌, ◌≢◌, ℕ, ◌<◌, ℤ, List, [], ◌∷◌, ◌++◌, slice_index, cond, eqb}
use Rattle.std.specs.List.{AllByRecursion}
use mathlib.Core.Option.{some}
use lib.ListN.{get_elem?}
use Rattle.fin_base.specs.declared.reduce.Reduce.{Reduce}
use Rattle.fin_base.specs.declared.reduce.Reduce.TheVariants.{Put}
use Rattle.fin_base.specs.Words.{IsWord, reduced}
use Rattle.fin_seats.specs.declared.views.Standing.{Standing}
use Rattle.fin_seats.specs.declared.views.Book.{Book}
use Rattle.fin_seats.specs.declared.views.Start.{Start}
use Rattle.fin_seats.specs.Codes.{code, decode}
use Rattle.fin_seats.specs.Counts as counts

-- the values of the entries at word k, in order
abbrev pub values_at : ℕ → List (ℕ × ℤ) → List ℤ
values_at k [] = []
values_at k (e ∷ es) = cond (eqb e.0 k) (e.1 ∷ values_at k es) (values_at k es)

-- a, reduced by the values of the entries at word k of all books
abbrev pub gathered : Reduce → ℕ → ℤ → List Book → ℤ
gathered by k a [] = a
gathered by k a (b ∷ bs) = gathered by k (reduced by a (values_at k b.entries)) bs

-- the values of the entries are words
abbrev pub AreWords : List (ℕ × ℤ) → Type 0
AreWords es = AllByRecursion (λ (e : ℕ × ℤ). IsWord e.1) es

-- what word k holds at the start
abbrev pub start_at : Start → ℕ → ℤ
start_at key k = decode key.by (slice_index key.codes.value.items k)

abbrev pub standing : Book → Standing
standing b = b.standing

abbrev pub opened : Start → Book
opened key = record { standing = counts.opened key.seats; entries = [] }

abbrev pub spent : Book
spent = record { standing = counts.spent; entries = [] }

abbrev pub counted : Book → Book
counted b = record b { standing = counts.counted b.standing }

abbrev pub entered : Book → Book
entered b = record { standing = counts.entered b.standing; entries = [] }

-- the first seat, once `count` seats were made
abbrev pub dealt : Book → ℕ → Book
dealt b count = record { standing = counts.dealt b.standing count; entries = [] }

-- a book with another one's seats, and its entries behind its own
abbrev pub joined : Book → Book → Book
joined b c = record { standing = counts.united b.standing c.standing; entries = b.entries ++ c.entries }

-- a book with one entry more
abbrev pub noted : Book → ℕ → ℤ → Book
noted b k z = record b { entries = b.entries ++ (k, z) ∷ [] }

-- Each of the first `count` words is stored, and is its start reduced by the entries of all books.
pub record AreKept (key : Start) (count : ℕ) (words : List ℕ) (books : List Book) : Type 0 where
  pub word_is : (k : ℕ) → k < count → slice_index words k ≡ code key.by (gathered key.by k (start_at key k) books)
  pub starts_are : (k : ℕ) → k < count → IsWord (start_at key k)
  pub order_free : key.by ≢ Put
  pub counted_are : counts.IsCounted standing key.seats books
  pub values_are : (i : ℕ) (b : Book) → get_elem? books i ≡ some b → AreWords b.entries
  pub empty : (i : ℕ) (b : Book) → get_elem? books i ≡ some b → b.standing.stands ≡ 0 → b.entries ≡ []
