-- Each step of the words keeps their rule.
use Rattle.std.proofs.Common.{◌≡◌, ◌≢◌, ℕ, ◌<◌, ℤ, List, [], ◌∷◌, length, sym, refl, ap, ◌∙◌, subst, arith, length-set}
use Rattle.std.specs.Prelude.{slice_index}
use Rattle.std.specs.Int.{cast_signed, cast_unsigned, w64}
use Rattle.std.proofs.lemmas.Int.{to_z-of_z}
use mathlib.Core.Option.{none, some}
use lib.ListN.{get_elem?}
use Rattle.atomic_table.specs.Table.{State, Me, step, keeps, Allows, Splits, Joins}
use Rattle.fin_base.specs.declared.reduce.Reduce.{Reduce}
use Rattle.fin_base.specs.declared.reduce.Reduce.TheVariants.{Min, Put}
use Rattle.fin_base.specs.Words.{IsWord, apply, reduced}
use Rattle.fin_seats.specs.declared.views.Book.{Book}
use Rattle.fin_seats.specs.declared.views.Start.{Start}
use Rattle.fin_seats.specs.Codes.{flip, code, decode}
use Rattle.fin_seats.specs.Books.{values_at, gathered, start_at, opened, spent, counted, entered, joined, noted}
use Rattle.fin_seats.proofs.Storing.{decodes}
use Rattle.fin_seats.proofs.Books.{kept-opens, kept-is_word, kept-noted, kept-split, kept-join, kept-closes}
use Rattle.fin_atomic.specs.Words.{count_of, IsKept, NotesPlain, NotesFlipped}
use Rattle.fin_atomic.proofs.Fetches.{fetched, Fetches}

pub opens : (key : Start) (ws : List ℕ) → ws ≡ key.codes.value.items → key.by ≢ Put → 0 < key.seats → ((k : ℕ) → k < length ws → IsWord (start_at key k) × (code key.by (start_at key k) ≡ slice_index ws k)) → IsKept key record { words = ws; homes = []; views = opened key ∷ [] }
opens key ws is free any starts = let long = ap length is in record {
  wide = long;
  kept = kept-opens key (count_of key) ws free any (λ k h. starts k (omega arith));
}

-- a fetch, whichever
reduces : (key : Start) (by : Reduce) → key.by ≡ by → Fetches by → (slots id : ℕ) (me : Me (Unit {0}) Book) (k : ℕ) (v : ℤ) → IsWord v → k < count_of key → 0 < me.0.standing.stands
    → (then : ℕ → Me (Unit {0}) Book → Type 0) → ((n : ℕ) → then n (noted me.0 k v, me.1))
    → Allows (IsKept key) slots id me k (fetched by (code by v)) then
reduces key by is law slots id me k v fit in_range seated then tells s r _ at small =
    let wide = r.wide in
    let word : ℕ = slice_index s.words k in
    let old : ℤ = gathered key.by k (start_at key k) s.views in
    let old_is : word ≡ code by old = r.kept.word_is k in_range ∙ ap (λ (b : Reduce). code b old) is in
    let new_is : fetched by (code by v) word ≡ code key.by (apply key.by old v) =
    ap (fetched by (code by v)) old_is ∙ law old v (kept-is_word key (count_of key) s.words s.views k r.kept in_range) fit ∙ sym (ap (λ (b : Reduce). code b (apply b old v)) is) in (
      noted me.0 k v,
      keeps,
      tt,
      record {
        wide = length-set s.words k (fetched by (code by v) word) ∙ wide;
        kept = kept-noted key (count_of key) s.words s.views id me.0 k v (fetched by (code by v) word) r.kept at seated in_range (omega arith) fit new_is;
      },
      tells word,
    )

pub reduces_plain : (key : Start) (by : Reduce) → key.by ≡ by → Fetches by → (slots id : ℕ) (me : Me (Unit {0}) Book) (k : ℕ) (v : ℤ) (x : ℕ) → x ≡ cast_unsigned w64 v → code by v ≡ cast_unsigned w64 v → IsWord v → k < count_of key → 0 < me.0.standing.stands
    → Allows (IsKept key) slots id me k (fetched by x) (NotesPlain (step slots k x 0 none) me)
reduces_plain key by is law slots id me k v x x_is code_is fit in_range seated =
    subst (λ (y : ℕ). Allows (IsKept key) slots id me k (fetched by y) (NotesPlain (step slots k y 0 none) me)) (code_is ∙ sym x_is)
    (reduces key by is law slots id me k v fit in_range seated (NotesPlain (step slots k (code by v) 0 none) me) (λ n. (ap (noted me.0 k) (sym (ap (cast_signed w64) code_is ∙ to_z-of_z w64 v fit)), refl)))

pub reduces_flipped : (key : Start) (by : Reduce) → key.by ≡ by → Fetches by → (slots id : ℕ) (me : Me (Unit {0}) Book) (k : ℕ) (v : ℤ) (x : ℕ) → x ≡ flip (cast_unsigned w64 v) → code by v ≡ flip (cast_unsigned w64 v) → IsWord v → k < count_of key → 0 < me.0.standing.stands
    → Allows (IsKept key) slots id me k (fetched by x) (NotesFlipped (step slots k x 0 none) me)
reduces_flipped key by is law slots id me k v x x_is code_is fit in_range seated =
    subst (λ (y : ℕ). Allows (IsKept key) slots id me k (fetched by y) (NotesFlipped (step slots k y 0 none) me)) (code_is ∙ sym x_is)
    (reduces key by is law slots id me k v fit in_range seated (NotesFlipped (step slots k (code by v) 0 none) me) (λ n. (ap (noted me.0 k) (sym (ap (λ m. cast_signed w64 (flip m)) code_is ∙ decodes Min v fit)), refl)))

pub splits : (key : Start) (id : ℕ) (v : Book) → 0 < v.standing.stands → 0 < v.standing.count → v.standing.count < v.standing.seats → Splits {S = Unit {0}} (IsKept key) id v (counted v) (entered v)
splits key id v seated holds more s r at = record { wide = r.wide; kept = kept-split key (count_of key) s.words s.views id v r.kept at seated holds more }

pub joins : (key : Start) (id : ℕ) (v : Book) (other : ℕ) (w : Book) → 0 < v.standing.stands → Joins {S = Unit {0}} (IsKept key) id v other w (joined v w) spent
joins key id v other w seated s r at apart there = record { wide = r.wide; kept = kept-join key (count_of key) s.words s.views id v other w r.kept at apart there seated }

pub closes : (key : Start) (id : ℕ) (v : Book) (s : State (Unit {0}) Book) → IsKept key s → get_elem? s.views id ≡ some v → v.standing.stands ≡ key.seats → (ws : List ℕ) → s.words ≡ ws → (k : ℕ) → k < count_of key → decode key.by (slice_index ws k) ≡ reduced key.by (start_at key k) (values_at k v.entries)
closes key id v s r at all ws same k h = ap (λ l. decode key.by (slice_index l k)) (sym same) ∙ kept-closes key (count_of key) s.words s.views id v r.kept at all k h
