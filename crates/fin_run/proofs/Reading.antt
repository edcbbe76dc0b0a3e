-- What loads read of what a run holds.
use Rattle.std.proofs.Common.{◌≡◌, ℕ, zero, suc, List, [], ◌∷◌, refl, sym, ap, ◌∙◌, Option, Some, None, SFits, w64, to_z, of_z, ◌+◌, true, false}
use Rattle.std.proofs.lemmas.Int.{to_z-of_z}
use Rattle.std.specs.Prelude.{slice_get, nat_eq, if◌then◌else◌}
use Rattle.fin_tensor.specs.declared.part.Part.{Part}
use Rattle.fin_tensor.specs.declared.storage.Storage.{Storage}
use Rattle.std.specs.Prelude.{ℤ, pos, negsuc}
use Rattle.fin_ir.specs.declared.expression.Table.{Table}
use Rattle.fin_ir.specs.declared.expression.Table.TheVariants.{Ptr, Idx, Stop, Start}
use Rattle.fin_ir.specs.Loads.{table_in, part_at, number_at, word_at, seek_in}
use Rattle.fin_ir.specs.Machine.{Tensor, nothing, building, stored, held, over}
use Rattle.fin_ir.specs.Start.{given_if, given, first_tensors}
use Rattle.fin_ir.specs.Value.{extents_in, parts_in, words_in}
use Rattle.fin_run.specs.declared.state.Held.{Held}
use Rattle.fin_run.specs.declared.state.Held.TheVariants.{Nothing, Lent, Building, Frozen}
use Rattle.fin_run.specs.States.{tensor_of, tensors_of, reads, lent_from}
use Rattle.fin_run.specs.Storages.{storage_if, storage_in, shown}

abbrev pub tensor_if : List Storage → Option Held → Tensor
tensor_if inputs None = nothing
tensor_if inputs (Some h) = tensor_of inputs h

pub held_is : (inputs : List Storage) (hs : List Held) (t : ℕ) → held (tensors_of inputs hs) t ≡ tensor_if inputs (slice_get hs t)
held_is inputs [] t = refl
held_is inputs (h ∷ hs) zero = refl
held_is inputs (h ∷ hs) (suc t) = held_is inputs hs t

alone : (x : Tensor) → over x nothing ≡ x
alone nothing = refl
alone (building b) = refl
alone (stored s) = refl

pub reads_is : (inputs : List Storage) (hs : List Held) (t : ℕ) → reads inputs hs t ≡ held (tensors_of inputs hs) t
reads_is inputs hs t = alone (held (tensors_of inputs hs) t)

-- a building tensor reads as nothing does
module _ (A : Type 0) (f : Tensor → A) (same : (b : _) → f (building b) ≡ f nothing) where
  shown_given : (s : Option Storage) → f (given_if s) ≡ f (shown s)
  shown_given None = refl
  shown_given (Some s) = refl

  shown_held : (inputs : List Storage) (o : Option Held) → f (tensor_if inputs o) ≡ f (shown (storage_if inputs o))
  shown_held inputs None = refl
  shown_held inputs (Some Nothing) = refl
  shown_held inputs (Some (Lent k)) = shown_given (slice_get inputs k)
  shown_held inputs (Some (Building b)) = same b
  shown_held inputs (Some (Frozen s)) = refl

  pub shown_is : (inputs : List Storage) (hs : List Held) (t : ℕ) → f (reads inputs hs t) ≡ f (shown (storage_in inputs hs t))
  shown_is inputs hs t = ap f (reads_is inputs hs t ∙ held_is inputs hs t) ∙ shown_held inputs (slice_get hs t)

pub extents_shown : (inputs : List Storage) (hs : List Held) (t : ℕ) → extents_in (reads inputs hs t) ≡ extents_in (shown (storage_in inputs hs t))
extents_shown = shown_is (List ℕ) extents_in (λ b. refl)

pub parts_shown : (inputs : List Storage) (hs : List Held) (t : ℕ) → parts_in (reads inputs hs t) ≡ parts_in (shown (storage_in inputs hs t))
parts_shown = shown_is (List Part) parts_in (λ b. refl)

pub words_shown : (inputs : List Storage) (hs : List Held) (t : ℕ) → words_in (reads inputs hs t) ≡ words_in (shown (storage_in inputs hs t))
words_shown = shown_is (List ℤ) words_in (λ b. refl)

-- ---- where the tensor is a storage, and where it is none

module _ (inputs : List Storage) (hs : List Held) (t : ℕ) (s : Storage) (e : storage_in inputs hs t ≡ Some s) where
  pub extents_found : extents_in (reads inputs hs t) ≡ s.shape
  extents_found = extents_shown inputs hs t ∙ ap (λ o. extents_in (shown o)) e

  pub parts_found : parts_in (reads inputs hs t) ≡ s.parts
  parts_found = parts_shown inputs hs t ∙ ap (λ o. parts_in (shown o)) e

  pub words_found : words_in (reads inputs hs t) ≡ s.val
  words_found = words_shown inputs hs t ∙ ap (λ o. words_in (shown o)) e

no_number : (table : Table) (level : ℕ) (at : ℤ) → number_at (table_in table (part_at [] level)) at ≡ pos 0
no_number Ptr level (pos n) = refl
no_number Ptr level (negsuc n) = refl
no_number Idx level (pos n) = refl
no_number Idx level (negsuc n) = refl
no_number Stop level (pos n) = refl
no_number Stop level (negsuc n) = refl
no_number Start level (pos n) = refl
no_number Start level (negsuc n) = refl

no_word : (at : ℤ) → word_at [] at ≡ pos 0
no_word (pos n) = refl
no_word (negsuc n) = refl

no_place : (level : ℕ) (from to key : ℤ) → seek_in [] [] level from to key ≡ from
no_place level (pos a) (pos b) (pos k) = refl
no_place level (pos a) (pos b) (negsuc k) = refl
no_place level (pos a) (negsuc b) key = refl
no_place level (negsuc a) to key = refl

module _ (inputs : List Storage) (hs : List Held) (t : ℕ) (e : storage_in inputs hs t ≡ None) where
  pub none_number : (table : Table) (level : ℕ) (at : ℤ) → number_at (table_in table (part_at (parts_in (reads inputs hs t)) level)) at ≡ pos 0
  none_number table level at = ap (λ ps. number_at (table_in table (part_at ps level)) at) (parts_shown inputs hs t ∙ ap (λ o. parts_in (shown o)) e) ∙ no_number table level at

  pub none_word : (at : ℤ) → word_at (words_in (reads inputs hs t)) at ≡ pos 0
  none_word at = ap (λ ws. word_at ws at) (words_shown inputs hs t ∙ ap (λ o. words_in (shown o)) e) ∙ no_word at

  pub none_place : (level : ℕ) (from to key : ℤ) → seek_in (extents_in (reads inputs hs t)) (parts_in (reads inputs hs t)) level from to key ≡ from
  none_place level from to key =
      ap (λ ns. seek_in ns (parts_in (reads inputs hs t)) level from to key) (extents_shown inputs hs t ∙ ap (λ o. extents_in (shown o)) e)
      ∙ ap (λ ps. seek_in [] ps level from to key) (parts_shown inputs hs t ∙ ap (λ o. parts_in (shown o)) e) ∙ no_place level from to key

-- what a search told of a storage, in the words that were handed over
pub seek_told : (inputs : List Storage) (hs : List Held) (t : ℕ) (s : Storage) → storage_in inputs hs t ≡ Some s → (level : ℕ) (from to key r : ℤ) → SFits w64 from → SFits w64 to → SFits w64 key → r ≡ seek_in s.shape s.parts level (to_z w64 (of_z w64 from)) (to_z w64 (of_z w64 to)) (to_z w64 (of_z w64 key)) → r ≡ seek_in (extents_in (reads inputs hs t)) (parts_in (reads inputs hs t)) level from to key
seek_told inputs hs t s e level from to key r ff ft fk h =
    h
    ∙ ap (λ z. seek_in s.shape s.parts level z (to_z w64 (of_z w64 to)) (to_z w64 (of_z w64 key))) (to_z-of_z w64 from ff)
    ∙ ap (λ z. seek_in s.shape s.parts level from z (to_z w64 (of_z w64 key))) (to_z-of_z w64 to ft)
    ∙ ap (λ z. seek_in s.shape s.parts level from to z) (to_z-of_z w64 key fk)
    ∙ ap (λ ns. seek_in ns s.parts level from to key) (sym (extents_found inputs hs t s e))
    ∙ ap (λ ps. seek_in (extents_in (reads inputs hs t)) ps level from to key) (sym (parts_found inputs hs t s e))

-- the inputs that are lent are the first tensors
pub lent_is : (inputs : List Storage) (k : ℕ) (kinds : List ℕ) → tensors_of inputs (lent_from k kinds) ≡ first_tensors inputs k kinds
lent_is inputs k [] = refl
lent_is inputs k (kind ∷ kinds) = elim (nat_eq kind 0) as (λ b. tensors_of inputs (if b then Lent k ∷ lent_from (k + 1) kinds else Nothing ∷ lent_from k kinds) ≡ (if b then given inputs k ∷ first_tensors inputs (k + 1) kinds else nothing ∷ first_tensors inputs k kinds)) [
  | true ↦ ap (λ ts. given inputs k ∷ ts) (lent_is inputs (k + 1) kinds)
  | false ↦ ap (λ ts. nothing ∷ ts) (lent_is inputs k kinds)
]
