-- The canonical storage of a function, level by level.
use Rattle.std.specs.Prelude.{◌≡◌, ℕ, ◌+◌, ◌-◌, ◌^◌, ◌<◌, ◌≤◌, Bool, true, false, ◌&&◌, ◌||◌, not, nat_eq, nat_le, List, [], ◌∷◌, map, length, take, drop, slice_index, slice_index_or, ℤ, filter, flat_map}
use Rattle.std.specs.List.{range_with_len}
use Rattle.std.specs.Ordering.{int_eq}
use Rattle.fin_tensor.specs.TensorFunction.{TensorFunction, value_at, box}
use Rattle.fin_tensor.specs.declared.format.Format.{Format}
use Rattle.fin_tensor.specs.declared.format.Wrap.TheVariants.{Bare}
use Rattle.fin_tensor.specs.declared.storage.Storage.{Storage}
use Rattle.fin_tensor.specs.declared.format.Level.{Level}
use Rattle.fin_tensor.specs.declared.format.Level.TheVariants as level
use Rattle.fin_tensor.specs.declared.part.Part.{Part}
use Rattle.fin_tensor.specs.declared.part.Part.TheVariants as part

-- a function of the coordinates that are left
abbrev pub Slice : Type 0
Slice = List ℕ → ℤ

-- its slice at a coordinate
abbrev pub slice_at : Slice → ℕ → Slice
slice_at f i = λ cs. f (i ∷ cs)

-- the function is the fill at each of these
abbrev pub is_fill_at : ℤ → Slice → List (List ℕ) → Bool
is_fill_at fill f [] = true
is_fill_at fill f (cs ∷ css) = int_eq (f cs) fill && is_fill_at fill f css

-- the slice at i has another value than the fill
abbrev pub has_value : ℤ → List ℕ → Slice → ℕ → Bool
has_value fill ns f i = not (is_fill_at fill (slice_at f i) (box ns))

-- a run of equal values ends at i
abbrev pub ends_run : ℕ → Slice → ℕ → Bool
ends_run n f i = nat_eq (i + 1) n || not (int_eq (f (i ∷ [])) (f ((i + 1) ∷ [])))

-- the last number of a list, here by its first number and the others
abbrev pub last_of : ℕ → List ℕ → ℕ
last_of x [] = x
last_of x (y ∷ ys) = last_of y ys

-- the numbers from the first to the last of a list that rises
abbrev pub span_of : List ℕ → List ℕ
span_of [] = []
span_of (x ∷ xs) = range_with_len x (last_of x xs + 1 - x)

-- the coordinates that a level keeps below a prefix
abbrev pub kept : Level → ℤ → ℕ → List ℕ → Slice → List ℕ
kept level.Dense fill n ns f = range_with_len 0 n
kept level.List fill n ns f = filter (has_value fill ns f) (range_with_len 0 n)
kept level.Dict fill n ns f = filter (has_value fill ns f) (range_with_len 0 n)
kept level.Band fill n ns f = span_of (filter (has_value fill ns f) (range_with_len 0 n))
kept level.Runs fill n ns f = filter (ends_run n f) (range_with_len 0 n)

-- the slices at the kept prefixes that are one longer
abbrev pub next : (Slice → List ℕ) → List Slice → List Slice
next K fs = flat_map (λ f. map (slice_at f) (K f)) fs

-- where the kept coordinates of each prefix begin
abbrev pub starts : (Slice → List ℕ) → ℕ → List Slice → List ℕ
starts K a [] = a ∷ []
starts K a (f ∷ fs) = a ∷ starts K (a + length (K f)) fs

-- the lists that tell the kept prefixes
abbrev pub part_of : Level → (Slice → List ℕ) → List Slice → Part
part_of level.Dense K fs = part.Dense
part_of level.List K fs = part.Keys (starts K 0 fs) (flat_map K fs)
part_of level.Dict K fs = part.Keys (starts K 0 fs) (flat_map K fs)
part_of level.Runs K fs = part.Runs (starts K 0 fs) (map (λ i. i + 1) (flat_map K fs))
part_of level.Band K fs = part.Band (starts K 0 fs) (map (λ f. slice_index (K f) 0) fs)

-- the parts, and the values, of the canonical storage of these slices
abbrev pub canon_parts : List Level → ℤ → List ℕ → List Slice → List Part
canon_parts [] fill ns fs = []
canon_parts (l ∷ ls) fill [] fs = []
canon_parts (l ∷ ls) fill (n ∷ ns) fs = part_of l (kept l fill n ns) fs ∷ canon_parts ls fill ns (next (kept l fill n ns) fs)

abbrev pub canon_values : List Level → ℤ → List ℕ → List Slice → List ℤ
canon_values [] fill ns fs = map (λ f. f []) fs
canon_values (l ∷ ls) fill [] fs = []
canon_values (l ∷ ls) fill (n ∷ ns) fs = canon_values ls fill ns (next (kept l fill n ns) fs)

-- no level has more than 2^40 fibres, and there are at most 2^40 values
abbrev pub IsAllowed : List Level → ℤ → List ℕ → List Slice → Type 0
IsAllowed [] fill ns fs = length fs ≤ 2 ^ 40
IsAllowed (l ∷ ls) fill [] fs = ⊥
IsAllowed (l ∷ ls) fill (n ∷ ns) fs = (length fs ≤ 2 ^ 40) × IsAllowed ls fill ns (next (kept l fill n ns) fs)

-- the same as a test
abbrev pub is_allowed : List Level → ℤ → List ℕ → List Slice → Bool
is_allowed [] fill ns fs = nat_le (length fs) (2 ^ 40)
is_allowed (l ∷ ls) fill [] fs = false
is_allowed (l ∷ ls) fill (n ∷ ns) fs = nat_le (length fs) (2 ^ 40) && is_allowed ls fill ns (next (kept l fill n ns) fs)

-- the coordinates that a fibre's lists tell
abbrev pub told_in : ℕ → Part → ℕ → List ℕ
told_in n part.Dense p = range_with_len 0 n
told_in n (part.Keys ptr idx) p = take (slice_index ptr (p + 1) - slice_index ptr p) (drop (slice_index ptr p) idx)
told_in n (part.Runs ptr stop) p = map (λ s. s - 1) (take (slice_index ptr (p + 1) - slice_index ptr p) (drop (slice_index ptr p) stop))
told_in n (part.Band ptr start) p = range_with_len (slice_index start p) (slice_index ptr (p + 1) - slice_index ptr p)

-- where a block is empty, its start is 0
abbrev pub EmptyAtZero : ℕ → Part → Type 0
EmptyAtZero count (part.Band ptr start) = (p : ℕ) → p < count → slice_index ptr (p + 1) ≡ slice_index ptr p → slice_index start p ≡ 0
EmptyAtZero count p = Unit {0}

-- each level tells exactly the kept prefixes, and the values are those at the kept prefixes of full length
abbrev pub HasForm : List Level → ℤ → List ℕ → List Part → List ℤ → List Slice → Type 0
HasForm [] fill ns ps val fs = val ≡ map (λ f. f []) fs
HasForm (l ∷ ls) fill (n ∷ ns) (p ∷ ps) val fs =
    ((pos : ℕ) → pos < length fs → told_in n p pos ≡ kept l fill n ns (slice_index_or fs pos (λ _. fill))) × EmptyAtZero (length fs) p × HasForm ls fill ns ps val (next (kept l fill n ns) fs)
HasForm (l ∷ ls) fill ns ps val fs = ⊥

-- the format without its decoration
abbrev pub undecorated : Format → Format
undecorated format = record { levels = format.levels; wrap = Bare; fill = format.fill }

-- the storage is the canonical one of the function in the format: its one slice at the start is the whole function
pub record IsCanon (format : Format) (f : TensorFunction) (s : Storage) : Type 0 where
  pub fill : format.fill ≡ f.fill
  pub format_is : s.format ≡ format
  pub shape : s.shape ≡ f.shape
  pub parts : s.parts ≡ canon_parts format.levels f.fill f.shape (value_at f ∷ [])
  pub val : s.val ≡ canon_values format.levels f.fill f.shape (value_at f ∷ [])

-- the storage of the function in the format has the canonical form
pub record HasCanonicalForm (format : Format) (f : TensorFunction) (s : Storage) : Type 0 where
  pub fill : format.fill ≡ f.fill
  pub format_is : s.format ≡ format
  pub shape : s.shape ≡ f.shape
  pub form : HasForm format.levels f.fill f.shape s.parts s.val (value_at f ∷ [])

-- the canonical storage of the function in the format is valid by its size
abbrev pub IsAllowedIn : Format → TensorFunction → Type 0
IsAllowedIn format f = IsAllowed format.levels f.fill f.shape (value_at f ∷ [])
