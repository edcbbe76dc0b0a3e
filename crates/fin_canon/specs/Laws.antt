-- What is true of canonical storages.
use Rattle.std.specs.Prelude.{◌≡◌, ◌≢◌, ◌↔◌, ◌<◌, ℕ, ℤ, List, length, FitsSigned}
use Rattle.std.specs.Int.{w64}
use Rattle.std.specs.FinMap as finite
use Rattle.fin_tensor.specs.declared.format.Format.{Format}
use Rattle.fin_tensor.specs.declared.storage.Storage.{Storage}
use Rattle.fin_tensor.specs.TensorFunction.{TensorFunction, IsTensor, value_at}
use Rattle.fin_tensor.specs.Placement.{IsPlaced, IsBare}
use Rattle.fin_tensor.specs.Levels.{AreSmall}
use Rattle.fin_tensor.specs.Stands.{stands}
use Rattle.fin_canon.specs.Entries.{Entry, AreEntries, coords, word_of, named}
use Rattle.fin_tensor.specs.Canon.{IsCanon, HasCanonicalForm, IsAllowedIn}

-- the function can be kept in the format: one extent for each level, and no extent over 2^40
pub record CanKeep (format : Format) (f : TensorFunction) : Type 0 where
  pub placed : IsPlaced format.levels format.wrap
  pub bare : IsBare format.wrap
  pub fill : format.fill ≡ f.fill
  pub long : length f.shape ≡ length format.levels
  pub small : AreSmall f.shape

-- a canonical storage stands for its function
abbrev pub CanonicalStands : Type 0
CanonicalStands = (format : Format) (f : TensorFunction) (s : Storage) → IsTensor f → IsCanon format f s → stands s ≡ f

-- the canonical storage is valid where its size allows, and nowhere else
abbrev pub CanonicalIsValid : Type 0
CanonicalIsValid =
    (format : Format) (f : TensorFunction) → (CanKeep format f → IsAllowedIn format f → (s : Storage) × IsCanon format f s)
    × ((s : Storage) → IsCanon format f s → IsAllowedIn format f)

-- it has its form, and is the only storage that has
abbrev pub CanonicalIsUnique : Type 0
CanonicalIsUnique =
    (format : Format) (f : TensorFunction) (s t : Storage) → (HasCanonicalForm format f s ↔ IsCanon format f s) × (IsCanon format f s → IsCanon format f t → s ≡ t)

-- the function of a storage has a canonical storage in the storage's format
abbrev pub CanonicalStaysValid : Type 0
CanonicalStaysValid = (s : Storage) → (t : Storage) × IsCanon s.format (stands s) t

-- the function that entries name has their values at their coordinates, and the fill elsewhere
pub record IsNamedBy (shape : List ℕ) (fill : ℤ) (es : List Entry) (f : TensorFunction) : Type 0 where
  pub shape_is : f.shape ≡ shape
  pub fill_is : f.fill ≡ fill
  pub there : (k : ℕ) → k < length es → value_at f (coords es k) ≡ word_of es k
  pub elsewhere : (cs : List ℕ) → ((k : ℕ) → k < length es → coords es k ≢ cs) → value_at f cs ≡ fill
  pub is_tensor : ((k : ℕ) → k < length es → FitsSigned w64 (word_of es k)) → IsTensor f

abbrev pub NamedByEntries : Type 0
NamedByEntries = (shape : List ℕ) (fill : ℤ) (es : List Entry) → AreEntries shape es → IsNamedBy shape fill es (named shape fill es)

-- the entries of a tensor function, which are its values other than the fill, name it
abbrev pub EntriesName : Type 0
EntriesName = (f : TensorFunction) → IsTensor f → AreEntries f.shape (finite.entries f.cells) × (named f.shape f.fill (finite.entries f.cells) ≡ f)
