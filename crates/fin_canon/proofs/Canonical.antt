-- The laws of canonical storages.
use Rattle.std.proofs.Common.{◌≡◌, ℕ, List, [], ◌∷◌, length, refl, sym, ap, ◌∙◌, subst, arith, ℤ, IsTrue}
use Rattle.std.specs.Prelude.{FitsSigned}
use Rattle.std.specs.Int.{w64}
use Rattle.fin_tensor.specs.declared.format.Format.{Format}
use Rattle.fin_tensor.specs.declared.format.Level.{Level}
use Rattle.fin_tensor.specs.declared.part.Part.{Part}
use Rattle.fin_tensor.specs.declared.storage.Storage.{Storage}
use Rattle.fin_tensor.specs.TensorFunction.{TensorFunction, IsTensor, value_at, is_in_box}
use Rattle.fin_tensor.specs.Levels.{IsStored, value_from}
use Rattle.fin_tensor.specs.Stands.{stands}
use Rattle.fin_tensor.specs.Canon.{Slice, kept, next, canon_parts, canon_values, IsAllowed, IsAllowedIn, IsCanon, HasForm, HasCanonicalForm}
use Rattle.fin_tensor.proofs.Functions.{agreeing_inside_are_equal, value_is_word}
use Rattle.fin_tensor.proofs.Same.{same_storage}
use Rattle.fin_tensor.proofs.Tabulated.{stands_at, tabulated_fill, tabulated_is_tensor, tabulated_shape}
use Rattle.fin_tensor.proofs.Walk.{stored_levels}
use Rattle.fin_canon.specs.Laws.{CanKeep, CanonicalIsUnique, CanonicalIsValid, CanonicalStands}
use Rattle.fin_canon.proofs.Form.{canonical_has_form}
use Rattle.fin_canon.proofs.Placed.{IsPlacedOver, placed_over}
use Rattle.fin_canon.proofs.Standing.{slices_stand}
use Rattle.fin_canon.proofs.Unique.{form_is_unique, next_count}
use Rattle.fin_canon.proofs.Valid.{slices_are_valid}

abbrev slices : TensorFunction → List Slice
slices f = value_at f ∷ []

module _ (format : Format) (f : TensorFunction) (s : Storage) (c : IsCanon format f s) where
  levels_is : s.format.levels ≡ format.levels
  levels_is = ap (λ (fm : Format). fm.levels) c.format_is

  fill_is : s.format.fill ≡ f.fill
  fill_is = ap (λ (fm : Format). fm.fill) c.format_is ∙ c.fill

  own_parts : s.parts ≡ canon_parts s.format.levels s.format.fill s.shape (slices f)
  own_parts = c.parts ∙ sym (ap (λ (ls : List Level). canon_parts ls s.format.fill s.shape (slices f)) levels_is ∙ ap (λ (v : ℤ). canon_parts format.levels v s.shape (slices f)) fill_is ∙ ap (λ (ns : List ℕ). canon_parts format.levels f.fill ns (slices f)) c.shape)

  own_values : s.val ≡ canon_values s.format.levels s.format.fill s.shape (slices f)
  own_values = c.val ∙ sym (ap (λ (ls : List Level). canon_values ls s.format.fill s.shape (slices f)) levels_is ∙ ap (λ (v : ℤ). canon_values format.levels v s.shape (slices f)) fill_is ∙ ap (λ (ns : List ℕ). canon_values format.levels f.fill ns (slices f)) c.shape)

  own_places : IsPlacedOver s.format.levels s.shape
  own_places = placed_over s.format.levels s.shape s.placed.runs (stored_levels 1 s.format.levels s.shape s.parts s.val s.valid)

  stored_value : (cs : List ℕ) → IsTrue (is_in_box s.shape cs) → value_from s.shape s.parts s.val s.format.fill 0 cs ≡ value_at f cs
  stored_value cs within =
      ap (λ (ps : List Part). value_from s.shape ps s.val s.format.fill 0 cs) own_parts
      ∙ ap (λ (vs : List ℤ). value_from s.shape (canon_parts s.format.levels s.format.fill s.shape (slices f)) vs s.format.fill 0 cs) own_values
      ∙ slices_stand s.format.levels s.format.fill s.shape (slices f) own_places 0 cs (omega arith) within

  is_tensor : IsTensor f → IsTensor (stands s)
  is_tensor t = tabulated_is_tensor s.shape s.format.fill (value_from s.shape s.parts s.val s.format.fill 0) (λ cs within ne.
      let e = stored_value cs within in
      subst (λ (v : ℤ). FitsSigned w64 v) (sym e) (value_is_word f cs t (λ same. ne (e ∙ same ∙ sym fill_is))))

  stands_for : IsTensor f → stands s ≡ f
  stands_for t =
      let shape : (stands s).shape ≡ s.shape = tabulated_shape s.shape s.format.fill (value_from s.shape s.parts s.val s.format.fill 0) in
      let fill : (stands s).fill ≡ s.format.fill = tabulated_fill s.shape s.format.fill (value_from s.shape s.parts s.val s.format.fill 0) in
      agreeing_inside_are_equal (stands s) f (is_tensor t) t (shape ∙ c.shape) (fill ∙ fill_is)
      (λ cs within. let own : IsTrue (is_in_box s.shape cs) = subst (λ (ns : List ℕ). IsTrue (is_in_box ns cs)) shape within in stands_at s cs own ∙ stored_value cs own)

pub canonical_stands : CanonicalStands
canonical_stands format f s t c = stands_for format f s c t

-- ---- validity
pub allowed_of : (ls : List Level) (fill : ℤ) (ns : List ℕ) (val : List ℤ) (fs : List Slice) → IsStored (length fs) ls ns (canon_parts ls fill ns fs) val → IsAllowed ls fill ns fs
allowed_of [] fill [] val fs h = h.0
allowed_of [] fill (n ∷ ns) val fs h = absurd h
allowed_of (l ∷ ls) fill [] val fs h = absurd h
allowed_of (l ∷ ls) fill (n ∷ ns) val fs h =
    let K = kept l fill n ns in
    (h.0, allowed_of ls fill ns val (next K fs) (subst (λ (k : ℕ). IsStored k ls ns (canon_parts ls fill ns (next K fs)) val) (next_count l fill n ns fs) h.3))

-- the canonical storage, where it is valid
pub canonical : (format : Format) (f : TensorFunction) → CanKeep format f → IsAllowedIn format f → (s : Storage) × IsCanon format f s
canonical format f k a =
    let valid = slices_are_valid format.levels f.fill f.shape (slices f) (placed_over format.levels f.shape k.placed.runs k.long) k.small a in
    let s : Storage = record { format = format; shape = f.shape; parts = canon_parts format.levels f.fill f.shape (slices f); val = canon_values format.levels f.fill f.shape (slices f); placed = k.placed; bare = k.bare; valid = valid } in
    (s, record { fill = k.fill; format_is = refl; shape = refl; parts = refl; val = refl })

is_allowed : (format : Format) (f : TensorFunction) (s : Storage) → IsCanon format f s → IsAllowedIn format f
is_allowed format f s c =
    let a = subst (λ (ps : List Part). IsStored 1 s.format.levels s.shape ps s.val) (own_parts format f s c) s.valid in
    let b : IsAllowed s.format.levels s.format.fill s.shape (slices f) = allowed_of s.format.levels s.format.fill s.shape s.val (slices f) a in
    subst (λ (ns : List ℕ). IsAllowed format.levels f.fill ns (slices f)) c.shape
    (subst (λ (v : ℤ). IsAllowed format.levels v s.shape (slices f)) (fill_is format f s c)
    (subst (λ (ls : List Level). IsAllowed ls s.format.fill s.shape (slices f)) (levels_is format f s c) b))

pub canonical_is_valid : CanonicalIsValid
canonical_is_valid format f = (canonical format f, is_allowed format f)

-- ---- uniqueness
of_form : (format : Format) (f : TensorFunction) (s : Storage) → HasCanonicalForm format f s → IsCanon format f s
of_form format f s h =
    let valid : IsStored 1 format.levels f.shape s.parts s.val =
    subst (λ (ns : List ℕ). IsStored 1 format.levels ns s.parts s.val) h.shape
    (subst (λ (fm : Format). IsStored 1 fm.levels s.shape s.parts s.val) h.format_is s.valid) in
    let u = form_is_unique format.levels f.fill f.shape s.parts s.val (slices f) valid h.form in
    record { fill = h.fill; format_is = h.format_is; shape = h.shape; parts = u.0; val = u.1 }

has_form : (format : Format) (f : TensorFunction) (s : Storage) → IsCanon format f s → HasCanonicalForm format f s
has_form format f s c =
    let long : length f.shape ≡ length format.levels =
    subst (λ (ls : List Level). length f.shape ≡ length ls) (levels_is format f s c)
    (subst (λ (ns : List ℕ). length ns ≡ length s.format.levels) c.shape (stored_levels 1 s.format.levels s.shape s.parts s.val s.valid)) in
    let form = canonical_has_form format.levels f.fill f.shape (slices f) long in
    record {
      fill = c.fill;
      format_is = c.format_is;
      shape = c.shape;
      form = subst (λ (ps : List Part). HasForm format.levels f.fill f.shape ps s.val (slices f)) (sym c.parts)
          (subst (λ (vs : List ℤ). HasForm format.levels f.fill f.shape (canon_parts format.levels f.fill f.shape (slices f)) vs (slices f)) (sym c.val) form);
    }

pub canonical_is_unique : CanonicalIsUnique
canonical_is_unique format f s t =
    ((of_form format f s, has_form format f s), λ a b. same_storage s t (a.format_is ∙ sym b.format_is) (a.shape ∙ sym b.shape) (a.parts ∙ sym b.parts) (a.val ∙ sym b.val))
