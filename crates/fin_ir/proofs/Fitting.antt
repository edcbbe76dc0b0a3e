-- A run begins where it fits.
use Rattle.std.proofs.Common.{◌≡◌, ℕ, zero, suc, ◌+◌, ◌<◌, true, false, List, [], ◌∷◌, map, length, drop, add-one, refl, sym, ap, ◌∙◌, subst, arith, pos, Some}
use Rattle.std.proofs.lemmas.List.{length-replicate}
use Rattle.std.specs.Prelude.{nat_eq, if◌then◌else◌, slice_get, slice_index_or}
use Rattle.fin_tensor.specs.declared.format.Format.{Format}
use Rattle.fin_tensor.specs.declared.storage.Storage.{Storage}
use Rattle.fin_ir.specs.declared.layout.Layout.{Layout}
use Rattle.fin_tensor.specs.Building.{no_format}
use Rattle.fin_ir.specs.Machine.{nothing, held}
use Rattle.fin_ir.specs.Start.{given_if, given, first_tensors, started}
use Rattle.fin_ir.specs.Regular.{InputsFit, input_boxes, IsOf, Fits}

abbrev box_of : Storage → Format × List ℕ
box_of s = (s.format, s.shape)

length_first : (inputs : List Storage) (k : ℕ) (kinds : List ℕ) → length (first_tensors inputs k kinds) ≡ length kinds
length_first inputs k [] = refl
length_first inputs k (kind ∷ kinds) = elim (nat_eq kind 0) as (λ b. length (if b then given inputs k ∷ first_tensors inputs (k + 1) kinds else nothing ∷ first_tensors inputs k kinds) ≡ suc (length kinds)) [
  | true ↦ ap suc (length_first inputs (k + 1) kinds)
  | false ↦ ap suc (length_first inputs k kinds)
]

-- the input of that number, by the boxes of those from there on
box_at : (inputs : List Storage) (k : ℕ) (b : Format × List ℕ) (bs : List (Format × List ℕ)) → map box_of (drop k inputs) ≡ b ∷ bs → (s : Storage) × (slice_get inputs k ≡ Some s) × (box_of s ≡ b) × (map box_of (drop (k + 1) inputs) ≡ bs)
box_at [] zero b bs e = cc
box_at [] (suc k) b bs e = cc
box_at (s ∷ ss) zero b bs e = (s, refl, (cc), (cc))
box_at (s ∷ ss) (suc k) b bs e =
    let q = box_at ss k b bs e in
    (q.0, q.1, q.2, ap (λ (n : ℕ). map box_of (drop n (s ∷ ss))) (add-one (suc k)) ∙ ap (λ (n : ℕ). map box_of (drop n ss)) (sym (add-one k)) ∙ q.3)

given_fits : (inputs : List Storage) (k : ℕ) (s : Storage) (f : Format) (n : List ℕ) → slice_get inputs k ≡ Some s → box_of s ≡ (f, n) → IsOf f n (given inputs k)
given_fits inputs k s f n e b =
    subst (IsOf f n) (sym (ap given_if e))
    (ap (λ (p : Format × List ℕ). p.0.levels) b, ap (λ (p : Format × List ℕ). p.0.fill) b, ap (λ (p : Format × List ℕ). p.1) b)

first_fit : (inputs : List Storage) (k : ℕ) (kinds : List ℕ) (fs : List Format) (ns : List (List ℕ)) → length fs ≡ length kinds → length ns ≡ length kinds → map box_of (drop k inputs) ≡ input_boxes kinds fs ns → (t : ℕ) → t < length kinds → IsOf (slice_index_or fs t no_format) (slice_index_or ns t []) (held (first_tensors inputs k kinds) t)
first_fit inputs k [] fs ns lf ln e t h = absurd (omega arith)
first_fit inputs k (kind ∷ kinds) [] ns lf ln e t h = absurd (omega arith)
first_fit inputs k (kind ∷ kinds) (f ∷ fs) [] lf ln e t h = absurd (omega arith)
first_fit inputs k (kind ∷ kinds) (f ∷ fs) (n ∷ ns) lf ln e zero h =
    elim (nat_eq kind 0) as (λ b. map box_of (drop k inputs) ≡ (if b then (f, n) ∷ input_boxes kinds fs ns else input_boxes kinds fs ns) → IsOf f n (held (if b then given inputs k ∷ first_tensors inputs (k + 1) kinds else nothing ∷ first_tensors inputs k kinds) 0)) [
      | true ↦ (λ g. let q = box_at inputs k (f, n) (input_boxes kinds fs ns) g in given_fits inputs k q.0 f n q.1 q.2)
      | false ↦ (λ g. tt)
    ] e
first_fit inputs k (kind ∷ kinds) (f ∷ fs) (n ∷ ns) lf ln e (suc t) h =
    elim (nat_eq kind 0) as (λ b. map box_of (drop k inputs) ≡ (if b then (f, n) ∷ input_boxes kinds fs ns else input_boxes kinds fs ns) → IsOf (slice_index_or fs t no_format) (slice_index_or ns t []) (held (if b then given inputs k ∷ first_tensors inputs (k + 1) kinds else nothing ∷ first_tensors inputs k kinds) (suc t))) [
      | true ↦ (λ g. first_fit inputs (k + 1) kinds fs ns (omega arith) (omega arith) (box_at inputs k (f, n) (input_boxes kinds fs ns) g).3 t (omega arith))
      | false ↦ (λ g. first_fit inputs k kinds fs ns (omega arith) (omega arith) g t (omega arith))
    ] e

-- the machine at the start, where the inputs fit
pub started_fits : (layout : Layout) (inputs : List Storage) → InputsFit layout inputs → Fits layout (started layout inputs)
started_fits layout inputs h =
    let kinds = h.layout_is.kinds in
    let shapes = h.layout_is.shapes in
    record {
      layout_is = h.layout_is;
      locals = length-replicate layout.locals (pos 0);
      tensors = length_first inputs 0 layout.kinds ∙ kinds;
      each = λ t lt. first_fit inputs 0 layout.kinds layout.formats layout.shapes (sym kinds) (shapes ∙ sym kinds) h.boxes t (omega (arith, kinds));
    }
