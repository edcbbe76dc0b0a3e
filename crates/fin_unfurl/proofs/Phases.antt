-- The phases that walks have in common: the fill up to the extent, and whether a fibre has a place.
use Rattle.std.proofs.Common.{◌≡◌, ℕ, ◌+◌, ◌<◌, ◌≤◌, ◌^◌, List, [], ◌∷◌, refl, sym, ap, ◌∙◌, subst, inl, ℤ, pos, true, false}
use Rattle.std.specs.Prelude.{slice_index, int_lt, int_le, if◌then◌else◌}
use Rattle.fin_base.specs.Words.{truth}
use Rattle.fin_base.specs.declared.terms.Op.TheVariants as op
use Rattle.fin_ir.specs.declared.expression.Table.TheVariants as table
use Rattle.fin_ir.specs.declared.expression.IExpr.{IExpr}
use Rattle.fin_ir.specs.Frozen.{Frozen}
use Rattle.fin_ir.specs.Loads.{table_in, part_at}
use Rattle.fin_ir.specs.Machine.{stored}
use Rattle.fin_ir.proofs.Values.{value_num}
use Rattle.fin_looplet.specs.declared.looplet.Looplet.TheVariants.{Sequence}
use Rattle.fin_looplet.specs.View.{Store, value, view, View, gap, ended, plain}
use Rattle.fin_looplet.specs.Sound.{Places, SoundWithin}
use Rattle.fin_looplet.proofs.Bridges.{view_phase, sound_phase}
use Rattle.fin_unfurl.specs.declared.fibre.Fibre.{Fibre}
use Rattle.fin_unfurl.specs.Parts.{begin, end}
use Rattle.fin_unfurl.specs.Walks.{rest, has_places}
use Rattle.fin_unfurl.proofs.Small.{lt_yes, le_no}
use Rattle.fin_unfurl.proofs.Places.{two_is, begin_value, end_value}
use Rattle.fin_unfurl.proofs.Shows.{ShowsAt}

pub rest_shows : (ts : Store) (ls : List ℤ) (f : Fibre) (m : ℕ) (end : ℤ) → m < f.extent → ShowsAt (view ts ls (Sequence (rest f ∷ [])) end (pos m)) (gap f.fill) false false false (m + 1 < f.extent)
rest_shows ts ls f m end lt =
    let n = f.extent in
    let is : view ts ls (Sequence (rest f ∷ [])) end (pos m) ≡ ended (int_le (pos n) (pos (m + 1))) false (plain false (gap f.fill)) =
    view_phase ts ls (rest f) [] end (pos m)
    ∙ ap (λ (z : ℤ). if int_lt (pos m) z then ended (int_le z (pos (m + 1))) false (plain false (gap f.fill)) else view ts ls (Sequence []) end (pos m)) (value_num ts ls (pos n))
    ∙ ap (λ b. if b then ended (int_le (pos n) (pos (m + 1))) false (plain false (gap f.fill)) else view ts ls (Sequence []) end (pos m)) (lt_yes m n lt) in
    subst (λ (v : View). ShowsAt v (gap f.fill) false false false (m + 1 < n)) (sym is)
    (elim (int_le (pos n) (pos (m + 1))) as (λ b. int_le (pos n) (pos (m + 1)) ≡ b → ShowsAt (ended b false (plain false (gap f.fill))) (gap f.fill) false false false (m + 1 < n)) [
      | true ↦ (λ x. record { sight = refl; varies = refl; ends = λ i. sym x ∙ le_no n (m + 1) i; stop = λ y. y })
      | false ↦ (λ x. record { sight = refl; varies = refl; ends = λ i. refl; stop = λ y. y })
    ] refl)

pub rest_sound : (bound : Places) (ts : Store) (ls : List ℤ) (f : Fibre) (served : Places) (m : ℕ) → m < f.extent → SoundWithin bound ts ls (Sequence (rest f ∷ [])) served (pos m)
rest_sound bound ts ls f served m lt = sound_phase bound ts ls (rest f) [] served (pos m) (inl (ap (int_lt (pos m)) (value_num ts ls (pos f.extent)) ∙ lt_yes m f.extent lt, tt))

pub places_value : (ts : Store) (f : Fibre) (e : IExpr) (s : Frozen) (p : ℕ) → ts f.tensor ≡ stored s → (ls : List ℤ) → value ts ls e ≡ pos p → p ≤ 2 ^ 40
    → value ts ls (has_places f e) ≡ truth (int_lt (pos (slice_index (table_in table.Ptr (part_at s.parts f.level)) p)) (pos (slice_index (table_in table.Ptr (part_at s.parts f.level)) (p + 1))))
places_value ts f e s p is ls here small =
    two_is ts ls op.Lt (begin f e) (end f e) (pos (slice_index (table_in table.Ptr (part_at s.parts f.level)) p)) (pos (slice_index (table_in table.Ptr (part_at s.parts f.level)) (p + 1)))
    (begin_value ts f e s p is ls here small) (end_value ts f e s p is ls here small)
