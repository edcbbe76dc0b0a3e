-- Below an extent of 0 nothing is stored, whatever is kept above it.
use Rattle.std.proofs.Common.{◌≡◌, ℕ, zero, suc, List, [], ◌∷◌, ◌++◌, drop, refl, sym, ap, ◌∙◌, arith, ℤ, Bool, true, false, ◌||◌}
use Rattle.std.specs.Prelude.{nat_eq, if◌then◌else◌}
use Rattle.std.proofs.lemmas.Bool.Decides.{nat_tests}
use Rattle.fin_tensor.specs.declared.format.Level.{Level}
use Rattle.fin_tensor.specs.declared.format.Level.TheVariants as level
use Rattle.fin_tensor.specs.declared.part.Part.{Part}
use Rattle.fin_tensor.specs.declared.part.Part.TheVariants as part
use Rattle.fin_tensor.specs.Canon.{Slice, kept, next, canon_parts, canon_values}
use Rattle.fin_canon.specs.declared.entry.Range.{Range}
use Rattle.fin_canon.specs.Entries.{Entry}
use Rattle.fin_canon.specs.Nothing.{leads_to_nothing}
use Rattle.fin_canon.proofs.Storing.{SoFar}

no_next : (fill : ℤ) (ns : List ℕ) (fs : List Slice) → next (kept level.Dense fill 0 ns) fs ≡ []
no_next fill ns [] = refl
no_next fill ns (f ∷ fs) = no_next fill ns fs

same_below : (ls : List Level) (fill : ℤ) (ns : List ℕ) (fs : List Slice) → leads_to_nothing ls ns ≡ true → (canon_parts ls fill ns fs ≡ canon_parts ls fill ns []) × (canon_values ls fill ns fs ≡ canon_values ls fill ns [])
same_below (level.Dense ∷ ls) fill (zero ∷ ns) fs e = (
  ap (λ (gs : List Slice). part.Dense ∷ canon_parts ls fill ns gs) (no_next fill ns fs),
  ap (canon_values ls fill ns) (no_next fill ns fs),
)
same_below (level.Dense ∷ ls) fill (suc n ∷ ns) fs e =
    let z : nat_eq (suc n) 0 ≡ false = grind (arith, nat_tests) in
    let h = same_below ls fill ns (next (kept level.Dense fill (suc n) ns) fs) (sym (ap (λ b. b || leads_to_nothing ls ns) z) ∙ e) in
    (ap (λ (ps : List Part). part.Dense ∷ ps) h.0, h.1)
same_below (level.List ∷ ls) fill (n ∷ ns) fs e = absurd (let k = e in cc)
same_below (level.Dict ∷ ls) fill (n ∷ ns) fs e = absurd (let k = e in cc)
same_below (level.Runs ∷ ls) fill (n ∷ ns) fs e = absurd (let k = e in cc)
same_below (level.Band ∷ ls) fill (n ∷ ns) fs e = absurd (let k = e in cc)
same_below [] fill ns fs e = absurd (let k = e in cc)
same_below (l ∷ ls) fill [] fs e = absurd (let k = e in cc)

-- so the slices there may be left out
pub store_needed : (es : List Entry) (fill : ℤ) (ls : List Level) (shape : List ℕ) (f : Slice) (k : ℕ) (parts : List Part) (slices : List Range) → SoFar es fill ls shape f k parts slices
    → SoFar es fill ls shape f k parts (if leads_to_nothing (drop k ls) (drop k shape) then [] else slices)
store_needed es fill ls shape f k parts slices so = by (leads_to_nothing (drop k ls) (drop k shape)) refl
  where
    by : (b : Bool) → leads_to_nothing (drop k ls) (drop k shape) ≡ b → SoFar es fill ls shape f k parts (if b then [] else slices)
    by false e = so
    by true e =
        let h = same_below (drop k ls) fill (drop k shape) so.gs e in
        record { gs = []; told = tt; parts_are = so.parts_are ∙ ap (λ (ps : List Part). parts ++ ps) h.0; values_are = so.values_are ∙ h.1 }
