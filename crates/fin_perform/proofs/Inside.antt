-- Coordinates in a box are those of the numbers.
use Rattle.std.proofs.Common.{◌≡◌, ℕ, true, false, List, [], ◌∷◌, Option, Some, None, if◌then◌else◌, refl, ap, ◌∙◌, ℤ, pos, negsuc}
use Rattle.std.specs.Prelude.{nat_lt}
use Rattle.fin_ast.specs.Value.{with_first, coordinates}
use Rattle.fin_ir.specs.Machine as machine

by_rest : (k : ℕ) (o p : Option (List ℕ)) (cs : List ℕ) → ((ds : List ℕ) → o ≡ Some ds → p ≡ Some ds) → with_first k o ≡ Some cs → machine.with_first k p ≡ Some cs
by_rest k None p cs h e = cc
by_rest k (Some ds) p cs h e = ap (machine.with_first k) (h ds refl) ∙ e

pub coordinates_are : (shape : List ℕ) (zs : List ℤ) (cs : List ℕ) → coordinates shape zs ≡ Some cs → machine.coordinates zs ≡ Some cs
coordinates_are [] [] cs e = e
coordinates_are [] (z ∷ zs) cs e = cc
coordinates_are (n ∷ ns) [] cs e = cc
coordinates_are (n ∷ ns) (negsuc k ∷ zs) cs e = cc
coordinates_are (n ∷ ns) (pos k ∷ zs) cs e =
    elim (nat_lt k n) as (λ b. (if b then with_first k (coordinates ns zs) else None) ≡ Some cs → machine.with_first k (machine.coordinates zs) ≡ Some cs) [
      | true ↦ λ h. by_rest k (coordinates ns zs) (machine.coordinates zs) cs (λ ds f. coordinates_are ns zs ds f) h
      | false ↦ λ h. cc
    ] e
