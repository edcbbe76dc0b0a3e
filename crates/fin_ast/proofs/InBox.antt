-- Coordinates that are found lie in the box.
use Rattle.std.proofs.Common.{IsTrue, Bool, ◌&&◌, ◌≡◌, ℕ, refl, sym, ap, ◌∙◌, subst, ℤ, pos, negsuc, List, [], ◌∷◌, Option, Some, None, true, false, nat_lt, if◌then◌else◌}
use Rattle.fin_tensor.specs.TensorFunction.{is_in_box}
use Rattle.fin_ast.specs.Value.{coordinates, with_first}

some_first : (c : ℕ) (o : Option (List ℕ)) (cs : List ℕ) → with_first c o ≡ Some cs → (ds : List ℕ) × (o ≡ Some ds) × (cs ≡ c ∷ ds)
some_first c None cs e = cc
some_first c (Some ds) cs e = (ds, refl, cc)

pub in_box : (ns : List ℕ) (zs : List ℤ) (cs : List ℕ) → coordinates ns zs ≡ Some cs → IsTrue (is_in_box ns cs)
in_box [] [] cs e = let h : ◌≡◌ {A = List ℕ} [] cs = cc in subst (λ (ds : List ℕ). IsTrue (is_in_box [] ds)) h refl
in_box [] (z ∷ zs) cs e = cc
in_box (n ∷ ns) [] cs e = cc
in_box (n ∷ ns) (negsuc c ∷ zs) cs e = cc
in_box (n ∷ ns) (pos c ∷ zs) cs e =
    elim (nat_lt c n) as (λ b. nat_lt c n ≡ b → (if b then with_first c (coordinates ns zs) else None) ≡ Some cs → IsTrue (is_in_box (n ∷ ns) cs)) [
      | true ↦ λ t h.
          let p = some_first c (coordinates ns zs) cs h in
          subst (λ (ds : List ℕ). IsTrue (is_in_box (n ∷ ns) ds)) (sym p.2) (ap (λ (b : Bool). b && is_in_box ns p.0) t ∙ in_box ns zs p.0 p.1)
      | false ↦ λ t h. cc
    ] refl e
