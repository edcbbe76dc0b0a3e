-- The lists of a canonical storage stand for the function, and are valid where its size allows.
use Rattle.std.proofs.Common.{◌≡◌, ◌∙◌, refl, sym, ap, subst, arith, ℕ, ℤ, List, [], ◌∷◌, length, IsTrue}
use Rattle.fin_tensor.specs.declared.format.Level.{Level}
use Rattle.fin_tensor.specs.TensorFunction.{TensorFunction, HasCells, value_at, is_in_box}
use Rattle.fin_tensor.specs.Levels.{value_from}
use Rattle.fin_tensor.specs.Stands.{tabulated}
use Rattle.fin_tensor.specs.Placement.{RunsStandLast}
use Rattle.fin_tensor.specs.Canon.{canon_parts, canon_values}
use Rattle.fin_tensor.proofs.Cells.{cells_agreeing_inside, tabulated_has_cells}
use Rattle.fin_tensor.proofs.Tabulated.{tabulated_fill, tabulated_shape, tabulated_gives}
use Rattle.fin_canon.proofs.Placed.{placed_over}
use Rattle.fin_canon.proofs.Standing.{slices_stand}

-- the function that the lists stand for
abbrev listed : List Level → TensorFunction → TensorFunction
listed levels f = tabulated f.shape f.fill (value_from f.shape (canon_parts levels f.fill f.shape (value_at f ∷ [])) (canon_values levels f.fill f.shape (value_at f ∷ [])) f.fill 0)

module _ (levels : List Level) (f : TensorFunction) (runs : RunsStandLast levels) (long : length f.shape ≡ length levels) where
  pub listed_value : (cs : List ℕ) → IsTrue (is_in_box f.shape cs) → value_from f.shape (canon_parts levels f.fill f.shape (value_at f ∷ [])) (canon_values levels f.fill f.shape (value_at f ∷ [])) f.fill 0 cs ≡ value_at f cs
  listed_value cs within = slices_stand levels f.fill f.shape (value_at f ∷ []) (placed_over levels f.shape runs long) 0 cs (omega arith) within

  pub listed_is : HasCells f → listed levels f ≡ f
  listed_is cells =
      let g : List ℕ → ℤ = value_from f.shape (canon_parts levels f.fill f.shape (value_at f ∷ [])) (canon_values levels f.fill f.shape (value_at f ∷ [])) f.fill 0 in
      let shape : (tabulated f.shape f.fill g).shape ≡ f.shape = tabulated_shape f.shape f.fill g in
      cells_agreeing_inside (tabulated f.shape f.fill g) f (tabulated_has_cells f.shape f.fill g) cells shape (tabulated_fill f.shape f.fill g)
      (λ cs within. let own : IsTrue (is_in_box f.shape cs) = subst (λ (ns : List ℕ). IsTrue (is_in_box ns cs)) shape within in (tabulated_gives f.shape f.fill g).0 cs own ∙ listed_value cs own)
