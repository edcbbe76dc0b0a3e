-- A read of what a storage stands for.
use Rattle.std.proofs.Common.{◌≡◌, ℕ, ℤ, sym, ap, ◌∙◌, List, Some, None}
use Rattle.fin_tensor.specs.TensorFunction.{value_at}
use Rattle.fin_tensor.specs.Stands.{stands}
use Rattle.fin_tensor.specs.Levels.{value_from}
use Rattle.fin_tensor.specs.declared.storage.Storage.{Storage}
use Rattle.fin_tensor.proofs.Tabulated.{tabulated_shape, tabulated_fill}
use Rattle.fin_ast.specs.Value.{coordinates, value_in}

module _ (s : Storage) (at : List ℤ) where
  here : value_in (stands s) (coordinates s.shape at) ≡ value_in (stands s) (coordinates (stands s).shape at)
  here = ap (λ (shape : List ℕ). value_in (stands s) (coordinates shape at)) (sym (tabulated_shape s.shape s.format.fill (value_from s.shape s.parts s.val s.format.fill 0)))

  pub inside_gives : (cs : List ℕ) (v : ℤ) → Some cs ≡ coordinates s.shape at → v ≡ value_at (stands s) cs → v ≡ value_in (stands s) (coordinates (stands s).shape at)
  inside_gives cs v e h = h ∙ ap (value_in (stands s)) e ∙ here

  pub outside_gives : None ≡ coordinates s.shape at → s.format.fill ≡ value_in (stands s) (coordinates (stands s).shape at)
  outside_gives e = sym (tabulated_fill s.shape s.format.fill (value_from s.shape s.parts s.val s.format.fill 0)) ∙ ap (value_in (stands s)) e ∙ here
