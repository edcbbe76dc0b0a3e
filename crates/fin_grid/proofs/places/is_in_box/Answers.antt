use Rattle.std.proofs.Common.{◌≡◌, ℕ, List, length, refl, true, false}
use Rattle.fin_tensor.specs.TensorFunction.{is_in_box}
use Rattle.fin_tensor.proofs.Walk.{box_length}
use Rattle.fin_grid.proofs.places.is_in_box.Goals as goal

outside : (ns cs : List ℕ) → (length cs ≡ length ns → ⊥) → false ≡ is_in_box ns cs
outside ns cs ne = elim (is_in_box ns cs) as (λ b. is_in_box ns cs ≡ b → false ≡ b) [ true ↦ λ e. absurd (ne (box_length ns cs e)) | false ↦ λ _. refl ] refl

pub returns-then-at-shape : goal.returns-then-at-shape
returns-then-at-shape c = outside c.args.shape.now c.args.at.now c.if-at-shape.true
