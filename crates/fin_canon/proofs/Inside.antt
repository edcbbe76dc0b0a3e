-- Coordinates below their extents lie in the box.
use Rattle.std.proofs.Common.{◌≡◌, ℕ, suc, ◌<◌, List, [], ◌∷◌, length, refl, arith, IsTrue}
use Rattle.std.specs.Prelude.{slice_index}
use Rattle.std.proofs.lemmas.Bool.{lt-ltb}
use Rattle.fin_tensor.specs.TensorFunction.{is_in_box}

pub inside_by : (ns cs : List ℕ) → length cs ≡ length ns → ((j : ℕ) → j < length cs → slice_index cs j < slice_index ns j) → IsTrue (is_in_box ns cs)
inside_by [] [] e h = refl
inside_by [] (c ∷ cs) e h = absurd (omega arith)
inside_by (n ∷ ns) [] e h = absurd (omega arith)
inside_by (n ∷ ns) (c ∷ cs) e h =
    let x = lt-ltb c n (h 0 (omega arith)) in
    let y = inside_by ns cs (omega arith) (λ j l. h (suc j) (omega arith)) in
    rw (x, y) refl
