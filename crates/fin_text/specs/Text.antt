-- The text of a tensor, by its lines.
use Rattle.std.specs.Prelude.{ℕ, ℤ, List, [], ◌∷◌, ◌++◌, flat_map, codes}
use Rattle.fin_text.specs.Numbers.{spaced, spaced_sizes}

-- lines, each ended by a newline
abbrev pub text_of_lines : List (List ℕ) → List ℕ
text_of_lines ls = flat_map (λ l. l ++ 10 ∷ []) ls

-- a vector in the format `dense element` with fill 0: its name, its extent, its values
abbrev pub vector_lines : List ℕ → ℕ → List ℤ → List (List ℕ)
vector_lines name extent values =
    (codes "tensor " ++ name)
    ∷ codes "format dense element"
    ∷ codes "fill 0"
    ∷ (codes "shape" ++ spaced_sizes (extent ∷ []))
    ∷ (codes "val" ++ spaced values)
    ∷ codes "end"
    ∷ []
