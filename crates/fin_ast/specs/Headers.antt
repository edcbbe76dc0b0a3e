-- The names of the tensors.
use Rattle.std.specs.Prelude.{ℕ, List, map}
use Rattle.fin_ast.specs.declared.header.Header.{Header}

abbrev pub names_of : List Header → List (List ℕ)
names_of headers = map (λ h. h.name) headers
