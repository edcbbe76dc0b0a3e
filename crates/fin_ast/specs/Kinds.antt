-- What a header keeps.
use Rattle.std.specs.Prelude.{ℕ, Bool, true, false, ◌==◌, List, length, Option, Some, None}
use Rattle.fin_ast.specs.declared.header.Kind.{Kind}
use Rattle.fin_ast.specs.declared.header.Kind.TheVariants.{Input, Output, Local}

abbrev pub is_input : Kind → Bool
is_input Input = true
is_input Output = false
is_input Local = false

abbrev pub is_output : Kind → Bool
is_output Input = false
is_output Output = true
is_output Local = false

-- a list of numbers, where there is one, has that length
abbrev pub has_length : ℕ → Option (List ℕ) → Bool
has_length n None = true
has_length n (Some numbers) = length numbers == n
