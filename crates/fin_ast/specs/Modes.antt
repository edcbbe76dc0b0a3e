-- The mode of a tensor before a place.
use Rattle.std.specs.Prelude.{ℕ, zero, suc, Bool, false, ◌==◌, if◌then◌else◌, List, [], ◌∷◌, Option, Some, None, slice_get}
use Rattle.fin_ast.specs.declared.header.Header.{Header}
use Rattle.fin_ast.specs.declared.mode.Mode.{Mode}
use Rattle.fin_ast.specs.declared.mode.Mode.TheVariants.{Undeclared, Update, Read}
use Rattle.fin_ast.specs.Kinds.{is_input}
use Rattle.fin_ast.specs.Text.{Mark, Opens, Closes, Declares, Freezes, Thaws, Text}

-- what stands before a place in a body around it. Read backwards, a body that has ended is passed by; n such bodies
-- have still to begin
abbrev pub around : ℕ → Text → Text
around n [] = []
around n (Closes line ∷ before) = around (suc n) before
around zero (Opens var ∷ before) = Opens var ∷ around zero before
around (suc n) (Opens var ∷ before) = around n before
around zero (m ∷ before) = m ∷ around zero before
around (suc n) (m ∷ before) = around (suc n) before

-- the text before the body in which a place stands
abbrev pub before_body : ℕ → Text → Text
before_body n [] = []
before_body n (Closes line ∷ before) = before_body (suc n) before
before_body zero (Opens var ∷ before) = before
before_body (suc n) (Opens var ∷ before) = before_body n before
before_body n (m ∷ before) = before_body n before

abbrev pub is_input_header : Option Header → Bool
is_input_header None = false
is_input_header (Some h) = is_input h.kind

abbrev pub is_input_at : List Header → ℕ → Bool
is_input_at headers tensor = is_input_header (slice_get headers tensor)

-- an input is in read mode from the start
abbrev pub mode_at_start : List Header → ℕ → Mode
mode_at_start headers tensor = if is_input_at headers tensor then Read else Undeclared

-- the mode of a tensor after a mark, from that before it
abbrev pub mode_after : ℕ → Mark → Mode → Mode
mode_after tensor (Declares t line) before = if t == tensor then Update else before
mode_after tensor (Freezes t line) before = if t == tensor then Read else before
mode_after tensor (Thaws t line) before = if t == tensor then Update else before
mode_after tensor _ before = before

-- the last of these marks decides, and without one the mode is that at the start
abbrev pub last_mode : Mode → ℕ → Text → Mode
last_mode start tensor [] = start
last_mode start tensor (m ∷ before) = mode_after tensor m (last_mode start tensor before)

-- the mode of a tensor before a place: the last declaration, freeze or thaw of it before the place that stands in a
-- body around it decides
abbrev pub mode_before : List Header → Text → ℕ → Mode
mode_before headers before tensor = last_mode (mode_at_start headers tensor) tensor (around zero before)
