-- The rules on the life of a tensor, over a program after insertion.
use Rattle.std.specs.Prelude.{ℕ, zero, Bool, true, false, not, ◌&&◌, ◌||◌, List, [], ◌∷◌, Option, None}
use Rattle.std.specs.Option.{option_or}
use Rattle.fin_base.specs.declared.refusal.Rule.TheVariants.{L1, L2, L3, L4, L5, L6, L7}
use Rattle.fin_base.specs.declared.refusal.Refusal.{Refusal}
use Rattle.fin_ast.specs.declared.header.Header.{Header}
use Rattle.fin_ast.specs.declared.mode.Mode.{Mode}
use Rattle.fin_ast.specs.declared.mode.Mode.TheVariants.{Undeclared, Update, Read}
use Rattle.fin_ast.specs.declared.program.Program.{Program}
use Rattle.fin_ast.specs.Kinds.{is_output}
use Rattle.fin_ast.specs.Sizes.{broken, first_from}
use Rattle.fin_ast.specs.Text.{Mark, Opens, Closes, Reads, Updates, Declares, Freezes, Thaws, Text, text_of_all}
use Rattle.fin_ast.specs.Modes.{is_input_at, before_body, mode_before}

abbrev pub is_update : Mode → Bool
is_update Undeclared = false
is_update Update = true
is_update Read = false

abbrev pub is_read : Mode → Bool
is_read Undeclared = false
is_read Update = false
is_read Read = true

abbrev pub is_declared : Mode → Bool
is_declared Undeclared = false
is_declared Update = true
is_declared Read = true

-- a tensor that was declared has another mode
abbrev pub is_changed : Mode → Mode → Bool
is_changed Undeclared now = false
is_changed Update now = not (is_update now)
is_changed Read now = not (is_read now)

-- L6: a body ends with another mode of a tensor that was declared at its beginning
abbrev pub first_changed : (ℕ → Mode) → (ℕ → Mode) → ℕ → List Header → Option Refusal
first_changed begin now line headers = first_from (λ t h. broken (is_changed (begin t) (now t)) L6 line) zero headers

-- L7: an output isn't in read mode at the end
abbrev pub first_unread : (ℕ → Mode) → List Header → Option Refusal
first_unread now headers = first_from (λ t h. broken (is_output h.kind && not (is_read (now t))) L7 h.line) zero headers

-- the rule that is broken at a mark, from the modes at the beginning of its body and before it
abbrev pub breach_by : List Header → (ℕ → Mode) → (ℕ → Mode) → Mark → Option Refusal
breach_by headers begin now (Opens var) = None
breach_by headers begin now (Closes line) = first_changed begin now line headers
breach_by headers begin now (Reads t line) = broken (not (is_read (now t))) L2 line
breach_by headers begin now (Updates t at line) = broken (is_input_at headers t || not (is_update (now t))) L1 line
breach_by headers begin now (Declares t line) = broken (is_input_at headers t || is_update (now t) || is_declared (begin t)) L3 line
breach_by headers begin now (Freezes t line) = broken (not (is_update (now t))) L4 line
breach_by headers begin now (Thaws t line) = broken (is_input_at headers t || not (is_read (now t))) L5 line

abbrev pub breach_at : List Header → Text → Mark → Option Refusal
breach_at headers before m = breach_by headers (mode_before headers (before_body zero before)) (mode_before headers before) m

-- the first breach of a text, at which the text before it has none
abbrev pub first_breach : (Text → Mark → Option Refusal) → Text → Option Refusal
first_breach breach [] = None
first_breach breach (m ∷ before) = option_or (first_breach breach before) (breach before m)

-- the first breach of a program; outputs are looked at last
abbrev pub life_in : Program → Option Refusal
life_in p = option_or (first_breach (breach_at p.headers) (text_of_all p.body [])) (first_unread (mode_before p.headers (text_of_all p.body [])) p.headers)
