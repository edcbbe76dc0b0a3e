-- The order of updates, over a program after insertion.
use Rattle.std.specs.Prelude.{ℕ, zero, suc, Bool, true, false, not, ◌&&◌, ◌==◌, nat_eq, nat_le, if◌then◌else◌, List, [], ◌∷◌, length, take, Option, Some, None, unwrap_or, slice_get, option_map}
use Rattle.std.specs.Cmp.Lexicographic.{pointwise}
use Rattle.std.specs.Option.{option_or}
use Rattle.fin_base.specs.declared.refusal.Rule.TheVariants.{U1, U2}
use Rattle.fin_base.specs.declared.refusal.Refusal.{Refusal}
use Rattle.fin_tensor.specs.Order.{ordered_levels}
use Rattle.fin_ast.specs.declared.header.Header.{Header}
use Rattle.fin_ast.specs.declared.program.Program.{Program}
use Rattle.fin_ast.specs.declared.tree.Index.{Index}
use Rattle.fin_ast.specs.Sizes.{broken}
use Rattle.fin_ast.specs.Ties.{bare}
use Rattle.fin_ast.specs.Choices.{levels_of}
use Rattle.fin_ast.specs.Text.{Mark, Opens, Closes, Reads, Updates, Declares, Freezes, Thaws, Text, text_of_all}
use Rattle.fin_ast.specs.Modes.{around}
use Rattle.fin_ast.specs.Life.{first_breach}

-- the variables of the loops that stand around a place and were entered since a tensor's declaration, outermost first
abbrev pub loops_since : ℕ → Text → List ℕ → List ℕ
loops_since tensor [] inner = inner
loops_since tensor (Declares t line ∷ before) inner = if t == tensor then inner else loops_since tensor before inner
loops_since tensor (Opens None ∷ before) inner = loops_since tensor before inner
loops_since tensor (Opens (Some var) ∷ before) inner = loops_since tensor before (var ∷ inner)
loops_since tensor (m ∷ before) inner = loops_since tensor before inner

abbrev pub loops_at : ℕ → Text → List ℕ
loops_at tensor before = loops_since tensor (around zero before) []

-- the text before a tensor's first update since its declaration, where there is one. The declaration stands in a body
-- around the place; an update may stand in a body that has ended. n such bodies have still to begin
abbrev pub first_update : ℕ → ℕ → Text → Option Text
first_update tensor n [] = None
first_update tensor n (Closes line ∷ before) = first_update tensor (suc n) before
first_update tensor zero (Opens var ∷ before) = first_update tensor zero before
first_update tensor (suc n) (Opens var ∷ before) = first_update tensor n before
first_update tensor zero (Declares t line ∷ before) = if t == tensor then None else first_update tensor zero before
first_update tensor (suc n) (Declares t line ∷ before) = first_update tensor (suc n) before
first_update tensor n (Updates t at line ∷ before) = if t == tensor then Some (unwrap_or (first_update tensor n before) before) else first_update tensor n before
first_update tensor n (Reads t line ∷ before) = first_update tensor n before
first_update tensor n (Freezes t line ∷ before) = first_update tensor n before
first_update tensor n (Thaws t line ∷ before) = first_update tensor n before

-- an index is no more than that variable
abbrev pub is_variable : ℕ → Option ℕ → Bool
is_variable var None = false
is_variable var (Some v) = v == var

abbrev pub are_variables : List ℕ → List Index → Bool
are_variables [] [] = true
are_variables [] (i ∷ is) = false
are_variables (v ∷ vs) [] = false
are_variables (v ∷ vs) (i ∷ is) = is_variable v (bare i) && are_variables vs is

-- U1: the first d indices are the bare variables of the d outermost loops
abbrev pub is_in_order : ℕ → List ℕ → List Index → Bool
is_in_order d loops at = nat_le d (length loops) && are_variables (take d loops) (take d at)

-- U2: the first d loops are those of the first update
abbrev pub is_as_first : ℕ → List ℕ → Option (List ℕ) → Bool
is_as_first d loops None = true
is_as_first d loops (Some first) = pointwise nat_eq (take d first) (take d loops)

abbrev pub order_breach : ℕ → List ℕ → Option (List ℕ) → List Index → ℕ → Option Refusal
order_breach d loops first at line = option_or (broken (not (is_in_order d loops at)) U1 line) (broken (not (is_as_first d loops first)) U2 line)

abbrev pub order_at : List Header → Text → Mark → Option Refusal
order_at headers before (Updates tensor at line) = order_breach (ordered_levels (levels_of (slice_get headers tensor))) (loops_at tensor before) (option_map (loops_at tensor) (first_update tensor zero before)) at line
order_at headers before _ = None

-- the first breach of a program
abbrev pub order_in : Program → Option Refusal
order_in p = first_breach (order_at p.headers) (text_of_all p.body [])
