-- What is left of a body changes the fewer tensors, the more is known.
use Rattle.std.specs.Prelude.{◌≡◌, ℕ, true, false, List, map}
use Rattle.fin_ast.specs.declared.tree.Stmt.{Stmt}
use Rattle.fin_ast.specs.Literals.{all_hold, is_worded_stmt}
use Rattle.fin_simp.specs.Numbered.{Here, numbered_all}
use Rattle.fin_simp.specs.Left.{Marks}
use Rattle.fin_simp.specs.Rest.{Rest, all_rest, rest_step}
use Rattle.fin_simp.specs.Wording.{KnowsWords, Further}
use Rattle.fin_simp.specs.Work.{is_in}

-- the tensors that what is left of a body declares, updates, freezes or thaws
abbrev pub changed_by : List Stmt → Here → Marks → List ℕ
changed_by body h m = (all_rest (numbered_all (Marks → Rest) rest_step body h) m).changed

abbrev pub FewerChange : Type 0
FewerChange = (body : List Stmt) (h : Here) (m m' : Marks) → all_hold (map is_worded_stmt body) ≡ true → KnowsWords m' → Further m m'
    → (tensor : ℕ) → is_in (changed_by body h m) tensor ≡ false → is_in (changed_by body h m') tensor ≡ false
