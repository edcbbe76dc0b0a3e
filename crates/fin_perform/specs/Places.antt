-- Places that suit a statement: where its code may stand.
use Rattle.std.specs.Prelude.{◌≡◌, ◌≢◌, ℕ, ◌<◌, Bool, true, false, List, [], ◌∷◌, length, Some, None, pos, ◌^◌}
use Rattle.fin_ast.specs.declared.checked.Checked.{Checked}
use Rattle.fin_ast.specs.declared.tree.Stmt.{Stmt}
use Rattle.fin_ast.specs.Scope.{Scope, is_among}
use Rattle.fin_ast.specs.Value.{Numbers, number}
use Rattle.fin_nest.specs.Performs.{Place}
use Rattle.fin_simp.specs.Left.{Marks}
use Rattle.fin_simp.specs.Numbered.{Here, numbered_all}
use Rattle.fin_simp.specs.Rest.{Rest, rest_step, rest_of, all_rest, written_step, written, all_written}
use Rattle.fin_simp.specs.Work.{Context, is_in}
use Rattle.fin_perform.specs.Standing.{StandsIn}

-- ---- what is left of statements where their code is made, and the tensors that it declares, updates, freezes or thaws

abbrev pub left_of : Stmt → Here → Context → Rest
left_of x h None = written x h
left_of x h (Some m) = rest_of x h m

-- one after another
abbrev pub left_of_all : List Stmt → Here → Context → Rest
left_of_all xs h None = all_written (numbered_all Rest written_step xs h)
left_of_all xs h (Some m) = all_rest (numbered_all (Marks → Rest) rest_step xs h) m

abbrev pub changes : Stmt → Here → Context → ℕ → Bool
changes x h ctx = is_in (left_of x h ctx).changed

abbrev pub change_all : List Stmt → Here → Context → ℕ → Bool
change_all xs h ctx = is_in (left_of_all xs h ctx).changed

-- ---- the variables that they bind

abbrev pub AllApart : ℕ → List ℕ → Type 0
AllApart v [] = Unit {0}
AllApart v (x ∷ xs) = (v ≢ x) × AllApart v xs

-- a variable may be bound there, of so many, and once
pub record MayBind (p : Place) (count v : ℕ) (others : List ℕ) : Type 0 where
  pub below : v < p.next
  pub counted : v < count
  pub binds : p.binds v ≡ true
  pub apart : AllApart v others

abbrev pub AllMayBind : Place → ℕ → List ℕ → Type 0
AllMayBind p count [] = Unit {0}
AllMayBind p count (v ∷ vs) = MayBind p count v vs × AllMayBind p count vs

-- ---- places

-- the variable's number is a coordinate
abbrev pub IsCoordinate : Numbers → ℕ → Type 0
IsCoordinate vars x = (k : ℕ) × (number vars x ≡ pos k) × (k < 2 ^ 40)

-- The place is in the scope, with these numbers and this first free local. It takes none of the changed tensors for one
-- that stays as it is, and none of the bound variables for one that the code doesn't bind. The variables of loops
-- in scope have coordinates for their numbers, and the code doesn't bind them again.
pub record Suits (c : Checked) (next : ℕ) (bound : List ℕ) (written : ℕ → Bool) (sc : Scope) (vars : Numbers) (p : Place) : Type 0 where
  pub stands : StandsIn c sc vars p
  pub next_is : p.next ≡ next
  pub loose : (t : ℕ) → written t ≡ true → p.steady t ≡ false
  pub coordinates : (x : ℕ) → is_among sc.loops x ≡ true → IsCoordinate vars x
  pub unbound : (x : ℕ) → is_among sc.loops x ≡ true → p.binds x ≡ false
  pub may_bind : AllMayBind p (length vars) bound
