-- What is appended for statements of which one update is left.
use Rattle.std.specs.Prelude.{◌≡◌, ℕ, ◌<◌, ◌≤◌, Bool, true, false, List, ◌++◌, map, Some}
use Rattle.fin_ast.specs.declared.checked.Checked.{Checked}
use Rattle.fin_ast.specs.declared.tree.Stmt.{Stmt}
use Rattle.fin_ast.specs.Scope.{is_among}
use Rattle.fin_ir.specs.declared.code.Code.{Code}
use Rattle.fin_ir.specs.Declares.{declares, some_of}
use Rattle.fin_nest.specs.Sparing.{Staying, all_spare, spares}
use Rattle.fin_read.specs.Values.{Heads}
use Rattle.fin_simp.specs.Facts.{marks}
use Rattle.fin_simp.specs.Left.{Marks}
use Rattle.fin_simp.specs.Numbered.{Here, here_at}
use Rattle.fin_simp.specs.Rest.{OneUpdate}
use Rattle.fin_perform.specs.declared.once.Site.{Site}
use Rattle.fin_perform.specs.Layouts.{heads_in}
use Rattle.fin_perform.specs.Meanings.{Deed, Means, stmt_deed}
use Rattle.fin_perform.specs.Naming.{Names}
use Rattle.fin_perform.specs.Once.{unpaid, once_deed}
use Rattle.fin_perform.specs.Places.{left_of, left_of_all}

-- What is to stay is no local from the first free one on, none of the variables that are bound, and none of the tensors
-- that are changed.
pub record StaysOff (s : Staying) (next : ℕ) (bound : List ℕ) (written : ℕ → Bool) : Type 0 where
  pub below : (y : ℕ) → s.locals y ≡ true → y < next
  pub unbound : (y : ℕ) → s.locals y ≡ true → is_among bound y ≡ false
  pub unwritten : (t : ℕ) → s.tensors t ≡ true → written t ≡ false

-- The codes behind the others mean the deed, in each program with these headers, and name what its layout has. They leave
-- what stays off the deed, and declare nothing.
pub record Appends (heads : Heads) (next need : ℕ) (old new : List Code) (d : Deed) : Type 0 where
  pub codes : List Code
  pub appended : new ≡ old ++ codes
  pub means : (c : Checked) → heads_in c ≡ heads → Means c next need codes d
  pub named : (c : Checked) → heads_in c ≡ heads → Names c next need codes d.bound d.named
  pub spares : (s : Staying) → StaysOff s next d.bound d.written → all_spare (map (spares s) codes) ≡ true
  pub declares : (t : ℕ) → some_of (map declares codes) t ≡ false
  pub room : next ≤ need

-- ---- by what is known at a site

abbrev pub here_of : Site → Here
here_of a = here_at a.read a.test

abbrev pub marks_in : Site → Marks
marks_in a = marks a.facts

-- one update is left
abbrev pub IsOne : Stmt → Site → Type 0
IsOne x a = (left_of x (here_of a) (Some (marks_in a))).kind ≡ OneUpdate

abbrev pub AreOne : List Stmt → Site → Type 0
AreOne xs a = (left_of_all xs (here_of a) (Some (marks_in a))).kind ≡ OneUpdate

abbrev pub one_at : Stmt → Site → Deed
one_at x a = unpaid (stmt_deed x (here_of a) (Some (marks_in a)))

abbrev pub once_at : List Stmt → Site → Deed
once_at xs a = once_deed xs (here_of a) (Some (marks_in a))
