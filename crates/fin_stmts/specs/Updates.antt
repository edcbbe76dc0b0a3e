-- The one update that is left of a loop's body, and what is asked of it where it is done at once.
use Rattle.std.specs.Prelude.{◌≡◌, ℕ, false, List, Some}
use Rattle.fin_ast.specs.declared.tree.Stmt.{Stmt}
use Rattle.fin_style_point.specs.declared.nest.Nest as point
use Rattle.fin_style_point.specs.Changes.{is_bitwise}
use Rattle.fin_perform.specs.declared.once.Site as once
use Rattle.fin_perform.specs.declared.single.Update.{Update}
use Rattle.fin_perform.specs.Appending.{here_of, marks_in}
use Rattle.fin_perform.specs.Meanings.{Deed, stmt_deed, body_deed}
use Rattle.fin_known.specs.Telling.{marks_told}
use Rattle.fin_loops.specs.Loops.{Loop}
use Rattle.fin_loops.specs.Only.{Written, update_names, IsOnly}
use Rattle.fin_loops.specs.Points.{marks_at_point}
use Rattle.fin_stmts.specs.declared.nests.NestAsks.{NestAsks}
use Rattle.fin_stmts.specs.Sites.{loop_of}

abbrev pub written_of : Update → Written
written_of u = record { tensor = u.tensor; at = u.at.now; by = u.by; value = u.value.now }

-- it is all that is left of a statement at a site, and of a body
abbrev pub IsOnlyOf : Stmt → once.Site → Update → Type 0
IsOnlyOf x a u = IsOnly (stmt_deed x (here_of a) (Some (marks_in a))) (written_of u)

abbrev pub IsOnlyOfAll : List Stmt → once.Site → Update → Type 0
IsOnlyOfAll xs a u = IsOnly (body_deed xs (here_of a) (Some (marks_in a))) (written_of u)

-- the deed is the update, which doesn't name the variable and asks for no words
pub record IsFree (var : ℕ) (d : Deed) (u : Update) : Type 0 where
  pub only : IsOnly d (written_of u)
  pub free : update_names var (written_of u) ≡ false
  pub plain : is_bitwise u.by ≡ false

-- of a body at a site
abbrev pub IsAtOnce : ℕ → List Stmt → once.Site → Update → Type 0
IsAtOnce var xs a = IsFree var (body_deed xs (here_of a) (Some (marks_in a)))

-- and of a loop's body along a nest
abbrev pub IsAtOnceOf : Loop → point.Nest → Update → Type 0
IsAtOnceOf l n = IsFree l.var (body_deed l.body l.here (Some (marks_at_point l n)))

abbrev pub IsAtOnceAlong : NestAsks → point.Nest → Update → Type 0
IsAtOnceAlong asks = IsAtOnceOf (loop_of asks.site)

-- ---- sites

-- where codes are made of a loop's body along a nest, by what that tells
pub record IsToldAt (asks : NestAsks) (n : point.Nest) (a : once.Site) : Type 0 where
  pub marks : marks_in a ≡ marks_told asks.site.around asks.drives.now n
  pub here : here_of a ≡ (loop_of asks.site).here
  pub next : a.next ≡ n.next
