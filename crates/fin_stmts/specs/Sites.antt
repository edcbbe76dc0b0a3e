-- A loop where its code is made, and what stands behind its entry.
use Rattle.std.specs.Prelude.{◌≡◌, ℕ, ◌+◌, ◌≤◌, Bool, true, false, List, Option}
use Rattle.fin_ast.specs.declared.checked.Checked.{Checked}
use Rattle.fin_ast.specs.declared.tree.Stmt.TheVariants as s
use Rattle.fin_ast.specs.Literals.{are_worded}
use Rattle.fin_simp.specs.Facts.{marks}
use Rattle.fin_simp.specs.Wording.{KnowsWords}
use Rattle.fin_style_point.specs.declared.nest.Nest as point
use Rattle.fin_style_point.specs.Parts.{all_looplets}
use Rattle.fin_style_point.specs.Steps.{AllFlat}
use Rattle.fin_descend.specs.Jumpless.{AllJumpless}
use Rattle.fin_loops.specs.Facts.{KnowsOf}
use Rattle.fin_loops.specs.Loops.{Loop, slots}
use Rattle.fin_loops.specs.Parallel.{Ends}
use Rattle.fin_loops.specs.Points.{AreSettled}
use Rattle.fin_loops.specs.Sourced.{IsWhole}
use Rattle.fin_loops.specs.Chunked.{IsOfChunks}
use Rattle.fin_loops.specs.Told.{is_fixed_along}
use Rattle.fin_loops.specs.Tops.{IsTop, own_end}
use Rattle.fin_loops.specs.Loops as loops
use Rattle.fin_stmts.specs.declared.place.Place.{Place}
use Rattle.fin_stmts.specs.declared.place.Codes.{Codes}
use Rattle.fin_stmts.specs.declared.entered.Loop as written
use Rattle.fin_stmts.specs.declared.entered.Site.{Site}
use Rattle.fin_stmts.specs.declared.entered.Entered.{Entered}
use Rattle.fin_stmts.specs.Lowering.{LowersSome}
use Rattle.fin_stmts.specs.Places.{context_of, here_of, IsPlaced}

-- ---- loops at places

abbrev pub loop_at : Checked → written.Loop → Place → Loop
loop_at c one p = record { checked = c; var = one.var; body = one.body.now; here = here_of p; context = context_of p }

abbrev pub loop_of : Site → Loop
loop_of s = loop_at s.checked.now s.one s.place

-- of a loop, whichever lines and range its text has, of which something is left
abbrev pub LowersLoop : Checked → written.Loop → Place → Codes → Type 0
LowersLoop c one p m = (range : Option (ℕ × ℕ)) (line last : ℕ) → LowersSome c p m (s.Loop one.var range one.par one.body.now line last)

-- The facts are what is known inside the loop of all but its reads and masks; they are words, and so are its literals.
pub record IsSite (s : Site) : Type 0 where
  pub around : marks s.around ≡ loops.around (loop_of s)
  pub words : KnowsWords (marks s.around)
  pub worded : are_worded s.one.body.now ≡ true
  pub placed : IsPlaced s.checked.now s.place

-- ---- the nests of the loop

-- its own and their parts; these are the reads that it drives
pub record Comes (s : Site) (ds : List Bool) (n : point.Nest) : Type 0 where
  pub knows : KnowsOf (loop_of s) s.around ds n
  pub jumpless : AllJumpless (all_looplets n)
  pub var : n.var ≡ s.one.var
  pub later : s.place.next ≤ n.next

-- one along which what is left is an update that is the same at each coordinate
pub record IsFixed (s : Site) (n : point.Nest) : Type 0 where
  pub flat : AllFlat (all_looplets n)
  pub settled : AreSettled (slots (loop_of s)) (all_looplets n)
  pub same : is_fixed_along (loop_of s) n ≡ true

-- ---- behind the entry

-- the two locals of a chunk
abbrev pub ends_at : ℕ → Ends
ends_at behind = record { from = behind; to = behind + 1 }

-- the loop's nest behind its entry, over its range or over a chunk
pub record IsEntered (s : Site) (e : Entered) : Type 0 where
  pub behind : e.behind ≡ own_end (loop_of s) s.place.next
  pub top : IsTop (loop_of s) s.place.next e.nest
  pub whole : s.one.par ≡ false → IsWhole (loop_of s) e.nest
  pub chunks : s.one.par ≡ true → IsOfChunks (loop_of s) s.place.next e.nest.next e.nest (ends_at e.behind)
  pub comes : Comes s e.drives.items e.nest
