-- Loops whose driven indices move inside their extents, over their whole ranges: such a loop runs piece by piece.
use Rattle.std.specs.Prelude.{◌≡◌, ℕ, ◌+◌, ◌<◌, Bool, true, not, ◌&&◌, ◌||◌, is_none, Option, Some, None, List, [], ◌∷◌, length, slice_index_or}
use Rattle.std.specs.List.{list_all}
use Rattle.fin_ast.specs.declared.tree.Index.{Index}
use Rattle.fin_ast.specs.declared.tree.Stmt.{Stmt}
use Rattle.fin_ast.specs.declared.tree.Stmt.TheOpen.{Stmt-F}
use Rattle.fin_ast.specs.Value.{Numbers}
use Rattle.fin_ast.specs.Scope.{differ}
use Rattle.fin_ast.specs.Sizes.{leaves, range_at}
use Rattle.fin_ast.specs.Dense.{Setting, shape_at}
use Rattle.fin_stage.specs.Staged.{Run, worked}
use Rattle.fin_simp.specs.Numbered.{Here, numbered_all}
use Rattle.fin_simp.specs.Rest.{Access, Rest, all_written, written_step}
use Rattle.fin_simp.specs.Work.{World, Context, Worked, work_step, all_of, rests_in, asked_to_enter, enter, entry_of, inside, marks_within, ends_after, done}
use Rattle.fin_simp.specs.Costs.{Running}
use Rattle.fin_simp.specs.Pieces.{pieces_in, by_pieces}

-- an index names none twice; a plain one names one variable at most, and over the range of that one it doesn't leave the
-- extent
abbrev pub stays : Setting → ℕ → Index → Bool
stays w n i = differ i.first i.second && (i.loose || (is_none i.second && not (leaves i.offset (range_at w.dims.ranges i.first) n)))

-- the indices of an access, from a dimension on
abbrev pub all_stay : Setting → List ℕ → ℕ → List Index → Bool
all_stay w shape k [] = true
all_stay w shape k (i ∷ is) = stays w (slice_index_or shape k 0) i && all_stay w shape (k + 1) is

abbrev pub access_stays : Setting → Access → Bool
access_stays w a = all_stay w (shape_at w a.tensor) 0 a.at

-- each index of each read that is written in a body stays
abbrev pub ReadsStay : Setting → List Stmt → Here → Type 0
ReadsStay w body h = list_all (access_stays w) (all_written (numbered_all Rest written_step body h)).reads ≡ true

abbrev pub worked_all : World → List Stmt → Here → List Worked
worked_all w body h = numbered_all Worked (work_step w) body h

-- a loop in a context, as it is entered in a run
abbrev pub running : World → Context → ℕ → Bool → List Worked → Numbers → Run → Running
running w ctx var par body vars r = record {
  loop = enter w (inside ctx var None) var par body vars r;
  rest = λ m. rests_in (Some m) body;
  body = λ m. all_of body (Some m);
  around = marks_within (inside ctx var None);
  vars = vars;
}

-- behind what its entry asks a loop does, coordinate by coordinate, what it does piece by piece
abbrev pub LoopsByPieces : Type 0
LoopsByPieces = (w : World) (h : Here) (ctx : Context) (var : ℕ) (range : Option (ℕ × ℕ)) (par : Bool) (body : List Stmt) (line last : ℕ) (vars : Numbers) (r : Run) → var < length vars → ReadsStay w.setting body h
    → (let x = running w ctx var par (worked_all w body h) vars r in
    done w h (Stmt-F.Loop var range par (worked_all w body h) line last) ctx vars r
    ≡ by_pieces x (pieces_in (ends_after x.loop vars) x.loop.len x.loop.lo) x.loop.lo (worked (entry_of x.loop) (asked_to_enter w (inside ctx var None) par (worked_all w body h) r)))
