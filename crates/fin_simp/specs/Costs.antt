-- What a piece costs: where no piece ends within some coordinates, their shares make the cost of one piece.
use Rattle.std.specs.Prelude.{◌≡◌, ℕ, zero, suc, ◌+◌, Bool, true, false}
use Rattle.std.specs.List.{list_all}
use Rattle.fin_ast.specs.Value.{Numbers}
use Rattle.fin_stage.specs.Staged.{Run, Action, repeated}
use Rattle.fin_simp.specs.Left.{Marks}
use Rattle.fin_simp.specs.Rest.{Rest, is_none_kind}
use Rattle.fin_simp.specs.Work.{Mask, is_comparison, masks_of, Entered, marks_at, ends_after, is_fixed, turn, turns}
use Rattle.fin_simp.specs.Lasting.{AllMove}

-- a loop in a run: the loop as it is entered, what is left of its body and what that does, and what is known around it
pub record Running : Type 0 where
  pub loop : Entered
  pub rest : Marks → Rest
  pub body : Marks → Action
  pub around : Marks
  pub vars : Numbers

abbrev pub known_at : Running → ℕ → Marks
known_at x c = marks_at x.loop x.vars x.around c

abbrev pub is_nothing_at : Running → ℕ → Bool
is_nothing_at x c = is_none_kind (x.rest (known_at x c)).kind

abbrev pub is_fixed_at : Running → ℕ → Bool
is_fixed_at x c = is_fixed x.loop x.vars (x.rest (known_at x c)) c

-- so many coordinates from one on, of which the first begins a piece
abbrev pub piece_from : Running → ℕ → ℕ → Run → Run
piece_from x n c r = turns (turn x.loop x.rest x.body x.around x.vars) (ends_after x.loop x.vars) n true c r

-- none of so many coordinates ends a piece
abbrev pub Unbroken : Running → ℕ → ℕ → Type 0
Unbroken x zero c = Unit {0}
Unbroken x (suc n) c = (ends_after x.loop x.vars c ≡ false) × AllMove x.vars x.loop.var c x.loop.driven × Unbroken x n (c + 1)

-- one of which nothing is left costs nothing; a single update that is the same at each coordinate costs 2; any other
-- costs for each coordinate 1 and its body, by what is known at the first
pub record PieceCosts (x : Running) (n c : ℕ) (r : Run) : Type 0 where
  pub nothing : is_nothing_at x c ≡ true → piece_from x (suc n) c r ≡ r
  pub fixed : is_nothing_at x c ≡ false → is_fixed_at x c ≡ true → (piece_from x (suc n) c r).work ≡ r.work + 2
  pub other : is_nothing_at x c ≡ false → is_fixed_at x c ≡ false → piece_from x (suc n) c r ≡ repeated (suc n) c x.loop.var (x.body (known_at x c)) x.vars r

abbrev pub PiecesCost : Type 0
PiecesCost = (x : Running) (n c : ℕ) (r : Run) → list_all (λ (k : Mask). is_comparison k.op) x.loop.masks ≡ true → Unbroken x n c → PieceCosts x n c r

-- the masks of a loop compare
abbrev pub MasksCompare : Type 0
MasksCompare = (vars : Numbers) (var : ℕ) (rest : Rest) → list_all (λ (k : Mask). is_comparison k.op) (masks_of vars var rest) ≡ true
