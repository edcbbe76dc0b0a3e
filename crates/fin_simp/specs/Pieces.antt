-- What a whole loop costs: its run, coordinate by coordinate, is its run piece by piece, where each piece costs what the
-- table of pieces says.
use Rattle.std.specs.Prelude.{◌≡◌, ℕ, zero, suc, ◌+◌, Bool, true, if◌then◌else◌, List, [], ◌∷◌, pos, slice_set}
use Rattle.std.specs.List.{list_all}
use Rattle.fin_stage.specs.Staged.{Run, worked, repeated}
use Rattle.fin_simp.specs.Left.{Marks}
use Rattle.fin_simp.specs.Work.{Mask, is_comparison, ends_after, costing, entry_of, looped}
use Rattle.fin_simp.specs.Lasting.{AllMove}
use Rattle.fin_simp.specs.Costs.{Running, known_at, is_nothing_at, is_fixed_at}

-- ---- the pieces of a loop

-- pieces, each by the number of coordinates behind its first one
pub record Cut : Type 0 where
  pub first : ℕ
  pub later : List ℕ

abbrev pub cut_before : Cut → Cut
cut_before p = record { first = 0; later = p.first ∷ p.later }

abbrev pub lengthened : Cut → Cut
lengthened p = record { first = suc p.first; later = p.later }

-- the pieces of a coordinate and so many behind it: one ends where it is said, and the last one with the last coordinate
abbrev pub cut : (ℕ → Bool) → ℕ → ℕ → Cut
cut ends zero c = record { first = 0; later = [] }
cut ends (suc n) c = if ends c then cut_before (cut ends n (c + 1)) else lengthened (cut ends n (c + 1))

-- the pieces of so many coordinates from one on
abbrev pub pieces_in : (ℕ → Bool) → ℕ → ℕ → List ℕ
pieces_in ends zero c = []
pieces_in ends (suc n) c = (cut ends n c).first ∷ (cut ends n c).later

-- ---- the table

abbrev pub done_at : Running → Marks → ℕ → Run → Run
done_at x m c r = x.body m (slice_set x.vars x.loop.var (pos c)) r

-- the body at so many coordinates from one on, without work
abbrev pub unpaid : Running → Marks → ℕ → ℕ → Run → Run
unpaid x m zero c r = r
unpaid x m (suc n) c r = unpaid x m n (c + 1) (costing 0 r (done_at x m c r))

-- an update that is the same at each coordinate costs 2 for all of them
abbrev pub paid_once : Running → Marks → ℕ → ℕ → Run → Run
paid_once x m n c r = unpaid x m n (c + 1) (costing 2 r (done_at x m c r))

-- a piece of a coordinate and so many behind it. One of which nothing is left costs nothing; a single update that is the
-- same at each coordinate costs 2; any other costs for each coordinate 1 and its body, by what is known at the first
abbrev pub row : Running → ℕ → ℕ → Run → Run
row x n c r =
    if is_nothing_at x c then r
    else (if is_fixed_at x c then paid_once x (known_at x c) n c r
    else repeated (suc n) c x.loop.var (x.body (known_at x c)) x.vars r)

-- pieces one after another, of which the first begins at a coordinate
abbrev pub by_pieces : Running → List ℕ → ℕ → Run → Run
by_pieces x [] c r = r
by_pieces x (n ∷ ns) c r = by_pieces x ns (c + suc n) (row x n c r)

-- ---- the whole loop

-- the driven reads move by one from each coordinate to the next
abbrev pub MovesOn : Running → ℕ → ℕ → Type 0
MovesOn x zero c = Unit {0}
MovesOn x (suc n) c = AllMove x.vars x.loop.var c x.loop.driven × MovesOn x n (c + 1)

abbrev pub Moves : Running → ℕ → Type 0
Moves x zero = Unit {0}
Moves x (suc n) = MovesOn x n x.loop.lo

-- an update that is paid once adds 2
abbrev pub PaidOnce : Type 0
PaidOnce = (x : Running) (m : Marks) (n c : ℕ) (r : Run) → (paid_once x m n c r).work ≡ r.work + 2

abbrev pub ByPieces : Type 0
ByPieces = (x : Running) (r : Run) → list_all (λ (k : Mask). is_comparison k.op) x.loop.masks ≡ true → Moves x x.loop.len
    → looped x.loop x.rest x.body x.around x.vars r ≡ by_pieces x (pieces_in (ends_after x.loop x.vars) x.loop.len x.loop.lo) x.loop.lo (worked (entry_of x.loop) r)

pub record LoopCosts : Type 0 where
  pub pieces : ByPieces
  pub once : PaidOnce
