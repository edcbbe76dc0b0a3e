-- The looplet of a shifted index, also of one that may leave its dimension.
use Rattle.std.specs.Prelude.{◌≡◌, ◌⊎◌, ◌↔◌, ℕ, ◌<◌, ◌≤◌, ◌^◌, ◌&&◌, [], ◌∷◌, List, Bool, true, false, if◌then◌else◌, Option, Some, None, ℤ, pos, negsuc, ◌+ℤ◌, ◌-ℤ◌, ◌≤ℤ◌, ◌<ℤ◌, int_lt, int_le}
use Rattle.fin_base.specs.declared.terms.Op.TheVariants as op
use Rattle.fin_ir.specs.declared.expression.IExpr.{IExpr}
use Rattle.fin_ir.specs.declared.expression.IExpr.TheVariants.{Num, Two}
use Rattle.fin_looplet.specs.declared.looplet.Leaf.TheVariants.{Fill}
use Rattle.fin_looplet.specs.declared.looplet.Looplet.{Looplet}
use Rattle.fin_looplet.specs.declared.looplet.Looplet.TheVariants.{Run, Sequence, Shift}
use Rattle.fin_looplet.specs.declared.looplet.Phase.{Phase}
use Rattle.fin_looplet.specs.Names.{Names}
use Rattle.fin_looplet.specs.View.{Store, value, view, gap, IsBreak, IsStop}
use Rattle.fin_looplet.specs.Sound.{SoundIn}
use Rattle.fin_looplet.specs.Locals.{Free, Owns}

-- ---- the looplet

-- Where the box begins, brought into what stops can say: no box that ends there or later begins before.
abbrev pub near : IExpr → IExpr
near by = Two op.Max (Two op.Min by (Num (pos (2 ^ 40)))) (Num (negsuc (2 ^ 41)))

abbrev pub outside : ℤ → IExpr → Phase
outside fill stop = record { stop = stop; child = Run (Fill fill) }

abbrev pub boxed : Looplet → IExpr → ℕ → Phase
boxed child by n = record { stop = Two op.Add (near by) (Num (pos n)); child = Shift by child }

abbrev pub edged : Looplet → IExpr → ℕ → ℤ → Looplet
edged child by n fill = Sequence (outside fill by ∷ boxed child by n ∷ outside fill (Num (pos (2 ^ 40))) ∷ [])

-- ---- what it means without an edge: all is moved up

-- leaves, and whether they vary
abbrev pub MovesLeaves : Looplet → IExpr → Looplet → Type 0
MovesLeaves child by l = (ts : Store) (ls : List ℤ) (end i : ℤ)
    → (view ts ls l end i).seen ≡ (view ts ls child (end -ℤ value ts ls by) (i -ℤ value ts ls by)).seen

abbrev pub MovesBreaks : Looplet → IExpr → Looplet → Type 0
MovesBreaks child by l = (ts : Store) (ls : List ℤ) (lo hi x : ℤ)
    → IsBreak ts ls l lo hi x ↔ IsBreak ts ls child (lo -ℤ value ts ls by) (hi -ℤ value ts ls by) (x -ℤ value ts ls by)

abbrev pub MovesStops : Looplet → IExpr → Looplet → Type 0
MovesStops child by l = (ts : Store) (ls : List ℤ) (lo hi x : ℤ)
    → IsStop ts ls l lo hi x ↔ IsStop ts ls child (lo -ℤ value ts ls by) (hi -ℤ value ts ls by) (x -ℤ value ts ls by)

-- a child that is sound in a region gives a looplet that is sound in the moved one
abbrev pub KeepsSound : Looplet → IExpr → Looplet → Type 0
KeepsSound child by l = (ts : Store) (ls : List ℤ) (lo hi : ℤ) → SoundIn ts ls child lo hi → SoundIn ts ls l (lo +ℤ value ts ls by) (hi +ℤ value ts ls by)

-- ---- what it means with an edge: outside of the moved box there is the fill

-- the coordinate that is moved to i lies below the extent
abbrev pub is_inside : ℤ → ℕ → ℤ → Bool
is_inside by n i = int_le by i && int_lt i (by +ℤ pos n)

abbrev pub Edges : Looplet → IExpr → ℕ → ℤ → Looplet → Type 0
Edges child by n fill l = (ts : Store) (ls : List ℤ) (end : ℤ) (i : ℕ) → i < 2 ^ 40 →
    (view ts ls l end (pos i)).seen ≡ (if is_inside (value ts ls by) n (pos i)
    then (view ts ls child (pos n) (pos i -ℤ value ts ls by)).seen
    else record { sight = gap fill; varies = false })

-- its two ends are breaks, beside those of the child
abbrev pub EdgesBreak : Looplet → IExpr → ℕ → Looplet → Type 0
EdgesBreak child by n l = (ts : Store) (ls : List ℤ) (lo hi : ℕ) → hi ≤ 2 ^ 40 → (x : ℕ) → IsBreak ts ls l (pos lo) (pos hi) (pos x)
    ↔ ((lo < x) × (x < hi) × ((pos x ≡ value ts ls by) ⊎ ((pos x ≡ value ts ls by +ℤ pos n) ⊎ IsBreak ts ls child (pos 0) (pos n) (pos x -ℤ value ts ls by))))

-- it stops where a walker's child of the child ends, also at the edge's end
abbrev pub EdgesStop : Looplet → IExpr → ℕ → Looplet → Type 0
EdgesStop child by n l = (ts : Store) (ls : List ℤ) (lo hi : ℕ) → hi ≤ 2 ^ 40 → (x : ℕ) → IsStop ts ls l (pos lo) (pos hi) (pos x)
    ↔ ((lo < x) × (x < hi) × (value ts ls by <ℤ pos x) × (pos x ≤ℤ (value ts ls by +ℤ pos n)) ×
    ((view ts ls child (pos n) (pos x -ℤ value ts ls by -ℤ pos 1)).stop ≡ true))

-- a child that is sound in the extent gives a looplet that is sound wherever loops go
abbrev pub EdgesSound : Looplet → ℕ → Looplet → Type 0
EdgesSound child n l = (ts : Store) (ls : List ℤ) → SoundIn ts ls child (pos 0) (pos n) → (lo hi : ℕ) → hi ≤ 2 ^ 40 → SoundIn ts ls l (pos lo) (pos hi)

-- ---- both

abbrev pub ShiftsLeaves : Looplet → IExpr → Option (ℕ × ℤ) → Looplet → Type 0
ShiftsLeaves child by None l = MovesLeaves child by l
ShiftsLeaves child by (Some e) l = Edges child by e.0 e.1 l

abbrev pub ShiftsBreaks : Looplet → IExpr → Option (ℕ × ℤ) → Looplet → Type 0
ShiftsBreaks child by None l = MovesBreaks child by l
ShiftsBreaks child by (Some e) l = EdgesBreak child by e.0 l

abbrev pub ShiftsStops : Looplet → IExpr → Option (ℕ × ℤ) → Looplet → Type 0
ShiftsStops child by None l = MovesStops child by l
ShiftsStops child by (Some e) l = EdgesStop child by e.0 l

abbrev pub ShiftsSound : Looplet → IExpr → Option (ℕ × ℤ) → Looplet → Type 0
ShiftsSound child by None l = KeepsSound child by l
ShiftsSound child by (Some e) l = EdgesSound child e.0 l

-- the looplet for an edge or none
abbrev pub shift_of : Looplet → IExpr → Option (ℕ × ℤ) → Looplet
shift_of child by None = Shift by child
shift_of child by (Some e) = edged child by e.0 e.1

-- ---- locals

-- it owns what the looplet owns, and depends on the distance besides
abbrev pub OwnsTheSame : Looplet → Looplet → Type 0
OwnsTheSame child l = (x : ℕ) → Owns x l → Owns x child

abbrev pub DependsOnDistance : Looplet → IExpr → Looplet → Type 0
DependsOnDistance child by l = (x : ℕ) → Free x l → Names x by ⊎ Free x child
