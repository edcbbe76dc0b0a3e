-- The looplet of a comparison of the coordinate with a bound.
use Rattle.std.specs.Prelude.{◌≡◌, ◌⊎◌, ◌↔◌, ℕ, ◌<◌, ◌≤◌, ◌^◌, [], ◌∷◌, List, Bool, true, false, ℤ, pos, negsuc, ◌+ℤ◌}
use Rattle.fin_base.specs.declared.terms.Op.{Op}
use Rattle.fin_base.specs.declared.terms.Op.TheVariants as op
use Rattle.fin_base.specs.Words.{operate, truth}
use Rattle.fin_ir.specs.declared.expression.IExpr.{IExpr}
use Rattle.fin_ir.specs.declared.expression.IExpr.TheVariants.{Num, Two}
use Rattle.fin_looplet.specs.declared.looplet.Leaf.TheVariants.{Value}
use Rattle.fin_looplet.specs.declared.looplet.Looplet.{Looplet}
use Rattle.fin_looplet.specs.declared.looplet.Looplet.TheVariants.{Run, Sequence}
use Rattle.fin_looplet.specs.declared.looplet.Phase.{Phase}
use Rattle.fin_looplet.specs.Names.{Names}
use Rattle.fin_looplet.specs.View.{Store, value, view, word, IsBreak, IsStop}
use Rattle.fin_looplet.specs.Sound.{SoundIn}
use Rattle.fin_looplet.specs.Locals.{Free, Owns}
use Rattle.fin_unfurl.specs.Parts.{next}

abbrev pub is_comparison : Op → Bool
is_comparison op.Lt = true
is_comparison op.Le = true
is_comparison op.Gt = true
is_comparison op.Ge = true
is_comparison op.Eq = true
is_comparison op.Ne = true
is_comparison o = false

-- ---- the looplet: a run before the bound, at it and behind it

abbrev pub holds_before : Op → Bool
holds_before op.Lt = true
holds_before op.Le = true
holds_before op.Ne = true
holds_before o = false

abbrev pub holds_at : Op → Bool
holds_at op.Le = true
holds_at op.Ge = true
holds_at op.Eq = true
holds_at o = false

abbrev pub holds_behind : Op → Bool
holds_behind op.Gt = true
holds_behind op.Ge = true
holds_behind op.Ne = true
holds_behind o = false

-- a bound that no coordinate meets is brought to -1 or 2^40, so that one more is a word
abbrev pub bounded : IExpr → IExpr
bounded b = Two op.Max (Two op.Min b (Num (pos (2 ^ 40)))) (Num (negsuc 0))

abbrev pub known : Bool → IExpr → Phase
known holds stop = record { stop = stop; child = Run (Value (Num (truth holds))) }

abbrev pub mask_of : Op → IExpr → Looplet
mask_of o b = Sequence (known (holds_before o) (bounded b) ∷ known (holds_at o) (next (bounded b)) ∷ known (holds_behind o) (Num (pos (2 ^ 40))) ∷ [])

-- ---- what it means

-- 1 where the comparison holds and 0 elsewhere, at each coordinate
abbrev pub Compares : Op → IExpr → Looplet → Type 0
Compares o b l = (ts : Store) (ls : List ℤ) (end : ℤ) (i : ℕ) → i < 2 ^ 40
    → (view ts ls l end (pos i)).seen ≡ record { sight = word (operate o (pos i) (value ts ls b)); varies = false }

-- it breaks at the bound and behind it
abbrev pub BreaksAtBound : IExpr → Looplet → Type 0
BreaksAtBound b l = (ts : Store) (ls : List ℤ) (lo hi : ℕ) → hi ≤ 2 ^ 40 →
    (x : ℕ) → IsBreak ts ls l (pos lo) (pos hi) (pos x) ↔ ((lo < x) × (x < hi) × ((pos x ≡ value ts ls b) ⊎ (pos x ≡ value ts ls b +ℤ pos 1)))

abbrev pub IsSoundMask : Looplet → Type 0
IsSoundMask l = (ts : Store) (ls : List ℤ) (lo hi : ℕ) → hi ≤ 2 ^ 40 → SoundIn ts ls l (pos lo) (pos hi)

abbrev pub NeverStops : Looplet → Type 0
NeverStops l = (ts : Store) (ls : List ℤ) (lo hi : ℕ) → hi ≤ 2 ^ 40 → (x : ℕ) → IsStop ts ls l (pos lo) (pos hi) (pos x) → ⊥

-- it owns no local, and depends on those of the bound
abbrev pub OwnsNone : Looplet → Type 0
OwnsNone l = (x : ℕ) → Owns x l → ⊥

abbrev pub DependsOnBound : IExpr → Looplet → Type 0
DependsOnBound b l = (x : ℕ) → Free x l → Names x b
