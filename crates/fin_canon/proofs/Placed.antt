-- Levels in their places, each with an extent.
use Rattle.std.proofs.Common.{◌≡◌, ℕ, suc, List, [], ◌∷◌, length, refl, arith}
use Rattle.fin_tensor.specs.declared.format.Level.{Level}
use Rattle.fin_tensor.specs.declared.format.Level.TheVariants as level
use Rattle.fin_tensor.specs.Placement.{RunsStandLast}

-- runs stand last, and each level has an extent
abbrev pub IsPlacedOver : List Level → List ℕ → Type 0
IsPlacedOver [] [] = Unit {0}
IsPlacedOver (level.Runs ∷ []) (n ∷ []) = Unit {0}
IsPlacedOver (level.Runs ∷ ls) ns = ⊥
IsPlacedOver (l ∷ ls) (n ∷ ns) = IsPlacedOver ls ns
IsPlacedOver ls ns = ⊥

pub placed_over : (ls : List Level) (ns : List ℕ) → RunsStandLast ls → length ns ≡ length ls → IsPlacedOver ls ns
placed_over [] [] r e = tt
placed_over [] (n ∷ ns) r e = absurd (omega arith)
placed_over (l ∷ ls) [] r e = absurd (omega arith)
placed_over (level.Runs ∷ []) (n ∷ []) r e = tt
placed_over (level.Runs ∷ []) (n ∷ m ∷ ns) r e = absurd (omega arith)
placed_over (level.Runs ∷ l ∷ ls) (n ∷ ns) r e = absurd (r 0 (omega arith) refl)
placed_over (level.Dense ∷ ls) (n ∷ ns) r e = placed_over ls ns (λ k h. r (suc k) (omega arith)) (omega arith)
placed_over (level.List ∷ ls) (n ∷ ns) r e = placed_over ls ns (λ k h. r (suc k) (omega arith)) (omega arith)
placed_over (level.Band ∷ ls) (n ∷ ns) r e = placed_over ls ns (λ k h. r (suc k) (omega arith)) (omega arith)
placed_over (level.Dict ∷ ls) (n ∷ ns) r e = placed_over ls ns (λ k h. r (suc k) (omega arith)) (omega arith)

pub placed_rest : (l : Level) (ls : List Level) (n : ℕ) (ns : List ℕ) → IsPlacedOver (l ∷ ls) (n ∷ ns) → IsPlacedOver ls ns × (l ≡ level.Runs → ns ≡ [])
placed_rest level.Dense ls n ns h = (h, λ e. cc)
placed_rest level.List ls n ns h = (h, λ e. cc)
placed_rest level.Dict ls n ns h = (h, λ e. cc)
placed_rest level.Band ls n ns h = (h, λ e. cc)
placed_rest level.Runs [] n [] h = (tt, λ e. refl)
placed_rest level.Runs [] n (m ∷ ns) h = absurd h
placed_rest level.Runs (k ∷ ls) n ns h = absurd h

pub no_shape : (l : Level) (ls : List Level) → IsPlacedOver (l ∷ ls) [] → ⊥
no_shape level.Dense ls h = h
no_shape level.List ls h = h
no_shape level.Dict ls h = h
no_shape level.Band ls h = h
no_shape level.Runs [] h = h
no_shape level.Runs (k ∷ ls) h = h
