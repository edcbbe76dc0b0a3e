-- Stored words are read back.
use Rattle.std.proofs.Common.{◌≡◌, ℕ, ◌+◌, ◌<◌, ◌^◌, ℤ, pos, List, length, get_or, set, sym, ap, ◌∙◌, subst, arith, get_or-set_same, get_or-set_other}
use Rattle.std.specs.Prelude.{slice_index, slice_index_or}
use Rattle.std.proofs.lemmas.Int.{to_z-of_z}
use Rattle.std.specs.Int.{cast_signed, cast_unsigned, w64}
use mathlib.Core.Logic.{dite}
use native.Mathlib.Decide.{ℕ_discrete}
use mathlib.Core.Option.{some}
use lib.ListN.{get_elem?}
use Rattle.fin_base.specs.declared.reduce.Reduce.{Reduce}
use Rattle.fin_base.specs.declared.reduce.Reduce.TheVariants.{Add, Mul, Min, Max, And, Or, Xor, Put}
use Rattle.fin_base.specs.Words.{IsWord}
use Rattle.fin_base.proofs.Reductions.{below}
use Rattle.fin_seats.specs.Codes.{flip, code, decode, AreStored}
use Rattle.fin_seats.proofs.Places.{word_is}

twice-flipped : (n : ℕ) → n < 2 ^ 64 → flip (flip n) ≡ n
twice-flipped n h = omega arith

flipped-back : (z : ℤ) → IsWord z → cast_signed w64 (flip (flip (cast_unsigned w64 z))) ≡ z
flipped-back z f = ap (cast_signed w64) (twice-flipped (cast_unsigned w64 z) (below z f)) ∙ to_z-of_z w64 z f

pub decodes : (by : Reduce) (z : ℤ) → IsWord z → decode by (code by z) ≡ z
decodes Add z f = to_z-of_z w64 z f
decodes Mul z f = to_z-of_z w64 z f
decodes Min z f = flipped-back z f
decodes Max z f = flipped-back z f
decodes And z f = to_z-of_z w64 z f
decodes Or z f = to_z-of_z w64 z f
decodes Xor z f = to_z-of_z w64 z f
decodes Put z f = to_z-of_z w64 z f

starts : (by : Reduce) (c : ℕ) (z : ℤ) → IsWord z → c ≡ code by z → IsWord (decode by c) × (code by (decode by c) ≡ c) × (decode by c ≡ z)
starts by c z fit e = let is : decode by c ≡ z = ap (decode by) e ∙ decodes by z fit in (subst IsWord (sym is) fit, ap (code by) is ∙ sym e, is)

-- stored words read as the start
pub reads : (by : Reduce) (start : List ℤ) (codes items : List ℕ) → AreStored by start items → codes ≡ items → (k : ℕ) → k < length start → IsWord (decode by (slice_index codes k)) × (code by (decode by (slice_index codes k)) ≡ slice_index codes k) × (decode by (slice_index codes k) ≡ slice_index_or start k (pos 0))
reads by start codes items are same k h = starts by (slice_index codes k) _ (are.1 k h).1 (ap (λ l. slice_index l k) same ∙ (are.1 k h).0)

-- one more word was read
pub read_more : (into : List ℤ) (ws : List ℕ) (by : Reduce) (k : ℕ) (z : ℤ) (n : ℕ) → k < length into → ((j : ℕ) → j < k → get_or into j (pos 0) ≡ decode by (slice_index ws j)) → z ≡ decode by n → get_elem? ws k ≡ some n → (j : ℕ) → j < k + 1 → get_or (set into k z) j (pos 0) ≡ decode by (slice_index ws j)
read_more into ws by k z n h so_far z_is at j near = dite (ℕ_discrete j k)
    (λ e. subst (λ (m : ℕ). get_or (set into k z) m (pos 0) ≡ decode by (slice_index ws m)) (sym e) (get_or-set_same into k z (pos 0) h ∙ z_is ∙ ap (decode by) (sym (word_is ws k n at))))
    (λ ne. get_or-set_other into k j z (pos 0) ne ∙ so_far j (omega arith))
