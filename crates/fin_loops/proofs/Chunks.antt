-- A parallel loop does, chunk by chunk as its code has them, what it does.
use Rattle.std.proofs.Common.{◌≡◌, ◌⊎◌, inl, inr, ℕ, zero, suc, ◌+◌, ◌-◌, ◌*◌, ◌<◌, ◌≤◌, ◌/◌, true, false, get_or, refl, sym, ap, ◌∙◌, subst, arith}
use Rattle.std.specs.Prelude.{nat_eq, min}
use Rattle.std.specs.List.{range_with_len}
use Rattle.std.proofs.Math.Nat.{div-mul-le_self, div-le_of_le-mul, mul-le-mul_right}
use Rattle.std.proofs.lemmas.Nat.{le-div}
use Rattle.std.proofs.lemmas.Bool.{cases_lt}
use Rattle.std.proofs.lemmas.Bool.Decides.{nat_tests}
use Rattle.std.proofs.lemmas.List.Folds.{list_any_at, list_any_none}
use Rattle.std.proofs.lemmas.List.FromFn.{length-range_with_len, get_or-range_with_len}
use Rattle.fin_ir.specs.Meaning.{chunk_begin, chunks_from}
use Rattle.fin_stage.specs.Staged.{Run}
use Rattle.fin_simp.specs.Costs.{Running}
use Rattle.fin_simp.specs.Work.{begins_chunk}
use Rattle.fin_drive.specs.Watches.{part_of}
use Rattle.fin_drive.proofs.Parts.{loops_fall_apart}
use Rattle.fin_loops.specs.Chunks.{over_chunks, IsChunk, AreChunks, LoopsInChunks}

differs : (a b : ℕ) → (a ≡ b → ⊥) → nat_eq a b ≡ false
differs a b h = elim (nat_eq a b) as (λ k. nat_eq a b ≡ k → nat_eq a b ≡ false) [
  | true ↦ (λ e. absurd (h (grind (arith, nat_tests))))
  | false ↦ (λ e. e)
] refl

equals : (a b : ℕ) → a ≡ b → nat_eq a b ≡ true
equals a b h = elim (nat_eq a b) as (λ k. nat_eq a b ≡ k → nat_eq a b ≡ true) [
  | true ↦ (λ e. e)
  | false ↦ (λ e. absurd (grind (arith, nat_tests)))
] refl

-- ---- where chunks begin, behind the beginning of the loop

module _ (len n : ℕ) (some : 0 < n) where
  abbrev begin : ℕ → ℕ
  begin k = k * len / n

  begin_rises : (j k : ℕ) → j ≤ k → begin j ≤ begin k
  begin_rises j k le =
      let under = div-mul-le_self (j * len) n in
      let more : j * len ≤ k * len = mul-le-mul_right len le in
      le-div (begin j) (k * len) n some (omega (arith, under, more))

  begin_last : begin n ≡ len
  begin_last =
      let flip : len * n ≡ n * len = omega arith in
      let low : len ≤ begin n = le-div len (n * len) n some (omega (arith, flip)) in
      let high : begin n ≤ len = div-le_of_le-mul n (omega arith) in
      omega (arith, low, high)

  -- one begins there
  chunk_begins : (k : ℕ) → k < n → begins_chunk len n (begin k) ≡ true
  chunk_begins k lt =
      list_any_at (λ j. nat_eq (j * len / n) (begin k)) (range_with_len 0 n) k 0 (omega (arith, length-range_with_len 0 n, lt))
      (let here : 0 + k ≡ k = omega arith in equals (get_or (range_with_len 0 n) k 0 * len / n) (begin k) (ap begin (get_or-range_with_len 0 n k 0 lt ∙ here)))

  -- and none between
  elsewhere : (k x i : ℕ) → begin k < x → x < begin (k + 1) → (i < k + 1) ⊎ (k + 1 ≤ i) → begin i ≡ x → ⊥
  elsewhere k x i low high (inl less) e = let r = begin_rises i k (omega (arith, less)) in omega (arith, r, low, e)
  elsewhere k x i low high (inr le) e = let r = begin_rises (k + 1) i le in omega (arith, r, high, e)

  none_between : (k x : ℕ) → begin k < x → x < begin (k + 1) → begins_chunk len n x ≡ false
  none_between k x low high = list_any_none (λ j. nat_eq (j * len / n) x) (range_with_len 0 n) (λ i d h.
      let here : 0 + i ≡ i = omega arith in
      subst (λ (j : ℕ). nat_eq (j * len / n) x ≡ false) (sym (get_or-range_with_len 0 n i d (omega (arith, length-range_with_len 0 n, h)) ∙ here))
      (differs (begin i) x (elsewhere k x i low high (cases_lt i (k + 1)))))

-- ---- chunk by chunk

module _ (x : Running) (n : ℕ) (is : x.loop.chunks ≡ n) (some : 0 < n) where
  abbrev lo : ℕ
  lo = x.loop.lo

  abbrev len : ℕ
  len = x.loop.len

  abbrev at : ℕ → ℕ
  at k = chunk_begin lo len n k

  rises : (k : ℕ) → k < n → (at k ≤ at (k + 1)) × (at (k + 1) ≤ lo + len)
  rises k lt =
      let one = begin_rises len n some k (k + 1) (omega arith) in
      let end = begin_rises len n some (k + 1) n (omega (arith, lt)) in
      let last = begin_last len n some in
      (omega (arith, one), omega (arith, end, last))

  is_chunk : (k : ℕ) → k < n → IsChunk x (at k, at (k + 1))
  is_chunk k lt =
      let up = rises k lt in
      record {
        ordered = up.0;
        begins = omega arith;
        ends = up.1;
        one = λ c low high.
            let u = up.0 in
            ap (λ (m : ℕ). begins_chunk len m (c + 1 - lo)) is ∙ none_between len n some k (c + 1 - lo) (omega (arith, low)) (omega (arith, high, u, low));
      }

  are_chunks : (left k : ℕ) → k + left ≡ n → AreChunks x (chunks_from lo len n k left)
  are_chunks zero k sum = tt
  are_chunks (suc left) k sum = (is_chunk k (omega (arith, sum)), are_chunks left (k + 1) (omega (arith, sum)))

  -- what is left from a chunk on, in two
  apart_at : (k : ℕ) → k < n → (r : Run) → part_of x (at k) (lo + len - at k) r ≡ part_of x (at (k + 1)) (lo + len - at (k + 1)) (part_of x (at k) (at (k + 1) - at k) r)
  apart_at k lt r = by (cases_lt (k + 1) n) where
    up : (at k ≤ at (k + 1)) × (at (k + 1) ≤ lo + len)
    up = rises k lt

    last : at n ≡ lo + len
    last = let e = begin_last len n some in omega (arith, e)

    by : (k + 1 < n) ⊎ (n ≤ k + 1) → part_of x (at k) (lo + len - at k) r ≡ part_of x (at (k + 1)) (lo + len - at (k + 1)) (part_of x (at k) (at (k + 1) - at k) r)
    by (inl more) =
        let a = up.0 in
        let b = up.1 in
        let m = at (k + 1) - at k in
        let rest = lo + len - at (k + 1) in
        let total : lo + len - at k ≡ m + rest = omega (arith, a, b) in
        let mid : at k + m ≡ at (k + 1) = omega (arith, a) in
        let behind : at k + m - lo ≡ (k + 1) * len / n = omega (arith, a) in
        ap (λ (j : ℕ). part_of x (at k) j r) total
        ∙ loops_fall_apart x (at k) m rest r (ap (begins_chunk len x.loop.chunks) behind ∙ ap (λ (j : ℕ). begins_chunk len j ((k + 1) * len / n)) is ∙ chunk_begins len n some (k + 1) more)
        ∙ ap (λ (j : ℕ). part_of x j rest (part_of x (at k) m r)) mid
    by (inr end) =
        let here : k + 1 ≡ n = omega (arith, lt, end) in
        let e : at (k + 1) ≡ lo + len = ap at here ∙ last in
        let size : lo + len - at k ≡ at (k + 1) - at k = ap (λ (j : ℕ). j - at k) (sym e) in
        let none : lo + len - at (k + 1) ≡ 0 = omega (arith, e) in
        ap (λ (j : ℕ). part_of x (at k) j r) size
        ∙ sym (ap (λ (j : ℕ). part_of x (at (k + 1)) j (part_of x (at k) (at (k + 1) - at k) r)) none)

  over_all : (left k : ℕ) → k + left ≡ n → (r : Run) → over_chunks x (chunks_from lo len n k left) r ≡ part_of x (at k) (lo + len - at k) r
  over_all zero k sum r =
      let here : k ≡ n = omega (arith, sum) in
      let e = begin_last len n some in
      let none : lo + len - at k ≡ 0 = ap (λ (j : ℕ). lo + len - at j) here ∙ omega (arith, e) in
      sym (ap (λ (j : ℕ). part_of x (at k) j r) none)
  over_all (suc left) k sum r =
      over_all left (k + 1) (omega (arith, sum)) (part_of x (at k) (at (k + 1) - at k) r) ∙ sym (apart_at k (omega (arith, sum)) r)

-- so many chunks, or none where there is no coordinate
in_chunks_by : (x : Running) (n : ℕ) → x.loop.chunks ≡ n → (n ≡ 0 → x.loop.len ≡ 0)
    → AreChunks x (chunks_from x.loop.lo x.loop.len n 0 n) × ((r : Run) → over_chunks x (chunks_from x.loop.lo x.loop.len n 0 n) r ≡ part_of x x.loop.lo x.loop.len r)
in_chunks_by x zero is empty = (tt, λ r. sym (ap (λ (j : ℕ). part_of x x.loop.lo j r) (empty refl)))
in_chunks_by x (suc n) is empty =
    let some : 0 < suc n = omega arith in
    let none : 0 * x.loop.len / suc n ≤ 0 = div-le_of_le-mul (suc n) (omega arith) in
    let first : chunk_begin x.loop.lo x.loop.len (suc n) 0 ≡ x.loop.lo = omega (arith, none) in
    let size : x.loop.lo + x.loop.len - x.loop.lo ≡ x.loop.len = omega arith in (
      are_chunks x (suc n) is some (suc n) 0 (omega arith),
      λ r. over_all x (suc n) is some (suc n) 0 (omega arith) r
          ∙ ap (λ (k : ℕ). part_of x k (x.loop.lo + x.loop.len - k) r) first ∙ ap (λ (j : ℕ). part_of x x.loop.lo j r) size,
    )

abbrev Covered : Running → ℕ → Type 0
Covered x j = AreChunks x (chunks_from x.loop.lo j (min j 256) 0 (min j 256))
    × ((r : Run) → over_chunks x (chunks_from x.loop.lo j (min j 256) 0 (min j 256)) r ≡ part_of x x.loop.lo x.loop.len r)

pub loops_in_chunks : LoopsInChunks
loops_in_chunks x is =
    let len = x.loop.len in
    let all : x.loop.lo + len - x.loop.lo ≡ len = omega arith in
    let got : Covered x (x.loop.lo + len - x.loop.lo) = subst (Covered x) (sym all) (in_chunks_by x (min len 256) is (λ e. omega (arith, e))) in
    record { all = got.0; whole = got.1 }
