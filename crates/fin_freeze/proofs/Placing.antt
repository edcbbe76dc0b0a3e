-- The coordinates that lead to one place of a level.
use Rattle.std.proofs.Common.{◌≡◌, ℕ, ◌+◌, ◌-◌, ◌*◌, ◌^◌, ◌<◌, ◌≤◌, List, length, sym, ap, ◌∙◌, subst, ⊎_elim, arith, Some}
use Rattle.std.specs.Prelude.{slice_index, nat_eq, if◌then◌else◌}
use Rattle.std.proofs.lemmas.Bool.{cases_lt}
use Rattle.std.proofs.lemmas.Bool.Decides.{nat_tests}
use Rattle.fin_tensor.specs.declared.part.Part.{Part}
use Rattle.fin_tensor.specs.declared.part.Part.TheVariants as part
use Rattle.fin_tensor.specs.Levels.{IsPtr, IsIdx, IsStop, IsStart, IsAt, first_from, fibre_from, fibre_to, IsFibre}
use Rattle.fin_tensor.proofs.Fibres.{first_is, first_place, IsFirst, fibre_rises, fibre_of_level, ptr_rises, level_keys, level_runs, level_band}
use Rattle.fin_canon.proofs.Standing.{key_found}
use Rattle.fin_canon.proofs.Fewer.{key_place, in_block, block_has, some_is}
use Rattle.fin_freeze.specs.Thawing.{IsSpan}

pub dense_span : (n pos place a b : ℕ) → pos * n ≤ place → place < pos * n + n → a ≡ place - pos * n → b ≡ a + 1 → IsSpan n part.Dense pos place a b
dense_span n pos place a b lo hi ea eb = record {
  order = omega arith;
  within = omega arith;
  leads = λ i x y. ap Some (omega arith);
  only = λ i lt e. (omega (arith, some_is (pos * n + i) place e), omega (arith, some_is (pos * n + i) place e));
}

module _ (n count : ℕ) (ptr : List ℕ) (pos place : ℕ) (p : IsPtr count ptr) (within : pos < count) (lo : slice_index ptr pos ≤ place) (hi : place < slice_index ptr (pos + 1)) where
  abbrev from : ℕ
  from = slice_index ptr pos

  abbrev to : ℕ
  to = slice_index ptr (pos + 1)

  before_end : to ≤ slice_index ptr count
  before_end = ptr_rises count ptr p (pos + 1) count (omega arith) (omega arith)

  pub keys_span : (idx : List ℕ) (a b : ℕ) → IsIdx n count ptr idx → a ≡ slice_index idx place → b ≡ a + 1 → IsSpan n (part.Keys ptr idx) pos place a b
  keys_span idx a b h ea eb =
      let below = h.below place (omega (arith, before_end, h.long)) in record {
        order = omega arith;
        within = omega arith;
        leads = λ i x y. key_found idx from to i place
            (first_is idx i from to place lo (omega arith) (λ k u v. omega (arith, fibre_rises idx from to (λ m c d. h.rises pos m within c d) k place u (omega arith) hi)) (λ _. omega arith))
            hi (omega arith);
        only = λ i lt e. let r = key_place idx from to i place (omega arith) e in (omega (arith, r.is), omega (arith, r.is));
      }

  pub runs_span : (stop : List ℕ) (a b : ℕ) → IsStop n count ptr stop → a ≡ (if nat_eq place from then 0 else slice_index stop (place - 1)) → b ≡ slice_index stop place → IsSpan n (part.Runs ptr stop) pos place a b
  runs_span stop a b h ea eb =
      let f : IsFibre stop from to = fibre_of_level count ptr stop pos p h.long h.rises within in
      let first : place ≡ from → a ≡ 0 = λ e. grind (arith, nat_tests) in
      let later : from < place → a ≡ slice_index stop (place - 1) = λ l. grind (arith, nat_tests) in
      let some : 0 < n = ⊎_elim (λ (x : 0 < n). x) (λ (x : n ≤ 0). absurd (omega (arith, h.none (omega arith), h.long, before_end))) (cases_lt 0 n) in
      let up : slice_index stop place ≤ slice_index stop (to - 1) = f.rises place (to - 1) lo (omega arith) (omega arith) in
      record {
        order = ⊎_elim (λ (l : from < place). omega (arith, later l, f.rises (place - 1) place (omega arith) (omega arith) hi)) (λ (l : place ≤ from). omega (arith, first (omega arith))) (cases_lt from place);
        within = omega (arith, up, (h.last pos within some).1);
        leads = λ i x y. ap Some (first_is stop (i + 1) from to place lo (omega arith)
            (λ k u v. omega (arith, later (omega arith), f.rises k (place - 1) u (omega arith) (omega arith)))
            (λ _. omega arith));
        only = λ i lt e.
            let m : first_from stop (i + 1) from (to - from) ≡ place = some_is (first_from stop (i + 1) from (to - from)) place e in
            let r : IsFirst stop (i + 1) from to place = subst (λ (x : ℕ). IsFirst stop (i + 1) from to x) m (first_place stop (i + 1) from to (omega arith)) in
            (⊎_elim (λ (l : from < place). omega (arith, later l, r.before (place - 1) (omega arith) (omega arith))) (λ (l : place ≤ from). omega (arith, first (omega arith))) (cases_lt from place), omega (arith, r.here hi));
      }

  pub band_span : (start : List ℕ) (a b : ℕ) → IsStart n count ptr start → a ≡ slice_index start pos + (place - from) → b ≡ a + 1 → IsSpan n (part.Band ptr start) pos place a b
  band_span start a b h ea eb = record {
    order = omega arith;
    within = omega (arith, h.fits pos within);
    leads = λ i x y. block_has from to (slice_index start pos) i (omega arith) (omega arith) ∙ ap Some (omega arith);
    only = λ i lt e. let r = in_block from to (slice_index start pos) i place e in (omega (arith, r.is, r.low), omega (arith, r.is, r.low));
  }

-- ---- what the code reads of a part
pub record KeyPlace (n : ℕ) (p : Part) (idx : List ℕ) (pos place : ℕ) : Type 0 where
  pub within : place < length idx
  pub small : slice_index idx place < 2 ^ 40
  pub span : (a b : ℕ) → a ≡ slice_index idx place → b ≡ a + 1 → IsSpan n p pos place a b

pub record RunPlace (n : ℕ) (p : Part) (ptr stop : List ℕ) (pos place : ℕ) : Type 0 where
  pub low : slice_index ptr pos ≤ place
  pub within : place < length stop
  pub span : (a b : ℕ) → a ≡ (if nat_eq place (slice_index ptr pos) then 0 else slice_index stop (place - 1)) → b ≡ slice_index stop place → IsSpan n p pos place a b

pub record BlockPlace (n : ℕ) (p : Part) (ptr start : List ℕ) (pos place : ℕ) : Type 0 where
  pub low : slice_index ptr pos ≤ place
  pub small : slice_index start pos + (place - slice_index ptr pos) < 2 ^ 40
  pub span : (a b : ℕ) → a ≡ slice_index start pos + (place - slice_index ptr pos) → b ≡ a + 1 → IsSpan n p pos place a b

module _ (n : ℕ) (pos place : ℕ) where
  abbrev Reads : (Part → Type 0) → Part → Type 0
  Reads P p = IsAt n p pos → fibre_from n p pos ≤ place → place < fibre_to n p pos → P p

  pub key_place_at : (p : Part) (ptr idx : List ℕ) → p ≡ part.Keys ptr idx → Reads (λ q. KeyPlace n q idx pos place) p
  key_place_at p ptr idx e = subst (Reads (λ q. KeyPlace n q idx pos place)) (sym e) (λ at lo hi.
      let both = level_keys at.kind n at.count ptr idx at.level in
      let up = ptr_rises at.count ptr both.0 (pos + 1) at.count (omega (arith, at.within)) (omega arith) in
      let within : place < length idx = omega (arith, up, both.1.long) in
      record {
        within = within;
        small = omega (arith, both.1.below place within, at.small);
        span = λ a b. keys_span n at.count ptr pos place both.0 at.within lo hi idx a b both.1;
      })

  pub run_place_at : (p : Part) (ptr stop : List ℕ) → p ≡ part.Runs ptr stop → Reads (λ q. RunPlace n q ptr stop pos place) p
  run_place_at p ptr stop e = subst (Reads (λ q. RunPlace n q ptr stop pos place)) (sym e) (λ at lo hi.
      let both = level_runs at.kind n at.count ptr stop at.level in
      let up = ptr_rises at.count ptr both.0 (pos + 1) at.count (omega (arith, at.within)) (omega arith) in
      record {
        low = lo;
        within = omega (arith, up, both.1.long);
        span = λ a b. runs_span n at.count ptr pos place both.0 at.within lo hi stop a b both.1;
      })

  pub block_place_at : (p : Part) (ptr start : List ℕ) → p ≡ part.Band ptr start → Reads (λ q. BlockPlace n q ptr start pos place) p
  block_place_at p ptr start e = subst (Reads (λ q. BlockPlace n q ptr start pos place)) (sym e) (λ at lo hi.
      let both = level_band at.kind n at.count ptr start at.level in
      record {
        low = lo;
        small = omega (arith, both.1.fits pos at.within, at.small);
        span = λ a b. band_span n at.count ptr pos place both.0 at.within lo hi start a b both.1;
      })
