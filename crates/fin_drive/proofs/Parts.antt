-- The fold of a nest is what the loop does along the nest's coordinates.
use Rattle.std.proofs.Common.{◌≡◌, ℕ, zero, suc, ◌+◌, ◌-◌, ◌<◌, ◌≤◌, ℤ, pos, ◌+ℤ◌, Bool, true, false, ◌||◌, List, refl, sym, ap, ◌∙◌, arith}
use borrow.Author.Differences.{sum_is_lem, same_in}
use Rattle.fin_stage.specs.Staged.{Run}
use Rattle.fin_ir.specs.Meaning.{span}
use Rattle.fin_looplet.specs.View.{Store, value}
use Rattle.fin_looplet.specs.Lists.{seens}
use Rattle.fin_nest.specs.Nests.{Flags, fresh, paid_if, Nest, Body, views_of, at_act, at_flags, part}
use Rattle.fin_ir.proofs.Loops.{span_is}
use Rattle.std.specs.List.{list_any}
use Rattle.fin_simp.specs.Work.{Driven, sight_of, mask_ends, begins_chunk, ends_after, turn, turns}
use Rattle.fin_simp.specs.Costs.{Running}
use Rattle.fin_drive.specs.Watches.{Watch, IsPart, IsOneChunk, part_of, ChunksAreNests, LoopsAreNests, LoopsFallApart}
use Rattle.fin_drive.proofs.Marks.{turn_is, ends_are}

free : (b : Bool) (r : Run) → paid_if (λ y. y) b r ≡ r
free true r = refl
free false r = refl

next_is : (c : ℕ) → pos c +ℤ pos 1 ≡ pos (c + 1)
next_is c = same_in (pos c +ℤ pos 1) (pos (c + 1)) (omega (arith, sum_is_lem (pos c) (pos 1)))

module _ (x : Running) (ws : List Watch) (ts : Store) (ls : List ℤ) (n : Nest Run) (from count : ℕ) (p : IsPart x ws ts ls n from count) (one : IsOneChunk x.loop from count) where
  abbrev act : Bool → ℕ → Run → Run
  act = turn x.loop x.rest x.body x.around x.vars

  abbrev ends : ℕ → Bool
  ends = ends_after x.loop x.vars

  act_is : (c : ℕ) (f : Flags) (r : Run) → from ≤ c → c < from + count → at_act (λ y. y) ts ls n f (pos c) r ≡ act f.begins c r
  act_is c f r low high =
      let vs = views_of ts ls n (pos c) in
      ap (n.body (seens vs) f.begins (pos c)) (free f.stopped r)
      ∙ ap (λ (b : Body Run). b (seens vs) f.begins (pos c) r) p.body
      ∙ turn_is x ws p.driven p.masks c (c + 1 < from + count) vs (p.shows c low high) f.begins r

  go : (k c : ℕ) (f : Flags) (r : Run) → from ≤ c → c + k ≡ from + count → part (λ y. y) ts ls n k f (pos c) r ≡ turns act ends k f.begins c r
  go zero c f r low sum = refl
  go (suc zero) c f r low sum = act_is c f r low (omega (arith, sum))
  go (suc (suc k)) c f r low sum =
      let flags = at_flags ts ls n (pos c) in
      let inside : c + 1 < from + count = omega (arith, sum) in
      let shows = p.shows c low (omega (arith, sum)) in
      ap (λ (i : ℤ). part (λ y. y) ts ls n (suc k) flags i (at_act (λ y. y) ts ls n f (pos c) r)) (next_is c)
      ∙ ap (part (λ y. y) ts ls n (suc k) flags (pos (c + 1))) (act_is c f r low (omega (arith, sum)))
      ∙ go (suc k) (c + 1) flags (act f.begins c r) (omega (arith, low)) (omega (arith, sum))
      ∙ ap (λ (b : Bool). turns act ends (suc k) b (c + 1) (act f.begins c r)) (ends_are x ws p.driven p.masks c (c + 1 < from + count) (views_of ts ls n (pos c)) shows inside (one c low inside))

  whole : (r : Run) → part (λ y. y) ts ls n (span (value ts ls n.lo) (value ts ls n.hi)) fresh (value ts ls n.lo) r ≡ part_of x from count r
  whole r =
      let long : span (pos from) (pos (from + count)) ≡ count = omega (arith, span_is (pos from) (pos (from + count))) in
      ap (λ (z : ℤ). part (λ y. y) ts ls n (span z (value ts ls n.hi)) fresh z r) p.lo
      ∙ ap (λ (z : ℤ). part (λ y. y) ts ls n (span (pos from) z) fresh (pos from) r) p.hi
      ∙ ap (λ k. part (λ y. y) ts ls n k fresh (pos from) r) long
      ∙ go count from fresh r (omega arith) refl

pub chunks_are_nests : ChunksAreNests
chunks_are_nests x ws ts ls n from count r p one = whole x ws ts ls n from count p one r

pub loops_are_nests : LoopsAreNests
loops_are_nests x ws ts ls n r p none =
    whole x ws ts ls n x.loop.lo x.loop.len p (λ c low high. ap (λ k. begins_chunk x.loop.len k (c + 1 - x.loop.lo)) none) r

-- ---- a loop in two parts

last_or : (a : Bool) → (a || true) ≡ true
last_or true = refl
last_or false = refl

module _ (act : Bool → ℕ → Run → Run) (ends : ℕ → Bool) where
  behind : (m k n c : ℕ) (b : Bool) (r : Run) → n ≡ m + k → ends (c + m) ≡ true → turns act ends (suc n) b c r ≡ turns act ends k true (c + suc m) (turns act ends (suc m) b c r)
  behind zero k n c b r sum e =
      let here : c + 0 ≡ c = omega arith in
      let same : n ≡ k = omega (arith, sum) in
      ap (λ j. turns act ends j (ends c) (c + 1) (act b c r)) same ∙ ap (λ z. turns act ends k z (c + 1) (act b c r)) (ap ends (sym here) ∙ e)
  behind (suc m) k zero c b r sum e = absurd (omega (arith, sum))
  behind (suc m) k (suc n) c b r sum e =
      let far : c + suc m ≡ c + 1 + m = omega arith in
      let end : c + 1 + suc m ≡ c + suc (suc m) = omega arith in
      behind m k n (c + 1) (ends c) (act b c r) (omega (arith, sum)) (ap ends (sym far) ∙ e)
      ∙ ap (λ z. turns act ends k true z (turns act ends (suc m) (ends c) (c + 1) (act b c r))) end

pub loops_fall_apart : LoopsFallApart
loops_fall_apart x from zero k r h =
    let same : from ≡ from + 0 = omega arith in
    let all : 0 + k ≡ k = omega arith in
    ap (λ j. part_of x from j r) all ∙ ap (λ c. part_of x c k r) same
loops_fall_apart x from (suc m) k r h =
    let at : from + m + 1 - x.loop.lo ≡ from + suc m - x.loop.lo = omega arith in
    let all : suc m + k ≡ suc (m + k) = omega arith in
    let before : Bool = list_any (λ (d : Driven). (sight_of x.vars x.loop.var (from + m) d).ends) x.loop.driven || list_any (mask_ends (from + m)) x.loop.masks in
    ap (λ j. part_of x from j r) all
    ∙ behind (turn x.loop x.rest x.body x.around x.vars) (ends_after x.loop x.vars) m k (m + k) from true r refl
    (ap (λ (b : Bool). before || b) (ap (begins_chunk x.loop.len x.loop.chunks) at ∙ h) ∙ last_or before)
