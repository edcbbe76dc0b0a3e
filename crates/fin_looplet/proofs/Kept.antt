-- The laws of looplets.
use Rattle.std.proofs.Common.{ℕ, ◌+◌, ◌<◌, ◌^◌, ◌⊎◌, ⊎_elim, List, length, refl, ℤ, pos, negsuc, ◌+ℤ◌, ◌-ℤ◌, neg_ℤ, ◌<ℤ◌, arith}
use borrow.Author.Differences.{sum_is_lem, neg_is, lt_out, le_out, below_in, at_most_in}
use Rattle.fin_ir.specs.declared.expression.IExpr.{IExpr}
use Rattle.fin_looplet.specs.declared.looplet.Looplet.{Looplet}
use Rattle.fin_looplet.specs.Names.{Names}
use Rattle.fin_looplet.specs.View.{value}
use Rattle.fin_looplet.specs.Sound.{Near}
use Rattle.fin_looplet.specs.Locals.{Owns, ShiftNames}
use Rattle.fin_looplet.specs.Laws.{FrameHolds, ReachIsNear, CutKeeps, CanMove, MovedKeeps}
use Rattle.fin_looplet.proofs.Frame.{view_same, sound_same}
use Rattle.fin_looplet.proofs.Cuts.{cut_like, cut_sound}
use Rattle.fin_looplet.proofs.CutLocals.{cut_free, cut_loads, cut_owns, cut_separate}
use Rattle.fin_looplet.proofs.Moves.{moved_view, moved_sound}
use Rattle.fin_looplet.proofs.MovedLocals.{moved_free, moved_loads, moved_owns, moved_shift_names, moved_separate}
use Rattle.fin_looplet.proofs.Weights.{cut_light, moved_light}

pub frame_holds : FrameHolds
frame_holds = record {
  shows = λ ts l ls ls' end i a. view_same ts l ls ls' end i a.long a.free;
  sound = λ ts l ls ls' hi i a s. sound_same Near ts l ls ls' (λ j. j <ℤ hi) i a.long a.free s;
}

pub reach_is_near : ReachIsNear
reach_is_near i z lo hi r =
    let a = le_out (pos 0) i lo in let b = le_out i (pos (2 ^ 40)) hi in
    let c = le_out (i -ℤ pos (2 ^ 42)) z r.0 in let d = le_out z (i +ℤ pos (2 ^ 42)) r.1 in
    let e = sum_is_lem i (neg_ℤ (pos (2 ^ 42))) in let f = neg_is (pos (2 ^ 42)) in let g = sum_is_lem i (pos (2 ^ 42)) in
    (at_most_in (negsuc (2 ^ 42)) z (omega (arith, a, c, e, f)), at_most_in z (pos (2 ^ 42 + 2 ^ 41)) (omega (arith, b, d, g)))

near : (z : ℤ) → Near z → Near z
near z n = n

pub cut_keeps : CutKeeps
cut_keeps = record {
  shows = λ ts ls l e end i n under s. cut_like Near near ts ls l e end i (λ j. j <ℤ value ts ls e) n under s;
  sound = λ ts ls l e hi i n under s. cut_sound Near near ts ls l e i (λ j. j <ℤ hi) n under s;
  free = cut_free;
  loads = cut_loads;
  owns = cut_owns;
  separate = cut_separate;
  light = cut_light;
}

clear : (ls : List ℤ) (by : IExpr) (l : Looplet) → CanMove ls by l → (x : ℕ) → Owns x l → (x < length ls) × ((Names x by ⊎ ShiftNames x l) → ⊥)
clear ls by l can x o = (can.there x o, λ w. ⊎_elim (can.unnamed x o) (can.unshifted x o) w)

-- what is before an end is, less the distance, before the end less the distance
below : (B hi j : ℤ) → j <ℤ hi → (j -ℤ B) <ℤ (hi -ℤ B)
below B hi j h = below_in (j -ℤ B) (hi -ℤ B) (omega (arith, lt_out j hi h, sum_is_lem j (neg_ℤ B), sum_is_lem hi (neg_ℤ B), neg_is B))

pub moved_keeps : MovedKeeps
moved_keeps = record {
  shows = λ ts ls l by end hi i n n' can s. moved_view Near near ts ls l by (value ts ls by) end i (λ j. j <ℤ hi) refl n n' s (clear ls by l can);
  sound = λ ts ls l by hi i n n' can s. moved_sound Near Near near ts ls l by (value ts ls by) i (λ j. j <ℤ (hi -ℤ value ts ls by)) (λ j. j <ℤ hi) refl n n' (λ j a h. below (value ts ls by) hi j h) s (clear ls by l can);
  free = moved_free;
  loads = moved_loads;
  owns = moved_owns;
  no_shift = moved_shift_names;
  separate = moved_separate;
  light = moved_light;
}
