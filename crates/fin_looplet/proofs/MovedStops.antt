-- Stops and coordinates that are moved.
use Rattle.std.proofs.Common.{◌≡◌, ℕ, ◌+◌, ◌<◌, ◌≤◌, ◌^◌, ⊎_elim, List, length, true, refl, sym, ap, ◌∙◌, subst, ℤ, pos, negsuc, ◌+ℤ◌, ◌-ℤ◌, neg_ℤ, ◌≤ℤ◌, ◌<ℤ◌, w64, SFits, arith, get_or-set_same, get_or-set_other}
use Rattle.std.specs.Prelude.{int_lt, int_le, if◌then◌else◌, slice_set}
use Rattle.std.specs.Int.{int_min, int_max}
use Rattle.std.proofs.Math.ListN.{length-set}
use Rattle.std.proofs.lemmas.List.{set-set}
use Rattle.std.proofs.lemmas.Bool.{cases_lt}
use Rattle.std.proofs.lemmas.Int.{int_wrap_fits, int_min_is, int_max_is}
use borrow.Author.Differences.{up, down, same_in, sum_is_lem, neg_is, lt_out, le_out, below_in, at_most_in, true_is_lt, false_is_lt, lt-true, fits_in}
use Rattle.fin_base.specs.declared.terms.Op.TheVariants as op
use Rattle.fin_base.specs.Words.{operate}
use Rattle.fin_ir.specs.declared.expression.IExpr.{IExpr}
use Rattle.fin_ir.specs.declared.expression.IExpr.TheVariants.{Num, Local}
use Rattle.fin_ir.specs.Value.{is_off}
use Rattle.fin_ir.proofs.Values.{value_two, value_local, value_num}
use Rattle.fin_looplet.specs.declared.looplet.Leaf.{Leaf}
use Rattle.fin_looplet.specs.declared.looplet.Leaf.TheVariants.{Fill, Value, Sub}
use Rattle.fin_looplet.specs.declared.looplet.Looplet.{Looplet}
use Rattle.fin_looplet.specs.Names.{Names}
use Rattle.fin_looplet.specs.View.{Store, value, word, position, absent, leaf_sight, view}
use Rattle.fin_looplet.specs.Sound.{Near}
use Rattle.fin_looplet.specs.Cut.{plus, minus, cap}
use Rattle.fin_looplet.specs.Moved.{clip, put, put_leaf}
use Rattle.fin_looplet.proofs.Exprs.{value_same}
use Rattle.fin_looplet.proofs.Puts.{put_value}
use Rattle.fin_looplet.proofs.Cuts.{le_alike, cap_is, end_far}

pub lt_alike : (a b c d : ℤ) → (up a + down b < up b + down a → up c + down d < up d + down c) → (up b + down a ≤ up a + down b → up d + down c ≤ up c + down d) → int_lt a b ≡ int_lt c d
lt_alike a b c d f g =
    ⊎_elim
    (λ lt. sym (true_is_lt a b lt) ∙ true_is_lt c d (f lt))
    (λ le. sym (false_is_lt a b le) ∙ false_is_lt c d (g le))
    (cases_lt (up a + down b) (up b + down a))

-- a coordinate that is moved down
module _ (ts : Store) (ls : List ℤ) (by : IExpr) (B : ℤ) (b_is : value ts ls by ≡ B) (c : ℕ) (within : c < length ls) (clear : Names c by → ⊥) (i : ℤ) (fit : SFits w64 (i -ℤ B)) where
  down_is : value ts (slice_set ls c i) (minus (Local c) by) ≡ i -ℤ B
  down_is =
      value_two ts (slice_set ls c i) op.Sub (Local c) by
      ∙ ap (λ z. operate op.Sub z (value ts (slice_set ls c i) by)) (value_local ts (slice_set ls c i) c ∙ get_or-set_same ls c i (pos 0) within)
      ∙ ap (operate op.Sub i) (value_same ts by (slice_set ls c i) ls (λ x n. get_or-set_other ls c x i (pos 0) (λ e. clear (subst (λ z. Names z by) e n))) ∙ b_is)
      ∙ int_wrap_fits w64 (i -ℤ B) fit

  pub down_value : (e : IExpr) → value ts (slice_set ls c i) (put c (minus (Local c) by) e) ≡ value ts (slice_set ls c (i -ℤ B)) e
  down_value e =
      put_value ts c (minus (Local c) by) e (slice_set ls c i) (let r = within in omega (arith, r, length-set ls c i))
      ∙ ap (λ z. value ts (slice_set (slice_set ls c i) c z) e) down_is
      ∙ ap (λ (xs : List ℤ). value ts xs e) (set-set ls c i (i -ℤ B))

  pub down_leaf : (l : Leaf) → leaf_sight ts (slice_set ls c i) (put_leaf c (minus (Local c) by) l) ≡ leaf_sight ts (slice_set ls c (i -ℤ B)) l
  down_leaf (Fill f) = refl
  down_leaf (Value e) = ap word (down_value e)
  down_leaf (Sub tensor level place there) =
      ap (λ z. if is_off (value ts (slice_set ls c i) (put c (minus (Local c) by) there)) then absent else position tensor level z) (down_value place)
      ∙ ap (λ z. if is_off z then absent else position tensor level (value ts (slice_set ls c (i -ℤ B)) place)) (down_value there)

pub near_fits : (z : ℤ) → Near z → SFits w64 z
near_fits z n = fits_in w64 z (omega (arith, le_out (negsuc (2 ^ 42)) z n.0, le_out z (pos (2 ^ 42 + 2 ^ 41)) n.1))

-- a stop that is moved up
module _ (ts : Store) (ls : List ℤ) (by stop : IExpr) (B i : ℤ) (b_is : value ts ls by ≡ B) (near : Near i) (near' : Near (i -ℤ B)) where
  abbrev S : ℤ
  S = value ts ls stop

  abbrev C : ℤ
  C = value ts ls (clip stop)

  abbrev S' : ℤ
  S' = value ts ls (plus (clip stop) by)

  clip_is : C ≡ int_max (int_min S (pos (2 ^ 43))) (negsuc (2 ^ 43))
  clip_is = value_two ts ls op.Max (cap stop) (Num (negsuc (2 ^ 43))) ∙ ap (int_max (value ts ls (cap stop))) (value_num ts ls (negsuc (2 ^ 43))) ∙ ap (λ z. int_max z (negsuc (2 ^ 43))) (cap_is ts ls stop)

  pub c_is : (up C ≡ up (int_max (int_min S (pos (2 ^ 43))) (negsuc (2 ^ 43)))) × (down C ≡ down (int_max (int_min S (pos (2 ^ 43))) (negsuc (2 ^ 43))))
  c_is = (ap up clip_is, ap down clip_is)

  b_range : up (i -ℤ B) + down i + up B ≡ down (i -ℤ B) + up i + down B
  b_range = omega (arith, sum_is_lem i (neg_ℤ B), neg_is B)

  pub up_is : S' ≡ C +ℤ B
  up_is =
      let f : SFits w64 (C +ℤ B) = fits_in w64 (C +ℤ B) (omega (arith, sum_is_lem C B, c_is, int_min_is S (pos (2 ^ 43)), int_max_is (int_min S (pos (2 ^ 43))) (negsuc (2 ^ 43)), b_range, le_out (negsuc (2 ^ 42)) i near.0, le_out i (pos (2 ^ 42 + 2 ^ 41)) near.1, le_out (negsuc (2 ^ 42)) (i -ℤ B) near'.0, le_out (i -ℤ B) (pos (2 ^ 42 + 2 ^ 41)) near'.1)) in
      value_two ts ls op.Add (clip stop) by ∙ ap (operate op.Add C) b_is ∙ int_wrap_fits w64 (C +ℤ B) f

  pub s_is : (up S' + down C + down B ≡ down S' + up C + up B)
  s_is = let u = ap up up_is in let d = ap down up_is in omega (arith, u, d, sum_is_lem C B)

  -- the tests at i and at the coordinate moved down agree
  pub below_same : int_lt i S' ≡ int_lt (i -ℤ B) S
  below_same = lt_alike i S' (i -ℤ B) S
      (λ h. omega (arith, h, s_is, c_is, int_min_is S (pos (2 ^ 43)), int_max_is (int_min S (pos (2 ^ 43))) (negsuc (2 ^ 43)), b_range, le_out (negsuc (2 ^ 42)) (i -ℤ B) near'.0, le_out (i -ℤ B) (pos (2 ^ 42 + 2 ^ 41)) near'.1))
      (λ h. omega (arith, h, s_is, c_is, int_min_is S (pos (2 ^ 43)), int_max_is (int_min S (pos (2 ^ 43))) (negsuc (2 ^ 43)), b_range, le_out (negsuc (2 ^ 42)) (i -ℤ B) near'.0, le_out (i -ℤ B) (pos (2 ^ 42 + 2 ^ 41)) near'.1))

  pub ends_same : int_le S' (i +ℤ pos 1) ≡ int_le S ((i -ℤ B) +ℤ pos 1)
  ends_same = le_alike S' (i +ℤ pos 1) S ((i -ℤ B) +ℤ pos 1)
      (λ h. omega (arith, h, s_is, c_is, int_min_is S (pos (2 ^ 43)), int_max_is (int_min S (pos (2 ^ 43))) (negsuc (2 ^ 43)), b_range, sum_is_lem i (pos 1), sum_is_lem (i -ℤ B) (pos 1), le_out (negsuc (2 ^ 42)) (i -ℤ B) near'.0, le_out (i -ℤ B) (pos (2 ^ 42 + 2 ^ 41)) near'.1))
      (λ h. omega (arith, h, s_is, c_is, int_min_is S (pos (2 ^ 43)), int_max_is (int_min S (pos (2 ^ 43))) (negsuc (2 ^ 43)), b_range, sum_is_lem i (pos 1), sum_is_lem (i -ℤ B) (pos 1), le_out (negsuc (2 ^ 42)) (i -ℤ B) near'.0, le_out (i -ℤ B) (pos (2 ^ 42 + 2 ^ 41)) near'.1))

  -- the child sees the same at the end moved back
  pub back_view : (child : Looplet) → (i -ℤ B) <ℤ S → view ts ls child (S' -ℤ B) (i -ℤ B) ≡ view ts ls child S (i -ℤ B)
  back_view child under =
      let same : S' -ℤ B ≡ C = same_in (S' -ℤ B) C (omega (arith, sum_is_lem S' (neg_ℤ B), neg_is B, s_is)) in
      ap (λ z. view ts ls child z (i -ℤ B)) same
      ∙ ⊎_elim
      (λ (lt : 2 ^ 43 + down S < up S).
      end_far ts ls child C S (i -ℤ B)
      (below_in ((i -ℤ B) +ℤ pos 2) C (omega (arith, lt, c_is, int_min_is S (pos (2 ^ 43)), int_max_is (int_min S (pos (2 ^ 43))) (negsuc (2 ^ 43)), sum_is_lem (i -ℤ B) (pos 2), le_out (i -ℤ B) (pos (2 ^ 42 + 2 ^ 41)) near'.1)))
      (below_in ((i -ℤ B) +ℤ pos 2) S (omega (arith, lt, sum_is_lem (i -ℤ B) (pos 2), le_out (i -ℤ B) (pos (2 ^ 42 + 2 ^ 41)) near'.1))))
      (λ (le : up S ≤ 2 ^ 43 + down S).
      let k : C ≡ S = same_in C S (omega (arith, le, c_is, int_min_is S (pos (2 ^ 43)), int_max_is (int_min S (pos (2 ^ 43))) (negsuc (2 ^ 43)), lt_out (i -ℤ B) S under, le_out (negsuc (2 ^ 42)) (i -ℤ B) near'.0)) in
      ap (λ z. view ts ls child z (i -ℤ B)) k)
      (cases_lt (2 ^ 43 + down S) (up S))

-- ---- a moved looplet is sound
module _ (ts : Store) (ls : List ℤ) (by stop : IExpr) (B i : ℤ) (b_is : value ts ls by ≡ B) (near : Near i) (near' : Near (i -ℤ B)) (under : (i -ℤ B) <ℤ value ts ls stop) where
  -- a coordinate from i on before the moved stop, moved down
  pub between : (j : ℤ) → i ≤ℤ j → j <ℤ value ts ls (plus (clip stop) by) → ((i -ℤ B) ≤ℤ (j -ℤ B)) × (((j -ℤ B) <ℤ value ts ls stop) × SFits w64 (j -ℤ B))
  between j a b =
      let S = value ts ls stop in
      let C = value ts ls (clip stop) in
      let S' = value ts ls (plus (clip stop) by) in
      let u = s_is ts ls by stop B i b_is near near' in
      let c = c_is ts ls by stop B i b_is near near' in
      let e1 = sum_is_lem i (neg_ℤ B) in let e2 = sum_is_lem j (neg_ℤ B) in let nb = neg_is B in (
        at_most_in (i -ℤ B) (j -ℤ B) (omega (arith, le_out i j a, e1, e2, nb)),
        (
          below_in (j -ℤ B) S (omega (arith, lt_out j S' b, u, c, int_min_is S (pos (2 ^ 43)), int_max_is (int_min S (pos (2 ^ 43))) (negsuc (2 ^ 43)), e1, e2, nb, lt_out (i -ℤ B) S under, le_out (negsuc (2 ^ 42)) (i -ℤ B) near'.0)),
          fits_in w64 (j -ℤ B) (omega (arith, lt_out j S' b, le_out i j a, u, c, int_min_is S (pos (2 ^ 43)), int_max_is (int_min S (pos (2 ^ 43))) (negsuc (2 ^ 43)), e1, e2, nb, le_out (negsuc (2 ^ 42)) (i -ℤ B) near'.0, le_out (i -ℤ B) (pos (2 ^ 42 + 2 ^ 41)) near'.1)),
        ),
      )

  pub under' : i <ℤ value ts ls (plus (clip stop) by)
  under' =
      let S = value ts ls stop in
      let S' = value ts ls (plus (clip stop) by) in
      let t : int_lt i S' ≡ true = below_same ts ls by stop B i b_is near near' ∙ sym (true_is_lt (i -ℤ B) S (lt_out (i -ℤ B) S under)) in
      below_in i S' (lt-true i S' t)
