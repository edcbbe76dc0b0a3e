-- How many coordinates a region has, as code computes it.
use Rattle.std.proofs.Common.{◌≡◌, ◌≢◌, ℕ, suc, ◌+◌, ◌^◌, Bool, true, false, List, if◌then◌else◌, refl, ap, ◌∙◌, ℤ, pos, ◌+ℤ◌, ◌-ℤ◌, neg_ℤ, w64, SFits, arith}
use Rattle.std.specs.Ordering.{int_eq}
use Rattle.std.proofs.lemmas.Int.{ints, int_wrap_fits}
use borrow.Author.Differences.{up, same_in, sum_is_lem, neg_is, le_out, fits_in}
use Rattle.fin_base.specs.declared.terms.Op.TheVariants as op
use Rattle.fin_base.specs.declared.reduce.Reduce.{Reduce}
use Rattle.fin_base.specs.Words.{operate, repeat}
use Rattle.fin_ir.specs.declared.expression.IExpr.{IExpr}
use Rattle.fin_ir.specs.declared.expression.IExpr.TheVariants.{Num, Times}
use Rattle.fin_ir.specs.Machine.{Machine, seen}
use Rattle.fin_ir.specs.Value.{value_in, is_off, times}
use Rattle.fin_ir.specs.Meaning.{span}
use Rattle.fin_ir.proofs.Values.{value_num, value_two, value_times}
use Rattle.fin_ir.proofs.Loops.{span_is}
use Rattle.fin_looplet.specs.Cut.{plus, minus}
use Rattle.fin_looplet.specs.View.{Store, value}
use Rattle.fin_looplet.specs.Weight.{is_point, region}
use Rattle.fin_looplet.proofs.Same.{same_is}
use Rattle.fin_nest.specs.Nests.{Bounds}

is_on : (k : ℕ) → is_off (pos (suc k)) ≡ false
is_on k = apart (pos (suc k)) (pos 0) (λ e. let u = ap up e in omega (arith, u)) where
  apart : (v w : ℤ) → v ≢ w → int_eq v w ≡ false
  apart v w n = grind (arith, ints)

-- a value, repeated at each coordinate of a region that has some
module _ (m : Machine) (lo hi : IExpr) (Lo Hi : ℤ) (lo_is : value_in m lo ≡ Lo) (hi_is : value_in m hi ≡ Hi) (b : Bounds Lo Hi) (k : ℕ) (long : span Lo Hi ≡ suc k) where
  count_is : value_in m (minus hi lo) ≡ pos (suc k)
  count_is =
      let same : Hi -ℤ Lo ≡ pos (suc k) = same_in _ _ (omega (arith, sum_is_lem Hi (neg_ℤ Lo), neg_is Lo, span_is Lo Hi, long)) in
      let f : SFits w64 (Hi -ℤ Lo) =
      fits_in w64 (Hi -ℤ Lo) (omega (
        arith,
        sum_is_lem Hi (neg_ℤ Lo),
        neg_is Lo,
        le_out (pos 0) Lo b.low,
        le_out Lo (pos (2 ^ 40)) b.low_top,
        le_out (pos 0) Hi b.high,
        le_out Hi (pos (2 ^ 40)) b.high_top,
      )) in
      value_two (seen m) m.locals op.Sub hi lo ∙ ap (λ z. operate op.Sub z (value_in m lo)) hi_is ∙ ap (operate op.Sub Hi) lo_is ∙ int_wrap_fits w64 (Hi -ℤ Lo) f ∙ same

  pub repeated_is : (by : Reduce) (e : IExpr) → value_in m (Times by e (minus hi lo)) ≡ repeat by (value_in m e) (suc k)
  repeated_is by e =
      value_times (seen m) m.locals by e (minus hi lo) ∙ ap (times by (value_in m e)) count_is
      ∙ ap (λ b. if b then value_in m e else repeat by (value_in m e) (suc k)) (is_on k)

-- a region without weight has one
module _ (ts : Store) (ls : List ℤ) (lo hi : IExpr) (bounds : Bounds (value ts ls lo) (value ts ls hi)) where
  abbrev From : ℤ
  From = value ts ls lo

  one_behind : hi ≡ plus lo (Num (pos 1)) → span (value ts ls lo) (value ts ls hi) ≡ 1
  one_behind e =
      let f : SFits w64 (From +ℤ pos 1) = fits_in w64 (From +ℤ pos 1) (omega (arith, sum_is_lem From (pos 1), le_out (pos 0) From bounds.low, le_out From (pos (2 ^ 40)) bounds.low_top)) in
      let is : value ts ls hi ≡ From +ℤ pos 1 =
      ap (value ts ls) e ∙ value_two ts ls op.Add lo (Num (pos 1)) ∙ ap (operate op.Add From) (value_num ts ls (pos 1)) ∙ int_wrap_fits w64 (From +ℤ pos 1) f in
      ap (span From) is ∙ omega (arith, span_is From (From +ℤ pos 1), sum_is_lem From (pos 1))

  pub one_coordinate : (w : ℕ) → region lo hi + w ≡ 0 → span (value ts ls lo) (value ts ls hi) ≡ 1
  one_coordinate w none = elim (is_point lo hi) as (λ b. is_point lo hi ≡ b → span (value ts ls lo) (value ts ls hi) ≡ 1) [
    | true ↦ λ e. one_behind (same_is hi (plus lo (Num (pos 1))) e)
    | false ↦ λ e. let r : region lo hi ≡ 1 = ap (λ (b : Bool). if b then 0 else 1) e in absurd (omega (arith, r, none))
  ] refl
