use Rattle.std.proofs.Common.{◌≡◌, ◌*◌, ◌+◌, ◌<◌, ◌≤◌, ◌∙◌, drop, ap, sym, refl, arith, ⊎_elim, subst}
use Rattle.std.specs.Prelude.{slice_index, slice_index_or}
use Rattle.fin_tensor.specs.declared.format.Level.TheVariants as level
use Rattle.fin_tensor.specs.Placement.{is_dense}
use Rattle.std.proofs.lemmas.Bool.{cases_lt}
use Rattle.fin_tensor.specs.Extents.{dense_size}
use Rattle.fin_tensor.proofs.Extents.{dense_size_grows, dense_size_exceeds, dense_size_end, product_some, factor_some, one_left}
use Rattle.fin_tensor.proofs.placement.has_small_dense_size.Goals as goal

pub returns-in-None : goal.returns-in-None
returns-in-None c =
    let large : 16777216 < c.loop-k.size * c.factor.result = ⊎_elim (λ (lt : 16777216 < c.loop-k.size * c.factor.result). lt) (λ (le : c.loop-k.size * c.factor.result ≤ 16777216). absurd (c.in-None.ensures le)) (cases_lt 16777216 (c.loop-k.size * c.factor.result)) in
    let over = dense_size_exceeds 16777216 c.loop-k.k c.args.levels.now c.args.shape.now c.loop-k.size c.factor.result (omega (arith, c.min-k-end.ensures, c.loop-k-test.true)) (omega (arith, c.min-k-end.ensures, c.loop-k-test.true)) c.loop-k.invariant.rest c.factor.ensures large in
    (λ h. cc, λ small. absurd (omega (arith, over, small)))

pub loop-k-preserved : goal.loop-k-preserved
loop-k-preserved c =
    let e : c.in-Some.product ≡ c.loop-k.size * c.factor.result = c.in-Some.ensures.1 in
    let rest = dense_size_grows c.loop-k.k c.args.levels.now c.args.shape.now c.loop-k.size c.factor.result (omega (arith, c.min-k-end.ensures, c.loop-k-test.true)) (omega (arith, c.min-k-end.ensures, c.loop-k-test.true)) c.loop-k.invariant.rest c.factor.ensures in
    record {
      some = omega (arith, e, product_some c.loop-k.size c.factor.result c.loop-k.invariant.some (let f : 1 ≤ c.factor.result = subst (λ x. 1 ≤ x) (sym c.factor.ensures) (factor_some (is_dense (slice_index_or c.args.levels.now c.loop-k.k level.Dense)) (slice_index c.args.shape.now c.loop-k.k)) in f));
      small = omega (arith, e, c.in-Some.ensures.0);
      rest = ap (λ x. x * dense_size (drop (c.loop-k.k + 1) c.args.levels.now) (drop (c.loop-k.k + 1) c.args.shape.now)) e ∙ rest;
    }

pub returns : goal.returns
returns c =
    let e = dense_size_end c.loop-k.k c.args.levels.now c.args.shape.now (omega (arith, c.min-k-end.ensures, c.loop-k-test.false)) in
    let whole : c.loop-k.size ≡ dense_size c.args.levels.now c.args.shape.now = one_left c.loop-k.size _ _ e c.loop-k.invariant.rest in
    (λ _. omega (arith, whole, c.loop-k.invariant.small), λ _. refl)
