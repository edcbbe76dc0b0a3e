-- The codes of the one statement of which something is left are those of the body, kind by kind.
use Rattle.std.proofs.Common.{◌≡◌, ◌≤◌, ◌+◌, ◌*◌, ◌<◌, Bool, true, false, drop, refl, sym, ap, ◌∙◌, arith}
use Rattle.std.specs.Prelude.{not}
use Rattle.std.proofs.lemmas.Result.{IfOk-weaker}
use Rattle.fin_simp.specs.Facts.{marks}
use Rattle.fin_simp.specs.Numbered.{here_at}
use Rattle.fin_simp.specs.Remaining.{is_nothing}
use Rattle.fin_simp.proofs.Gathering.{next_is}
use Rattle.fin_perform.proofs.Leaving.{both_ok, later_are, alone_is, later_whole, alone_appends, block_are, block_appends, cond_are, cond_appends, bind_are, bind_appends, update_appends}
use Rattle.fin_perform.proofs.Weights.{weight, weights, item_weighs, block_weighs, cond_weighs, bind_weighs}
use Rattle.fin_perform.proofs.once.+once.Goals as goal

-- nothing is left of it, or something
not_true : (b : Bool) → not b ≡ true → b ≡ false
not_true true e = cc
not_true false e = refl

not_false : (b : Bool) → not b ≡ false → b ≡ true
not_false true e = refl
not_false false e = cc

pub push_once-loop-s-preserved : goal.push_once-loop-s-preserved
push_once-loop-s-preserved t c =
    let m = marks c.args.at.now.facts in
    let body = c.args.body.now in
    let i = c.loop-s.s-index in
    let x = c.s-item.result in
    let here = here_at c.loop-s.read c.loop-s.test in
    let after = here_at c.in_ok-seen.seen.read c.in_ok-seen.seen.test in
    let rest = drop (i + 1) body in
    let is = next_is body i x c.loop-s-test.true c.s-item.is in
    let one = c.loop-s.invariant.one in
    let none : is_nothing x here m ≡ true = sym c.in_ok-seen.ensures.nothing ∙ not_false c.in_ok-seen.seen.nothing c.if-not-seen.false in
    record {
      same = c.loop-s.invariant.same;
      one = later_are m x rest (drop i body) here is one after none c.in_ok-seen.ensures.past;
      goes = later_whole m x rest (drop i body) here is one c.args.at.now.next body (here_at c.args.at.now.read c.args.at.now.test) c.loop-s.invariant.goes after none c.in_ok-seen.ensures.past;
    }

pub push_once-push_one-requires : goal.push_once-push_one-requires
push_once-push_one-requires t c =
    let m = marks c.args.at.now.facts in
    let body = c.args.body.now in
    let i = c.loop-s.s-index in
    let x = c.s-item.result in
    let here = here_at c.loop-s.read c.loop-s.test in
    let is = next_is body i x c.loop-s-test.true c.s-item.is in
    let some : is_nothing x here m ≡ false = sym c.in_ok-seen.ensures.nothing ∙ not_true c.in_ok-seen.seen.nothing c.if-not-seen.true in
    let less : weight x ≤ weights body = item_weighs body i x x c.loop-s-test.true c.s-item.is in
    (omega (arith, less, c.decreases), alone_is m x (drop (i + 1) body) (drop i body) here is c.loop-s.invariant.one some)

pub push_once-returns-then-not-seen : goal.push_once-returns-then-not-seen
push_once-returns-then-not-seen t c =
    let at = c.args.at.now in
    let m = marks at.facts in
    let body = c.args.body.now in
    let i = c.loop-s.s-index in
    let x = c.s-item.result in
    let here = here_at c.loop-s.read c.loop-s.test in
    let is = next_is body i x c.loop-s-test.true c.s-item.is in
    let some : is_nothing x here m ≡ false = sym c.in_ok-seen.ensures.nothing ∙ not_true c.in_ok-seen.seen.nothing c.if-not-seen.true in
    let kept = c.loop-s.invariant in
    IfOk-weaker _ _ _ (λ need a. alone_appends m x (drop (i + 1) body) (drop i body) here is kept.one at.next body (here_at at.read at.test) kept.goes c.args.heads.now need
    c.args.into.now c.loop-s.into c.push_one.new.into kept.same some a) c.push_one.ensures

pub push_one-push_once-requires : goal.push_one-push_once-requires
push_one-push_once-requires t c =
    let at = c.args.at.now in
    let x = c.args.s.now in
    let body = c.in-Block.body in
    let body' = c.as_slice.result.now in
    let less : 2 * weights body' + 1 < 2 * weight x = block_weighs x body body' c.in-Block.line c.in-Block.last c.as_slice.ensures c.in-Block.is in
    (omega (arith, less, c.decreases), block_are (marks at.facts) x body body' c.in-Block.line c.in-Block.last (here_at at.read at.test) c.in-Block.is c.as_slice.ensures c.requires)

pub push_one-push_once-requires-in-Cond : goal.push_one-push_once-requires-in-Cond
push_one-push_once-requires-in-Cond t c =
    let at = c.args.at.now in
    let x = c.args.s.now in
    let body = c.in-Cond.body in
    let body' = c.as_slice-in-Cond.result.now in
    let inner = c.in_ok-inner-in-Cond.inner in
    let told = c.in_ok-inner-in-Cond.ensures in
    let less : 2 * weights body' + 1 < 2 * weight x = cond_weighs x body body' c.in-Cond.line c.in-Cond.last c.as_slice-in-Cond.ensures c.in-Cond.test c.in-Cond.is in (
      omega (arith, less, c.decreases),
      cond_are (marks at.facts) (marks inner.facts) x c.in-Cond.test body body' c.in-Cond.line c.in-Cond.last (here_at at.read at.test) (here_at inner.read inner.test)
          c.in-Cond.is c.as_slice-in-Cond.ensures
          told.here (ap marks told.facts) c.requires,
    )

pub push_one-push_once-requires-in-Bind : goal.push_one-push_once-requires-in-Bind
push_one-push_once-requires-in-Bind t c =
    let at = c.args.at.now in
    let f = at.facts in
    let x = c.args.s.now in
    let b = c.in-Bind in
    let body' = c.as_slice-in-Bind-2.result.now in
    let found = c.in_ok-found-in-Bind in
    let bound = c.in_ok-bound-in-Bind in
    let less : 2 * weights body' + 1 < 2 * weight x = bind_weighs x b.body body' b.line b.last c.as_slice-in-Bind-2.ensures b.var b.value b.is in (
      omega (arith, less, c.decreases),
      bind_are f.gaps.now f.known.now f.bound.now c.as_slice-in-Bind.result.now bound.bound.items x b.var b.value b.body body' b.line b.last at.read at.test found.found.next found.found.literal
          b.is c.as_slice-in-Bind-2.ensures found.ensures.literal found.ensures.next bound.ensures c.as_slice-in-Bind.ensures.value c.requires,
    )

pub push_one-returns-in-Block : goal.push_one-returns-in-Block
push_one-returns-in-Block t c =
    let at = c.args.at.now in
    IfOk-weaker _ _ _ (λ need a. block_appends c.args.heads.now need c.args.into.now c.push_once.new.into
    at.next (marks at.facts) c.args.s.now c.in-Block.body c.as_slice.result.now c.in-Block.line c.in-Block.last
    (here_at at.read at.test) c.in-Block.is c.as_slice.ensures c.requires a) c.push_once.ensures

pub push_one-returns-in_ok-inner-in-Cond : goal.push_one-returns-in_ok-inner-in-Cond
push_one-returns-in_ok-inner-in-Cond t c =
    let at = c.args.at.now in
    let inner = c.in_ok-inner-in-Cond.inner in
    let told = c.in_ok-inner-in-Cond.ensures in
    IfOk-weaker _ _ _ (λ need a. cond_appends c.args.heads.now need c.args.into.now c.push_once-in-Cond.new.into
    at.next inner.next (marks at.facts) (marks inner.facts) c.args.s.now c.in-Cond.test c.in-Cond.body
    c.as_slice-in-Cond.result.now c.in-Cond.line c.in-Cond.last
    (here_at at.read at.test) (here_at inner.read inner.test) c.in-Cond.is c.as_slice-in-Cond.ensures told.here (ap marks told.facts) told.next c.requires a) c.push_once-in-Cond.ensures

pub push_one-returns-in_ok-push_literal-in-Bind : goal.push_one-returns-in_ok-push_literal-in-Bind
push_one-returns-in_ok-push_literal-in-Bind t c =
    let at = c.args.at.now in
    let f = at.facts in
    let b = c.in-Bind in
    let found = c.in_ok-found-in-Bind in
    let bound = c.in_ok-bound-in-Bind in
    IfOk-weaker _ _ _ (λ need a. bind_appends f.gaps.now f.known.now f.bound.now c.as_slice-in-Bind.result.now bound.bound.items
    c.args.s.now b.var b.value b.body c.as_slice-in-Bind-2.result.now b.line b.last
    at.read at.test found.found.next found.found.literal
    b.is c.as_slice-in-Bind-2.ensures found.ensures.literal found.ensures.next bound.ensures c.as_slice-in-Bind.ensures.value c.requires
    c.args.heads.now at.next need c.args.into.now c.push_literal.new.into c.push_once-in-Bind.new.into c.in_ok-push_literal-in-Bind.ensures a) c.push_once-in-Bind.ensures

pub push_one-returns-in-Update : goal.push_one-returns-in-Update
push_one-returns-in-Update t c =
    let at = c.args.at.now in
    let b = c.in-Update in
    let told = c.push_unpaid.ensures in
    both_ok _ _ _ _ (λ need pushed is. update_appends c.args.heads.now at.next need c.args.into.now c.push_unpaid.new.into
    (marks at.facts) c.args.s.now b.tensor b.indices c.as_slice-in-Update.result.now b.by b.value b.line
    (here_at at.read at.test) b.is c.as_slice-in-Update.ensures c.requires pushed is) told.code told.need
