-- What is all that is left of the one statement of which something is left is all that is left of the body, kind by kind.
use Rattle.std.proofs.Common.{◌≡◌, ◌≤◌, ◌+◌, ◌*◌, ◌<◌, Bool, true, false, drop, refl, sym, ap, ◌∙◌, arith}
use Rattle.std.specs.Prelude.{not}
use Rattle.std.proofs.lemmas.Option.{IfSome_then}
use Rattle.std.proofs.lemmas.Result.{IfOk-weaker}
use Rattle.fin_simp.specs.Facts.{marks}
use Rattle.fin_simp.specs.Numbered.{here_at}
use Rattle.fin_simp.specs.Remaining.{is_nothing}
use Rattle.fin_simp.proofs.Gathering.{next_is}
use Rattle.fin_perform.proofs.Leaving.{later_are, alone_is, block_are, cond_are, bind_are}
use Rattle.fin_perform.proofs.Weights.{weight, weights, item_weighs, block_weighs, cond_weighs, bind_weighs}
use Rattle.fin_stmts.specs.Updates.{written_of}
use Rattle.fin_stmts.proofs.OnlyLeft.{later_goes, alone_goes, block_only, cond_only, bind_only, update_only, kept_some}
use Rattle.fin_stmts.proofs.Results.{both_ok}
use Rattle.fin_stmts.proofs.only.+only.Goals as goal

-- nothing is left of it, or something
not_true : (b : Bool) → not b ≡ true → b ≡ false
not_true true e = cc
not_true false e = refl

not_false : (b : Bool) → not b ≡ false → b ≡ true
not_false true e = refl
not_false false e = cc

pub only_update-loop-s-preserved : goal.only_update-loop-s-preserved
only_update-loop-s-preserved t c =
    let m = marks c.args.at.now.facts in
    let body = c.args.body.now in
    let i = c.loop-s.s-index in
    let x = c.s-item.result in
    let here = here_at c.loop-s.read c.loop-s.test in
    let after = here_at c.in_ok-seen.seen.read c.in_ok-seen.seen.test in
    let rest = drop (i + 1) body in
    let is = next_is body i x c.loop-s-test.true c.s-item.is in
    let none : is_nothing x here m ≡ true = sym c.in_ok-seen.ensures.nothing ∙ not_false c.in_ok-seen.seen.nothing c.if-not-seen.false in
    record {
      one = later_are m x rest (drop i body) here is c.loop-s.invariant.one after none c.in_ok-seen.ensures.past;
      goes = later_goes m x rest (drop i body) here is body (here_at c.args.at.now.read c.args.at.now.test) c.loop-s.invariant.goes after none c.in_ok-seen.ensures.past;
    }

pub only_update-only_one-requires : goal.only_update-only_one-requires
only_update-only_one-requires t c =
    let m = marks c.args.at.now.facts in
    let body = c.args.body.now in
    let i = c.loop-s.s-index in
    let x = c.s-item.result in
    let here = here_at c.loop-s.read c.loop-s.test in
    let is = next_is body i x c.loop-s-test.true c.s-item.is in
    let some : is_nothing x here m ≡ false = sym c.in_ok-seen.ensures.nothing ∙ not_true c.in_ok-seen.seen.nothing c.if-not-seen.true in
    let less : weight x ≤ weights body = item_weighs body i x x c.loop-s-test.true c.s-item.is in
    (omega (arith, less, c.decreases), alone_is m x (drop (i + 1) body) (drop i body) here is c.loop-s.invariant.one some)

pub only_update-returns-then-not-seen : goal.only_update-returns-then-not-seen
only_update-returns-then-not-seen t c =
    let at = c.args.at.now in
    let m = marks at.facts in
    let body = c.args.body.now in
    let i = c.loop-s.s-index in
    let x = c.s-item.result in
    let here = here_at c.loop-s.read c.loop-s.test in
    let is = next_is body i x c.loop-s-test.true c.s-item.is in
    let some : is_nothing x here m ≡ false = sym c.in_ok-seen.ensures.nothing ∙ not_true c.in_ok-seen.seen.nothing c.if-not-seen.true in
    let kept = c.loop-s.invariant in
    IfOk-weaker _ _ _ (λ found all. IfSome_then found all (λ u a.
    alone_goes m x (drop (i + 1) body) (drop i body) here is body (here_at at.read at.test) kept.goes kept.one some (written_of u) a)) c.only_one.ensures

pub only_one-only_update-requires : goal.only_one-only_update-requires
only_one-only_update-requires t c =
    let at = c.args.at.now in
    let x = c.args.s.now in
    let body = c.in-Block.body in
    let body' = c.as_slice.result.now in
    let less : 2 * weights body' + 1 < 2 * weight x = block_weighs x body body' c.in-Block.line c.in-Block.last c.as_slice.ensures c.in-Block.is in
    (omega (arith, less, c.decreases), block_are (marks at.facts) x body body' c.in-Block.line c.in-Block.last (here_at at.read at.test) c.in-Block.is c.as_slice.ensures c.requires)

pub only_one-only_update-requires-in-Cond : goal.only_one-only_update-requires-in-Cond
only_one-only_update-requires-in-Cond t c =
    let at = c.args.at.now in
    let x = c.args.s.now in
    let body = c.in-Cond.body in
    let body' = c.as_slice-in-Cond.result.now in
    let inner = c.in_ok-inner-in-Cond.inner in
    let told = c.in_ok-inner-in-Cond.ensures in
    let less : 2 * weights body' + 1 < 2 * weight x = cond_weighs x body body' c.in-Cond.line c.in-Cond.last c.as_slice-in-Cond.ensures c.in-Cond.test c.in-Cond.is in (
      omega (arith, less, c.decreases),
      cond_are (marks at.facts) (marks inner.facts) x c.in-Cond.test body body' c.in-Cond.line c.in-Cond.last (here_at at.read at.test) (here_at inner.read inner.test)
          c.in-Cond.is c.as_slice-in-Cond.ensures
          told.here (ap marks told.facts) c.requires,
    )

pub only_one-only_update-requires-in-Bind : goal.only_one-only_update-requires-in-Bind
only_one-only_update-requires-in-Bind t c =
    let at = c.args.at.now in
    let f = at.facts in
    let x = c.args.s.now in
    let b = c.in-Bind in
    let body' = c.as_slice-in-Bind-2.result.now in
    let found = c.in_ok-found-in-Bind in
    let bound = c.in_ok-bound-in-Bind in
    let less : 2 * weights body' + 1 < 2 * weight x = bind_weighs x b.body body' b.line b.last c.as_slice-in-Bind-2.ensures b.var b.value b.is in (
      omega (arith, less, c.decreases),
      bind_are f.gaps.now f.known.now f.bound.now c.as_slice-in-Bind.result.now bound.bound.items x b.var b.value b.body body' b.line b.last at.read at.test found.found.next found.found.literal
          b.is c.as_slice-in-Bind-2.ensures found.ensures.literal found.ensures.next bound.ensures c.as_slice-in-Bind.ensures.value c.requires,
    )

pub only_one-returns-in-Block : goal.only_one-returns-in-Block
only_one-returns-in-Block t c =
    let at = c.args.at.now in
    IfOk-weaker _ _ _ (λ found all. IfSome_then found all (λ u a.
    block_only (marks at.facts) c.args.s.now c.in-Block.body c.as_slice.result.now c.in-Block.line c.in-Block.last
    (here_at at.read at.test) (written_of u) c.in-Block.is c.as_slice.ensures c.requires a)) c.only_update.ensures

pub only_one-returns-in_ok-inner-in-Cond : goal.only_one-returns-in_ok-inner-in-Cond
only_one-returns-in_ok-inner-in-Cond t c =
    let at = c.args.at.now in
    let inner = c.in_ok-inner-in-Cond.inner in
    let told = c.in_ok-inner-in-Cond.ensures in
    IfOk-weaker _ _ _ (λ found all. IfSome_then found all (λ u a.
    cond_only (marks at.facts) (marks inner.facts) c.args.s.now c.in-Cond.test c.in-Cond.body
    c.as_slice-in-Cond.result.now c.in-Cond.line c.in-Cond.last
    (here_at at.read at.test) (here_at inner.read inner.test) (written_of u)
    c.in-Cond.is c.as_slice-in-Cond.ensures told.here (ap marks told.facts) c.requires a)) c.only_update-in-Cond.ensures

pub only_one-returns-in_ok-only-in-Bind : goal.only_one-returns-in_ok-only-in-Bind
only_one-returns-in_ok-only-in-Bind t c =
    let at = c.args.at.now in
    let f = at.facts in
    let b = c.in-Bind in
    let found = c.in_ok-found-in-Bind in
    let bound = c.in_ok-bound-in-Bind in
    both_ok c.unless_named.result _ _ _ (λ o is free. kept_some c.in_ok-only-in-Bind.only o c.in_ok-only-in-Bind.ensures is free (λ u a none.
    bind_only f.gaps.now f.known.now f.bound.now c.as_slice-in-Bind.result.now bound.bound.items
    c.args.s.now b.var b.value b.body c.as_slice-in-Bind-2.result.now b.line b.last
    at.read at.test found.found.next found.found.literal
    b.is c.as_slice-in-Bind-2.ensures found.ensures.literal found.ensures.next bound.ensures c.as_slice-in-Bind.ensures.value c.requires
    (written_of u) none a)) c.unless_named.ensures.found c.unless_named.ensures.free

pub only_one-returns-in-Update : goal.only_one-returns-in-Update
only_one-returns-in-Update t c =
    let at = c.args.at.now in
    let b = c.in-Update in
    update_only (marks at.facts) c.args.s.now b.tensor b.indices c.as_slice-in-Update.result.now b.by b.value b.value b.line
    (here_at at.read at.test) b.is c.as_slice-in-Update.ensures refl c.requires
