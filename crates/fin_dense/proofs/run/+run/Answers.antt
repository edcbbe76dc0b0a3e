use Rattle.std.proofs.Common.{rules, ◌∙◌, sym, ap, arith, ℤ, w64, FitsSigned, set, List, pos, ◌<◌, ◌+◌, ◌-◌, ◌^◌, subst}
use Rattle.std.proofs.lemmas.Int.{to_z-of_z}
use Rattle.std.proofs.lemmas.Result.{err_from_is_err_and}
use Rattle.fin_ast.specs.Dense.{State, braced, run_all, run_of, repeated, ticked}
use Rattle.fin_ast.proofs.Turns.{turn_first}
use Rattle.fin_dense.specs.Runs.{setting_in, state_of}
use Rattle.fin_dense.proofs.Lists.{put_back, at_turn}
use Rattle.fin_dense.proofs.Stops.{stops_in, stops_before, stops_inside, stops_looped}
use Rattle.fin_dense.proofs.run.+run.Goals as goal

pub bind-returns-clause-vars : goal.bind-returns-clause-vars
bind-returns-clause-vars t c =
    let f : FitsSigned w64 c.index-before.result.now = search rules in
    ap (λ (z : ℤ). set c.braced-2.new.run.vars.items c.args.var z) (to_z-of_z w64 _ f)
    ∙ put_back c.args.run.now.vars.items c.braced-2.new.run.vars.items c.args.var _ c.index-before.result.now c.in_ok-braced.ensures.vars (c.index-before.ensures)

pub each-returns-in_err-one-clause-spent : goal.each-returns-in_err-one-clause-spent
each-returns-in_err-one-clause-spent t c e =
    let p = err_from_is_err_and c.from_residual.result c.from_residual.ensures.1 in
    let q = c.in_err-one.ensures.spent (cc (e, p.1, p.2)) in
    let w = setting_in c.args.setting.now in
    let vars0 : List ℤ = c.args.run.now.vars.items in
    let r : 2 ^ 24 < (run_of w c.statement-item.result vars0 (state_of c.loop-statement.run)).turns = subst (λ (vs : List ℤ). 2 ^ 24 < (run_of w c.statement-item.result vs (state_of c.loop-statement.run)).turns) c.loop-statement.invariant.vars q in
    let whole = stops_in w vars0 (2 ^ 24) c.args.body.now c.loop-statement.statement-index c.statement-item.result c.statement-item.result (state_of c.loop-statement.run) c.loop-statement-test.true c.statement-item.is r in
    omega (arith, whole, ap (λ (s : State). s.turns) c.loop-statement.invariant.rest)

pub looped-returns-then-run-eq-MOST_TURNS-clause-spent : goal.looped-returns-then-run-eq-MOST_TURNS-clause-spent
looped-returns-then-run-eq-MOST_TURNS-clause-spent t c e =
    let w = setting_in c.args.setting.now in
    stops_looped w c.args.run.now.vars.items (2 ^ 24) c.args.body.now c.loop-i.i c.args.var c.range_of-lo.result _ _ c.range_of-lo.ensures.value c.loop-i.invariant.rest
    (stops_before w c.args.run.now.vars.items (2 ^ 24) c.args.body.now c.loop-i.i c.args.var _ (state_of c.loop-i.run) c.loop-i-test.true (omega arith))

pub looped-returns-in_err-bind-clause-spent : goal.looped-returns-in_err-bind-clause-spent
looped-returns-in_err-bind-clause-spent t c e =
    let p = err_from_is_err_and c.from_residual.result c.from_residual.ensures.1 in
    let q = c.in_err-bind.ensures.spent (cc (e, p.1, p.2)) in
    let w = setting_in c.args.setting.now in
    let vars0 : List ℤ = c.args.run.now.vars.items in
    let r : 2 ^ 24 < (braced (run_all w c.args.body.now) (set vars0 c.args.var (pos c.loop-i.i)) (ticked (state_of c.loop-i.run))).turns =
    subst (λ (vs : List ℤ). 2 ^ 24 < (braced (run_all w c.args.body.now) vs (ticked (state_of c.loop-i.run))).turns) (at_turn c.loop-i.run.vars.items vars0 c.args.var c.loop-i.i c.range_of-lo.result.1 c.loop-i.invariant.vars c.loop-i-test.true c.range_of-lo.ensures.small) q in
    let at_i = stops_inside w vars0 (2 ^ 24) c.args.body.now c.loop-i.i c.args.var c.range_of-lo.result.1 (state_of c.loop-i.run) c.loop-i-test.true r in
    stops_looped w vars0 (2 ^ 24) c.args.body.now c.loop-i.i c.args.var c.range_of-lo.result (state_of c.loop-i.run) (state_of c.args.run.now) c.range_of-lo.ensures.value c.loop-i.invariant.rest at_i

pub looped-loop-i-preserved : goal.looped-loop-i-preserved
looped-loop-i-preserved t c =
    let w = setting_in c.args.setting.now in
    record {
      within = c.in_ok-bind.ensures.within;
      vars = c.in_ok-bind.ensures.vars ∙ c.loop-i.invariant.vars;
      rest =
          ap (λ (s : State). repeated (c.range_of-lo.result.1 - (c.loop-i.i + 1)) (c.loop-i.i + 1) c.args.var (braced (run_all w c.args.body.now)) c.args.run.now.vars.items s)
          (c.in_ok-bind.ensures.ok ∙ ap (λ (vs : List ℤ). braced (run_all w c.args.body.now) vs (ticked (state_of c.loop-i.run))) (at_turn c.loop-i.run.vars.items c.args.run.now.vars.items c.args.var c.loop-i.i c.range_of-lo.result.1 c.loop-i.invariant.vars c.loop-i-test.true c.range_of-lo.ensures.small))
          ∙ sym (turn_first c.range_of-lo.result.1 c.loop-i.i c.args.var (braced (run_all w c.args.body.now)) c.args.run.now.vars.items (state_of c.loop-i.run) c.loop-i-test.true)
          ∙ c.loop-i.invariant.rest;
    }
