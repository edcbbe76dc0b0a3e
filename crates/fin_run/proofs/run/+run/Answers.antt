use Rattle.std.proofs.Common.{◌≡◌, ℕ, ℤ, ◌+◌, List, [], drop, map, refl, sym, ap, ◌∙◌, arith}
use Rattle.std.proofs.lemmas.Result.{err_from_is_err_and}
use Rattle.std.proofs.lemmas.List.{drop_all}
use Rattle.fin_ir.specs.declared.code.Code.TheVariants as code
use Rattle.fin_ir.specs.declared.expression.IExpr.{IExpr}
use Rattle.fin_ir.specs.Machine.{Machine, assign, charge, update, declare, freeze, thaw}
use Rattle.fin_ir.specs.Declares.{declares}
use Rattle.fin_ir.specs.Value.{value_in}
use Rattle.fin_ir.specs.Meaning.{Action, meaning, meaning_all, step_loop, for_loop, chunks, chunk_locals, opened}
use Rattle.fin_ir.proofs.Codes.{meaning_skip, meaning_assign, meaning_update, meaning_declare, meaning_freeze, meaning_thaw, meaning_charge}
use Rattle.fin_ir.proofs.Growth.{meaning_grows, all_grow, grows_update, grows_declare, grows_freeze, grows_thaw, grows_charge, par_loop_grows}
use Rattle.fin_ir.proofs.Loops.{all_goes}
use Rattle.fin_run.specs.States.{machine}
use Rattle.fin_run.specs.Ends.{evaluated}
use Rattle.fin_run.proofs.Sizes.{seq_falls, when_falls, step_falls, each_falls, chunk_falls, one_falls}
use Rattle.fin_run.proofs.Steps.{declare_asks, freeze_asks, thaw_asks, made_asks}
use Rattle.fin_run.proofs.Running.{ends_as, done, within_budget, at_answer, err_on_the_way, first_regular, ends_of_did, ends_of_does, leaf_arm, seq_arm, off_arm, on_arm, step_arm, each_arm, chunk_arm, regular_as, after_step, after_step_grows, step_first, step_left, step_over, step_smaller, after_each, after_each_grows, each_first, each_left, each_over, each_smaller, range_asks, range_runs, chunks_start, next_ends, after_chunk, after_chunk_grows, chunk_first, chunk_left, chunk_over, still_cut, open_turns, closing, closing_grows, chunks_smaller}
use Rattle.fin_run.proofs.run.+run.Goals as goal

-- ---- one code
pub run-run_all-requires : goal.run-run_all-requires
run-run_all-requires g t c κs within =
    let m = machine c.args.inputs.now c.args.state.now c.args.steps.now in
    let falls = seq_falls c.args.code.now c.in-Seq.all c.as_slice.result.now c.in-Seq.is c.as_slice.ensures in
    let arm = seq_arm c.args.layout.now c.args.code.now m c.in-Seq.all c.as_slice.result.now c.in-Seq.is c.as_slice.ensures in
    (omega (arith, falls, c.decreases), (within, (c.requires.budget, (c.requires.work, regular_as _ _ arm c.requires.regular))))

pub run-run-requires : goal.run-run-requires
run-run-requires g t c κs within =
    let m = machine c.args.inputs.now c.args.state.now c.args.steps.now in
    let falls = when_falls c.args.code.now c.in-When.test c.in-When.body c.get.result.now c.in-When.is c.get.ensures in
    let arm = on_arm c.args.layout.now c.args.code.now m c.in-When.test c.in-When.body c.get.result.now c.is_off.result c.in-When.is c.is_off.ensures c.if-is_off.false c.get.ensures in
    (omega (arith, falls, c.decreases), (within, (c.requires.budget, (c.requires.work, regular_as _ _ arm c.requires.regular))))

pub run-run_steps-requires : goal.run-run_steps-requires
run-run_steps-requires g t c κs within =
    let m = machine c.args.inputs.now c.args.state.now c.args.steps.now in
    let falls = step_falls c.args.code.now c.in-StepLoop.var c.in-StepLoop.until c.in-StepLoop.lo c.in-StepLoop.hi c.in-StepLoop.stop c.in-StepLoop.body c.get-in-StepLoop.result.now c.in-StepLoop.is c.get-in-StepLoop.ensures in
    let arm = step_arm c.args.layout.now c.args.code.now m c.in-StepLoop.var c.in-StepLoop.until c.in-StepLoop.lo c.in-StepLoop.hi c.in-StepLoop.stop c.in-StepLoop.body c.get-in-StepLoop.result.now c.in-StepLoop.is c.get-in-StepLoop.ensures in
    (omega (arith, falls, c.decreases), (within, (c.requires.budget, (c.requires.work, regular_as _ _ arm c.requires.regular))))

pub run-run_each-requires : goal.run-run_each-requires
run-run_each-requires g t c κs within =
    let m = machine c.args.inputs.now c.args.state.now c.args.steps.now in
    let falls = each_falls c.args.code.now c.in-ForLoop.var c.in-ForLoop.lo c.in-ForLoop.hi c.in-ForLoop.body c.get-in-ForLoop.result.now c.in-ForLoop.is c.get-in-ForLoop.ensures in
    let arm = each_arm c.args.layout.now c.args.code.now m c.in-ForLoop.var c.in-ForLoop.lo c.in-ForLoop.hi c.in-ForLoop.body c.get-in-ForLoop.result.now c.in-ForLoop.is c.get-in-ForLoop.ensures in
    (omega (arith, falls, c.decreases), (within, (c.requires.budget, (c.requires.work, regular_as _ _ arm c.requires.regular))))

pub run-run_chunks-requires : goal.run-run_chunks-requires
run-run_chunks-requires g t c κs within =
    let m = machine c.args.inputs.now c.args.state.now c.args.steps.now in
    let falls = chunk_falls c.args.code.now c.in-ParLoop.from c.in-ParLoop.to c.in-ParLoop.lo c.in-ParLoop.hi c.in-ParLoop.ways c.in-ParLoop.body c.get-in-ParLoop.result.now c.in-ParLoop.is c.get-in-ParLoop.ensures in
    let arm = chunk_arm c.args.layout.now c.args.code.now m c.in-ParLoop.from c.in-ParLoop.to c.in-ParLoop.lo c.in-ParLoop.hi c.in-ParLoop.ways c.in-ParLoop.body c.get-in-ParLoop.result.now c.in-ParLoop.is c.get-in-ParLoop.ensures in
    (omega (arith, falls, c.decreases), (within, (c.requires.budget, (c.requires.work, regular_as _ _ arm c.requires.regular))))

pub run-update-requires : goal.run-update-requires
run-update-requires g t c =
    let m = machine c.args.inputs.now c.args.state.now c.args.steps.now in
    let arm = leaf_arm c.args.layout.now c.args.code.now m (code.Update c.in-Update.tensor c.in-Update.at c.in-Update.by c.in-Update.value) _ c.in-Update.is (meaning_update c.args.layout.now c.in-Update.tensor c.in-Update.at c.in-Update.by c.in-Update.value m) in
    let same = ap (λ (xs : List IExpr). update c.in-Update.tensor (map (value_in m) xs) c.in-Update.by (value_in m c.in-Update.value) m) c.as_slice-in-Update.ensures ∙ arm in
    (c.args.steps.now, regular_as _ _ same c.requires.regular)

pub run-declare-requires : goal.run-declare-requires
run-declare-requires g t c =
    let m = machine c.args.inputs.now c.args.state.now c.args.steps.now in
    let arm = leaf_arm c.args.layout.now c.args.code.now m (code.Declare c.in-Declare.tensor) _ c.in-Declare.is (meaning_declare c.args.layout.now c.in-Declare.tensor m) in
    declare_asks c.args.inputs.now c.args.state.now c.args.steps.now c.args.layout.now c.in-Declare.tensor (regular_as _ _ arm c.requires.regular)

pub run-freeze_at-requires : goal.run-freeze_at-requires
run-freeze_at-requires g t c =
    let m = machine c.args.inputs.now c.args.state.now c.args.steps.now in
    let arm = leaf_arm c.args.layout.now c.args.code.now m (code.Freeze c.in-Freeze.tensor) _ c.in-Freeze.is (meaning_freeze c.args.layout.now c.in-Freeze.tensor m) in
    freeze_asks c.args.inputs.now c.args.state.now c.args.steps.now c.in-Freeze.tensor (regular_as _ _ arm c.requires.regular)

pub run-thaw_at-requires : goal.run-thaw_at-requires
run-thaw_at-requires g t c =
    let m = machine c.args.inputs.now c.args.state.now c.args.steps.now in
    let arm = leaf_arm c.args.layout.now c.args.code.now m (code.Thaw c.in-Thaw.tensor) _ c.in-Thaw.is (meaning_thaw c.args.layout.now c.in-Thaw.tensor m) in
    record { storage = thaw_asks c.args.inputs.now c.args.state.now c.args.steps.now c.args.layout.now c.in-Thaw.tensor (regular_as _ _ arm c.requires.regular) }

pub run-returns-in-Skip : goal.run-returns-in-Skip
run-returns-in-Skip g t c =
    let m = machine c.args.inputs.now c.args.state.now c.args.steps.now in
    done c.args.budget m _ (leaf_arm c.args.layout.now c.args.code.now m code.Skip _ c.in-Skip.is (meaning_skip c.args.layout.now m)) c.requires.work

pub run-returns-in-Seq : goal.run-returns-in-Seq
run-returns-in-Seq g t c =
    let m = machine c.args.inputs.now c.args.state.now c.args.steps.now in
    let arm = seq_arm c.args.layout.now c.args.code.now m c.in-Seq.all c.as_slice.result.now c.in-Seq.is c.as_slice.ensures in
    ends_as c.args.budget _ _ (machine c.args.inputs.now c.run_all.new.state c.run_all.new.steps) c.run_all.result arm c.run_all.ensures

pub run-returns-in-Assign : goal.run-returns-in-Assign
run-returns-in-Assign g t c =
    let m = machine c.args.inputs.now c.args.state.now c.args.steps.now in
    let arm = leaf_arm c.args.layout.now c.args.code.now m (code.Assign c.in-Assign.local c.in-Assign.value) _ c.in-Assign.is (meaning_assign c.args.layout.now c.in-Assign.local c.in-Assign.value m) in
    ends_of_did c.args.budget (λ n. assign c.in-Assign.local (value_in n c.in-Assign.value) n) c.args.inputs.now c.args.state.now c.set_value.new.state c.args.steps.now _ c.set_value.ensures.did (omega (arith, c.set_value.ensures.work, c.requires.work)) arm

pub run-returns-then-is_off : goal.run-returns-then-is_off
run-returns-then-is_off g t c =
    let m = machine c.args.inputs.now c.args.state.now c.args.steps.now in
    done c.args.budget m _ (off_arm c.args.layout.now c.args.code.now m c.in-When.test c.in-When.body c.is_off.result c.in-When.is c.is_off.ensures c.if-is_off.true) c.requires.work

pub run-returns-else-is_off : goal.run-returns-else-is_off
run-returns-else-is_off g t c =
    let m = machine c.args.inputs.now c.args.state.now c.args.steps.now in
    let arm = on_arm c.args.layout.now c.args.code.now m c.in-When.test c.in-When.body c.get.result.now c.is_off.result c.in-When.is c.is_off.ensures c.if-is_off.false c.get.ensures in
    ends_as c.args.budget _ _ (machine c.args.inputs.now c.run.new.state c.run.new.steps) c.run.result arm c.run.ensures

pub run-returns-in-StepLoop : goal.run-returns-in-StepLoop
run-returns-in-StepLoop g t c =
    let m = machine c.args.inputs.now c.args.state.now c.args.steps.now in
    let arm = step_arm c.args.layout.now c.args.code.now m c.in-StepLoop.var c.in-StepLoop.until c.in-StepLoop.lo c.in-StepLoop.hi c.in-StepLoop.stop c.in-StepLoop.body c.get-in-StepLoop.result.now c.in-StepLoop.is c.get-in-StepLoop.ensures in
    ends_as c.args.budget _ _ (machine c.args.inputs.now c.run_steps.new.state c.run_steps.new.steps) c.run_steps.result arm c.run_steps.ensures

pub run-returns-in-ForLoop : goal.run-returns-in-ForLoop
run-returns-in-ForLoop g t c =
    let m = machine c.args.inputs.now c.args.state.now c.args.steps.now in
    let arm = each_arm c.args.layout.now c.args.code.now m c.in-ForLoop.var c.in-ForLoop.lo c.in-ForLoop.hi c.in-ForLoop.body c.get-in-ForLoop.result.now c.in-ForLoop.is c.get-in-ForLoop.ensures in
    ends_as c.args.budget _ _ (machine c.args.inputs.now c.run_each.new.state c.run_each.new.steps) c.run_each.result arm c.run_each.ensures

pub run-returns-in-ParLoop : goal.run-returns-in-ParLoop
run-returns-in-ParLoop g t c =
    let m = machine c.args.inputs.now c.args.state.now c.args.steps.now in
    let arm = chunk_arm c.args.layout.now c.args.code.now m c.in-ParLoop.from c.in-ParLoop.to c.in-ParLoop.lo c.in-ParLoop.hi c.in-ParLoop.ways c.in-ParLoop.body c.get-in-ParLoop.result.now c.in-ParLoop.is c.get-in-ParLoop.ensures in
    ends_as c.args.budget _ _ (machine c.args.inputs.now c.run_chunks.new.state c.run_chunks.new.steps) c.run_chunks.result arm c.run_chunks.ensures

pub run-returns-in-Update : goal.run-returns-in-Update
run-returns-in-Update g t c =
    let m = machine c.args.inputs.now c.args.state.now c.args.steps.now in
    let at = c.as_slice-in-Update.result.now in
    let f : Action = λ n. update c.in-Update.tensor (map (value_in n) at) c.in-Update.by (value_in n c.in-Update.value) n in
    let arm = leaf_arm c.args.layout.now c.args.code.now m (code.Update c.in-Update.tensor c.in-Update.at c.in-Update.by c.in-Update.value) _ c.in-Update.is (meaning_update c.args.layout.now c.in-Update.tensor c.in-Update.at c.in-Update.by c.in-Update.value m) in
    let same = ap (λ (xs : List IExpr). update c.in-Update.tensor (map (value_in m) xs) c.in-Update.by (value_in m c.in-Update.value) m) c.as_slice-in-Update.ensures ∙ arm in
    ends_of_does c.args.budget f c.args.inputs.now c.args.state.now c.update.new.state c.args.steps.now _ c.update.result (λ n. grows_update c.in-Update.tensor (map (value_in n) at) c.in-Update.by (value_in n c.in-Update.value) n) (c.update.ensures c.args.budget c.requires.work) same

pub run-returns-in-Declare : goal.run-returns-in-Declare
run-returns-in-Declare g t c =
    let m = machine c.args.inputs.now c.args.state.now c.args.steps.now in
    let arm = leaf_arm c.args.layout.now c.args.code.now m (code.Declare c.in-Declare.tensor) _ c.in-Declare.is (meaning_declare c.args.layout.now c.in-Declare.tensor m) in
    ends_of_does c.args.budget (declare c.args.layout.now c.in-Declare.tensor) c.args.inputs.now c.args.state.now c.declare.new.state c.args.steps.now _ c.declare.result (grows_declare c.args.layout.now c.in-Declare.tensor) (c.declare.ensures c.args.inputs.now c.args.budget c.requires.work) arm

pub run-returns-in-Freeze : goal.run-returns-in-Freeze
run-returns-in-Freeze g t c =
    let m = machine c.args.inputs.now c.args.state.now c.args.steps.now in
    let arm = leaf_arm c.args.layout.now c.args.code.now m (code.Freeze c.in-Freeze.tensor) _ c.in-Freeze.is (meaning_freeze c.args.layout.now c.in-Freeze.tensor m) in
    ends_of_does c.args.budget (freeze c.in-Freeze.tensor) c.args.inputs.now c.args.state.now c.freeze_at.new.state c.args.steps.now _ c.freeze_at.result (grows_freeze c.in-Freeze.tensor) (c.freeze_at.ensures c.args.inputs.now c.args.budget c.requires.work c.requires.budget) arm

pub run-returns-in-Thaw : goal.run-returns-in-Thaw
run-returns-in-Thaw g t c =
    let m = machine c.args.inputs.now c.args.state.now c.args.steps.now in
    let arm = leaf_arm c.args.layout.now c.args.code.now m (code.Thaw c.in-Thaw.tensor) _ c.in-Thaw.is (meaning_thaw c.args.layout.now c.in-Thaw.tensor m) in
    let made = made_asks c.args.inputs.now c.args.state.now c.args.steps.now c.args.layout.now c.in-Thaw.tensor (regular_as _ _ arm c.requires.regular) in
    ends_of_does c.args.budget (thaw c.args.layout.now c.in-Thaw.tensor) c.args.inputs.now c.args.state.now c.thaw_at.new.state c.args.steps.now _ c.thaw_at.result (grows_thaw c.args.layout.now c.in-Thaw.tensor) (c.thaw_at.ensures c.args.layout.now c.args.budget made c.requires.work) arm

pub run-returns-in-Charge : goal.run-returns-in-Charge
run-returns-in-Charge g t c =
    let m = machine c.args.inputs.now c.args.state.now c.args.steps.now in
    let arm = leaf_arm c.args.layout.now c.args.code.now m (code.Charge c.in-Charge.value) _ c.in-Charge.is (meaning_charge c.args.layout.now c.in-Charge.value m) in
    ends_of_does c.args.budget (λ n. charge (value_in n c.in-Charge.value) n) c.args.inputs.now c.args.state.now c.charge.new.state c.args.steps.now _ c.charge.result (λ n. grows_charge (value_in n c.in-Charge.value) n) c.charge.ensures arm

-- ---- several codes
pub run_all-loop-code-init : goal.run_all-loop-code-init
run_all-loop-code-init g t c = record { left = refl; work = c.requires.work }

pub run_all-run-requires : goal.run_all-run-requires
run_all-run-requires g t c κs within =
    let m = machine c.args.inputs.now c.loop-code.state c.loop-code.steps in
    let falls = one_falls c.args.all.now c.loop-code.code-index c.code-item.result c.loop-code-test.true c.code-item.is in
    let rest = drop (c.loop-code.code-index + 1) c.args.all.now in
    let first = c.loop-code.invariant.left ∙ all_goes c.args.layout.now c.args.all.now c.loop-code.code-index c.code-item.result m c.loop-code-test.true c.code-item.is in
    (omega (arith, falls, c.decreases), (within, (c.requires.budget, (c.loop-code.invariant.work, first_regular (meaning_all c.args.layout.now rest) _ (meaning c.args.layout.now c.code-item.result m) (all_grow c.args.layout.now rest) first c.requires.regular))))

pub run_all-returns-in_err-run : goal.run_all-returns-in_err-run
run_all-returns-in_err-run g t c =
    let p = err_from_is_err_and c.from_residual.result c.from_residual.ensures.1 in
    let m = machine c.args.inputs.now c.loop-code.state c.loop-code.steps in
    let now = machine c.args.inputs.now c.run.new.state c.run.new.steps in
    let rest = drop (c.loop-code.code-index + 1) c.args.all.now in
    let first = c.loop-code.invariant.left ∙ all_goes c.args.layout.now c.args.all.now c.loop-code.code-index c.code-item.result m c.loop-code-test.true c.code-item.is in
    let said = at_answer c.args.budget (meaning c.args.layout.now c.code-item.result m) now _ _ c.in_err-run.was c.run.ensures in
    rw (p.1, p.2) (err_on_the_way c.args.budget (meaning_all c.args.layout.now rest) _ (meaning c.args.layout.now c.code-item.result m) now c.in_err-run.field-0.0 (all_grow c.args.layout.now rest) first said)

pub run_all-loop-code-preserved : goal.run_all-loop-code-preserved
run_all-loop-code-preserved g t c =
    let m = machine c.args.inputs.now c.loop-code.state c.loop-code.steps in
    let now = machine c.args.inputs.now c.run.new.state c.run.new.steps in
    let rest = drop (c.loop-code.code-index + 1) c.args.all.now in
    let first = c.loop-code.invariant.left ∙ all_goes c.args.layout.now c.args.all.now c.loop-code.code-index c.code-item.result m c.loop-code-test.true c.code-item.is in
    let said = at_answer c.args.budget (meaning c.args.layout.now c.code-item.result m) now _ _ c.in_ok-run.was c.run.ensures in
    record { left = first ∙ ap (meaning_all c.args.layout.now rest) (sym said.0); work = within_budget c.args.budget now _ said.0 said.1 }

pub run_all-returns : goal.run_all-returns
run_all-returns g t c =
    let m = machine c.args.inputs.now c.loop-code.state c.loop-code.steps in
    let past : drop c.loop-code.code-index c.args.all.now ≡ [] = drop_all c.loop-code.code-index c.args.all.now (omega (arith, c.loop-code-test.false)) in
    done c.args.budget m _ (sym (c.loop-code.invariant.left ∙ ap (λ l. meaning_all c.args.layout.now l m) past)) c.loop-code.invariant.work

-- ---- a loop by steps
pub run_steps-loop-alloc-init : goal.run_steps-loop-alloc-init
run_steps-loop-alloc-init g t c = record {
  left = ap (λ a. step_loop c.args.var c.args.until (λ m. value_in m c.args.stop.now) (meaning c.args.layout.now c.args.body.now) a (evaluated c.args.inputs.now c.args.state.now c.args.hi.now) (machine c.args.inputs.now c.args.state.now c.args.steps.now)) (sym c.enter-place.ensures.at);
  work = c.requires.work;
  end = c.enter-place.ensures.end;
}

pub run_steps-run-requires : goal.run_steps-run-requires
run_steps-run-requires g t c κs within =
    let m = machine c.args.inputs.now c.loop-alloc.state c.loop-alloc.steps in
    let begun = machine c.args.inputs.now c.begin_step.new.state c.loop-alloc.steps in
    let stop = λ (n : Machine). value_in n c.args.stop.now in
    let body = meaning c.args.layout.now c.args.body.now in
    let hi = evaluated c.args.inputs.now c.args.state.now c.args.hi.now in
    let i = c.loop-alloc.invariant in
    let next = c.begin_step.new.place.next in
    let first = step_first c.args.var c.args.until stop body hi c.loop-alloc.place.end c.loop-alloc.place.at next _ m begun i.end (sym c.is_on.ensures ∙ c.loop-alloc-test.true) (c.begin_step.ensures.next c.loop-alloc.steps) (c.begin_step.ensures.did c.loop-alloc.steps) i.left in
    (omega (arith, c.decreases), (within, (c.requires.budget, (omega (arith, c.begin_step.ensures.work, i.work), first_regular (after_step c.args.var c.args.until stop body hi next) _ (body begun) (after_step_grows c.args.var c.args.until stop body hi (meaning_grows c.args.layout.now c.args.body.now) next) first c.requires.regular))))

pub run_steps-returns-in_err-run : goal.run_steps-returns-in_err-run
run_steps-returns-in_err-run g t c =
    let p = err_from_is_err_and c.from_residual.result c.from_residual.ensures.1 in
    let m = machine c.args.inputs.now c.loop-alloc.state c.loop-alloc.steps in
    let begun = machine c.args.inputs.now c.begin_step.new.state c.loop-alloc.steps in
    let now = machine c.args.inputs.now c.run.new.state c.run.new.steps in
    let stop = λ (n : Machine). value_in n c.args.stop.now in
    let body = meaning c.args.layout.now c.args.body.now in
    let hi = evaluated c.args.inputs.now c.args.state.now c.args.hi.now in
    let i = c.loop-alloc.invariant in
    let next = c.begin_step.new.place.next in
    let first = step_first c.args.var c.args.until stop body hi c.loop-alloc.place.end c.loop-alloc.place.at next _ m begun i.end (sym c.is_on.ensures ∙ c.loop-alloc-test.true) (c.begin_step.ensures.next c.loop-alloc.steps) (c.begin_step.ensures.did c.loop-alloc.steps) i.left in
    let said = at_answer c.args.budget (body begun) now _ _ c.in_err-run.was c.run.ensures in
    rw (p.1, p.2) (err_on_the_way c.args.budget (after_step c.args.var c.args.until stop body hi next) _ (body begun) now c.in_err-run.field-0.0 (after_step_grows c.args.var c.args.until stop body hi (meaning_grows c.args.layout.now c.args.body.now) next) first said)

pub run_steps-loop-alloc-smaller : goal.run_steps-loop-alloc-smaller
run_steps-loop-alloc-smaller g t c =
    step_smaller c.args.var (λ (n : Machine). value_in n c.args.stop.now) c.loop-alloc.place.end c.begin_step.new.place.end c.end_step.new.place.end c.loop-alloc.place.at c.begin_step.new.place.next c.end_step.new.place.at (machine c.args.inputs.now c.loop-alloc.state c.loop-alloc.steps) c.begin_step.ensures.end c.end_step.ensures.end (sym c.is_on.ensures ∙ c.loop-alloc-test.true) (c.begin_step.ensures.next c.loop-alloc.steps) c.end_step.ensures.at

pub run_steps-loop-alloc-preserved : goal.run_steps-loop-alloc-preserved
run_steps-loop-alloc-preserved g t c =
    let m = machine c.args.inputs.now c.loop-alloc.state c.loop-alloc.steps in
    let begun = machine c.args.inputs.now c.begin_step.new.state c.loop-alloc.steps in
    let now = machine c.args.inputs.now c.run.new.state c.run.new.steps in
    let last = machine c.args.inputs.now c.run.new.state c.end_step.new.steps in
    let stop = λ (n : Machine). value_in n c.args.stop.now in
    let body = meaning c.args.layout.now c.args.body.now in
    let hi = evaluated c.args.inputs.now c.args.state.now c.args.hi.now in
    let i = c.loop-alloc.invariant in
    let next = c.begin_step.new.place.next in
    let first = step_first c.args.var c.args.until stop body hi c.loop-alloc.place.end c.loop-alloc.place.at next _ m begun i.end (sym c.is_on.ensures ∙ c.loop-alloc-test.true) (c.begin_step.ensures.next c.loop-alloc.steps) (c.begin_step.ensures.did c.loop-alloc.steps) i.left in
    let said = at_answer c.args.budget (body begun) now _ _ c.in_ok-run.was c.run.ensures in
    record {
      left = step_left c.args.var c.args.until stop body hi _ (body begun) now last c.begin_step.new.place.end c.end_step.new.place.at next first said.0 (c.begin_step.ensures.end ∙ i.end) (c.end_step.ensures.count c.args.inputs.now c.run.new.state) c.end_step.ensures.at;
      work = within_budget c.args.budget now _ said.0 said.1;
      end = c.end_step.ensures.end ∙ c.begin_step.ensures.end ∙ i.end;
    }

pub run_steps-returns : goal.run_steps-returns
run_steps-returns g t c =
    let m = machine c.args.inputs.now c.loop-alloc.state c.loop-alloc.steps in
    let stop = λ (n : Machine). value_in n c.args.stop.now in
    let hi = evaluated c.args.inputs.now c.args.state.now c.args.hi.now in
    let i = c.loop-alloc.invariant in
    done c.args.budget m _ (step_over c.args.var c.args.until stop (meaning c.args.layout.now c.args.body.now) hi c.loop-alloc.place.end c.loop-alloc.place.at _ m i.end (sym c.is_on.ensures ∙ c.loop-alloc-test.false) i.left) i.work

-- ---- a loop over each number
pub run_each-loop-alloc-init : goal.run_each-loop-alloc-init
run_each-loop-alloc-init g t c = record {
  left = ap (λ a. for_loop c.args.var (meaning c.args.layout.now c.args.body.now) a (evaluated c.args.inputs.now c.args.state.now c.args.hi.now) (machine c.args.inputs.now c.args.state.now c.args.steps.now)) (sym c.enter-place.ensures.at);
  work = c.requires.work;
  end = c.enter-place.ensures.end;
}

pub run_each-run-requires : goal.run_each-run-requires
run_each-run-requires g t c κs within =
    let m = machine c.args.inputs.now c.loop-alloc.state c.loop-alloc.steps in
    let begun = machine c.args.inputs.now c.begin_each.new.state c.loop-alloc.steps in
    let body = meaning c.args.layout.now c.args.body.now in
    let hi = evaluated c.args.inputs.now c.args.state.now c.args.hi.now in
    let i = c.loop-alloc.invariant in
    let next = c.begin_each.new.place.next in
    let first = each_first c.args.var body hi c.loop-alloc.place.end c.loop-alloc.place.at next _ m begun i.end (sym c.is_on.ensures ∙ c.loop-alloc-test.true) c.begin_each.ensures.next (c.begin_each.ensures.did c.args.inputs.now c.loop-alloc.steps) i.left in
    (omega (arith, c.decreases), (within, (c.requires.budget, (omega (arith, c.begin_each.ensures.work, i.work), first_regular (after_each c.args.var body hi next) _ (body begun) (after_each_grows c.args.var body hi (meaning_grows c.args.layout.now c.args.body.now) next) first c.requires.regular))))

pub run_each-returns-in_err-run : goal.run_each-returns-in_err-run
run_each-returns-in_err-run g t c =
    let p = err_from_is_err_and c.from_residual.result c.from_residual.ensures.1 in
    let m = machine c.args.inputs.now c.loop-alloc.state c.loop-alloc.steps in
    let begun = machine c.args.inputs.now c.begin_each.new.state c.loop-alloc.steps in
    let now = machine c.args.inputs.now c.run.new.state c.run.new.steps in
    let body = meaning c.args.layout.now c.args.body.now in
    let hi = evaluated c.args.inputs.now c.args.state.now c.args.hi.now in
    let i = c.loop-alloc.invariant in
    let next = c.begin_each.new.place.next in
    let first = each_first c.args.var body hi c.loop-alloc.place.end c.loop-alloc.place.at next _ m begun i.end (sym c.is_on.ensures ∙ c.loop-alloc-test.true) c.begin_each.ensures.next (c.begin_each.ensures.did c.args.inputs.now c.loop-alloc.steps) i.left in
    let said = at_answer c.args.budget (body begun) now _ _ c.in_err-run.was c.run.ensures in
    rw (p.1, p.2) (err_on_the_way c.args.budget (after_each c.args.var body hi next) _ (body begun) now c.in_err-run.field-0.0 (after_each_grows c.args.var body hi (meaning_grows c.args.layout.now c.args.body.now) next) first said)

pub run_each-loop-alloc-smaller : goal.run_each-loop-alloc-smaller
run_each-loop-alloc-smaller g t c =
    each_smaller c.loop-alloc.place.end c.begin_each.new.place.end c.end_each.new.place.end c.loop-alloc.place.at c.begin_each.new.place.next c.end_each.new.place.at c.begin_each.ensures.end c.end_each.ensures.end (sym c.is_on.ensures ∙ c.loop-alloc-test.true) c.begin_each.ensures.next c.end_each.ensures.at

pub run_each-loop-alloc-preserved : goal.run_each-loop-alloc-preserved
run_each-loop-alloc-preserved g t c =
    let m = machine c.args.inputs.now c.loop-alloc.state c.loop-alloc.steps in
    let begun = machine c.args.inputs.now c.begin_each.new.state c.loop-alloc.steps in
    let now = machine c.args.inputs.now c.run.new.state c.run.new.steps in
    let last = machine c.args.inputs.now c.run.new.state c.end_each.new.steps in
    let body = meaning c.args.layout.now c.args.body.now in
    let hi = evaluated c.args.inputs.now c.args.state.now c.args.hi.now in
    let i = c.loop-alloc.invariant in
    let next = c.begin_each.new.place.next in
    let first = each_first c.args.var body hi c.loop-alloc.place.end c.loop-alloc.place.at next _ m begun i.end (sym c.is_on.ensures ∙ c.loop-alloc-test.true) c.begin_each.ensures.next (c.begin_each.ensures.did c.args.inputs.now c.loop-alloc.steps) i.left in
    let said = at_answer c.args.budget (body begun) now _ _ c.in_ok-run.was c.run.ensures in
    record {
      left = each_left c.args.var body hi _ (body begun) now last c.end_each.new.place.at next first said.0 (c.end_each.ensures.count c.args.inputs.now c.run.new.state) c.end_each.ensures.at;
      work = within_budget c.args.budget now _ said.0 said.1;
      end = c.end_each.ensures.end ∙ c.begin_each.ensures.end ∙ i.end;
    }

pub run_each-returns : goal.run_each-returns
run_each-returns g t c =
    let m = machine c.args.inputs.now c.loop-alloc.state c.loop-alloc.steps in
    let hi = evaluated c.args.inputs.now c.args.state.now c.args.hi.now in
    let i = c.loop-alloc.invariant in
    done c.args.budget m _ (each_over c.args.var (meaning c.args.layout.now c.args.body.now) hi c.loop-alloc.place.end c.loop-alloc.place.at _ m i.end (sym c.is_on.ensures ∙ c.loop-alloc-test.false) i.left) i.work

-- ---- chunks
pub run_chunks-returns-in_err-entry : goal.run_chunks-returns-in_err-entry
run_chunks-returns-in_err-entry g t c =
    let p = err_from_is_err_and c.from_residual.result c.from_residual.ensures.1 in
    let body = meaning c.args.layout.now c.args.body.now in
    rw (p.1, p.2) (par_loop_grows (declares c.args.body.now) body (meaning_grows c.args.layout.now c.args.body.now) c.args.from c.args.to c.args.lo c.args.hi (machine c.args.inputs.now c.args.state.now c.args.steps.now)).turns

pub run_chunks-loop-alloc-init : goal.run_chunks-loop-alloc-init
run_chunks-loop-alloc-init g t c = record {
  left = ap (λ (l : List (ℕ × ℕ)). chunks (declares c.args.body.now) (meaning c.args.layout.now c.args.body.now) (map (chunk_locals c.args.from c.args.to c.args.state.now.locals) l) (machine c.args.inputs.now c.args.state.now c.args.steps.now)) (chunks_start c.args.lo c.args.hi c.cut-chunks.result c.cut-chunks.ensures.cut c.cut-chunks.ensures.next);
  work = c.requires.work;
  cut = c.cut-chunks.ensures.cut;
}

pub run_chunks-open-requires-clause-cut : goal.run_chunks-open-requires-clause-cut
run_chunks-open-requires-clause-cut g t c =
    let r = range_asks (declares c.args.body.now) (meaning c.args.layout.now c.args.body.now) c.args.from c.args.to c.args.lo c.args.hi c.args.inputs.now c.args.state.now c.args.steps.now c.requires.regular in
    (c.args.lo, c.args.hi, r.0, r.1, c.loop-alloc.invariant.cut)

pub run_chunks-returns-in_err-open : goal.run_chunks-returns-in_err-open
run_chunks-returns-in_err-open g t c =
    let p = err_from_is_err_and c.from_residual-in_err-open.result c.from_residual-in_err-open.ensures.1 in
    let own = declares c.args.body.now in
    let body = meaning c.args.layout.now c.args.body.now in
    let f = chunk_locals c.args.from c.args.to c.args.state.now.locals in
    let runs = range_runs own body c.args.from c.args.to c.args.lo c.args.hi c.args.inputs.now c.args.state.now c.args.steps.now c.requires.regular in
    rw (p.1, p.2) (open_turns own body f c.args.state.now.locals c.loop-alloc.chunks _ _ (machine c.args.inputs.now c.loop-alloc.state c.loop-alloc.steps) (meaning_grows c.args.layout.now c.args.body.now) runs c.loop-alloc.invariant.left)

pub run_chunks-run-requires : goal.run_chunks-run-requires
run_chunks-run-requires g t c κs within =
    let own = declares c.args.body.now in
    let body = meaning c.args.layout.now c.args.body.now in
    let f = chunk_locals c.args.from c.args.to c.args.state.now.locals in
    let m = machine c.args.inputs.now c.loop-alloc.state c.loop-alloc.steps in
    let begun = machine c.args.inputs.now c.open.new.state c.loop-alloc.steps in
    let runs = range_runs own body c.args.from c.args.to c.args.lo c.args.hi c.args.inputs.now c.args.state.now c.args.steps.now c.requires.regular in
    let i = c.loop-alloc.invariant in
    let opens = c.in_ok-open.ensures.did c.args.inputs.now c.loop-alloc.steps ∙ ap (λ (l : List ℤ). opened own (chunk_locals c.args.from c.args.to l (next_ends c.loop-alloc.chunks)) m) c.in_ok-entry.ensures in
    let first = chunk_first own body f c.loop-alloc.chunks _ m begun (sym c.is_left.ensures ∙ c.loop-alloc-test.true) opens i.left in
    let regular = ap (λ (x : Machine). x.regular) (sym runs) ∙ c.requires.regular in
    (omega (arith, c.decreases), (within, (c.requires.budget, (omega (arith, c.in_ok-open.ensures.work, i.work), first_regular (after_chunk own body f c.loop-alloc.chunks) _ (body begun) (after_chunk_grows own body f (meaning_grows c.args.layout.now c.args.body.now) c.loop-alloc.chunks) first regular))))

pub run_chunks-returns-in_err-run : goal.run_chunks-returns-in_err-run
run_chunks-returns-in_err-run g t c =
    let p = err_from_is_err_and c.from_residual-in_err-run.result c.from_residual-in_err-run.ensures.1 in
    let own = declares c.args.body.now in
    let body = meaning c.args.layout.now c.args.body.now in
    let f = chunk_locals c.args.from c.args.to c.args.state.now.locals in
    let m = machine c.args.inputs.now c.loop-alloc.state c.loop-alloc.steps in
    let begun = machine c.args.inputs.now c.open.new.state c.loop-alloc.steps in
    let now = machine c.args.inputs.now c.run.new.state c.run.new.steps in
    let runs = range_runs own body c.args.from c.args.to c.args.lo c.args.hi c.args.inputs.now c.args.state.now c.args.steps.now c.requires.regular in
    let i = c.loop-alloc.invariant in
    let opens = c.in_ok-open.ensures.did c.args.inputs.now c.loop-alloc.steps ∙ ap (λ (l : List ℤ). opened own (chunk_locals c.args.from c.args.to l (next_ends c.loop-alloc.chunks)) m) c.in_ok-entry.ensures in
    let first = chunk_first own body f c.loop-alloc.chunks _ m begun (sym c.is_left.ensures ∙ c.loop-alloc-test.true) opens i.left in
    let said = at_answer c.args.budget (body begun) now _ _ c.in_err-run.was c.run.ensures in
    rw (p.1, p.2) (err_on_the_way c.args.budget (closing own body f c.args.state.now.locals c.loop-alloc.chunks) _ (body begun) now c.in_err-run.field-0.0 (closing_grows own body f c.args.state.now.locals c.loop-alloc.chunks (meaning_grows c.args.layout.now c.args.body.now)) (runs ∙ ap (opened own c.args.state.now.locals) first) said)

pub run_chunks-loop-alloc-smaller : goal.run_chunks-loop-alloc-smaller
run_chunks-loop-alloc-smaller g t c = chunks_smaller c.loop-alloc.chunks c.pass.new.chunks (sym c.is_left.ensures ∙ c.loop-alloc-test.true) c.pass.ensures.next c.pass.ensures.count

pub run_chunks-loop-alloc-preserved : goal.run_chunks-loop-alloc-preserved
run_chunks-loop-alloc-preserved g t c =
    let own = declares c.args.body.now in
    let body = meaning c.args.layout.now c.args.body.now in
    let f = chunk_locals c.args.from c.args.to c.args.state.now.locals in
    let m = machine c.args.inputs.now c.loop-alloc.state c.loop-alloc.steps in
    let begun = machine c.args.inputs.now c.open.new.state c.loop-alloc.steps in
    let now = machine c.args.inputs.now c.run.new.state c.run.new.steps in
    let i = c.loop-alloc.invariant in
    let opens = c.in_ok-open.ensures.did c.args.inputs.now c.loop-alloc.steps ∙ ap (λ (l : List ℤ). opened own (chunk_locals c.args.from c.args.to l (next_ends c.loop-alloc.chunks)) m) c.in_ok-entry.ensures in
    let first = chunk_first own body f c.loop-alloc.chunks _ m begun (sym c.is_left.ensures ∙ c.loop-alloc-test.true) opens i.left in
    let said = at_answer c.args.budget (body begun) now _ _ c.in_ok-run.was c.run.ensures in
    record {
      left = chunk_left own body f c.loop-alloc.chunks c.pass.new.chunks _ (body begun) now first said.0 c.pass.ensures.next c.pass.ensures.lo c.pass.ensures.len c.pass.ensures.count;
      work = within_budget c.args.budget now _ said.0 said.1;
      cut = still_cut c.args.lo c.args.hi c.loop-alloc.chunks c.pass.new.chunks i.cut c.pass.ensures.lo c.pass.ensures.len c.pass.ensures.count;
    }

pub run_chunks-returns : goal.run_chunks-returns
run_chunks-returns g t c =
    let own = declares c.args.body.now in
    let body = meaning c.args.layout.now c.args.body.now in
    let f = chunk_locals c.args.from c.args.to c.args.state.now.locals in
    let m = machine c.args.inputs.now c.loop-alloc.state c.loop-alloc.steps in
    let runs = range_runs own body c.args.from c.args.to c.args.lo c.args.hi c.args.inputs.now c.args.state.now c.args.steps.now c.requires.regular in
    let i = c.loop-alloc.invariant in
    let over = chunk_over own body f c.loop-alloc.chunks _ m (sym c.is_left.ensures ∙ c.loop-alloc-test.false) i.left in
    let closes = c.close.ensures.did c.args.inputs.now c.loop-alloc.steps ∙ ap (λ (l : List ℤ). opened own l m) c.in_ok-entry.ensures in
    done c.args.budget _ _ (closes ∙ ap (opened own c.args.state.now.locals) over ∙ sym runs) (omega (arith, c.close.ensures.work, i.work))
