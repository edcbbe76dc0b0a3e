use Rattle.std.proofs.Common.{List, map, sym, ap, ◌∙◌}
use Rattle.fin_ir.specs.declared.code.Code.TheVariants as code
use Rattle.fin_ir.specs.declared.expression.IExpr.{IExpr}
use Rattle.fin_ir.specs.Machine.{update}
use Rattle.fin_ir.specs.Value.{value_in}
use Rattle.fin_ir.proofs.Codes.{meaning_declare, meaning_update, meaning_freeze, meaning_thaw}
use Rattle.fin_code_test.proofs.Asking.{asks_nothing_keeps}
use Rattle.fin_run.specs.States.{machine}
use Rattle.fin_run.specs.Storages.{storage_in}
use Rattle.fin_run.proofs.Running.{leaf_arm, regular_as}
use Rattle.fin_code_test.proofs.Trying.{declare_regular, update_regular, freeze_regular, thaw_regular, no_indices}
use Rattle.fin_code_test.proofs.regularity.is_regular.Goals as goal

pub returns-in-Declare : goal.returns-in-Declare
returns-in-Declare c = λ t.
    let m = machine c.args.inputs.now c.args.state.now 0 in
    let arm = leaf_arm c.args.layout.now c.args.code.now m (code.Declare c.in-Declare.tensor) _ c.in-Declare.is (meaning_declare c.args.layout.now c.in-Declare.tensor m) in
    regular_as _ _ (sym arm) (declare_regular c.args.inputs.now c.args.state.now c.args.layout.now c.in-Declare.tensor (c.can_declare.ensures t))

pub returns-then-len-eq0 : goal.returns-then-len-eq0
returns-then-len-eq0 c = λ t.
    let m = machine c.args.inputs.now c.args.state.now 0 in
    let none = no_indices c.in-Update.at (sym c.len.ensures ∙ c.if-len-eq0.true) in
    let arm = leaf_arm c.args.layout.now c.args.code.now m (code.Update c.in-Update.tensor c.in-Update.at c.in-Update.by c.in-Update.value) _ c.in-Update.is (meaning_update c.args.layout.now c.in-Update.tensor c.in-Update.at c.in-Update.by c.in-Update.value m) in
    let same = ap (λ (xs : List IExpr). update c.in-Update.tensor (map (value_in m) xs) c.in-Update.by (value_in m c.in-Update.value) m) (sym none) ∙ arm in
    let q = c.can_update.ensures t in
    regular_as _ _ (sym same) (update_regular c.args.inputs.now c.args.state.now c.in-Update.tensor c.in-Update.by (value_in m c.in-Update.value) q.0 q.1 q.2)

pub returns-in-Freeze : goal.returns-in-Freeze
returns-in-Freeze c = λ t.
    let m = machine c.args.inputs.now c.args.state.now 0 in
    let arm = leaf_arm c.args.layout.now c.args.code.now m (code.Freeze c.in-Freeze.tensor) _ c.in-Freeze.is (meaning_freeze c.args.layout.now c.in-Freeze.tensor m) in
    let q = c.is_built.ensures t in
    regular_as _ _ (sym arm) (freeze_regular c.args.inputs.now c.args.state.now c.in-Freeze.tensor q.0 q.1)

pub returns-in-Some : goal.returns-in-Some
returns-in-Some c = λ t.
    let m = machine c.args.inputs.now c.args.state.now 0 in
    let arm = leaf_arm c.args.layout.now c.args.code.now m (code.Thaw c.in-Thaw.tensor) _ c.in-Thaw.is (meaning_thaw c.args.layout.now c.in-Thaw.tensor m) in
    let found = sym c.in-Some.ensures in
    regular_as _ _ (sym arm) (thaw_regular c.args.inputs.now c.args.state.now c.args.layout.now c.in-Thaw.tensor c.in-Some.field-0.now (sym c.is_made.ensures ∙ t) (ap (λ hs. storage_in c.args.inputs.now hs c.in-Thaw.tensor) (sym c.as_slice.ensures.value) ∙ found))

pub returns-in_default : goal.returns-in_default
returns-in_default c = λ t.
    asks_nothing_keeps c.args.layout.now c.args.code.now (sym c.asks_nothing.ensures ∙ t) (machine c.args.inputs.now c.args.state.now 0)
