use Rattle.std.proofs.Common.{◌∙◌, sym, ap, subst}
use Rattle.std.proofs.lemmas.Result.{err_from_is_err_and}
use Rattle.fin_ast.specs.Dense.{State, Made}
use Rattle.fin_dense.specs.Fitting.{HaveHeaders, HasLarge, function_in}
use Rattle.fin_dense.specs.Plain.{AreStored, outputs_from}
use Rattle.fin_dense.specs.Runs.{setting_in, state_of}
use Rattle.fin_dense.proofs.Fitting.{have_headers}
use Rattle.fin_dense.proofs.Whole.{too_many, too_large, is_plain}
use Rattle.fin_dense.proofs.evaluate.evaluate.Goals as goal

pub returns-in_err-run-clause-over : goal.returns-in_err-run-clause-over
returns-in_err-run-clause-over c e =
    let p = err_from_is_err_and c.from_residual-in_err-run.result c.from_residual-in_err-run.ensures.1 in
    too_many c.args.checked.now c.args.inputs.now (setting_in c.in_ok-setting.setting) c.in_ok-setting.setting.checked.now c.in_ok-setting.ensures.same c.in_ok-setting.ensures.program
    (c.in_err-run.ensures.spent (cc (e, p.1, p.2)))

pub outputs-requires : goal.outputs-requires
outputs-requires c = record {
  headers =
      subst (HaveHeaders (setting_in c.in_ok-setting.setting)) (sym (c.as_slice.ensures.value ∙ ap (λ (s : State). s.made) c.in_ok-run.ensures.ok))
      (have_headers (setting_in c.in_ok-setting.setting) c.in_ok-setting.setting.checked.now);
}

pub returns-in_err-outputs-clause-over : goal.returns-in_err-outputs-clause-over
returns-in_err-outputs-clause-over c e =
    let p = err_from_is_err_and c.from_residual-in_err-outputs.result c.from_residual-in_err-outputs.ensures.1 in
    let w = setting_in c.in_ok-setting.setting in
    too_large c.args.checked.now c.args.inputs.now w c.in_ok-setting.setting.checked.now c.in_ok-setting.ensures.same c.in_ok-setting.ensures.program (state_of c.in_ok-run.run') c.in_ok-run.ensures.ok
    (subst (λ (made : Made). HasLarge (function_in w made) c.in_ok-setting.setting.checked.now.program.headers) c.as_slice.ensures.value (c.in_err-outputs.ensures.large (cc (e, p.1, p.2))))

pub returns-clause-plain : goal.returns-clause-plain
returns-clause-plain c =
    let w = setting_in c.in_ok-setting.setting in
    is_plain c.args.checked.now c.args.inputs.now w c.in_ok-setting.setting.checked.now c.in_ok-setting.ensures.same c.in_ok-setting.ensures.program (state_of c.in_ok-run.run') c.in_ok-run.ensures.ok c.in_ok-outputs.outputs c.in_ok-run.ensures.few
    (subst (λ (made : Made). AreStored (function_in w made) (outputs_from 0 c.in_ok-setting.setting.checked.now.program.headers) c.in_ok-outputs.outputs.tensors) c.as_slice.ensures.value c.in_ok-outputs.ensures.stored)
