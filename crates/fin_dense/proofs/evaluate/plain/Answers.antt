use Rattle.std.proofs.lemmas.Result.{err_from_is_err_and}
use Rattle.fin_dense.proofs.Whole.{stops}
use Rattle.fin_dense.proofs.evaluate.plain.Goals as goal

pub returns-in_err-outputs : goal.returns-in_err-outputs
returns-in_err-outputs c =
    let p = err_from_is_err_and c.from_residual.result c.from_residual.ensures.1 in
    record { plains = stops c.args.checked.now c.args.inputs.now c.in_err-outputs.field-0.0 p.0 c.from_residual.result (λ e. c.in_err-outputs.ensures.over (cc e)) p.1 p.2 }
