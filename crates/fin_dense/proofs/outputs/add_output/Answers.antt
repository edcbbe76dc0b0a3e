use Rattle.std.proofs.Common.{◌∙◌, sym, subst}
use Rattle.std.proofs.lemmas.Result.{err_from_is_err_and}
use Rattle.fin_dense.specs.Fitting.{Adds, function_in}
use Rattle.fin_dense.specs.Runs.{setting_in}
use Rattle.fin_dense.proofs.Storing.{adds_none, adds_one, has_large}
use Rattle.fin_dense.proofs.outputs.add_output.Goals as goal

pub returns-then-not-is_output-clause-added : goal.returns-then-not-is_output-clause-added
returns-then-not-is_output-clause-added c = adds_none (function_in (setting_in c.args.setting.now) c.args.made.now) c.args.tensor c.args.header.now c.args.into.now (sym c.is_output.ensures ∙ c.if-not-is_output.true)

pub returns-in_err-storage-clause-large : goal.returns-in_err-storage-clause-large
returns-in_err-storage-clause-large c e =
    let p = err_from_is_err_and c.from_residual.result c.from_residual.ensures.1 in
    has_large (function_in (setting_in c.args.setting.now) c.args.made.now) c.args.setting.now.checked.now.program.headers c.args.tensor c.args.header.now c.requires.header (sym c.is_output.ensures ∙ c.if-not-is_output.false)
    (c.in_err-storage.ensures.large (cc (e, p.1, p.2)))

pub returns-clause-added : goal.returns-clause-added
returns-clause-added c =
    let f = function_in (setting_in c.args.setting.now) c.args.made.now in
    subst (Adds f c.args.tensor c.args.header.now c.args.into.now) (sym c.in_ok-push.ensures.ok)
    (adds_one f c.args.tensor c.args.header.now c.args.into.now c.in_ok-storage.storage (sym c.is_output.ensures ∙ c.if-not-is_output.false) c.in_ok-storage.ensures.canon)
