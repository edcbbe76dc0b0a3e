use Rattle.std.proofs.Common.{◌≡◌}
use Rattle.std.proofs.lemmas.Result.{IfOk-weaker}
use Rattle.fin_ir.specs.declared.code.Code.{Code}
use Rattle.fin_nest.specs.Frames.{fill}
use Rattle.fin_nest.proofs.Filling.{filled_whole}
use Rattle.fin_nest.proofs.frames.fill.Goals as goal

pub returns : goal.returns
returns c =
    IfOk-weaker c.fill_one.result _ (λ (x : Code). x ≡ fill c.args.frame.now c.args.codes) (λ x e. filled_whole c.args.frame.now x c.args.codes c.in_ok-left.left _ c.in_ok-left.ensures e) c.fill_one.ensures
