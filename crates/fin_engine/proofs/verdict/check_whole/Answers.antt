use Rattle.std.proofs.Common.{◌≡◌, None, Some}
use Rattle.std.specs.Prelude.{Err}
use Rattle.fin_base.specs.declared.refusal.Fail.{Fail}
use Rattle.fin_base.specs.declared.refusal.Fail.TheVariants.{Memory, Refused}
use Rattle.fin_ast.specs.declared.checked.Dims.{Dims}
use Rattle.fin_ast.specs.declared.program.Program.{Program}
use Rattle.fin_ast.specs.Infer.{IsInferred}
use Rattle.fin_ast.specs.Life.{life_in}
use Rattle.fin_ast.specs.Order.{order_in}
use Rattle.fin_ast.specs.Ties.{Shapes}
use Rattle.fin_parcheck.specs.Safety.{IfRefused, parallel_in}
use Rattle.fin_engine.specs.Verdict.{BreaksWhole, ChecksWhole}
use Rattle.fin_engine.proofs.verdict.check_whole.Goals as goal

-- a program that isn't safe
unsafe : (whole : Program) (shapes : Shapes) (dims : Dims) (fail : Fail) → life_in whole ≡ None → IsInferred whole shapes dims → order_in whole ≡ None
    → IfRefused fail (λ r. parallel_in whole ≡ Some r) → ChecksWhole whole shapes (Err fail)
unsafe whole shapes dims (Refused r) life found order broken = BreaksWhole.parallel dims life found order broken
unsafe whole shapes dims (Memory e) life found order broken = tt

pub returns-in-Err-check_order : goal.returns-in-Err-check_order
returns-in-Err-check_order c = record { verdict = BreaksWhole.order c.in_ok-dims.dims c.in_default.ensures.kept c.in_ok-dims.ensures.numbers c.in-Err-check_order.ensures.refused }

pub returns-in-Err-ways : goal.returns-in-Err-ways
returns-in-Err-ways c = record { verdict = unsafe c.args.whole.now c.args.shapes.now c.in_ok-dims.dims c.in-Err-ways.fail c.in_default.ensures.kept c.in_ok-dims.ensures.numbers c.in_default-check_order.ensures.kept c.in-Err-ways.ensures.refused }
