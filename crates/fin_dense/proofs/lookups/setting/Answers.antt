use Rattle.std.proofs.Common.{◌∙◌, ap, List, map}
use Rattle.fin_ast.specs.declared.header.Header.{Header}
use Rattle.fin_ast.specs.Dense as dense
use Rattle.fin_dense.specs.Inputs.{numbered, found}
use Rattle.fin_dense.proofs.Inputs.{by_numbers}
use Rattle.fin_dense.proofs.lookups.setting.Goals as goal

pub returns-clause-same : goal.returns-clause-same
returns-clause-same c =
    ap (λ (given : dense.Made). record { headers = c.args.checked.now.program.headers; dims = c.args.checked.now.dims; given = given })
    (ap (map (found c.args.inputs.now)) c.in_ok-numbers.ensures
    ∙ ap (λ (hs : List Header). map (found c.args.inputs.now) (numbered 0 hs)) c.as_slice.ensures
    ∙ by_numbers c.args.checked.now.program.headers 0 c.args.inputs.now)
