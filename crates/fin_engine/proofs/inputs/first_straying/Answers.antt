use Rattle.std.proofs.Common.{◌+◌, ap, sym, ◌∙◌, drop}
use Rattle.std.specs.Option.{option_or}
use Rattle.fin_ast.specs.Sizes.{first_of}
use Rattle.fin_engine.specs.Inputs.{straying}
use Rattle.fin_engine.proofs.Strays.{at_place, first_one, none_there}
use Rattle.fin_engine.proofs.inputs.first_straying.Goals as goal

pub returns-then-is_some : goal.returns-then-is_some
returns-then-is_some c =
    let headers = c.args.headers.now in let given = c.args.given.now.entries in let at = c.loop-place.place in
    let rest = first_of (straying headers) (drop (at + 1) given) in
    record { first = sym (first_one c.straying_at-found.result rest c.if-is_some.ensures) ∙ ap (λ o. option_or o rest) c.straying_at-found.ensures.breach ∙ sym (at_place headers given at) ∙ c.loop-place.invariant }

pub loop-place-preserved : goal.loop-place-preserved
loop-place-preserved c =
    let headers = c.args.headers.now in let given = c.args.given.now.entries in let at = c.loop-place.place in
    let rest = first_of (straying headers) (drop (at + 1) given) in
    sym (none_there c.straying_at-found.result rest c.if-is_some.ensures) ∙ ap (λ o. option_or o rest) c.straying_at-found.ensures.breach ∙ sym (at_place headers given at) ∙ c.loop-place.invariant
