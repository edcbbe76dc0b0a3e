use Rattle.std.proofs.Common.{◌∙◌, ◌≢◌, ◌-◌, drop, length, take, codes, rules}
use Rattle.std.proofs.lemmas.List.{take_rest}
use Rattle.fin_engine.proofs.Cutting.{endless}
use Rattle.fin_engine.proofs.cut.cut_at_end.Goals as goal

pub returns-else-eq-clause-parts : goal.returns-else-eq-clause-parts
returns-else-eq-clause-parts c =
    let text = c.args.text.now in
    let unlike : take (length text - c.args.at) (drop c.args.at text) ≢ codes "%%" = search rules in
    let other : drop c.args.at text ≢ codes "%%" = λ e. unlike (take_rest text c.args.at ∙ e) in
    endless c.args.text.now c.args.at c.args.last c.requires.reached c.requires.ended other
