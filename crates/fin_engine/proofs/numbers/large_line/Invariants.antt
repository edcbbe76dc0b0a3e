use Rattle.std.proofs.Common.{◌≡◌, false, drop}
use Rattle.fin_engine.specs.Numbers.{large_line}
use Rattle.fin_engine.proofs.numbers.large_line.Given as goal

abbrev pub invariant-loop-token : goal.invariant-loop-token
invariant-loop-token l = large_line l.inside l.expects (drop l.token-index l.tokens) ≡ large_line false false l.tokens
