use Rattle.std.proofs.Common.{◌≡◌, drop, map}
use Rattle.std.specs.List.{list_all}
use Rattle.fin_code_test.specs.Asking.{asks_nothing}
use Rattle.fin_code_test.proofs.regularity.+asking.Given as goal

abbrev pub invariant-all_ask_nothing-loop-code : goal.invariant-all_ask_nothing-loop-code
invariant-all_ask_nothing-loop-code l = list_all (λ b. b) (map asks_nothing l.all) ≡ list_all (λ b. b) (map asks_nothing (drop l.code-index l.all))
