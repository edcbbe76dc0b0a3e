use Rattle.std.proofs.Common.{◌≡◌, drop}
use Rattle.std.specs.List.{find}
use Rattle.fin_parse.specs.Names.{is_same}
use Rattle.fin_parse.specs.declared.naming.Variable.{Variable}
use Rattle.fin_parse.proofs.naming.variable_named.Given as goal

abbrev pub invariant-loop-variable : goal.invariant-loop-variable
invariant-loop-variable l = find (λ (v : Variable). is_same l.text v.name l.name) (drop l.variable-index l.bound) ≡ find (λ (v : Variable). is_same l.text v.name l.name) l.bound
