use Rattle.std.proofs.Common.{◌≡◌, drop}
use Rattle.fin_parse.specs.Names.{bound_named}
use Rattle.fin_parse.proofs.names.bound_named.Given as goal

abbrev pub invariant-loop-variable : goal.invariant-loop-variable
invariant-loop-variable l = bound_named l.text (drop l.variable-index l.bound) l.name ≡ bound_named l.text l.bound l.name
