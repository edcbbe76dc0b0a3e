use Rattle.std.proofs.Common.{◌≡◌, drop}
use Rattle.fin_parse.specs.Fills.{fill_named}
use Rattle.fin_parse.proofs.fills.fill_named.Given as goal

abbrev pub invariant-loop-fill : goal.invariant-loop-fill
invariant-loop-fill l = fill_named l.text (drop l.fill-index l.known) l.name ≡ fill_named l.text l.known l.name
