use Rattle.std.proofs.Common.{◌≡◌, drop}
use Rattle.std.specs.List.{list_any}
use Rattle.fin_engine.specs.Inputs.{is_header_of}
use Rattle.fin_engine.proofs.inputs.has_header.Given as goal

abbrev pub invariant-loop-header : goal.invariant-loop-header
invariant-loop-header l = list_any (is_header_of (l.name, l.tensor)) (drop l.header-index l.headers) ≡ list_any (is_header_of (l.name, l.tensor)) l.headers
