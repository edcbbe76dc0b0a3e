use Rattle.std.proofs.Common.{◌≡◌, map, drop}
use Rattle.fin_parse.specs.HeaderNames.{header_breaches, tensors_of}
use Rattle.fin_parse.specs.Leaves.{header_of}
use Rattle.fin_parse.specs.Names.{first_of}
use Rattle.fin_parse.proofs.headers.check_headers.Given as goal

abbrev pub invariant-loop-header : goal.invariant-loop-header
invariant-loop-header l = record {
  first : first_of (header_breaches l.text l.tensors.items (drop l.header-index (map header_of l.headers))) ≡ first_of (header_breaches l.text l.fn.tensors.items (map header_of l.headers));
  tensors : tensors_of l.tensors.items (drop l.header-index (map header_of l.headers)) ≡ tensors_of l.fn.tensors.items (map header_of l.headers);
}
