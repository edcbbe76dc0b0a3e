use Rattle.std.proofs.Common.{◌≡◌, drop}
use Rattle.fin_ast.specs.Sizes.{first_of, large_in_header}
use Rattle.fin_dims.proofs.large.large_in_headers.Given as goal

abbrev pub invariant-loop-header : goal.invariant-loop-header
invariant-loop-header l = first_of large_in_header (drop l.header-index l.headers) ≡ first_of large_in_header l.headers
