use Rattle.std.proofs.Common.{◌≡◌, drop}
use Rattle.fin_ast.specs.Sizes.{first_of}
use Rattle.fin_engine.specs.Inputs.{lacking}
use Rattle.fin_engine.proofs.inputs.first_lacking.Given as goal

abbrev pub invariant-loop-header : goal.invariant-loop-header
invariant-loop-header l = first_of (lacking l.given.entries) (drop l.header-index l.headers) ≡ first_of (lacking l.given.entries) l.headers
