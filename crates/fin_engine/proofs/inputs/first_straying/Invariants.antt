use Rattle.std.proofs.Common.{◌≡◌, drop}
use Rattle.fin_ast.specs.Sizes.{first_of}
use Rattle.fin_engine.specs.Inputs.{straying}
use Rattle.fin_engine.proofs.inputs.first_straying.Given as goal

abbrev pub invariant-loop-place : goal.invariant-loop-place
invariant-loop-place l = first_of (straying l.headers) (drop l.place l.given.entries) ≡ first_of (straying l.headers) l.given.entries
