use Rattle.std.proofs.Common.{◌≡◌, ◌++◌, drop}
use Rattle.fin_engine.specs.Inputs.{shapes_of}
use Rattle.fin_engine.proofs.inputs.shapes_of.Given as goal

abbrev pub invariant-loop-header : goal.invariant-loop-header
invariant-loop-header l = l.shapes.items ++ shapes_of (drop l.header-index l.headers) l.given.entries ≡ shapes_of l.headers l.given.entries
