use Rattle.std.proofs.Common.{◌≡◌, ◌++◌, drop}
use Rattle.fin_engine.specs.Inputs.{inputs_of}
use Rattle.fin_engine.proofs.inputs.inputs_of.Given as goal

abbrev pub invariant-loop-header : goal.invariant-loop-header
invariant-loop-header l = l.storages ++ inputs_of (drop l.header-index l.headers) l.given.entries ≡ inputs_of l.headers l.given.entries
