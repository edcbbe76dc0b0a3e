use Rattle.std.proofs.Common.{◌≡◌, map, take}
use Rattle.fin_core.specs.Cores.{meant}
use Rattle.fin_events.specs.Chunks.{list_of}
use Rattle.fin_events.proofs.chunks.list.Given as goal

-- the addends that were looked at are listed
abbrev pub invariant-loop-addend : goal.invariant-loop-addend
invariant-loop-addend l = map meant l.list.items ≡ list_of (take l.addend-index l.chunk)
