use Rattle.std.proofs.Common.{◌≡◌, take}
use Rattle.fin_text.proofs.names.name_from.Given as goal

abbrev pub invariant-loop-byte : goal.invariant-loop-byte
invariant-loop-byte l = l.name ≡ take l.byte-index l.bytes
