use Rattle.std.proofs.Common.{◌≡◌, ◌++◌, take}
use Rattle.fin_enter.specs.Charges.{entry_codes}
use Rattle.fin_enter.proofs.entry.push_charges.Given as goal

abbrev pub invariant-loop-length : goal.invariant-loop-length
invariant-loop-length l = l.into ≡ l.fn.into ++ entry_codes l.known (take l.length-index l.lengths)
