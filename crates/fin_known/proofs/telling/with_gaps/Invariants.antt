use Rattle.std.proofs.Common.{◌≡◌, ◌++◌, drop}
use Rattle.fin_known.specs.Telling.{fill_at, gaps_told}
use Rattle.fin_known.proofs.telling.with_gaps.Given as goal

abbrev pub invariant-loop-read : goal.invariant-loop-read
invariant-loop-read l =
    l.all.items ++ gaps_told (fill_at l.drives l.reads) (drop l.read-index l.reads) ≡ l.around ++ gaps_told (fill_at l.drives l.reads) l.reads
