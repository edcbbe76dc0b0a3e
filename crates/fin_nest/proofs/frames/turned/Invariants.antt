use Rattle.std.proofs.Common.{◌≡◌, ◌++◌, reverse, length}
use Rattle.fin_nest.proofs.frames.turned.Given as goal

abbrev pub invariant-loop-code : goal.invariant-loop-code
invariant-loop-code l = l.all ++ reverse l.codes ≡ reverse l.initial.codes

abbrev pub decreases-loop-code : goal.decreases-loop-code
decreases-loop-code l = length l.codes
