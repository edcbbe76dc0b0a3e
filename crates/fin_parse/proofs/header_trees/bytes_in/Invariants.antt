use Rattle.std.proofs.Common.{◌≡◌, ◌++◌, length}
use Rattle.fin_parse.proofs.header_trees.bytes_in.Given as goal

abbrev pub invariant-loop-bytes : goal.invariant-loop-bytes
invariant-loop-bytes l = l.name ++ l.bytes ≡ l.initial.bytes

abbrev pub decreases-loop-bytes : goal.decreases-loop-bytes
decreases-loop-bytes l = length l.bytes
