use Rattle.std.proofs.Common.{◌≡◌, ◌++◌, length}
use Rattle.fin_parse.specs.HeaderTrees.{numbers_in}
use Rattle.fin_parse.proofs.header_trees.numbers_in.Given as goal

abbrev pub invariant-loop-tokens : goal.invariant-loop-tokens
invariant-loop-tokens l = l.numbers ++ numbers_in l.tokens ≡ numbers_in l.initial.tokens

abbrev pub decreases-loop-tokens : goal.decreases-loop-tokens
decreases-loop-tokens l = length l.tokens
