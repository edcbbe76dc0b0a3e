use Rattle.std.proofs.Common.{map, take}
use Rattle.fin_parse.specs.Leaves.{header_of}
use Rattle.fin_parse.specs.HeaderTrees.{AreHeadersOf}
use Rattle.fin_parse.proofs.header_trees.headers.Given as goal

abbrev pub invariant-loop-tree : goal.invariant-loop-tree
invariant-loop-tree l = AreHeadersOf l.text (map header_of (take l.tree-index l.tree-items)) l.headers
