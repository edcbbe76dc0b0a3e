-- The walk along an expression that may name a variable.
use Rattle.std.proofs.Common.{◌*◌, ◌+◌, length}
use Rattle.fin_ast.specs.Spine.{expr_of, nodes_of}
use Rattle.fin_ast.proofs.Spines.{IsUp}
use Rattle.fin_stmts.proofs.Naming.{Names}
use Rattle.fin_stmts.proofs.names.+naming.Given as goal

abbrev pub invariant-names-loop-op : goal.invariant-names-loop-op
invariant-names-loop-op l = IsUp l.e l.sides.items (Names l.named l.fn.var)

abbrev pub decreases-names-loop-op : goal.decreases-names-loop-op
decreases-names-loop-op l = length l.sides.items

abbrev pub decreases-names : goal.decreases-names
decreases-names l = 2 * nodes_of l.e.now + 1

abbrev pub decreases-head_names : goal.decreases-head_names
decreases-head_names l = 2 * nodes_of (expr_of l.head)
