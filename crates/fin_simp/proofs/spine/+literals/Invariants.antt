use Rattle.std.proofs.Common.{◌*◌, ◌+◌, length}
use Rattle.fin_ast.specs.Spine.{expr_of, nodes_of}
use Rattle.fin_ast.proofs.Spines.{IsUp}
use Rattle.fin_simp.specs.Facts.{marks_of}
use Rattle.fin_simp.proofs.Sides.{IsFound}
use Rattle.fin_simp.proofs.spine.+literals.Given as goal

abbrev pub invariant-literal-loop-op : goal.invariant-literal-loop-op
invariant-literal-loop-op l = IsUp l.e l.sides.items (IsFound l.value.literal l.value.next l.fn.next (marks_of l.facts.gaps.now l.facts.known.now l.facts.bound.now))

abbrev pub decreases-literal-loop-op : goal.decreases-literal-loop-op
decreases-literal-loop-op l = length l.sides.items

abbrev pub decreases-literal : goal.decreases-literal
decreases-literal l = 2 * nodes_of l.e.now + 1

abbrev pub decreases-head_literal : goal.decreases-head_literal
decreases-head_literal l = 2 * nodes_of (expr_of l.head)
