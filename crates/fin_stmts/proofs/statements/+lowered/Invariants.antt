-- What the statements weigh that are left to lower, and what the codes are of those so far.
use Rattle.std.proofs.Common.{◌+◌, ◌*◌, drop, take}
use Rattle.fin_simp.specs.Numbered.{here_at}
use Rattle.fin_perform.proofs.Weights.{weight, weights}
use Rattle.fin_stmts.specs.Leaves.{LeavesLower}
use Rattle.fin_stmts.specs.Places.{context_of, here_of}
use Rattle.fin_stmts.specs.Sites.{loop_of}
use Rattle.fin_stmts.proofs.Sequences.{Going}
use Rattle.fin_stmts.proofs.statements.+lowered.Given as goal

abbrev pub decreases-lower_all : goal.decreases-lower_all
decreases-lower_all l = 16 * weights l.body.now + 2

abbrev pub decreases-lower_one : goal.decreases-lower_one
decreases-lower_one l = 16 * weight l.statement.now + 1

abbrev pub decreases-lower_some : goal.decreases-lower_some
decreases-lower_some l = 16 * weight l.statement.now

abbrev pub decreases-lower_cond : goal.decreases-lower_cond
decreases-lower_cond l = 16 * weights l.body.now + 3

abbrev pub decreases-lower_let : goal.decreases-lower_let
decreases-lower_let l = 16 * weights l.body.now + 3

abbrev pub decreases-lower_loop : goal.decreases-lower_loop
decreases-lower_loop l = 16 * weights l.one.now.body.now + 12

abbrev pub decreases-lower_site : goal.decreases-lower_site
decreases-lower_site l = 16 * weights l.site.now.one.body.now + 11

abbrev pub decreases-lower_entered : goal.decreases-lower_entered
decreases-lower_entered l = 16 * weights l.site.now.one.body.now + 10

abbrev pub decreases-lower_behind : goal.decreases-lower_behind
decreases-lower_behind l = 16 * weights l.site.now.one.body.now + 9

abbrev pub decreases-lower_nest : goal.decreases-lower_nest
decreases-lower_nest l = 16 * weights l.asks.now.site.one.body.now + 8

abbrev pub decreases-lower_flat : goal.decreases-lower_flat
decreases-lower_flat l = 16 * weights l.asks.now.site.one.body.now + 7

abbrev pub decreases-lower_frame : goal.decreases-lower_frame
decreases-lower_frame l = 16 * weights l.asks.now.site.one.body.now + 6

abbrev pub decreases-lower_leaves : goal.decreases-lower_leaves
decreases-lower_leaves l = 16 * weights l.asks.now.site.one.body.now + 5

abbrev pub decreases-lower_leaf : goal.decreases-lower_leaf
decreases-lower_leaf l = 16 * weights l.asks.now.site.one.body.now + 4

abbrev pub decreases-lower_point : goal.decreases-lower_point
decreases-lower_point l = 16 * weights l.asks.now.site.one.body.now + 3

abbrev pub invariant-lower_all-loop-statement : goal.invariant-lower_all-loop-statement
invariant-lower_all-loop-statement l =
    Going l.checked l.place.next (context_of l.place) l.body (here_of l.place) (drop l.statement-index l.body) (here_at l.read l.test) l.codes l.room

abbrev pub invariant-lower_leaves-loop-leaf : goal.invariant-lower_leaves-loop-leaf
invariant-lower_leaves-loop-leaf l =
    LeavesLower (loop_of l.asks.site) (take l.leaf-index l.leaves) (record { codes = l.codes; room = l.room })
