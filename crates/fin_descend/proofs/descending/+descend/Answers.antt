use Rattle.std.proofs.Common.{arith}
use Rattle.fin_descend.proofs.Cycle.{nothing_returned, parts_called, open_returned, parts_returned, each_called, each_preserved, each_returned}
use Rattle.fin_descend.proofs.descending.+descend.Goals as goal

pub descend-returns-in-Nothing : goal.descend-returns-in-Nothing
descend-returns-in-Nothing g t c =
    nothing_returned (g.B.Bodies.stands c.args.bodies.now) c.args.nest.now _ c.nothing.result c.in_ok-ask.ensures c.in-Nothing.is c.nothing.ensures.code

pub descend_open-descend_split-requires : goal.descend_open-descend_split-requires
descend_open-descend_split-requires g t c κs within =
    let comes = g.B.Bodies.comes c.args.bodies.now in
    let called = parts_called c.args.nest.now c.in_ok-split.split c.weighs_nothing.result c.weighs_nothing.ensures.weightless c.if-weighs_nothing.false comes
    (g.met.B.Bodies.parts_come c.args.bodies.now) c.in_ok-split.ensures.lighter c.in_ok-split.ensures.parts c.requires.comes in
    (omega (arith, called.0, c.decreases), (within, called.1))

pub descend_open-returns : goal.descend_open-returns
descend_open-returns g t c =
    open_returned c.args.nest.now c.in_ok-split.split c.weighs_nothing.result c.weighs_nothing.ensures.weightless c.if-weighs_nothing.false
    (g.B.Bodies.stands c.args.bodies.now) c.descend_split.result c.requires.may_step c.in_ok-split.ensures.divides c.in_ok-split.ensures.separate
    c.descend_split.ensures.joins c.descend_split.ensures.room

pub descend_parts-returns-clause-joins : goal.descend_parts-returns-clause-joins
descend_parts-returns-clause-joins g t c =
    let each = c.in_ok-each.each in
    parts_returned (g.B.Bodies.stands c.args.bodies.now) c.args.split.now _ each.codes each.room c.greater-room.result c.filled.result c.in_ok-each.ensures
    c.as_slice.ensures c.greater-room.ensures.second c.filled.ensures.code c.filled.ensures.room

pub descend_each-descend-requires : goal.descend_each-descend-requires
descend_each-descend-requires g t c κs within =
    let called = each_called (g.B.Bodies.comes c.args.bodies.now) c.args.nests.now c.loop-nest.nest-index c.nest-item.result c.loop-nest-test.true c.nest-item.is
    c.requires in
    (omega (arith, called.0, c.decreases), (within, called.1))

pub descend_each-loop-nest-preserved : goal.descend_each-loop-nest-preserved
descend_each-loop-nest-preserved g t c =
    each_preserved (g.B.Bodies.stands c.args.bodies.now) c.args.nests.now c.loop-nest.nest-index c.nest-item.result c.in_ok-lowered.lowered c.loop-nest.codes _
    c.loop-nest.room c.greater-room.result c.loop-nest-test.true c.nest-item.is c.loop-nest.invariant c.in_ok-lowered.ensures c.in_ok-push.ensures.ok
    c.greater-room.ensures.first c.greater-room.ensures.second

pub descend_each-returns : goal.descend_each-returns
descend_each-returns g t c =
    each_returned (g.B.Bodies.stands c.args.bodies.now) c.args.nests.now c.loop-nest.nest-index c.loop-nest.codes c.loop-nest.room c.loop-nest-test.false
    c.loop-nest.invariant
