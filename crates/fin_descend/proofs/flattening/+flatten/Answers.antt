use Rattle.std.proofs.Common.{◌∙◌, sym, arith}
use Rattle.fin_descend.proofs.Cycle.{parts_called, each_called}
use Rattle.fin_descend.proofs.Flats.{nothing_flattened, void_flattened, fixed_flattened, point_flattened, split_fits, open_flattened, parts_flattened, none_flattened, each_flattened, all_flattened}
use Rattle.fin_descend.proofs.flattening.+flatten.Goals as goal

pub flatten-returns-then-is_void : goal.flatten-returns-then-is_void
flatten-returns-then-is_void g t c =
    void_flattened (g.A.Asks.stands c.args.asks.now) (g.A.Asks.comes c.args.asks.now) (g.A.Asks.fixed c.args.asks.now) c.args.nest.now c.one_leaf.result
    (sym c.is_void.ensures ∙ c.if-is_void.true) c.one_leaf.ensures

pub flatten-returns-in-Nothing : goal.flatten-returns-in-Nothing
flatten-returns-in-Nothing g t c =
    nothing_flattened (g.A.Asks.stands c.args.asks.now) (g.A.Asks.comes c.args.asks.now) (g.A.Asks.fixed c.args.asks.now) c.args.nest.now c.one_leaf-in-Nothing.result _ c.in_ok-ask.ensures
    c.in-Nothing.is c.one_leaf-in-Nothing.ensures

pub flatten-returns-in-Fixed : goal.flatten-returns-in-Fixed
flatten-returns-in-Fixed g t c =
    fixed_flattened (g.A.Asks.stands c.args.asks.now) (g.A.Asks.comes c.args.asks.now) (g.A.Asks.fixed c.args.asks.now) c.args.nest.now c.fixed_leaf.result _ c.requires
    c.in_ok-ask.ensures c.in-Fixed.is c.fixed_leaf.ensures

pub flatten_open-returns-then-weighs_nothing : goal.flatten_open-returns-then-weighs_nothing
flatten_open-returns-then-weighs_nothing g t c =
    point_flattened (g.A.Asks.stands c.args.asks.now) (g.A.Asks.comes c.args.asks.now) (g.A.Asks.fixed c.args.asks.now) c.args.nest.now c.point_leaf.result c.requires.comes
    (c.weighs_nothing.ensures.exactly.0 c.if-weighs_nothing.true) c.point_leaf.ensures

pub flatten_open-flatten_split-requires : goal.flatten_open-flatten_split-requires
flatten_open-flatten_split-requires g t c κs within =
    let comes = g.A.Asks.comes c.args.asks.now in
    let called = parts_called c.args.nest.now c.in_ok-split.split c.weighs_nothing.result c.weighs_nothing.ensures.weightless c.if-weighs_nothing.false comes
    (g.met.A.Asks.parts_come c.args.asks.now) c.in_ok-split.ensures.lighter c.in_ok-split.ensures.parts c.requires.comes in
    let fits = split_fits c.args.nest.now c.in_ok-split.split c.in_ok-split.ensures.frame c.in_ok-split.ensures.parts in
    (omega (arith, called.0, c.decreases), (within, (called.1, fits)))

pub flatten_open-returns : goal.flatten_open-returns
flatten_open-returns g t c =
    open_flattened (g.A.Asks.stands c.args.asks.now) (g.A.Asks.comes c.args.asks.now) (g.A.Asks.fixed c.args.asks.now) c.args.nest.now c.in_ok-split.split c.weighs_nothing.result
    c.flatten_split.result c.weighs_nothing.ensures.weightless c.if-weighs_nothing.false c.requires.may_step c.in_ok-split.ensures.divides
    c.in_ok-split.ensures.separate c.in_ok-split.ensures.frame c.in_ok-split.ensures.parts c.in_ok-split.ensures.room c.flatten_split.ensures

pub flatten_parts-returns : goal.flatten_parts-returns
flatten_parts-returns g t c =
    let each = c.in_ok-each.each in
    parts_flattened (g.A.Asks.stands c.args.asks.now) (g.A.Asks.comes c.args.asks.now) (g.A.Asks.fixed c.args.asks.now) c.args.split.now _ each.frames each.leaves each.room
    c.greater-room.result c.framed.result c.in_ok-each.ensures c.as_slice.ensures c.requires.fits c.greater-room.ensures.first
    c.greater-room.ensures.second c.framed.ensures.frame c.framed.ensures.leaves c.framed.ensures.room

pub flatten_each-flatten-requires : goal.flatten_each-flatten-requires
flatten_each-flatten-requires g t c κs within =
    let called = each_called (g.A.Asks.comes c.args.asks.now) c.args.nests.now c.loop-nest.nest-index c.nest-item.result c.loop-nest-test.true c.nest-item.is
    c.requires in
    (omega (arith, called.0, c.decreases), (within, called.1))

pub flatten_each-loop-nest-init : goal.flatten_each-loop-nest-init
flatten_each-loop-nest-init g t c =
    none_flattened (g.A.Asks.stands c.args.asks.now) (g.A.Asks.comes c.args.asks.now) (g.A.Asks.fixed c.args.asks.now) _ _ c.new-frames.ensures c.new-leaves.ensures

pub flatten_each-loop-nest-preserved : goal.flatten_each-loop-nest-preserved
flatten_each-loop-nest-preserved g t c =
    each_flattened (g.A.Asks.stands c.args.asks.now) (g.A.Asks.comes c.args.asks.now) (g.A.Asks.fixed c.args.asks.now) c.args.nests.now c.loop-nest.nest-index c.nest-item.result
    c.in_ok-flat.flat c.loop-nest.frames c.loop-nest.leaves c.loop-nest.room c.greater-room.result c.loop-nest-test.true c.nest-item.is
    c.loop-nest.invariant c.in_ok-flat.ensures c.greater-room.ensures.first c.greater-room.ensures.second _ _ c.in_ok-push.ensures.ok
    c.in_ok-append.ensures

pub flatten_each-returns : goal.flatten_each-returns
flatten_each-returns g t c =
    all_flattened (g.A.Asks.stands c.args.asks.now) (g.A.Asks.comes c.args.asks.now) (g.A.Asks.fixed c.args.asks.now) c.args.nests.now c.loop-nest.nest-index c.loop-nest.frames
    c.loop-nest.leaves c.loop-nest.room c.loop-nest-test.false c.loop-nest.invariant
