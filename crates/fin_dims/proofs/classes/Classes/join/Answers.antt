use Rattle.std.proofs.Common.{◌∙◌, refl, None, length}
use Rattle.std.proofs.lemmas.Option.{slice_get_read}
use Rattle.fin_dims.proofs.Steps.{anchored, joined_already, after_merge, anchor_below, label_below, read}
use Rattle.fin_dims.proofs.classes.Classes.join.Goals as goal

pub returns-in-None-clause-joined : goal.returns-in-None-clause-joined
returns-in-None-clause-joined c shapes ties s =
    anchored shapes ties c.args.self.now.anchors.items c.args.self.now.labels.items c.args.self.now.numbers.items s c.args.tie.now c.requires.var c.requires.dimension
    (read c.args.self.now.anchors.items c.args.tie.now.var c.index.result.now None c.requires.var c.index.ensures ∙ c.in-None.is)

pub returns-then-from-to-clause-joined : goal.returns-then-from-to-clause-joined
returns-then-from-to-clause-joined c shapes ties s =
    joined_already shapes ties c.args.self.now.anchors.items c.args.self.now.labels.items c.args.self.now.numbers.items s c.args.tie.now c.in-Some.anchor c.index-from.result.now c.index-to.result.now
    (read c.args.self.now.anchors.items c.args.tie.now.var c.index.result.now None c.requires.var c.index.ensures ∙ c.in-Some.is)
    (slice_get_read c.args.self.now.labels.items (length c.args.self.now.labels.items) c.in-Some.anchor c.index-from.result.now refl (anchor_below c.args.self.now.anchors.items c.args.self.now.labels.items c.args.self.now.numbers.items c.args.tie.now.var c.in-Some.anchor c.index.result.now c.requires.ready c.requires.var c.index.ensures c.in-Some.is) c.index-from.ensures)
    (slice_get_read c.args.self.now.labels.items (length c.args.self.now.labels.items) c.args.tie.now.dimension c.index-to.result.now refl c.requires.dimension c.index-to.ensures)
    c.if-from-to.true

pub returns-else-from-to-clause-joined : goal.returns-else-from-to-clause-joined
returns-else-from-to-clause-joined c shapes ties s =
    after_merge shapes ties c.args.self.now.anchors.items c.args.self.now.labels.items c.args.self.now.numbers.items s c.args.tie.now c.in-Some.anchor c.index-from.result.now c.index-to.result.now
    (read c.args.self.now.anchors.items c.args.tie.now.var c.index.result.now None c.requires.var c.index.ensures ∙ c.in-Some.is)
    (slice_get_read c.args.self.now.labels.items (length c.args.self.now.labels.items) c.in-Some.anchor c.index-from.result.now refl (anchor_below c.args.self.now.anchors.items c.args.self.now.labels.items c.args.self.now.numbers.items c.args.tie.now.var c.in-Some.anchor c.index.result.now c.requires.ready c.requires.var c.index.ensures c.in-Some.is) c.index-from.ensures)
    (slice_get_read c.args.self.now.labels.items (length c.args.self.now.labels.items) c.args.tie.now.dimension c.index-to.result.now refl c.requires.dimension c.index-to.ensures)
    c.merge.result c.merge.new.self.anchors.items c.merge.new.self.labels.items c.merge.new.self.numbers.items
    c.if-from-to.false
    (label_below c.args.self.now.labels.items (length c.args.self.now.numbers.items) c.args.tie.now.dimension c.index-to.result.now c.requires.ready.labels_in c.requires.dimension c.index-to.ensures)
    c.merge.ensures.anchors
    c.merge.ensures.merged
