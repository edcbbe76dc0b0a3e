use Rattle.std.proofs.Common.{◌∙◌, ◌≡◌, ◌+◌, ℕ, arith, subst}
use Rattle.fin_dims.specs.Start.{HasDimensions}
use Rattle.fin_dims.proofs.Fresh.{grown, fresh_settled, fresh_ready, fresh_labels, known_within}
use Rattle.fin_dims.proofs.start.start.Goals as goal

pub loop-dimension-preserved : goal.loop-dimension-preserved
loop-dimension-preserved c = record {
  anchors = c.add_dimension.ensures.anchors ∙ c.loop-dimension.invariant.anchors;
  dimensions = grown c.args.shapes.now c.loop-dimension.dimension c.loop-dimension.classes c.add_dimension.new.self c.loop-dimension.invariant.dimensions c.in_ok-add_dimension.ensures.labels c.in_ok-add_dimension.ensures.numbers;
}

whole : (c : goal.In_ok-add_dimension-2) → HasDimensions c.args.shapes.now (c.args.most + 1) c.add_dimension-2.new.self
whole c = grown c.args.shapes.now c.args.most c.loop-dimension.classes c.add_dimension-2.new.self
    (let e : c.loop-dimension.dimension ≡ c.args.most = omega arith in subst (λ (n : ℕ). HasDimensions c.args.shapes.now n c.loop-dimension.classes) e c.loop-dimension.invariant.dimensions)
    c.in_ok-add_dimension-2.ensures.labels c.in_ok-add_dimension-2.ensures.numbers

pub returns-clause-ready : goal.returns-clause-ready
returns-clause-ready c = let h = whole c in fresh_ready c.args.shapes.now (c.args.most + 1) c.args.loops _ _ _ (c.add_dimension-2.ensures.anchors ∙ c.loop-dimension.invariant.anchors) h.labels h.numbers

pub returns-clause-dimensions : goal.returns-clause-dimensions
returns-clause-dimensions c = let h = whole c in fresh_labels c.args.shapes.now (c.args.most + 1) c.args.loops _ _ _ (c.add_dimension-2.ensures.anchors ∙ c.loop-dimension.invariant.anchors) h.labels h.numbers

pub returns-clause-settled : goal.returns-clause-settled
returns-clause-settled c = let h = whole c in fresh_settled c.args.shapes.now (c.args.most + 1) c.args.loops _ _ _ (c.add_dimension-2.ensures.anchors ∙ c.loop-dimension.invariant.anchors) h.labels h.numbers
    (known_within c.args.shapes.now c.args.most c.requires)
