use Rattle.std.proofs.Common.{◌∙◌, sym, ap, arith, ℕ, Option, is_none}
use Rattle.fin_dims.specs.Settled.{extent_of}
use Rattle.fin_dims.proofs.Levels.{none_of, lacks_here, lacks_later}
use Rattle.fin_dims.proofs.classes.Classes.lacks_extent.Goals as goal

pub returns-then-is_none : goal.returns-then-is_none
returns-then-is_none c =
    sym (lacks_here (extent_of c.args.self.now) c.loop-level.at c.loop-level._level-index c.args.levels.now c.loop-level-test.true
    (ap (λ (o : Option ℕ). is_none o) (sym c.of_dimension.ensures) ∙ none_of c.of_dimension.result c.is_none.result c.is_none.ensures ∙ c.if-is_none.true))
    ∙ c.loop-level.invariant.rest

pub loop-level-preserved : goal.loop-level-preserved
loop-level-preserved c = record {
  dimension = omega (arith, c.loop-level.invariant.dimension);
  rest = sym (lacks_later (extent_of c.args.self.now) c.loop-level.at c.loop-level._level-index c.args.levels.now c.loop-level-test.true
      (ap (λ (o : Option ℕ). is_none o) (sym c.of_dimension.ensures) ∙ none_of c.of_dimension.result c.is_none.result c.is_none.ensures ∙ c.if-is_none.false))
      ∙ c.loop-level.invariant.rest;
}
