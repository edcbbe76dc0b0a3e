use Rattle.std.proofs.Common.{◌∙◌, ◌+◌, ◌++◌, [], ◌∷◌, sym, ap, arith, ℕ, List, drop}
use Rattle.fin_ast.specs.Sizes.{shape_from}
use Rattle.fin_dims.specs.Settled.{extent_of}
use Rattle.fin_dims.proofs.Levels.{shape_next}
use Rattle.fin_dims.proofs.classes.Classes.shape.Goals as goal

pub loop-level-preserved : goal.loop-level-preserved
loop-level-preserved c = record {
  dimension = omega (arith, c.loop-level.invariant.dimension);
  rest = ap (λ (s : List ℕ). shape_from (extent_of c.args.self.now) (c.loop-level.at + 1) (drop (c.loop-level._level-index + 1) c.args.levels.now) s)
      (c.in_ok-push.ensures.ok ∙ ap (λ (n : ℕ). c.loop-level.shape ++ n ∷ []) c.number_of_dimension.ensures)
      ∙ sym (shape_next (extent_of c.args.self.now) c.loop-level.at c.loop-level._level-index c.args.levels.now c.loop-level.shape c.loop-level-test.true)
      ∙ c.loop-level.invariant.rest;
}
