use Rattle.std.proofs.Common.{◌∙◌, sym, ap, take, ℕ, List, [], ◌++◌, Option}
use Rattle.std.specs.Prelude.{filter_map}
use Rattle.std.specs.List.{cons_option}
use Rattle.fin_ast.specs.Sizes.{range_of}
use Rattle.fin_dims.specs.Settled.{extent_of}
use Rattle.fin_dims.proofs.Walks.{filter_map_more}
use Rattle.fin_dims.proofs.classes.Classes.ranges.Goals as goal

pub loop-place-preserved : goal.loop-place-preserved
loop-place-preserved c =
    c.in_ok-push_range.ensures
    ∙ ap (λ (rs : List (ℕ × ℕ)). rs ++ cons_option c.range_of.result []) c.loop-place.invariant
    ∙ ap (λ (o : Option (ℕ × ℕ)). filter_map (range_of (extent_of c.args.self.now)) (take c.loop-place.place-index c.args.places.now) ++ cons_option o []) (c.range_of.ensures ∙ ap (range_of (extent_of c.args.self.now)) c.place-item.is)
    ∙ sym (filter_map_more (range_of (extent_of c.args.self.now)) c.args.places.now c.loop-place.place-index c.place-item.result c.loop-place-test.true)
