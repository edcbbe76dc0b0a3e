use Rattle.std.proofs.Common.{◌∙◌, ap, to_z, of_z, w64}
use Rattle.std.proofs.lemmas.Int.{to_z-of_z}
use Rattle.fin_tensor.specs.Order.{ordered_levels}
use Rattle.fin_tensor.specs.Building.{last_of}
use Rattle.fin_build.proofs.Keeping.{short, made_building}
use Rattle.fin_build.proofs.builder.Builder.update.Goals as goal

pub point-at-requires : goal.point-at-requires
point-at-requires c = short _ _ c.self.invariant c.self.view_is c.args.coords.now c.requires.inside

pub invariant_of-self-2 : goal.invariant_of-self-2
invariant_of-self-2 c = made_building _ _ c.args.by c.args.coords.now c.point-at.result c.args.v (to_z w64 (of_z w64 c.args.v)) c.update.new.self c.last_of.result c.self.invariant c.self.view_is c.requires.inside c.ranges.v (to_z-of_z w64 c.args.v c.ranges.v) c.point-at.ensures c.in_ok-update.ensures.ok
    (c.last_of.ensures ∙ ap (λ n. last_of n c.point-at.result) (c.ordered_levels.ensures ∙ ap ordered_levels c.as_slice.ensures))
