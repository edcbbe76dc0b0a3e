use Rattle.fin_build.proofs.Parting.{last_fits, replaced_building}
use Rattle.fin_build.proofs.builder.Builder.replace.Goals as goal

pub last_after-requires : goal.last_after-requires
last_after-requires c = last_fits _ _ _ _ c.args.lo c.args.hi c.self.invariant c.self.view_is c.part.invariant c.part.view_is c.requires.rows c.requires.part

pub invariant_of-self : goal.invariant_of-self
invariant_of-self c = replaced_building _ _ _ _ c.args.lo c.args.hi c.self.invariant c.self.view_is c.part.invariant c.part.view_is c.requires.rows c.requires.part c.in_ok-self-inside.field-0 c.take.result c.last_after.result c.in_ok-self-inside.ensures c.take.ensures.value c.last_after.ensures
