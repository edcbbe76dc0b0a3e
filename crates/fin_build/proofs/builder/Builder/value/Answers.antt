use Rattle.fin_build.proofs.Keeping.{short}
use Rattle.fin_build.proofs.builder.Builder.value.Goals as goal

pub point-requires : goal.point-requires
point-requires c = short _ _ c.self.invariant c.self.view_is c.args.coords.now c.requires
