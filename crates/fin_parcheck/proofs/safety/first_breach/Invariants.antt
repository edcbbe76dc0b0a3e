use Rattle.std.proofs.Common.{◌≡◌, drop}
use Rattle.fin_ast.specs.Sizes.{first_of}
use Rattle.fin_parcheck.specs.Safety.{deed_breach}
use Rattle.fin_parcheck.proofs.safety.first_breach.Given as goal

abbrev pub invariant-loop-deed : goal.invariant-loop-deed
invariant-loop-deed l = first_of (deed_breach l.usages) (drop l.deed-index l.deeds) ≡ first_of (deed_breach l.usages) l.deeds
