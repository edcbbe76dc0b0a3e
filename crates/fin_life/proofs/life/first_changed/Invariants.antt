use Rattle.std.proofs.Common.{◌≡◌, drop}
use Rattle.fin_base.specs.declared.refusal.Rule.TheVariants.{L6}
use Rattle.fin_ast.specs.Sizes.{first_from, broken}
use Rattle.fin_ast.specs.Life.{is_changed}
use Rattle.fin_life.specs.Table.{mode_in}
use Rattle.fin_life.proofs.life.first_changed.Given as goal

abbrev pub invariant-loop-tensor : goal.invariant-loop-tensor
invariant-loop-tensor l = first_from (λ t h. broken (is_changed (mode_in l.begin t) (mode_in l.now t)) L6 l.line) l.tensor (drop l.tensor l.headers) ≡ first_from (λ t h. broken (is_changed (mode_in l.begin t) (mode_in l.now t)) L6 l.line) 0 l.headers
