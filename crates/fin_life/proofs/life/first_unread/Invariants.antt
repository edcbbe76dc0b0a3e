use Rattle.std.proofs.Common.{◌≡◌, drop, not, ◌&&◌}
use Rattle.fin_base.specs.declared.refusal.Rule.TheVariants.{L7}
use Rattle.fin_ast.specs.Sizes.{first_from, broken}
use Rattle.fin_ast.specs.Kinds.{is_output}
use Rattle.fin_ast.specs.Life.{is_read}
use Rattle.fin_life.specs.Table.{mode_in}
use Rattle.fin_life.proofs.life.first_unread.Given as goal

abbrev pub invariant-loop-tensor : goal.invariant-loop-tensor
invariant-loop-tensor l = first_from (λ t h. broken (is_output h.kind && not (is_read (mode_in l.now t))) L7 h.line) l.tensor (drop l.tensor l.headers) ≡ first_from (λ t h. broken (is_output h.kind && not (is_read (mode_in l.now t))) L7 h.line) 0 l.headers
