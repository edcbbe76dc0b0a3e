use Rattle.std.proofs.Common.{◌≡◌, take, map}
use Rattle.fin_ast.specs.declared.header.Header.{Header}
use Rattle.fin_perform.specs.Layouts.{kind_number}
use Rattle.fin_lower.proofs.plan.kinds_of.Given as goal

abbrev pub invariant-loop-header : goal.invariant-loop-header
invariant-loop-header l = l.kinds ≡ map (λ (h : Header). kind_number h.kind) (take l.header-index l.headers)
