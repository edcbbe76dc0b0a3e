use Rattle.std.proofs.Common.{◌≡◌, take, map}
use Rattle.fin_ast.specs.declared.header.Header.{Header}
use Rattle.fin_lower.proofs.plan.formats_of.Given as goal

abbrev pub invariant-loop-header : goal.invariant-loop-header
invariant-loop-header l = l.formats ≡ map (λ (h : Header). h.format) (take l.header-index l.headers)
