use Rattle.std.proofs.Common.{◌≡◌, map, take, None}
use Rattle.fin_dense.proofs.made.nothing_made.Given as goal

abbrev pub invariant-loop-header : goal.invariant-loop-header
invariant-loop-header l = l.made.items ≡ map (λ h. None) (take l._header-index l.headers)
