use Rattle.std.proofs.Common.{◌≡◌, drop}
use Rattle.std.specs.List.{list_any}
use Rattle.fin_stmts.specs.Varying.{varies_at}
use Rattle.fin_stmts.proofs.fixed.some_vary.Given as goal

abbrev pub invariant-loop-access : goal.invariant-loop-access
invariant-loop-access l = list_any (λ a. varies_at l.drives l.reads a.read) (drop l.access-index l.remaining) ≡ list_any (λ a. varies_at l.drives l.reads a.read) l.remaining
