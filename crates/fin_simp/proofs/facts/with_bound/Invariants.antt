use Rattle.std.proofs.Common.{◌≡◌, ◌∷◌, take}
use Rattle.fin_simp.proofs.facts.with_bound.Given as goal

abbrev pub invariant-loop-one : goal.invariant-loop-one
invariant-loop-one l = l.all.items ≡ record { var = l.var; number = l.fn.number } ∷ take l.one-index l.bound
