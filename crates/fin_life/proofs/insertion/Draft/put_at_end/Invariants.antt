use Rattle.std.proofs.Common.{◌≡◌, drop}
use Rattle.fin_life.specs.Drafts.{carried_in, put_last, in_turn}
use Rattle.fin_life.proofs.insertion.Draft.put_at_end.Given as goal

abbrev pub invariant-loop-tensor : goal.invariant-loop-tensor
invariant-loop-tensor l = in_turn (put_last l.line) l.tensor (drop l.tensor l.headers) (carried_in l.self) ≡ in_turn (put_last l.line) 0 l.headers (carried_in l.fn.self)
